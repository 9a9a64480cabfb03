use Rattle.std.proofs.Common.{◌≡◌, ◌++◌, drop, map}
use Rattle.ms_ir.specs.Rows.{row_declaration}
use Rattle.ms_ir.proofs.rows.declarations_of.Given as goal

abbrev pub invariant-loop-row : goal.invariant-loop-row
invariant-loop-row g l = l.declarations.items ++ map row_declaration (drop l.row-index l.rows) ≡ map row_declaration l.rows
