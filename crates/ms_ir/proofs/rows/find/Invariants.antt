use Rattle.std.proofs.Common.{◌≡◌, drop}
use Rattle.ms_ir.specs.declared.syntax.Name.TheVariants as spelling
use Rattle.ms_ir.specs.Names.{lookup}
use Rattle.ms_ir.specs.Rows.{by_name}
use Rattle.ms_ir.proofs.rows.find.Given as goal

abbrev pub invariant-loop-row : goal.invariant-loop-row
invariant-loop-row g l = lookup (by_name (drop l.row-index l.rows)) (spelling.Text l.text) ≡ lookup (by_name l.rows) (spelling.Text l.text)
