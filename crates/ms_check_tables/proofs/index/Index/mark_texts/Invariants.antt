use Rattle.std.proofs.Common.{◌≡◌}
use Rattle.ms_ir.specs.declared.syntax.Name.{Name}
use Rattle.ms_check_tables.specs.Index.{place_in}
use Rattle.ms_check_tables.proofs.index.Index.mark_texts.Given as goal

abbrev pub invariant-loop : goal.invariant-loop
invariant-loop l = (x : Name) → place_in l.self x ≡ place_in l.initial.self x
