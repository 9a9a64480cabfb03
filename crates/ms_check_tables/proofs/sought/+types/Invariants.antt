use Rattle.std.proofs.Common.{◌≡◌, drop}
use Rattle.std.specs.Prelude.{flat_map}
use Rattle.ms_ir.specs.Written.{type_mentions}
use Rattle.ms_check_tables.specs.Sought.{first_sought}
use Rattle.ms_check_tables.proofs.sought.+types.Given as goal

abbrev pub invariant-in_types-loop-ty : goal.invariant-in_types-loop-ty
invariant-in_types-loop-ty g l = first_sought (g.S.Search.sought l.search) (flat_map type_mentions (drop l.ty-index l.types)) ≡ first_sought (g.S.Search.sought l.search) (flat_map type_mentions l.types)
