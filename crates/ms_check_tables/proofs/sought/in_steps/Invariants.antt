use Rattle.std.proofs.Common.{◌≡◌, drop}
use Rattle.std.specs.Prelude.{flat_map}
use Rattle.ms_ir.specs.Written.{type_mentions}
use Rattle.ms_check_tables.specs.Sought.{first_sought}
use Rattle.ms_check_tables.proofs.sought.in_steps.Given as goal

abbrev pub invariant-loop-ty : goal.invariant-loop-ty
invariant-loop-ty g l =
    first_sought (g.S.Search.sought l.search) (flat_map (λ s. type_mentions s.0) (drop l.ty-index l.steps)) ≡ first_sought (g.S.Search.sought l.search) (flat_map (λ s. type_mentions s.0) l.steps)
