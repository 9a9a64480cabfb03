use Rattle.std.proofs.Common.{◌≡◌, [], ◌∷◌, map, drop}
use Rattle.std.specs.Prelude.{flat_map}
use Rattle.ms_ir.specs.Written.{OfLocal, targets}
use Rattle.ms_check_tables.specs.Sought.{first_sought}
use Rattle.ms_check_tables.proofs.uses.in_targets.Given as goal

abbrev pub invariant-loop-place : goal.invariant-loop-place
invariant-loop-place g l =
    first_sought (g.S.Search.sought l.search) (flat_map (λ x. OfLocal x ∷ []) (drop l.place (targets l.op)))
    ≡ first_sought (g.S.Search.sought l.search) (map OfLocal (targets l.op))
