use Rattle.std.proofs.Common.{◌≡◌, ◌++◌, map, drop}
use Rattle.ms_check_types.proofs.locals.push_params.Given as goal

abbrev pub invariant-loop-ty : goal.invariant-loop-ty
invariant-loop-ty l = l.values ++ map (λ p. (p.1, p.0)) (drop l.ty-index l.params) ≡ l.fn.values ++ map (λ p. (p.1, p.0)) l.params
