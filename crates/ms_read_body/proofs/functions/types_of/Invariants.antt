use Rattle.std.proofs.Common.{◌≡◌, take, map}
use Rattle.ms_read_body.proofs.functions.types_of.Given as goal

abbrev pub invariant-loop-ty : goal.invariant-loop-ty
invariant-loop-ty l = l.types.items ≡ map (λ p. p.0) (take l.ty-index l.parameters)
