use Rattle.std.proofs.Common.{◌≡◌, drop, map}
use Rattle.ms_ir.specs.Names.{lookup}
use Rattle.ms_machine.proofs.names.param_type.Given as goal

abbrev pub invariant-loop-ty : goal.invariant-loop-ty
invariant-loop-ty l = lookup (map (λ p. (p.1, p.0)) (drop l.ty-index l.params)) l.name ≡ lookup (map (λ p. (p.1, p.0)) l.params) l.name
