use Rattle.std.proofs.Common.{drop, map}
use Rattle.ms_machine.proofs.Naming.{Passed}
use Rattle.ms_machine.proofs.names.seek_param.Given as goal

abbrev pub invariant-loop-index : goal.invariant-loop-index
invariant-loop-index l = Passed (map (λ p. p.1) l.params) (map (λ p. p.1) (drop l.index l.params)) l.name 0 l.index
