use Rattle.std.proofs.Common.{◌≡◌, drop, map}
use Rattle.ms_ir.specs.Equal.{has_name}
use Rattle.ms_check_flow.proofs.faults.has_case.Given as goal

abbrev pub invariant-loop-case : goal.invariant-loop-case
invariant-loop-case l = has_name (map (λ c. c.1) (drop l.case-index l.cases)) l.name ≡ has_name (map (λ c. c.1) l.cases) l.name
