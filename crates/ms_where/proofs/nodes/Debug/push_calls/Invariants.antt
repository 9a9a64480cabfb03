use Rattle.std.proofs.Common.{◌≡◌, ◌-◌, ◌++◌}
use Rattle.std.specs.Prelude.{option_copied}
use Rattle.ms_where.specs.Positions.{call_lines}
use Rattle.ms_where.proofs.Calls.{calls_within}
use Rattle.ms_where.proofs.nodes.Debug.push_calls.Given as goal

abbrev pub invariant-loop : goal.invariant-loop
invariant-loop l = l.out.items ++ calls_within l.self (64 - l.counter) (option_copied l.call) ≡ l.initial.out.items ++ call_lines l.self (option_copied l.initial.call)
