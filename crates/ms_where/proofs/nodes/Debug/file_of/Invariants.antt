use Rattle.std.proofs.Common.{◌≡◌, ◌-◌}
use Rattle.std.specs.Prelude.{option_copied}
use Rattle.ms_where.specs.Positions.{file_of}
use Rattle.ms_where.proofs.Scopes.{file_within}
use Rattle.ms_where.proofs.nodes.Debug.file_of.Given as goal

abbrev pub invariant-loop : goal.invariant-loop
invariant-loop l = file_within l.self (64 - l.counter) (option_copied l.scope) ≡ file_of l.self (option_copied l.initial.scope)
