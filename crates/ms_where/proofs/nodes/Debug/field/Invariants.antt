use Rattle.std.proofs.Common.{◌≡◌}
use Rattle.ms_where.specs.Nodes.{first_spelled}
use Rattle.ms_where.proofs.nodes.Debug.field.Given as goal

abbrev pub invariant-loop-token : goal.invariant-loop-token
invariant-loop-token l = first_spelled l.self l.word l.token l.within.after ≡ first_spelled l.self l.word l.within.first l.within.after
