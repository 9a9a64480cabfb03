use Rattle.ms_flow.specs.Search.{IsState, work_left}
use Rattle.ms_flow.proofs.spread.spread.Given as goal

abbrev pub invariant-loop-words : goal.invariant-loop-words
invariant-loop-words l = IsState l.g l.kills l.words l.queued

abbrev pub decreases-loop-words : goal.decreases-loop-words
decreases-loop-words l = work_left l.words l.queued
