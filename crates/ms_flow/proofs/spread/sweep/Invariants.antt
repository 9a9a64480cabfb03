use Rattle.ms_flow.specs.Search.{IsState}
use Rattle.ms_flow.proofs.States.{Swept}
use Rattle.ms_flow.proofs.spread.sweep.Given as goal

abbrev pub invariant-loop-block : goal.invariant-loop-block
invariant-loop-block l = record {
  state : IsState l.g l.kills l.words l.queued;
  swept : Swept l.initial.words l.words l.initial.queued l.queued l.order l.block-index;
}
