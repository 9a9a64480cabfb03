use Rattle.std.proofs.Common.{take}
use Rattle.ms_flow.specs.Search.{Merged}
use Rattle.ms_flow.proofs.spread.merge.Given as goal

abbrev pub invariant-loop-block : goal.invariant-loop-block
invariant-loop-block l = Merged (take l.block-index l.next) l.leaving l.initial.words l.words l.initial.queued l.queued
