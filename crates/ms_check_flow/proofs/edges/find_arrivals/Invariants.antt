use Rattle.std.proofs.Common.{◌≡◌, ◌<◌, ℕ, [], length, take, slice_index_or}
use Rattle.ms_check_valid.specs.FlowGraph.{name_place}
use Rattle.ms_check_flow.specs.Arriving.{arrivals}
use Rattle.ms_check_flow.proofs.edges.find_arrivals.Given as goal

abbrev pub invariant-loop-block : goal.invariant-loop-block
invariant-loop-block l = record {
  len : length l.arrivals ≡ length l.func.blocks;
  rows : (to : ℕ) → to < length l.func.blocks → slice_index_or l.arrivals to [] ≡ arrivals (name_place l.blocks) (take l.block-index l.func.blocks) to;
  items : l.block-items ≡ l.func.blocks;
}
