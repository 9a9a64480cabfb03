use Rattle.std.proofs.Common.{ℕ, ◌<◌, ◌↔◌, length, get_or, take, Contains}
use Rattle.ms_flow.specs.Search.{Has}
use Rattle.ms_flow.proofs.definitions.tell.Given as goal

abbrev pub invariant-loop-block : goal.invariant-loop-block
invariant-loop-block l =
    (b i : ℕ) → i < length l.values → Has (get_or l.kills b 0) i ↔ Contains (take l.block-index l.definitions) (b, get_or l.values i 0)
