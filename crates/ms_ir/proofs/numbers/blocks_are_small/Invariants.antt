use Rattle.std.proofs.Common.{ℕ, ◌<◌, ◌^◌, length, get_or}
use Rattle.ms_ir.specs.declared.syntax.Block.{Block}
use Rattle.ms_ir.proofs.numbers.blocks_are_small.Given as goal

abbrev pub invariant-loop-block : goal.invariant-loop-block
invariant-loop-block l = (k : ℕ) (d : Block) → k < l.block-index → length (get_or l.blocks k d).insts < 2 ^ 32
