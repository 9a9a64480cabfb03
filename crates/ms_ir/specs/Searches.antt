-- What the parts of the code come to that look for the place of a site, or whether numbers are small. What `place_of` and
-- `has_small_numbers` promise does not name them.
use Rattle.std.specs.Prelude.{◌≡◌, ◌+◌, ◌<◌, ◌^◌, ℕ, false, List, length, take, Some, slice_get, All}
use Rattle.ms_ir.specs.declared.syntax.Inst.{Inst}
use Rattle.ms_ir.specs.declared.syntax.Block.{Block}
use Rattle.ms_ir.specs.declared.syntax.Func.{Func}
use Rattle.ms_ir.specs.Instructions.{one_unmarked, over_insts, over_blocks, over_funcs}

-- the unmarked instruction with a number among some, counted from 0, and its index
pub record FoundInst (insts : List Inst) (number index : ℕ) : Type 0 where
  pub inst : Inst
  pub here : slice_get insts index ≡ Some inst
  pub unmarked : inst.marked ≡ false
  pub before : over_insts one_unmarked (take index insts) ≡ number

-- the block in which the unmarked instruction with a number stands, its index, and the instruction's number within it
pub record FoundBlock (blocks : List Block) (number index left : ℕ) : Type 0 where
  pub block : Block
  pub here : slice_get blocks index ≡ Some block
  pub before : over_blocks one_unmarked (take index blocks) + left ≡ number
  pub within : left < over_insts one_unmarked block.insts

-- the function in which the unmarked instruction with a number stands, its index, and the instruction's number within it
pub record FoundFunc (funcs : List Func) (number index left : ℕ) : Type 0 where
  pub func : Func
  pub here : slice_get funcs index ≡ Some func
  pub before : over_funcs one_unmarked (take index funcs) + left ≡ number
  pub within : left < over_blocks one_unmarked func.blocks

-- each function has few blocks, and each of its blocks few instructions
pub record AreSmall (funcs : List Func) : Type 0 where
  pub blocks : All (λ f. length f.blocks < 2 ^ 32) funcs
  pub insts : All (λ f. All (λ b. length b.insts < 2 ^ 32) f.blocks) funcs
