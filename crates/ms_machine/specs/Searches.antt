-- What searches for instructions by their numbers, and for names, come to. What `place` and `word` promise doesn't name them
-- (own).
use Rattle.std.specs.Prelude.{◌≡◌, ◌+◌, ◌<◌, ℕ, List, take, length, Some, Result, Ok, Err, slice_get}
use Rattle.ms_ir.specs.declared.syntax.Name.{Name}
use Rattle.ms_ir.specs.declared.syntax.Block.{Block}
use Rattle.ms_ir.specs.declared.syntax.Func.{Func}
use Rattle.ms_ir.specs.Instructions.{over_blocks, over_funcs}
use Rattle.ms_check_valid.specs.FlowGraph.{name_place}

-- the instruction with a number among those of blocks, counted from 0, stands in block b, as instruction p
pub record IsInBlock (blocks : List Block) (number b p : ℕ) : Type 0 where
  pub block : Block
  pub here : slice_get blocks b ≡ Some block
  pub before : over_blocks (λ inst. 1) (take b blocks) + p ≡ number
  pub within : p < length block.insts

-- the instruction with a number among those of functions, counted from 0, stands in function f, in block b, as instruction p
pub record IsInFunc (funcs : List Func) (number f b p : ℕ) : Type 0 where
  pub func : Func
  pub here : slice_get funcs f ≡ Some func
  pub left : ℕ
  pub before : over_funcs (λ inst. 1) (take f funcs) + left ≡ number
  pub within : IsInBlock func.blocks left b p

-- what a search for a name among some says, after so many others: the number of the first that is equal to it, or, where
-- none is, the number of all
abbrev pub IsSought : List Name → Name → ℕ → Result ℕ ℕ → Type 0
IsSought names x from (Ok k) = (k ≡ from + name_place names x) × (name_place names x < length names)
IsSought names x from (Err k) = (k ≡ from + length names) × (name_place names x ≡ length names)
