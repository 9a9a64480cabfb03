-- Paths through a function, and uses that are defined on each of them (LLVM Language Reference, "Functions", "'phi'
-- Instruction").
use Rattle.std.specs.Prelude.{◌≡◌, ℕ, List, [], ◌∷◌, ◌++◌, ◌⊎◌, map, take, Any, Contains, slice_index_or, unwrap_or, option_map, slice_get}
use Rattle.ms_ir.specs.declared.syntax.Name.{Name}
use Rattle.ms_ir.specs.declared.syntax.Inst.{Inst}
use Rattle.ms_ir.specs.declared.syntax.Block.{Block}
use Rattle.ms_ir.specs.declared.syntax.Func.{Func}
use Rattle.ms_ir.specs.Instructions.{block_index}
use Rattle.ms_ir.specs.Written.{block_targets}
use Rattle.ms_ir.specs.Locals.{results, parameter_names}

-- the instructions of the block with a number
abbrev pub insts_of : Func → ℕ → List Inst
insts_of f b = unwrap_or (option_map (λ k. k.insts) (slice_get f.blocks b)) []

-- the numbers of the blocks to which a block may go
abbrev pub block_successors : Func → Block → List ℕ
block_successors f b = map (block_index f.blocks) (block_targets b)

-- the numbers of the blocks to which the block with a number may go
abbrev pub successors : Func → ℕ → List ℕ
successors f b = slice_index_or (map (block_successors f) f.blocks) b []

-- the blocks can be walked through one after the other, starting from block b
abbrev pub Leads : Func → ℕ → List ℕ → Type 0
Leads f b [] = Unit {0}
Leads f b (c ∷ rest) = Contains (successors f b) c × Leads f c rest

-- a list of blocks from the entry block, which has the number 0, on, each a successor of the one before
abbrev pub Path : Func → List ℕ → Type 0
Path f [] = ⊥
Path f (b ∷ rest) = (b ≡ 0) × Leads f b rest

-- the names of the results of the block with a number
abbrev pub block_results : Func → ℕ → List Name
block_results f b = results (insts_of f b)

-- where a value is used: the number of a block, and how many of its instructions come before the use
pub record ValueUse : Type 0 where
  pub block : ℕ
  pub place : ℕ
  pub name : Name

-- who comes over the blocks `before` to the use has passed a definition of the value
abbrev pub Passes : Func → List ℕ → ValueUse → Type 0
Passes f before u =
    Any (λ b. Contains (block_results f b) u.name) before ⊎ Contains (results (take u.place (insts_of f u.block))) u.name

-- every path to the block of the use passes a definition before the use; a parameter is defined from the start
abbrev pub IsDefined : Func → ValueUse → Type 0
IsDefined f u = Contains (parameter_names f) u.name ⊎ ((before : List ℕ) → Path f (before ++ u.block ∷ []) → Passes f before u)

-- a path to the block of the use that passes no definition before the use
pub record Misses (f : Func) (u : ValueUse) (path : List ℕ) : Type 0 where
  pub own : ¬ Contains (parameter_names f) u.name
  pub before : List ℕ
  pub ends : path ≡ before ++ u.block ∷ []
  pub leads : Path f path
  pub avoids : ¬ Passes f before u

-- who came over the blocks `before` to a place of a block has set the value: a parameter, or a result that was passed
abbrev pub IsSet : Func → List ℕ → (block place : ℕ) → Name → Type 0
IsSet f before block place x =
    Contains (parameter_names f) x ⊎ (Any (λ b. Contains (block_results f b) x) before ⊎ Contains (results (take place (insts_of f block))) x)
