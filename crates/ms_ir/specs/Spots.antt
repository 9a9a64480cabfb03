-- What a look at each instruction of a module finds, in text order (own: sites).
use Rattle.std.specs.Prelude.{ℕ, ◌+◌, List, [], ◌∷◌, ◌++◌}
use Rattle.ms_ir.specs.declared.syntax.Inst.{Inst}
use Rattle.ms_ir.specs.declared.syntax.Block.{Block}
use Rattle.ms_ir.specs.declared.syntax.Func.{Func}
use Rattle.ms_ir.specs.declared.syntax.Module.{Module}
use Rattle.ms_ir.specs.Instructions.{one_unmarked, over_insts, over_blocks}

-- where an instruction stands: its function, the numbers from 0 of its block and of itself in there, and 1 plus the number
-- of unmarked instructions before it in the text
pub record Spot : Type 0 where
  pub func : Func
  pub block : ℕ
  pub place : ℕ
  pub site : ℕ

-- the spot of an instruction with its numbers
abbrev pub spot : Func → (block place site : ℕ) → Spot
spot f block place site = record { func = f; block = block; place = place; site = site }

-- the spot after an instruction
abbrev pub next_spot : Spot → Inst → Spot
next_spot at inst = record at { place = at.place + 1; site = at.site + one_unmarked inst }

-- over the instructions from a spot on
abbrev pub over_spots : {A : Type 0} → (Spot → Inst → List A) → Spot → List Inst → List A
over_spots look at [] = []
over_spots look at (inst ∷ rest) = look at inst ++ over_spots look (next_spot at inst) rest

-- over blocks of a function, the first of which has a number and begins at a site
abbrev pub over_block_spots : {A : Type 0} → (Spot → Inst → List A) → Func → (block site : ℕ) → List Block → List A
over_block_spots look f block site [] = []
over_block_spots look f block site (b ∷ rest) =
    over_spots look (spot f block 0 site) b.insts
    ++ over_block_spots look f (block + 1) (site + over_insts one_unmarked b.insts) rest

-- over functions, the first of which begins at a site; `head` looks at a function before its instructions
abbrev pub over_func_spots : {A : Type 0} → (Func → List A) → (Spot → Inst → List A) → (site : ℕ) → List Func → List A
over_func_spots head look site [] = []
over_func_spots head look site (f ∷ rest) =
    head f ++ (over_block_spots look f 0 site f.blocks ++ over_func_spots head look (site + over_blocks one_unmarked f.blocks) rest)

-- over the functions of a module
abbrev pub found : {A : Type 0} → (Func → List A) → (Spot → Inst → List A) → Module → List A
found head look m = over_func_spots head look 1 m.funcs

-- over the instructions of a module
abbrev pub found_at_insts : {A : Type 0} → (Spot → Inst → List A) → Module → List A
found_at_insts look m = found (λ f. []) look m
