-- The first that a walk finds, at the item that a loop has come to.
use Rattle.std.proofs.Common.{◌≡◌, ℕ, ◌+◌, ◌<◌, List, ◌++◌, Option, Some, None, length, get_or, drop, sym, ap, ◌∙◌, arith}
use Rattle.std.specs.Prelude.{slice_get}
use Rattle.std.specs.Option.{option_or}
use Rattle.ms_ir.specs.declared.syntax.Inst.{Inst}
use Rattle.ms_ir.specs.declared.syntax.Block.{Block}
use Rattle.ms_ir.specs.declared.syntax.Func.{Func}
use Rattle.ms_ir.specs.Instructions.{one_unmarked, over_insts, over_blocks, over_funcs}
use Rattle.ms_check_tables.proofs.Items.{first-append, first-append-two}
use Rattle.ms_ir.specs.Spots.{Spot, spot, next_spot, over_spots, over_block_spots, over_func_spots}
use Rattle.ms_ir.proofs.Sizes.{drop_next}

-- ---- sums

pub insts_sum : (site next : ℕ) (insts : List Inst) (i : ℕ) (inst : Inst) (whole : ℕ) → i < length insts → inst ≡ get_or insts i inst → next ≡ site + one_unmarked inst
    → site + over_insts one_unmarked (drop i insts) ≡ whole → next + over_insts one_unmarked (drop (i + 1) insts) ≡ whole
insts_sum site next insts i inst whole below is after before =
    let parts = ap (over_insts one_unmarked) (drop_next insts i inst below is) in omega arith

pub blocks_sum : (site next : ℕ) (blocks : List Block) (i : ℕ) (b : Block) (whole : ℕ) → i < length blocks → b ≡ get_or blocks i b → next ≡ site + over_insts one_unmarked b.insts
    → site + over_blocks one_unmarked (drop i blocks) ≡ whole → next + over_blocks one_unmarked (drop (i + 1) blocks) ≡ whole
blocks_sum site next blocks i b whole below is after before =
    let parts = ap (over_blocks one_unmarked) (drop_next blocks i b below is) in omega arith

pub funcs_sum : (site next : ℕ) (funcs : List Func) (i : ℕ) (f : Func) (whole : ℕ) → i < length funcs → f ≡ get_or funcs i f → next ≡ site + over_blocks one_unmarked f.blocks
    → site + over_funcs one_unmarked (drop i funcs) ≡ whole → next + over_funcs one_unmarked (drop (i + 1) funcs) ≡ whole
funcs_sum site next funcs i f whole below is after before =
    let parts = ap (over_funcs one_unmarked) (drop_next funcs i f below is) in omega arith

module _ {A : Type 0} (look : Spot → Inst → List A) where
  -- ---- instructions

  pub insts_here : (at : Spot) (insts : List Inst) (i : ℕ) (inst : Inst) → i < length insts → inst ≡ get_or insts i inst
      → slice_get (over_spots look at (drop i insts)) 0 ≡ option_or (slice_get (look at inst) 0) (slice_get (over_spots look (next_spot at inst) (drop (i + 1) insts)) 0)
  insts_here at insts i inst below is =
      ap (λ r. slice_get (over_spots look at r) 0) (drop_next insts i inst below is) ∙ first-append (look at inst) (over_spots look (next_spot at inst) (drop (i + 1) insts))

  pub insts_stopped : (at : Spot) (insts : List Inst) (i : ℕ) (inst : Inst) (x : A) (whole : Option A) → i < length insts → inst ≡ get_or insts i inst → Some x ≡ slice_get (look at inst) 0
      → slice_get (over_spots look at (drop i insts)) 0 ≡ whole → Some x ≡ whole
  insts_stopped at insts i inst x whole below is some before =
      ap (λ r. option_or r (slice_get (over_spots look (next_spot at inst) (drop (i + 1) insts)) 0)) some ∙ sym (insts_here at insts i inst below is) ∙ before

  pub insts_passed : (f : Func) (block site next : ℕ) (insts : List Inst) (i : ℕ) (inst : Inst) (whole : Option A) → i < length insts → inst ≡ get_or insts i inst → next ≡ site + one_unmarked inst → None ≡ slice_get (look (spot f block i site) inst) 0
      → slice_get (over_spots look (spot f block i site) (drop i insts)) 0 ≡ whole → slice_get (over_spots look (spot f block (i + 1) next) (drop (i + 1) insts)) 0 ≡ whole
  insts_passed f block site next insts i inst whole below is after none before =
      ap (λ n. slice_get (over_spots look (spot f block (i + 1) n) (drop (i + 1) insts)) 0) after
      ∙ ap (λ r. option_or r (slice_get (over_spots look (spot f block (i + 1) (site + one_unmarked inst)) (drop (i + 1) insts)) 0)) none
      ∙ sym (insts_here (spot f block i site) insts i inst below is) ∙ before

  -- ---- blocks

  pub blocks_here : (f : Func) (number site : ℕ) (blocks : List Block) (i : ℕ) (b : Block) → i < length blocks → b ≡ get_or blocks i b
      → slice_get (over_block_spots look f number site (drop i blocks)) 0
      ≡ option_or (slice_get (over_spots look (spot f number 0 site) b.insts) 0) (slice_get (over_block_spots look f (number + 1) (site + over_insts one_unmarked b.insts) (drop (i + 1) blocks)) 0)
  blocks_here f number site blocks i b below is =
      ap (λ r. slice_get (over_block_spots look f number site r) 0) (drop_next blocks i b below is)
      ∙ first-append (over_spots look (spot f number 0 site) b.insts) (over_block_spots look f (number + 1) (site + over_insts one_unmarked b.insts) (drop (i + 1) blocks))

  pub blocks_stopped : (f : Func) (site : ℕ) (blocks : List Block) (i : ℕ) (b : Block) (x : A) (whole : Option A) → i < length blocks → b ≡ get_or blocks i b → Some x ≡ slice_get (over_spots look (spot f i 0 site) b.insts) 0
      → slice_get (over_block_spots look f i site (drop i blocks)) 0 ≡ whole → Some x ≡ whole
  blocks_stopped f site blocks i b x whole below is some before =
      ap (λ r. option_or r (slice_get (over_block_spots look f (i + 1) (site + over_insts one_unmarked b.insts) (drop (i + 1) blocks)) 0)) some ∙ sym (blocks_here f i site blocks i b below is) ∙ before

  pub blocks_passed : (f : Func) (site next : ℕ) (blocks : List Block) (i : ℕ) (b : Block) (whole : Option A) → i < length blocks → b ≡ get_or blocks i b → next ≡ site + over_insts one_unmarked b.insts
      → None ≡ slice_get (over_spots look (spot f i 0 site) b.insts) 0
      → slice_get (over_block_spots look f i site (drop i blocks)) 0 ≡ whole → slice_get (over_block_spots look f (i + 1) next (drop (i + 1) blocks)) 0 ≡ whole
  blocks_passed f site next blocks i b whole below is after none before =
      ap (λ n. slice_get (over_block_spots look f (i + 1) n (drop (i + 1) blocks)) 0) after
      ∙ ap (λ r. option_or r (slice_get (over_block_spots look f (i + 1) (site + over_insts one_unmarked b.insts) (drop (i + 1) blocks)) 0)) none ∙ sym (blocks_here f i site blocks i b below is) ∙ before

  -- ---- functions

  module _ (head : Func → List A) where
    pub funcs_here : (site : ℕ) (funcs : List Func) (i : ℕ) (f : Func) → i < length funcs → f ≡ get_or funcs i f
        → slice_get (over_func_spots head look site (drop i funcs)) 0
        ≡ option_or (slice_get (head f ++ over_block_spots look f 0 site f.blocks) 0) (slice_get (over_func_spots head look (site + over_blocks one_unmarked f.blocks) (drop (i + 1) funcs)) 0)
    funcs_here site funcs i f below is =
        ap (λ r. slice_get (over_func_spots head look site r) 0) (drop_next funcs i f below is)
        ∙ first-append-two (head f) (over_block_spots look f 0 site f.blocks) (over_func_spots head look (site + over_blocks one_unmarked f.blocks) (drop (i + 1) funcs))

    pub funcs_stopped : (site : ℕ) (funcs : List Func) (i : ℕ) (f : Func) (x : A) (whole : Option A) → i < length funcs → f ≡ get_or funcs i f → Some x ≡ slice_get (head f ++ over_block_spots look f 0 site f.blocks) 0
        → slice_get (over_func_spots head look site (drop i funcs)) 0 ≡ whole → Some x ≡ whole
    funcs_stopped site funcs i f x whole below is some before =
        ap (λ r. option_or r (slice_get (over_func_spots head look (site + over_blocks one_unmarked f.blocks) (drop (i + 1) funcs)) 0)) some ∙ sym (funcs_here site funcs i f below is) ∙ before

    pub funcs_passed : (site next : ℕ) (funcs : List Func) (i : ℕ) (f : Func) (whole : Option A) → i < length funcs → f ≡ get_or funcs i f → next ≡ site + over_blocks one_unmarked f.blocks
        → None ≡ slice_get (head f ++ over_block_spots look f 0 site f.blocks) 0
        → slice_get (over_func_spots head look site (drop i funcs)) 0 ≡ whole → slice_get (over_func_spots head look next (drop (i + 1) funcs)) 0 ≡ whole
    funcs_passed site next funcs i f whole below is after none before =
        ap (λ n. slice_get (over_func_spots head look n (drop (i + 1) funcs)) 0) after
        ∙ ap (λ r. option_or r (slice_get (over_func_spots head look (site + over_blocks one_unmarked f.blocks) (drop (i + 1) funcs)) 0)) none ∙ sym (funcs_here site funcs i f below is) ∙ before
