-- A formed module has few functions, blocks and instructions, since each of them has one of its instructions at least.
use Rattle.std.proofs.Common.{◌≡◌, ℕ, zero, suc, List, [], ◌∷◌, Bool, true, false, arith}
use Rattle.std.specs.Prelude.{◌<◌, ◌≤◌, ◌&&◌, nat_lt, length, option_map, unwrap_or, slice_get, if◌then◌else◌}
use Rattle.std.specs.List.{list_all}
use Rattle.std.proofs.lemmas.Bool.{and_parts}
use Rattle.ms_ir.specs.declared.syntax.Inst.{Inst}
use Rattle.ms_ir.specs.declared.syntax.Block.{Block}
use Rattle.ms_ir.specs.declared.syntax.Func.{Func}
use Rattle.ms_ir.specs.declared.syntax.Module.{Module}
use Rattle.ms_ir.specs.Instructions.{blocks_at, one_unmarked, over_insts, over_blocks, over_funcs}
use Rattle.ms_ir.specs.Places.{HasSmallNumbers}
use Rattle.ms_check_valid.specs.FormedNames.{is_local_name, is_global_name, are_numbered}
use Rattle.ms_check_valid.specs.FormedCode.{is_value_type, result_formed, inst_formed, is_body}
use Rattle.ms_check_valid.specs.Formed.{Formed, count_written, block_formed, func_formed}
use Rattle.ms_ir.specs.Locals.{locals}

one_at_most : (b : Bool) (n : ℕ) → (if b then 0 else 1) ≤ suc n
one_at_most true n = omega arith
one_at_most false n = omega arith

insts_written : (xs : List Inst) → (over_insts one_unmarked xs ≤ over_insts count_written xs) × (length xs ≤ over_insts count_written xs)
insts_written [] = (omega arith, omega arith)
insts_written (i ∷ xs) =
    let rest : (over_insts one_unmarked xs ≤ over_insts count_written xs) × (length xs ≤ over_insts count_written xs) = insts_written xs in
    (omega (arith, rest.0, one_at_most i.marked 0), omega (arith, rest.1))

pub blocks_written : (bs : List Block) → over_blocks one_unmarked bs ≤ over_blocks count_written bs
blocks_written [] = omega arith
blocks_written (b ∷ bs) = omega (arith, blocks_written bs, (insts_written b.insts).0)

-- each unmarked instruction is written
pub funcs_written : (fs : List Func) → over_funcs one_unmarked fs ≤ over_funcs count_written fs
funcs_written [] = omega arith
funcs_written (f ∷ fs) = omega (arith, funcs_written fs, blocks_written f.blocks)

-- a body has an instruction
pub some_inst : (xs : List Inst) → is_body xs ≡ true → 0 < length xs
some_inst [] e = absurd (no e)
  where
    no : false ≡ true → ⊥
    no e = search arith
some_inst (i ∷ xs) e = omega arith

block_written : (b : Block) → block_formed b ≡ true → 0 < over_insts count_written b.insts
block_written b e =
    let body : is_body b.insts ≡ true = (and_parts (is_local_name b.name) (is_body b.insts) (and_parts (is_local_name b.name && is_body b.insts) (list_all inst_formed b.insts) e).0).1 in
    omega (arith, some_inst b.insts body, (insts_written b.insts).1)

few_blocks : (bs : List Block) → list_all block_formed bs ≡ true → length bs ≤ over_blocks count_written bs
few_blocks [] e = omega arith
few_blocks (b ∷ bs) e =
    let parts : (block_formed b ≡ true) × (list_all block_formed bs ≡ true) = and_parts (block_formed b) (list_all block_formed bs) e in
    omega (arith, few_blocks bs parts.1, block_written b parts.0)

pub blocks_of : (f : Func) → func_formed f ≡ true → (nat_lt 0 (length f.blocks) ≡ true) × (list_all block_formed f.blocks ≡ true)
blocks_of f e =
    let front : Bool = is_global_name f.name && result_formed f.ret && list_all (λ p. is_value_type p.0 && is_local_name p.1) f.params in
    let four : ((front && nat_lt 0 (length f.blocks)) && list_all block_formed f.blocks) ≡ true = (and_parts ((front && nat_lt 0 (length f.blocks)) && list_all block_formed f.blocks) (are_numbered (locals f)) e).0 in
    let three : ((front && nat_lt 0 (length f.blocks)) ≡ true) × (list_all block_formed f.blocks ≡ true) = and_parts (front && nat_lt 0 (length f.blocks)) (list_all block_formed f.blocks) four in
    ((and_parts front (nat_lt 0 (length f.blocks)) three.0).1, three.1)

lt_holds : (n : ℕ) → nat_lt 0 n ≡ true → 0 < n
lt_holds zero e = absurd (no e)
  where
    no : false ≡ true → ⊥
    no e = search arith
lt_holds (suc n) e = omega arith

pub few_funcs : (fs : List Func) → list_all func_formed fs ≡ true → length fs ≤ over_funcs count_written fs
few_funcs [] e = omega arith
few_funcs (f ∷ fs) e =
    let parts : (func_formed f ≡ true) × (list_all func_formed fs ≡ true) = and_parts (func_formed f) (list_all func_formed fs) e in
    let its : (nat_lt 0 (length f.blocks) ≡ true) × (list_all block_formed f.blocks ≡ true) = blocks_of f parts.0 in
    omega (arith, few_funcs fs parts.1, few_blocks f.blocks its.1, lt_holds (length f.blocks) its.0)

-- the blocks of one function among some, and the instructions of one block
abbrev blocks_in : List Func → ℕ → List Block
blocks_in fs f = unwrap_or (option_map (λ (g : Func). g.blocks) (slice_get fs f)) []

abbrev insts_in : List Block → ℕ → List Inst
insts_in bs b = unwrap_or (option_map (λ (k : Block). k.insts) (slice_get bs b)) []

one_function : (fs : List Func) (f : ℕ) → over_blocks count_written (blocks_in fs f) ≤ over_funcs count_written fs
one_function [] f = omega arith
one_function (g ∷ fs) zero = omega arith
one_function (g ∷ fs) (suc f) = omega (arith, one_function fs f)

one_block : (bs : List Block) (b : ℕ) → length (insts_in bs b) ≤ over_blocks count_written bs
one_block [] b = omega arith
one_block (k ∷ bs) zero = omega (arith, (insts_written k.insts).1)
one_block (k ∷ bs) (suc b) = omega (arith, one_block bs b)

its_blocks : (fs : List Func) (f : ℕ) → list_all func_formed fs ≡ true → length (blocks_in fs f) ≤ over_funcs count_written fs
its_blocks [] f e = omega arith
its_blocks (g ∷ fs) zero e =
    let formed : func_formed g ≡ true = (and_parts (func_formed g) (list_all func_formed fs) e).0 in
    omega (arith, few_blocks g.blocks (blocks_of g formed).1)
its_blocks (g ∷ fs) (suc f) e = omega (arith, its_blocks fs f (and_parts (func_formed g) (list_all func_formed fs) e).1)

pub small_numbers : (m : Module) → Formed m → HasSmallNumbers m
small_numbers m formed = record {
  sites = omega (arith, formed.few_operands, funcs_written m.funcs);
  funcs = omega (arith, formed.few_operands, few_funcs m.funcs formed.functions);
  blocks = λ f. omega (arith, formed.few_operands, its_blocks m.funcs f formed.functions);
  insts = λ f b. omega (arith, formed.few_operands, one_block (blocks_at m f) b, one_function m.funcs f);
}
