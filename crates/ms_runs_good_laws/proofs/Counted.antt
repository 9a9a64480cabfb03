-- What is counted before an instruction, and in it, is counted in its module.
use Rattle.std.proofs.Common.{◌≡◌, ℕ, zero, suc, ◌+◌, ◌≤◌, List, [], ◌∷◌, take, Some, option_map, unwrap_or, slice_get, sym, ap, ◌∙◌, subst, arith}
use Rattle.ms_ir.specs.declared.syntax.Inst.{Inst}
use Rattle.ms_ir.specs.declared.syntax.Block.{Block}
use Rattle.ms_ir.specs.declared.syntax.Func.{Func}
use Rattle.ms_ir.specs.declared.syntax.Module.{Module}
use Rattle.ms_ir.specs.Instructions.{func_at, blocks_at, insts_at, over_insts, over_blocks, over_funcs, before}
use Rattle.ms_check_valid.specs.Paths.{insts_of}
use Rattle.ms_runs_good_laws.proofs.NextFrames.{block_there}
use Rattle.ms_runs_good_laws.proofs.Frames.{same_insts}

-- of a list of instructions
insts_ahead : (count : Inst → ℕ) (xs : List Inst) (p : ℕ) (i : Inst) → slice_get xs p ≡ Some i → over_insts count (take p xs) + count i ≤ over_insts count xs
insts_ahead count [] p i e = grind arith
insts_ahead count (x ∷ xs) zero i e = let same : count i ≡ count x = ap (λ o. count (unwrap_or o x)) (sym e) in omega (arith, same)
insts_ahead count (x ∷ xs) (suc p) i e = omega (arith, insts_ahead count xs p i e)

-- of blocks
pub blocks_ahead : (count : Inst → ℕ) (bs : List Block) (b : ℕ) (k : Block) → slice_get bs b ≡ Some k → over_blocks count (take b bs) + over_insts count k.insts ≤ over_blocks count bs
blocks_ahead count [] b k e = grind arith
blocks_ahead count (c ∷ rest) zero k e = let same : over_insts count k.insts ≡ over_insts count c.insts = ap (λ o. over_insts count (unwrap_or o c).insts) (sym e) in omega (arith, same)
blocks_ahead count (c ∷ rest) (suc b) k e = omega (arith, blocks_ahead count rest b k e)

-- of functions
pub funcs_ahead : (count : Inst → ℕ) (fs : List Func) (n : ℕ) (f : Func) → slice_get fs n ≡ Some f → over_funcs count (take n fs) + over_blocks count f.blocks ≤ over_funcs count fs
funcs_ahead count [] n f e = grind arith
funcs_ahead count (g ∷ rest) zero f e = let same : over_blocks count f.blocks ≡ over_blocks count g.blocks = ap (λ o. over_blocks count (unwrap_or o g).blocks) (sym e) in omega (arith, same)
funcs_ahead count (g ∷ rest) (suc n) f e = omega (arith, funcs_ahead count rest n f e)

-- what is counted before an instruction, and in it, is counted in the module
pub counted_within : (count : Inst → ℕ) (m : Module) (n : ℕ) (f : Func) (b p : ℕ) (i : Inst) → func_at m n ≡ Some f → slice_get (insts_at m n b) p ≡ Some i → before count m n b p + count i ≤ over_funcs count m.funcs
counted_within count m n f b p i at due =
    let insts : insts_at m n b ≡ insts_of f b = same_insts m n f b at in
    let there = block_there f b p i (ap (λ l. slice_get l p) (sym insts) ∙ due) in
    let body : insts_of f b ≡ there.0.insts = ap (λ o. unwrap_or (option_map (λ k. k.insts) o) []) there.1 in
    let in_block : over_insts count (take p (insts_at m n b)) + count i ≤ over_insts count there.0.insts =
    subst (λ l. over_insts count (take p l) + count i ≤ over_insts count there.0.insts) (sym (insts ∙ body)) (insts_ahead count there.0.insts p i there.2) in
    let in_func : over_blocks count (take b (blocks_at m n)) + over_insts count there.0.insts ≤ over_blocks count f.blocks =
    subst (λ l. over_blocks count (take b l) + over_insts count there.0.insts ≤ over_blocks count f.blocks) (sym (ap (λ o. unwrap_or (option_map (λ g. g.blocks) o) []) at)) (blocks_ahead count f.blocks b there.0 there.1) in
    omega (arith, in_block, in_func, funcs_ahead count m.funcs n f at)
