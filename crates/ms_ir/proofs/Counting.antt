-- Sites by the parts of a module.
use Rattle.std.proofs.Common.{◌≡◌, ◌<◌, ◌≤◌, ℕ, zero, suc, ◌+◌, List, [], ◌∷◌, Option, Some, None, refl, sym, ap, ◌∙◌, arith, take, drop, ◌^◌, if◌then◌else◌}
use Rattle.std.specs.Prelude.{slice_get, option_map, unwrap_or}
use Rattle.std.proofs.lemmas.Option.{same_Some, none-some}
use Rattle.ms_ir.specs.declared.syntax.Inst.{Inst}
use Rattle.ms_ir.specs.declared.syntax.Block.{Block}
use Rattle.ms_ir.specs.declared.syntax.Func.{Func}
use Rattle.ms_ir.specs.declared.syntax.Module.{Module}
use Rattle.ms_ir.specs.declared.places.Place.{Place}
use Rattle.ms_ir.specs.Instructions.{func_at, blocks_at, insts_at, over_insts, over_blocks, over_funcs, one_unmarked, site_at}
use Rattle.ms_ir.specs.Places.{count_sites, IsUnmarkedAt, IsPlaceOf, HasSmallNumbers}
use Rattle.ms_ir.specs.Searches.{FoundInst, FoundBlock, FoundFunc}

-- ---- a list is its first part and the rest

pub insts_split : (n : ℕ) (is : List Inst) → over_insts one_unmarked (take n is) + over_insts one_unmarked (drop n is) ≡ over_insts one_unmarked is
insts_split zero is = omega arith
insts_split (suc n) [] = refl
insts_split (suc n) (i ∷ is) = omega (arith, insts_split n is)

pub blocks_split : (n : ℕ) (bs : List Block) → over_blocks one_unmarked (take n bs) + over_blocks one_unmarked (drop n bs) ≡ over_blocks one_unmarked bs
blocks_split zero bs = omega arith
blocks_split (suc n) [] = refl
blocks_split (suc n) (b ∷ bs) = omega (arith, blocks_split n bs)

pub funcs_split : (n : ℕ) (fs : List Func) → over_funcs one_unmarked (take n fs) + over_funcs one_unmarked (drop n fs) ≡ over_funcs one_unmarked fs
funcs_split zero fs = omega arith
funcs_split (suc n) [] = refl
funcs_split (suc n) (f ∷ fs) = omega (arith, funcs_split n fs)

-- ---- a part and what stands before it

pub insts_part : (is : List Inst) (n : ℕ) (x : Inst) → slice_get is n ≡ Some x → over_insts one_unmarked (take n is) + one_unmarked x ≤ over_insts one_unmarked is
insts_part [] n x e = absurd (none-some x e)
insts_part (i ∷ is) zero x e = let h : one_unmarked i ≡ one_unmarked x = ap one_unmarked (same_Some i x e) in omega (arith, h)
insts_part (i ∷ is) (suc n) x e = omega (arith, insts_part is n x e)

pub blocks_part : (bs : List Block) (n : ℕ) (x : Block) → slice_get bs n ≡ Some x → over_blocks one_unmarked (take n bs) + over_insts one_unmarked x.insts ≤ over_blocks one_unmarked bs
blocks_part [] n x e = absurd (none-some x e)
blocks_part (b ∷ bs) zero x e = let h : over_insts one_unmarked b.insts ≡ over_insts one_unmarked x.insts = ap (λ k. over_insts one_unmarked k.insts) (same_Some b x e) in omega (arith, h)
blocks_part (b ∷ bs) (suc n) x e = omega (arith, blocks_part bs n x e)

pub funcs_part : (fs : List Func) (n : ℕ) (x : Func) → slice_get fs n ≡ Some x → over_funcs one_unmarked (take n fs) + over_blocks one_unmarked x.blocks ≤ over_funcs one_unmarked fs
funcs_part [] n x e = absurd (none-some x e)
funcs_part (f ∷ fs) zero x e = let h : over_blocks one_unmarked f.blocks ≡ over_blocks one_unmarked x.blocks = ap (λ k. over_blocks one_unmarked k.blocks) (same_Some f x e) in omega (arith, h)
funcs_part (f ∷ fs) (suc n) x e = omega (arith, funcs_part fs n x e)

-- ---- the function, the block and the instruction at a place

pub record Stands (m : Module) (f b p : ℕ) (inst : Inst) : Type 0 where
  pub func : Func
  pub block : Block
  pub func_here : slice_get m.funcs f ≡ Some func
  pub block_here : slice_get func.blocks b ≡ Some block
  pub inst_here : slice_get block.insts p ≡ Some inst

pub blocks_are : (m : Module) (f : ℕ) (g : Func) → slice_get m.funcs f ≡ Some g → blocks_at m f ≡ g.blocks
blocks_are m f g h = ap (λ o. unwrap_or (option_map (λ k. k.blocks) o) []) h

pub insts_are : (m : Module) (f b : ℕ) (g : Func) (k : Block) → slice_get m.funcs f ≡ Some g → slice_get g.blocks b ≡ Some k → insts_at m f b ≡ k.insts
insts_are m f b g k h j =
    ap (λ l. unwrap_or (option_map (λ y. y.insts) (slice_get l b)) []) (blocks_are m f g h) ∙ ap (λ o. unwrap_or (option_map (λ y. y.insts) o) []) j

pub stands : (m : Module) (f b p : ℕ) (inst : Inst) → slice_get (insts_at m f b) p ≡ Some inst → Stands m f b p inst
stands m f b p inst e = by_func (func_at m f) refl
  where
    by_func : (o : Option Func) → func_at m f ≡ o → Stands m f b p inst
    by_func None h = absurd (none-some inst (sym (ap (λ o. slice_get (unwrap_or (option_map (λ k. k.insts) (slice_get (unwrap_or (option_map (λ g. g.blocks) o) []) b)) []) p) h) ∙ e))
    by_func (Some g) h = by_block (slice_get g.blocks b) refl
      where
        by_block : (o : Option Block) → slice_get g.blocks b ≡ o → Stands m f b p inst
        by_block None k = absurd (none-some inst (sym (ap (λ l. slice_get (unwrap_or (option_map (λ x. x.insts) (slice_get l b)) []) p) (blocks_are m f g h) ∙ ap (λ o. slice_get (unwrap_or (option_map (λ x. x.insts) o) []) p) k) ∙ e))
        by_block (Some x) k = record {
          func = g;
          block = x;
          func_here = h;
          block_here = k;
          inst_here = sym (ap (λ l. slice_get l p) (insts_are m f b g x h k)) ∙ e;
        }

pub site_by_parts : (m : Module) (f b p : ℕ) (g : Func) (k : Block) → slice_get m.funcs f ≡ Some g → slice_get g.blocks b ≡ Some k
    → site_at m f b p ≡ 1 + (over_funcs one_unmarked (take f m.funcs) + over_blocks one_unmarked (take b g.blocks) + over_insts one_unmarked (take p k.insts))
site_by_parts m f b p g k h j =
    ap (λ l. 1 + (over_funcs one_unmarked (take f m.funcs) + over_blocks one_unmarked (take b l) + over_insts one_unmarked (take p (insts_at m f b)))) (blocks_are m f g h)
    ∙ ap (λ l. 1 + (over_funcs one_unmarked (take f m.funcs) + over_blocks one_unmarked (take b g.blocks) + over_insts one_unmarked (take p l))) (insts_are m f b g k h j)

-- sites are counted from 1, up to their number
pub record Bounded (m : Module) (p : Place) : Type 0 where
  pub low : 1 ≤ site_at m p.func p.block p.inst
  pub high : site_at m p.func p.block p.inst ≤ count_sites m

pub bounded : (m : Module) (p : Place) → IsUnmarkedAt m p → Bounded m p
bounded m p u =
    let s = stands m p.func p.block p.inst u.inst u.here in
    let e = site_by_parts m p.func p.block p.inst s.func s.block s.func_here s.block_here in
    let one : one_unmarked u.inst ≡ 1 = ap (λ b. if b then 0 else 1) u.unmarked in
    let i = insts_part s.block.insts p.inst u.inst s.inst_here in
    let b = blocks_part s.func.blocks p.block s.block s.block_here in
    let f = funcs_part m.funcs p.func s.func s.func_here in
    record { low = omega (arith, e); high = omega (arith, e, one, i, b, f) }

-- no place has a site that isn't counted
pub no_place : (m : Module) (site : ℕ) → count_sites m < site → (p : Place) → IsPlaceOf m site p → ⊥
no_place m site h p u = let w = bounded m p u.unmarked in omega (arith, w.high, u.site_is)

-- ---- numbers of 32 bits

pub blocks_few : (m : Module) (f : ℕ) → over_blocks one_unmarked (blocks_at m f) ≤ count_sites m
blocks_few m f = by_func (func_at m f) refl
  where
    by_func : (o : Option Func) → func_at m f ≡ o → over_blocks one_unmarked (unwrap_or (option_map (λ g. g.blocks) o) []) ≤ count_sites m
    by_func None h = omega arith
    by_func (Some g) h = let p = funcs_part m.funcs f g h in omega (arith, p)

-- a site by the parts that stand before its instruction
pub record After (m : Module) (p : Place) (fs : List Func) (bs : List Block) (xs : List Inst) : Type 0 where
  pub is : 1 + over_funcs one_unmarked fs + over_blocks one_unmarked bs + over_insts one_unmarked xs ≡ site_at m p.func p.block p.inst
  pub fits : 1 + over_funcs one_unmarked fs + over_blocks one_unmarked bs + over_insts one_unmarked xs < 2 ^ 32

pub after : (m : Module) (p : Place) (fs : List Func) (bs : List Block) (xs : List Inst) → HasSmallNumbers m → IsUnmarkedAt m p
    → fs ≡ take p.func m.funcs → bs ≡ take p.block (blocks_at m p.func) → xs ≡ take p.inst (insts_at m p.func p.block) → After m p fs bs xs
after m p fs bs xs numbers u hf hb hi =
    let f = ap (over_funcs one_unmarked) hf in
    let b = ap (over_blocks one_unmarked) hb in
    let i = ap (over_insts one_unmarked) hi in
    let w = (bounded m p u).high in
    let few = numbers.sites in
    record { is = omega (arith, f, b, i); fits = omega (arith, f, b, i, w, few) }

-- what the searches found, one within the other
pub found_place : (m : Module) (n f l b k i : ℕ) (func : FoundFunc m.funcs n f l) (block : FoundBlock (blocks_at m f) l b k) (inst : FoundInst (insts_at m f b) k i)
    → IsPlaceOf m (1 + n) (record { func = f; block = b; inst = i })
found_place m n f l b k i func block inst = record {
  unmarked = record { inst = inst.inst; here = inst.here; unmarked = inst.unmarked };
  site_is = omega (arith, func.before, block.before, inst.before);
}

-- a search that found a function or a block finds what is in it
pub block_is_there : (m : Module) (n f l : ℕ) (func : FoundFunc m.funcs n f l) → over_blocks one_unmarked (blocks_at m f) ≤ l → ⊥
block_is_there m n f l func h =
    let e : over_blocks one_unmarked (blocks_at m f) ≡ over_blocks one_unmarked func.func.blocks = ap (over_blocks one_unmarked) (blocks_are m f func.func func.here) in
    let w = func.within in
    omega (arith, e, w, h)

pub inst_is_there : (m : Module) (l f b k : ℕ) (block : FoundBlock (blocks_at m f) l b k) → over_insts one_unmarked (insts_at m f b) ≤ k → ⊥
inst_is_there m l f b k block h =
    let e : over_insts one_unmarked (insts_at m f b) ≡ over_insts one_unmarked block.block.insts =
    ap (λ o. over_insts one_unmarked (unwrap_or (option_map (λ y. y.insts) o) [])) block.here in
    let w = block.within in
    omega (arith, e, w, h)
