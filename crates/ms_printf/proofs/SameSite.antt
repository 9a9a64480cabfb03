-- A site has one place.
use Rattle.std.proofs.Common.{◌≡◌, ◌<◌, ◌≤◌, ℕ, zero, suc, ◌+◌, List, [], ◌∷◌, Option, Some, None, refl, sym, ap, ◌∙◌, subst, arith, take, ⊎_elim, if◌then◌else◌}
use Rattle.std.specs.Prelude.{slice_get}
use Rattle.std.proofs.lemmas.Option.{same_Some, none-some}
use Rattle.std.proofs.lemmas.Bool.{cases_lt}
use Rattle.ms_ir.specs.declared.syntax.Inst.{Inst}
use Rattle.ms_ir.specs.declared.syntax.Block.{Block}
use Rattle.ms_ir.specs.declared.syntax.Func.{Func}
use Rattle.ms_ir.specs.declared.syntax.Module.{Module}
use Rattle.ms_ir.specs.declared.places.Place.{Place}
use Rattle.ms_ir.specs.Instructions.{insts_at, over_insts, over_blocks, over_funcs, one_unmarked}
use Rattle.ms_ir.specs.Places.{IsUnmarkedAt, IsPlaceOf, inst_at}
use Rattle.ms_ir.proofs.Counting.{Stands, stands, site_by_parts, insts_part, blocks_part}

-- ---- what stands before a later place has all of an earlier one

insts_before : (is : List Inst) (i j : ℕ) (x : Inst) → i < j → slice_get is i ≡ Some x → over_insts one_unmarked (take i is) + one_unmarked x ≤ over_insts one_unmarked (take j is)
insts_before [] i j x l e = absurd (none-some x e)
insts_before (y ∷ is) i zero x l e = absurd (omega (arith, l))
insts_before (y ∷ is) zero (suc j) x l e = let h : one_unmarked y ≡ one_unmarked x = ap one_unmarked (same_Some y x e) in omega (arith, h)
insts_before (y ∷ is) (suc i) (suc j) x l e = omega (arith, insts_before is i j x (omega (arith, l)) e)

blocks_before : (bs : List Block) (i j : ℕ) (x : Block) → i < j → slice_get bs i ≡ Some x → over_blocks one_unmarked (take i bs) + over_insts one_unmarked x.insts ≤ over_blocks one_unmarked (take j bs)
blocks_before [] i j x l e = absurd (none-some x e)
blocks_before (y ∷ bs) i zero x l e = absurd (omega (arith, l))
blocks_before (y ∷ bs) zero (suc j) x l e = let h : over_insts one_unmarked y.insts ≡ over_insts one_unmarked x.insts = ap (λ k. over_insts one_unmarked k.insts) (same_Some y x e) in omega (arith, h)
blocks_before (y ∷ bs) (suc i) (suc j) x l e = omega (arith, blocks_before bs i j x (omega (arith, l)) e)

funcs_before : (fs : List Func) (i j : ℕ) (x : Func) → i < j → slice_get fs i ≡ Some x → over_funcs one_unmarked (take i fs) + over_blocks one_unmarked x.blocks ≤ over_funcs one_unmarked (take j fs)
funcs_before [] i j x l e = absurd (none-some x e)
funcs_before (y ∷ fs) i zero x l e = absurd (omega (arith, l))
funcs_before (y ∷ fs) zero (suc j) x l e = let h : over_blocks one_unmarked y.blocks ≡ over_blocks one_unmarked x.blocks = ap (λ k. over_blocks one_unmarked k.blocks) (same_Some y x e) in omega (arith, h)
funcs_before (y ∷ fs) (suc i) (suc j) x l e = omega (arith, funcs_before fs i j x (omega (arith, l)) e)

-- ---- an unmarked instruction by the parts before it

record Parts (m : Module) (site f b i : ℕ) : Type 0 where
  pub inst : Inst
  pub one : one_unmarked inst ≡ 1
  pub there : Stands m f b i inst
  pub is : site ≡ 1 + (over_funcs one_unmarked (take f m.funcs) + over_blocks one_unmarked (take b there.func.blocks) + over_insts one_unmarked (take i there.block.insts))

parts : (m : Module) (site : ℕ) (p : Place) → IsPlaceOf m site p → Parts m site p.func p.block p.inst
parts m site p h =
    let s : Stands m p.func p.block p.inst h.unmarked.inst = stands m p.func p.block p.inst h.unmarked.inst h.unmarked.here in
    record {
      inst = h.unmarked.inst;
      one = ap (λ b. if b then 0 else 1) h.unmarked.unmarked;
      there = s;
      is = sym h.site_is ∙ site_by_parts m p.func p.block p.inst s.func s.block s.func_here s.block_here;
    }

func_first : (m : Module) (site f b i f' b' i' : ℕ) → Parts m site f b i → Parts m site f' b' i' → f < f' → ⊥
func_first m site f b i f' b' i' p q l =
    let x = insts_part p.there.block.insts i p.inst p.there.inst_here in
    let y = blocks_part p.there.func.blocks b p.there.block p.there.block_here in
    let z = funcs_before m.funcs f f' p.there.func l p.there.func_here in
    let one = p.one in let here = p.is in let other = q.is in
    omega (arith, x, y, z, one, here, other)

block_first : (m : Module) (site f b i b' i' : ℕ) → Parts m site f b i → Parts m site f b' i' → b < b' → ⊥
block_first m site f b i b' i' p q l =
    let same : p.there.func ≡ q.there.func = same_Some p.there.func q.there.func (sym p.there.func_here ∙ q.there.func_here) in
    let e = ap (λ (g : Func). over_blocks one_unmarked (take b' g.blocks)) same in
    let x = insts_part p.there.block.insts i p.inst p.there.inst_here in
    let y = blocks_before p.there.func.blocks b b' p.there.block l p.there.block_here in
    let one = p.one in let here = p.is in let other = q.is in
    omega (arith, e, x, y, one, here, other)

inst_first : (m : Module) (site f b i i' : ℕ) → Parts m site f b i → Parts m site f b i' → i < i' → ⊥
inst_first m site f b i i' p q l =
    let func : p.there.func ≡ q.there.func = same_Some p.there.func q.there.func (sym p.there.func_here ∙ q.there.func_here) in
    let block : p.there.block ≡ q.there.block = same_Some p.there.block q.there.block (sym p.there.block_here ∙ ap (λ (g : Func). slice_get g.blocks b) func ∙ q.there.block_here) in
    let d = ap (λ (g : Func). over_blocks one_unmarked (take b g.blocks)) func in
    let e = ap (λ (k : Block). over_insts one_unmarked (take i' k.insts)) block in
    let x = insts_before p.there.block.insts i i' p.inst l p.there.inst_here in
    let one = p.one in let here = p.is in let other = q.is in
    omega (arith, d, e, x, one, here, other)

-- neither comes first
equal : (i j : ℕ) → (i < j → ⊥) → (j < i → ⊥) → i ≡ j
equal i j less more = ⊎_elim (λ (l : i < j). absurd (less l)) (λ (l : j ≤ i). ⊎_elim (λ (k : j < i). absurd (more k)) (λ (k : i ≤ j). omega (arith, l, k)) (cases_lt j i)) (cases_lt i j)

same_inst : (m : Module) (site f b i f' b' i' : ℕ) → Parts m site f b i → Parts m site f' b' i' → slice_get (insts_at m f b) i ≡ slice_get (insts_at m f' b') i'
same_inst m site f b i f' b' i' p q =
    let func : f ≡ f' = equal f f' (func_first m site f b i f' b' i' p q) (func_first m site f' b' i' f b i q p) in
    let q1 : Parts m site f b' i' = subst (λ (x : ℕ). Parts m site x b' i') (sym func) q in
    let block : b ≡ b' = equal b b' (block_first m site f b i b' i' p q1) (block_first m site f b' i' b i q1 p) in
    let q2 : Parts m site f b i' = subst (λ (x : ℕ). Parts m site f x i') (sym block) q1 in
    let inst : i ≡ i' = equal i i' (inst_first m site f b i i' p q2) (inst_first m site f b i' i q2 p) in
    ap (λ (x : ℕ). slice_get (insts_at m f b) x) inst ∙ ap (λ (x : ℕ). slice_get (insts_at m f x) i') block ∙ ap (λ (x : ℕ). slice_get (insts_at m x b') i') func

pub one_inst : (m : Module) (site : ℕ) (p q : Place) → IsPlaceOf m site p → IsPlaceOf m site q → inst_at m p ≡ inst_at m q
one_inst m site p q h k = same_inst m site p.func p.block p.inst q.func q.block q.inst (parts m site p h) (parts m site q k)
