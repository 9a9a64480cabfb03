-- The search for an instruction by its number, a step at a time, and why a number has one place.
use Rattle.std.proofs.Common.{◌≡◌, ◌<◌, ◌≤◌, ℕ, zero, suc, ◌+◌, ◌-◌, ◌^◌, List, [], ◌∷◌, Some, refl, sym, ap, subst, ◌∙◌, arith, take, drop, length, get_or}
use Rattle.std.specs.Prelude.{slice_get}
use Rattle.std.proofs.lemmas.Option.{slice_get_read, slice_get_within, same_Some, none-some}
use Rattle.ms_ir.specs.declared.syntax.Inst.{Inst}
use Rattle.ms_ir.specs.declared.syntax.Block.{Block}
use Rattle.ms_ir.specs.declared.syntax.Func.{Func}
use Rattle.ms_ir.specs.declared.syntax.Module.{Module}
use Rattle.ms_ir.specs.Instructions.{func_at, blocks_at, insts_at, over_insts, over_blocks, over_funcs}
use Rattle.ms_ir.proofs.Counting.{blocks_are, insts_are}
use Rattle.ms_ir.proofs.Sizes.{drop_next}
use Rattle.ms_check_valid.specs.Formed.{Formed}
use Rattle.ms_check_valid.proofs.SmallNumbers.{small_numbers}
use Rattle.ms_machine.specs.Searches.{IsInBlock, IsInFunc}
use Rattle.ms_machine_steps.proofs.RunSteps.{funcs_below}

-- ---- sums

counted : (xs : List Inst) → over_insts (λ inst. 1) xs ≡ length xs
counted [] = refl
counted (x ∷ xs) = let h : over_insts (λ inst. 1) xs ≡ length xs = counted xs in omega (arith, h)

blocks_split : (n : ℕ) (bs : List Block) → over_blocks (λ inst. 1) (take n bs) + over_blocks (λ inst. 1) (drop n bs) ≡ over_blocks (λ inst. 1) bs
blocks_split zero bs = omega arith
blocks_split (suc n) [] = refl
blocks_split (suc n) (b ∷ bs) = omega (arith, blocks_split n bs)

funcs_split : (n : ℕ) (fs : List Func) → over_funcs (λ inst. 1) (take n fs) + over_funcs (λ inst. 1) (drop n fs) ≡ over_funcs (λ inst. 1) fs
funcs_split zero fs = omega arith
funcs_split (suc n) [] = refl
funcs_split (suc n) (f ∷ fs) = omega (arith, funcs_split n fs)

-- ---- a step of the search

pub block_found : (bs : List Block) (i left number : ℕ) (b : Block) (xs : List Inst) → i < length bs → b ≡ get_or bs i b → over_blocks (λ inst. 1) bs + left ≡ over_blocks (λ inst. 1) (drop i bs) + number
    → xs ≡ b.insts → left < length xs → IsInBlock bs number i left
block_found bs i left number b xs l is rest same low =
    let s = blocks_split i bs in
    record { block = b; here = slice_get_read bs (length bs) i b refl l is; before = omega (arith, s, rest); within = subst (λ (ys : List Inst). left < length ys) same low }

pub block_passed : (bs : List Block) (i left number : ℕ) (b : Block) (xs : List Inst) → i < length bs → b ≡ get_or bs i b → over_blocks (λ inst. 1) bs + left ≡ over_blocks (λ inst. 1) (drop i bs) + number
    → xs ≡ b.insts → length xs ≤ left → over_blocks (λ inst. 1) bs + (left - length xs) ≡ over_blocks (λ inst. 1) (drop (i + 1) bs) + number
block_passed bs i left number b xs l is rest same high =
    let d : over_blocks (λ inst. 1) (drop i bs) ≡ over_insts (λ inst. 1) b.insts + over_blocks (λ inst. 1) (drop (i + 1) bs) = ap (over_blocks (λ inst. 1)) (drop_next bs i b l is) in
    let n : over_insts (λ inst. 1) b.insts ≡ length b.insts = counted b.insts in
    let e : length xs ≡ length b.insts = ap length same in
    omega (arith, d, n, e, rest, high)

pub func_found : (fs : List Func) (i left number : ℕ) (f : Func) (bs : List Block) (b p : ℕ) → i < length fs → f ≡ get_or fs i f → over_funcs (λ inst. 1) fs + left ≡ over_funcs (λ inst. 1) (drop i fs) + number
    → bs ≡ f.blocks → IsInBlock bs left b p → IsInFunc fs number i b p
func_found fs i left number f bs b p l is rest same found =
    let s = funcs_split i fs in
    record { func = f; here = slice_get_read fs (length fs) i f refl l is; left = left; before = omega (arith, s, rest); within = subst (λ (ks : List Block). IsInBlock ks left b p) same found }

-- ---- numbers are few

-- the numbers of a place have 32 bits
pub record IsSmall (f b p : ℕ) : Type 0 where
  pub func : f < 2 ^ 32
  pub block : b < 2 ^ 32
  pub inst : p < 2 ^ 32

pub small_at : (m : Module) (fs : List Func) (number f b p : ℕ) → Formed m → fs ≡ m.funcs → IsInFunc fs number f b p → IsSmall f b p
small_at m fs number f b p formed same at =
    let few = small_numbers m formed in
    let here : slice_get m.funcs f ≡ Some at.func = ap (λ (l : List Func). slice_get l f) (sym same) ∙ at.here in
    let blocks : length (blocks_at m f) ≡ length at.func.blocks = ap length (blocks_are m f at.func here) in
    let insts : length (insts_at m f b) ≡ length at.within.block.insts = ap length (insts_are m f b at.func at.within.block here at.within.here) in
    let one : f < length m.funcs = slice_get_within m.funcs f at.func here in
    let two : b < length at.func.blocks = slice_get_within at.func.blocks b at.within.block at.within.here in
    let three : p < length at.within.block.insts = at.within.within in
    let few_funcs = few.funcs in
    let few_blocks = few.blocks f in
    let few_insts = few.insts f b in
    record { func = omega (arith, one, few_funcs); block = omega (arith, two, blocks, few_blocks); inst = omega (arith, three, insts, few_insts) }

-- ---- a number has one place

blocks_part : (bs : List Block) (n : ℕ) (x : Block) → slice_get bs n ≡ Some x → over_blocks (λ inst. 1) (take n bs) + length x.insts ≤ over_blocks (λ inst. 1) bs
blocks_part [] n x e = absurd (none-some x e)
blocks_part (b ∷ bs) zero x e =
    let h : length b.insts ≡ length x.insts = ap (λ (k : Block). length k.insts) (same_Some b x e) in omega (arith, h, counted b.insts)
blocks_part (b ∷ bs) (suc n) x e = omega (arith, blocks_part bs n x e)

block_number : (bs : List Block) (number b p : ℕ) → IsInBlock bs number b p → number < over_blocks (λ inst. 1) bs
block_number bs number b p at =
    let h = blocks_part bs b at.block at.here in
    let e = at.before in
    let l = at.within in
    omega (arith, h, e, l)

-- the number of an instruction is below the number of instructions
pub func_number : (fs : List Func) (number f b p : ℕ) → IsInFunc fs number f b p → number < over_funcs (λ inst. 1) fs
func_number fs number f b p at =
    let h = funcs_below fs f at.func at.here in
    let l = block_number at.func.blocks at.left b p at.within in
    let e = at.before in
    omega (arith, h, e, l)

same_block : (bs : List Block) (b b' p p' : ℕ) (k k' : Block) → slice_get bs b ≡ Some k → slice_get bs b' ≡ Some k' → over_blocks (λ inst. 1) (take b bs) + p ≡ over_blocks (λ inst. 1) (take b' bs) + p'
    → p < length k.insts → p' < length k'.insts → b ≡ b'
same_block [] b b' p p' k k' e e' same l l' = absurd (none-some k e)
same_block (x ∷ bs) zero zero p p' k k' e e' same l l' = refl
same_block (x ∷ bs) zero (suc b') p p' k k' e e' same l l' =
    let h : length x.insts ≡ length k.insts = ap (λ (y : Block). length y.insts) (same_Some x k e) in
    absurd (omega (arith, h, counted x.insts, same, l))
same_block (x ∷ bs) (suc b) zero p p' k k' e e' same l l' =
    let h : length x.insts ≡ length k'.insts = ap (λ (y : Block). length y.insts) (same_Some x k' e') in
    absurd (omega (arith, h, counted x.insts, same, l'))
same_block (x ∷ bs) (suc b) (suc b') p p' k k' e e' same l l' = ap suc (same_block bs b b' p p' k k' e e' (omega (arith, same)) l l')

same_func : (fs : List Func) (f f' p p' : ℕ) (k k' : Func) → slice_get fs f ≡ Some k → slice_get fs f' ≡ Some k' → over_funcs (λ inst. 1) (take f fs) + p ≡ over_funcs (λ inst. 1) (take f' fs) + p'
    → p < over_blocks (λ inst. 1) k.blocks → p' < over_blocks (λ inst. 1) k'.blocks → f ≡ f'
same_func [] f f' p p' k k' e e' same l l' = absurd (none-some k e)
same_func (x ∷ fs) zero zero p p' k k' e e' same l l' = refl
same_func (x ∷ fs) zero (suc f') p p' k k' e e' same l l' =
    let h : over_blocks (λ inst. 1) x.blocks ≡ over_blocks (λ inst. 1) k.blocks = ap (λ (y : Func). over_blocks (λ inst. 1) y.blocks) (same_Some x k e) in
    absurd (omega (arith, h, same, l))
same_func (x ∷ fs) (suc f) zero p p' k k' e e' same l l' =
    let h : over_blocks (λ inst. 1) x.blocks ≡ over_blocks (λ inst. 1) k'.blocks = ap (λ (y : Func). over_blocks (λ inst. 1) y.blocks) (same_Some x k' e') in
    absurd (omega (arith, h, same, l'))
same_func (x ∷ fs) (suc f) (suc f') p p' k k' e e' same l l' = ap suc (same_func fs f f' p p' k k' e e' (omega (arith, same)) l l')

pub record IsSame (f b p f' b' p' : ℕ) : Type 0 where
  pub func : f ≡ f'
  pub block : b ≡ b'
  pub inst : p ≡ p'

one_in_block : (bs bs' : List Block) (number number' b p b' p' : ℕ) → bs ≡ bs' → number ≡ number' → IsInBlock bs number b p → IsInBlock bs' number' b' p' → (b ≡ b') × (p ≡ p')
one_in_block bs bs' number number' b p b' p' lists numbers at at' =
    let here' : slice_get bs b' ≡ Some at'.block = ap (λ (l : List Block). slice_get l b') lists ∙ at'.here in
    let before' : over_blocks (λ inst. 1) (take b' bs) ≡ over_blocks (λ inst. 1) (take b' bs') = ap (λ (l : List Block). over_blocks (λ inst. 1) (take b' l)) lists in
    let one = at.before in
    let two = at'.before in
    let e : b ≡ b' = same_block bs b b' p p' at.block at'.block at.here here' (omega (arith, numbers, one, two, before')) at.within at'.within in
    let s : over_blocks (λ inst. 1) (take b bs) ≡ over_blocks (λ inst. 1) (take b' bs) = ap (λ n. over_blocks (λ inst. 1) (take n bs)) e in
    (e, omega (arith, numbers, one, two, before', s))

pub one_place : (fs : List Func) (number f b p f' b' p' : ℕ) → IsInFunc fs number f b p → IsInFunc fs number f' b' p' → IsSame f b p f' b' p'
one_place fs number f b p f' b' p' at at' =
    let low = block_number at.func.blocks at.left b p at.within in
    let low' = block_number at'.func.blocks at'.left b' p' at'.within in
    let one = at.before in
    let two = at'.before in
    let e : f ≡ f' = same_func fs f f' at.left at'.left at.func at'.func at.here at'.here (omega (arith, one, two)) low low' in
    let s : over_funcs (λ inst. 1) (take f fs) ≡ over_funcs (λ inst. 1) (take f' fs) = ap (λ n. over_funcs (λ inst. 1) (take n fs)) e in
    let func : at.func ≡ at'.func = same_Some at.func at'.func (sym at.here ∙ ap (slice_get fs) e ∙ at'.here) in
    let both = one_in_block at.func.blocks at'.func.blocks at.left at'.left b p b' p' (ap (λ (g : Func). g.blocks) func) (omega (arith, one, two, s)) at.within at'.within in
    record { func = e; block = both.0; inst = both.1 }

-- what stands at the place that was found for a number is the function of any place with this number
pub func_is : (m : Module) (fs : List Func) (number f b p : ℕ) (r : Func) → fs ≡ m.funcs → r ≡ get_or fs f r → IsInFunc m.funcs number f b p
    → (f' b' p' : ℕ) → IsInFunc m.funcs number f' b' p' → func_at m f' ≡ Some r
func_is m fs number f b p r same is at f' b' p' at' =
    let e = one_place m.funcs number f' b' p' f b p at' at in
    let low : f < length fs = subst (λ (l : List Func). f < length l) (sym same) (slice_get_within m.funcs f at.func at.here) in
    ap (slice_get m.funcs) e.func ∙ ap (λ (l : List Func). slice_get l f) (sym same) ∙ slice_get_read fs (length fs) f r refl low is
