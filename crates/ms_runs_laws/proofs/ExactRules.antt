-- The masks by formulas are those by completions.
use Rattle.std.proofs.Common.{◌≡◌, ℕ, zero, suc, ◌^◌, ◌<◌, Bool, refl, sym, ap₂, ◌∙◌, arith, ltb, leb}
use Rattle.std.specs.Int.{bit_at, from_bool}
use Rattle.std.specs.Int.Bits.{xor_self}
use Rattle.std.proofs.lemmas.Nat.Bits.{bit_at-zero}
use Rattle.ms_bits.specs.declared.operations.Pred.{Pred}
use Rattle.ms_bits.specs.declared.operations.Pred.TheVariants.{Eq, Ne, Ugt, Uge, Ult, Ule, Sgt, Sge, Slt, Sle}
use Rattle.ms_bits.specs.Arithmetic.{binary_of, or_of}
use Rattle.ms_bits.specs.Conversions.{compare_of}
use Rattle.ms_bits.specs.Completion.{Differs, mask_of}
use Rattle.ms_bits.specs.Formulas.{greatest, least, eq_mask, order_mask, turned_sign, compare_mask}
use Rattle.ms_bits_laws.proofs.MaskFunctions.{mask_is}
use Rattle.ms_bits_laws.proofs.CarryBits.{carry_told}
use Rattle.ms_bits_laws.proofs.FormulaMasks.{and_mask_is, or_mask_is, xor_mask_is, answer_bit, compare_mask_is, select_mask-is}
use Rattle.ms_ir.specs.declared.syntax.Module.{Module}
use Rattle.ms_runs.specs.declared.runs.Setup.{Setup}
use Rattle.ms_runs.specs.Poisoned.{Poisoned, InRange}
use Rattle.ms_runs.specs.Masks.{SameRules, by_completions, by_formulas}
use Rattle.ms_runs.specs.Shadow.{shadow, shadow_by}
use Rattle.ms_runs_laws.proofs.SameRuns.{same_shadow}

-- ---- a word of no bits has one completion, 0

only_zero : (a : ℕ) → a < 2 ^ 0 → a ≡ 0
only_zero a p = omega (arith, p)

none_differ : (f : ℕ → ℕ → ℕ) (v m u k i : ℕ) → Differs f 0 v m u k i → ⊥
none_differ f v m u k i d =
    d.apart (ap₂ (λ a b. bit_at (f a b) i) (only_zero d.a d.left.fits ∙ sym (only_zero d.c d.left_too.fits)) (only_zero d.b d.right.fits ∙ sym (only_zero d.d d.right_too.fits)))

zero_is : (f : ℕ → ℕ → ℕ) (v m u k : ℕ) → 0 ≡ mask_of f 0 v m u k 1
zero_is f v m u k = mask_is f 0 v m u k 1 0 (omega arith) (λ i l. (λ o. absurd (clash i o), λ d. absurd (none_differ f v m u k i d)))
  where
    clash : (i : ℕ) → bit_at 0 i ≡ 1 → ⊥
    clash i o = grind (arith, bit_at-zero i, o)

zeros_order : (p : ℕ → ℕ → Bool) → order_mask p 0 0 0 0 ≡ 0
unfolding order_mask greatest least
zeros_order p = xor_self (from_bool (p 0 0))

ones_order : (p : ℕ → ℕ → Bool) → order_mask p 1 0 1 0 ≡ 0
unfolding order_mask greatest least
ones_order p = xor_self (from_bool (p 1 1))

no_bits_compare : (o : Pred) → compare_mask o 0 0 0 0 0 ≡ 0
unfolding compare_mask eq_mask turned_sign
no_bits_compare Eq = refl
no_bits_compare Ne = refl
no_bits_compare Ugt = zeros_order ltb
no_bits_compare Uge = zeros_order leb
no_bits_compare Ult = zeros_order ltb
no_bits_compare Ule = zeros_order leb
no_bits_compare Sgt = ones_order ltb
no_bits_compare Sge = ones_order leb
no_bits_compare Slt = ones_order ltb
no_bits_compare Sle = ones_order leb

compare_zero : (o : Pred) (v m u k : ℕ) → v < 2 ^ 0 → m < 2 ^ 0 → u < 2 ^ 0 → k < 2 ^ 0 → compare_mask o 0 v m u k ≡ 0
compare_zero o v m u k pv pm pu pk =
    ap₂ (λ a b. compare_mask o 0 a b u k) (only_zero v pv) (only_zero m pm)
    ∙ ap₂ (λ a b. compare_mask o 0 0 0 a b) (only_zero u pu) (only_zero k pk)
    ∙ no_bits_compare o

-- ---- the rules

any_width : (o : Pred) (w v m u k : ℕ) → v < 2 ^ w → m < 2 ^ w → u < 2 ^ w → k < 2 ^ w → compare_mask o w v m u k ≡ mask_of (answer_bit o w) w v m u k 1
any_width o zero v m u k pv pm pu pk = compare_zero o v m u k pv pm pu pk ∙ zero_is (answer_bit o 0) v m u k
any_width o (suc h) v m u k pv pm pu pk = compare_mask_is o (suc h) v m u k (omega arith) (record { value = pv; mask = pm }) (record { value = pu; mask = pk })

same_compare : (o : Pred) (w : ℕ) (p q : Poisoned) → InRange w p → InRange w q → by_completions.compare o w p q ≡ by_formulas.compare o w p q
unfolding compare_of
same_compare o w p q a b = sym (any_width o w p.value p.mask q.value q.mask a.value a.mask b.value b.mask)

same_both : (w : ℕ) (p q : Poisoned) → InRange w p → InRange w q → by_completions.both w p q ≡ by_formulas.both w p q
unfolding binary_of
same_both w p q a b = sym (and_mask_is w p.value p.mask q.value q.mask a b)

same_either : (w : ℕ) (p q : Poisoned) → InRange w p → InRange w q → by_completions.either w p q ≡ by_formulas.either w p q
unfolding binary_of or_of
same_either w p q a b = sym (or_mask_is w p.value p.mask q.value q.mask a b)

same_one : (w : ℕ) (p q : Poisoned) → InRange w p → InRange w q → by_completions.one w p q ≡ by_formulas.one w p q
unfolding binary_of
same_one w p q a b = sym (xor_mask_is w p.value p.mask q.value q.mask a b)

same_select : (w : ℕ) (k p q : Poisoned) → InRange 1 k → InRange w p → InRange w q → by_completions.select w k p q ≡ by_formulas.select w k p q
same_select w k p q c a b = sym (select_mask-is k.value k.mask w p.value p.mask q.value q.mask c a b)

pub formulas_exact : SameRules by_completions by_formulas
formulas_exact = record {
  both = same_both;
  either = same_either;
  one = same_one;
  compare = same_compare;
  select = same_select;
  sum = carry_told;
}

-- the shadow meaning is said by completions, and computed by formulas
pub computed : (m : Module) (s : Setup) → shadow m s ≡ shadow_by by_formulas m s
computed m s = same_shadow formulas_exact m s
