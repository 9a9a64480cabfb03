-- Of operands without a poisoned bit the masks of functions of whole words are 0.
use Rattle.std.proofs.Common.{◌≡◌, ℕ, ◌+◌, ◌-◌, ◌*◌, ◌/◌, ◌%◌, ◌^◌, Bool, true, false, leb, refl, sym, ap, ◌∙◌, arith, ⊎_elim, bit_or, bit_and}
use Rattle.std.specs.Int.{bit_at}
use Rattle.std.proofs.Math.Nat.{mod_self, zero-div, zero-mod}
use Rattle.std.proofs.lemmas.Bool.{cases_Bool, cases_lt, le-leb, lt-leb, eq-eqb}
use Rattle.std.proofs.lemmas.Nat.{pow_pos}
use Rattle.std.proofs.lemmas.Nat.Bits.{bit_at-lt, bit_at_and, bit_at-zero, same_from_bits, same_from_bits_below}
use Rattle.ms_bits.specs.Fill.{number_of_bits}
use Rattle.ms_bits.specs.Formulas.{least, greatest, carry_mask, turned_sign}
use Rattle.ms_bits_laws.proofs.MaskFunctions.{number_bit, number_fits}
use Rattle.ms_bits_laws.proofs.Extremes.{greatest_bit, least_bit}
use Rattle.ms_bits.specs.declared.word_functions.WordFn.{WordFn}
use Rattle.ms_bits.specs.declared.word_functions.WordFn.TheVariants.{Ctpop, Ctlz, Cttz, Bswap, Bitreverse, Abs, Smax, Smin, Umax, Umin, Fshl, Fshr, UaddSat, UsubSat, SaddSat, SsubSat, Expect}
use Rattle.ms_bits.specs.WordFunctions.{bswap_of, bitreverse_of, window, fshl_of, fshr_of, greater_mask, smaller_mask, count_mask, ctpop_mask, ctlz_mask, cttz_mask, abs_mask, word_mask}

and_none : (x : ℕ) → bit_and x 0 ≡ 0
and_none x = same_from_bits _ _ (λ i. omega (arith, bit_at_and x 0 i, bit_at-zero i))

no_bits : (w : ℕ) (from : ℕ → ℕ) → number_of_bits (λ i. bit_at 0 (from i)) w ≡ 0
no_bits w from = same_from_bits_below w _ 0 (number_fits (λ i. bit_at 0 (from i)) (λ i. bit_at-lt 0 (from i)) w) (pow_pos w)
    (λ i l. number_bit (λ i. bit_at 0 (from i)) (λ i. bit_at-lt 0 (from i)) w i l ∙ bit_at-zero (from i) ∙ sym (bit_at-zero i))

no_window : (w k : ℕ) → window w k 0 0 ≡ 0
unfolding window
no_window w k = let e : 0 * 2 ^ w + 0 ≡ 0 = omega arith in ap (λ n. n / 2 ^ k % 2 ^ w) e ∙ zero_window (2 ^ k) (2 ^ w)
  where
    zero_window : (a b : ℕ) → 0 / a % b ≡ 0
    zero_window a b = ap (λ n. n % b) (zero-div a) ∙ zero-mod b

greatest_clean : (v : ℕ) → greatest v 0 ≡ v
greatest_clean v = same_from_bits _ _ (λ i. omega (arith, greatest_bit v 0 i, bit_at-zero i))

least_clean : (v : ℕ) → least v 0 ≡ v
least_clean v = same_from_bits _ _ (λ i. omega (arith, least_bit v 0 i, bit_at-zero i))

greater_clean : (v u : ℕ) → greater_mask v 0 u 0 ≡ 0
unfolding greater_mask
greater_clean v u = rw (greatest_clean u, least_clean v, greatest_clean v, least_clean u) (⊎_elim
    (λ l. rw (lt-leb u v l, le-leb v u (omega arith)) refl)
    (λ g. rw (le-leb u v g) refl)
    (cases_lt v u))

smaller_clean : (v u : ℕ) → smaller_mask v 0 u 0 ≡ 0
unfolding smaller_mask
smaller_clean v u = rw (greatest_clean u, least_clean v, greatest_clean v, least_clean u) (⊎_elim
    (λ l. rw (lt-leb u v l, le-leb v u (omega arith)) refl)
    (λ g. rw (le-leb u v g) refl)
    (cases_lt v u))

pub carry_clean : (w : ℕ) → carry_mask w 0 ≡ 0
unfolding carry_mask
carry_clean w = let e : 0 + (2 ^ w - 0) ≡ 2 ^ w = omega arith in ap (λ n. bit_or 0 (n % 2 ^ w)) e ∙ ap (bit_or 0) (mod_self (2 ^ w))

abs_clean : (w v : ℕ) → abs_mask w v 0 ≡ 0
unfolding abs_mask
abs_clean w v =
    let none : leb (2 ^ w) (2 * 0) ≡ false = lt-leb (2 ^ w) (2 * 0) (omega (arith, pow_pos w)) in
    rw none (⊎_elim
    (λ (t : leb (2 ^ w) (2 * v) ≡ true). rw t (carry_clean w))
    (λ (n : leb (2 ^ w) (2 * v) ≡ false). rw n refl)
    (cases_Bool (leb (2 ^ w) (2 * v))))

count_known : (w : ℕ) (b : Bool) → b ≡ true → count_mask w b ≡ 0
unfolding count_mask
count_known w true e = refl
count_known w false e = cc

ctlz_clean : (w v : ℕ) → ctlz_mask w v 0 ≡ 0
unfolding ctlz_mask
ctlz_clean w v = count_known w _ (le-leb 0 (least v 0) (omega arith))

cttz_clean : (w v : ℕ) → cttz_mask w v 0 ≡ 0
unfolding cttz_mask
cttz_clean w v = count_known w _ (eq-eqb _ 0 (and_none (bit_and (greatest v 0) ((0 + (2 ^ w - greatest v 0)) % 2 ^ w))))

pub word_clean : (f : WordFn) (w v u t : ℕ) → word_mask f w v 0 u 0 t 0 ≡ 0
unfolding ctpop_mask count_mask bswap_of bitreverse_of fshl_of fshr_of
word_clean Ctpop w v u t = refl
word_clean Ctlz w v u t = ctlz_clean w v
word_clean Cttz w v u t = cttz_clean w v
word_clean Bswap w v u t = no_bits w _
word_clean Bitreverse w v u t = no_bits w _
word_clean Abs w v u t = abs_clean w v
word_clean Smax w v u t = greater_clean (turned_sign w v) (turned_sign w u)
word_clean Smin w v u t = smaller_clean (turned_sign w v) (turned_sign w u)
word_clean Umax w v u t = greater_clean v u
word_clean Umin w v u t = smaller_clean v u
word_clean Fshl w v u t = no_window w _
word_clean Fshr w v u t = no_window w _
word_clean UaddSat w v u t = refl
word_clean UsubSat w v u t = refl
word_clean SaddSat w v u t = refl
word_clean SsubSat w v u t = refl
word_clean Expect w v u t = refl
