-- Where each bit of a shifted or widened word comes from.
use Rattle.std.proofs.Common.{◌≡◌, ℕ, suc, ◌+◌, ◌-◌, ◌*◌, ◌/◌, ◌%◌, ◌^◌, ◌<◌, ◌≤◌, min, sym, ap, ◌∙◌, arith, ⊎_elim}
use Rattle.std.specs.Int.{bit_at}
use lib.Signed.{shr_z}
use Rattle.std.proofs.Math.Nat.{pow-suc, mod-eq_of_lt}
use Rattle.std.proofs.Math.Pow.{pow_mono}
use Rattle.std.proofs.lemmas.Bool.{cases_lt}
use Rattle.std.proofs.lemmas.Nat.{shr-shr, pow_pos, shr_le}
use Rattle.std.proofs.lemmas.Nat.Bits.{bit_at_cat_low, bit_at_cat_high, bit_at_above, bit_at-lt, bit_at-zero}
use Rattle.ms_bits.specs.Signed.{signed, wrap}
use Rattle.ms_bits_laws.proofs.BitLemmas.{bit_at_mod}
use Rattle.ms_bits_laws.proofs.CarryMasks.{bit_at_turned}
use Rattle.ms_bits_laws.proofs.SignedMasks.{signed_low, signed_high}

pub lshr_bit : (a k i : ℕ) → bit_at (a / 2 ^ k) i ≡ bit_at a (k + i)
lshr_bit a k i = ap (λ x. x % 2) (shr-shr a k i)

shl_is : (a k : ℕ) → a * 2 ^ k ≡ a * 2 ^ k + 0
shl_is a k = omega arith

pub shl_low : (w a k i : ℕ) → i < w → i < k → bit_at ((a * 2 ^ k) % 2 ^ w) i ≡ 0
shl_low w a k i l lk = bit_at_mod (a * 2 ^ k) w i l ∙ ap (λ x. bit_at x i) (shl_is a k) ∙ bit_at_cat_low a k 0 i lk ∙ bit_at-zero i

pub shl_high : (w a k i : ℕ) → i < w → k ≤ i → bit_at ((a * 2 ^ k) % 2 ^ w) i ≡ bit_at a (i - k)
shl_high w a k i l lk = bit_at_mod (a * 2 ^ k) w i l ∙ ap (λ x. bit_at x i) (shl_is a k) ∙ bit_at_cat_high a k 0 i (pow_pos k) lk

pub top_bit : (h a : ℕ) → 2 ^ h ≤ a → a < 2 ^ suc h → bit_at a h ≡ 1
top_bit h a g l =
    let e : a ≡ 1 * 2 ^ h + (a - 2 ^ h) = omega arith in
    let z : h - h ≡ 0 = omega arith in
    ap (λ x. bit_at x h) e ∙ bit_at_cat_high 1 h (a - 2 ^ h) h (omega (arith, pow-suc 2 h)) (omega arith) ∙ ap (bit_at 1) z

-- bit i of a sign-extended word of h + 1 bits
pub sext_bit : (h n a i : ℕ) → suc h ≤ n → a < 2 ^ suc h → i < n → bit_at (wrap n (signed (suc h) a)) i ≡ bit_at a (min i h)
unfolding wrap
sext_bit h n a i le pa l = ⊎_elim low high (cases_lt a (2 ^ h))
  where
    low : a < 2 ^ h → bit_at (wrap n (signed (suc h) a)) i ≡ bit_at a (min i h)
    low lt = ap (λ z. bit_at (wrap n z) i) (signed_low h a lt) ∙ bit_at_mod a n i l
        ∙ ⊎_elim
        (λ li. let e : i ≡ min i h = omega arith in ap (bit_at a) e)
        (λ hi. let e : h ≡ min i h = omega arith in bit_at_above a h i lt hi ∙ sym (bit_at_above a h h lt (omega arith)) ∙ ap (bit_at a) e)
        (cases_lt i h)

    high : 2 ^ h ≤ a → bit_at (wrap n (signed (suc h) a)) i ≡ bit_at a (min i h)
    high ge =
        let small : 2 ^ suc h - 1 - a < 2 ^ n = omega (arith, pow_mono le) in
        ap (λ z. bit_at (wrap n z) i) (signed_high h a ge)
        ∙ ap (λ z. bit_at (2 ^ n - 1 - z) i) (mod-eq_of_lt small)
        ∙ bit_at_turned n (2 ^ suc h - 1 - a) i small l
        ∙ ⊎_elim
        (λ li.
        let e : i ≡ min i h = omega arith in
        let t : bit_at (2 ^ suc h - 1 - a) i ≡ 1 - bit_at a i = bit_at_turned (suc h) a i pa (omega arith) in
        omega (arith, t, bit_at-lt a i) ∙ ap (bit_at a) e)
        (λ hi.
        let e : h ≡ min i h = omega arith in
        let t : bit_at (2 ^ suc h - 1 - a) i ≡ 0 = bit_at_above (2 ^ suc h - 1 - a) h i (omega (arith, pow-suc 2 h)) hi in
        omega (arith, t, top_bit h a ge pa) ∙ ap (bit_at a) e)
        (cases_lt i h)

-- bit i of a word shifted right with its sign
pub ashr_bit : (h a k i : ℕ) → a < 2 ^ suc h → i < suc h → bit_at (wrap (suc h) (shr_z (signed (suc h) a) (2 ^ k))) i ≡ bit_at a (min (k + i) h)
unfolding wrap
ashr_bit h a k i pa l = ⊎_elim low high (cases_lt a (2 ^ h))
  where
    low : a < 2 ^ h → bit_at (wrap (suc h) (shr_z (signed (suc h) a) (2 ^ k))) i ≡ bit_at a (min (k + i) h)
    low lt = ap (λ z. bit_at (wrap (suc h) (shr_z z (2 ^ k))) i) (signed_low h a lt) ∙ bit_at_mod (a / 2 ^ k) (suc h) i l ∙ lshr_bit a k i
        ∙ ⊎_elim
        (λ li. let e : k + i ≡ min (k + i) h = omega arith in ap (bit_at a) e)
        (λ hi. let e : h ≡ min (k + i) h = omega arith in bit_at_above a h (k + i) lt hi ∙ sym (bit_at_above a h h lt (omega arith)) ∙ ap (bit_at a) e)
        (cases_lt (k + i) h)

    high : 2 ^ h ≤ a → bit_at (wrap (suc h) (shr_z (signed (suc h) a) (2 ^ k))) i ≡ bit_at a (min (k + i) h)
    high ge =
        let c = 2 ^ suc h - 1 - a in
        let small : (2 ^ suc h - 1 - a) / 2 ^ k < 2 ^ suc h = omega (arith, shr_le (2 ^ suc h - 1 - a) k) in
        ap (λ z. bit_at (wrap (suc h) (shr_z z (2 ^ k))) i) (signed_high h a ge)
        ∙ ap (λ z. bit_at (2 ^ suc h - 1 - z) i) (mod-eq_of_lt small)
        ∙ bit_at_turned (suc h) ((2 ^ suc h - 1 - a) / 2 ^ k) i small l
        ∙ ap (λ d. 1 - d) (lshr_bit (2 ^ suc h - 1 - a) k i)
        ∙ ⊎_elim
        (λ li.
        let e : k + i ≡ min (k + i) h = omega arith in
        let t : bit_at (2 ^ suc h - 1 - a) (k + i) ≡ 1 - bit_at a (k + i) = bit_at_turned (suc h) a (k + i) pa (omega arith) in
        omega (arith, t, bit_at-lt a (k + i)) ∙ ap (bit_at a) e)
        (λ hi.
        let e : h ≡ min (k + i) h = omega arith in
        let t : bit_at (2 ^ suc h - 1 - a) (k + i) ≡ 0 = bit_at_above (2 ^ suc h - 1 - a) h (k + i) (omega (arith, pow-suc 2 h)) hi in
        omega (arith, t, top_bit h a ge pa) ∙ ap (bit_at a) e)
        (cases_lt (k + i) h)
