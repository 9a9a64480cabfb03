-- Words as signed numbers, by their digits.
use Rattle.std.proofs.Common.{◌≡◌, ℕ, ◌+◌, ◌-◌, ◌*◌, ◌^◌, ◌<◌, ◌≤◌, ◌∷◌, refl, arith}
use Rattle.std.specs.Prelude.{decimal}
use Rattle.std.proofs.Math.Pow.{pow_mono}
use Rattle.std.proofs.lemmas.Bool.{lt-ltb, le-ltb}
use Rattle.ms_bits.specs.Signed.{signed}
use Rattle.ms_text_grammar.specs.LayoutNames.{signed_text}

pub plain_digits : (width n : ℕ) → 2 * n < 2 ^ width → signed_text (signed width n) ≡ decimal n
unfolding signed
plain_digits width n h = rw (lt-ltb (2 * n) (2 ^ width) h) refl

pub wide_digits : (width n : ℕ) → 64 < width → n < 2 ^ 64 → signed_text (signed width n) ≡ decimal n
wide_digits width n w h = let m : 2 ^ 65 ≤ 2 ^ width = pow_mono w in plain_digits width n (omega arith)

pub minus_digits : (width n far : ℕ) → 2 ^ width ≤ 2 * n → far ≡ 2 ^ width - 1 - n → signed_text (signed width n) ≡ 45 ∷ decimal (far + 1)
unfolding signed
minus_digits width n far h e = rw (le-ltb (2 * n) (2 ^ width) h, e) refl
