-- Signed decimal numbers of words.
use Rattle.std.proofs.Common.{◌≡◌, ◌≤◌, ◌<◌, ℕ, suc, ◌+◌, ◌-◌, ◌*◌, ◌/◌, ◌^◌, List, ◌∷◌, refl, sym, ap, ◌∙◌, arith, decimal, ℤ, pos, negsuc, cond, ltb}
use Rattle.std.proofs.Math.Nat.{pow-suc}
use Rattle.std.specs.Fmt.{signed_decimal}
use Rattle.std.proofs.lemmas.Bool.{lt-ltb, le-ltb}
use Rattle.ms_bits.specs.Signed.{signed}

doubled : (width : ℕ) → 2 ^ (1 + width) ≡ 2 * 2 ^ width
doubled width = let e : 1 + width ≡ suc width = omega arith in ap (λ n. 2 ^ n) e ∙ omega (arith, pow-suc 2 width)

pub positive : (width most word : ℕ) → most + 1 ≡ 2 ^ (1 + width) → word ≤ most / 2 → decimal word ≡ signed_decimal (signed (1 + width) word)
unfolding signed
positive width most word e l =
    let d = doubled width in
    let low : 2 * word < 2 ^ (1 + width) = omega (arith, e, l, d) in
    ap (λ b. signed_decimal (cond b (pos word) (negsuc (2 ^ (1 + width) - 1 - word)))) (sym (lt-ltb (2 * word) (2 ^ (1 + width)) low))

pub negative : (width most word size : ℕ) → most + 1 ≡ 2 ^ (1 + width) → most / 2 < word → size ≡ most - word + 1 → 45 ∷ decimal size ≡ signed_decimal (signed (1 + width) word)
unfolding signed
negative width most word size e l is =
    let d = doubled width in
    let high : 2 ^ (1 + width) ≤ 2 * word = omega (arith, e, l, d) in
    let n : size ≡ suc (2 ^ (1 + width) - 1 - word) = omega (arith, e, is) in
    ap (λ k. 45 ∷ decimal k) n ∙ ap (λ b. signed_decimal (cond b (pos word) (negsuc (2 ^ (1 + width) - 1 - word)))) (sym (le-ltb (2 * word) (2 ^ (1 + width)) high))
