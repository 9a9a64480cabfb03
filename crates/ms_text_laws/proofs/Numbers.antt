-- Numbers are read as what they were written of.
use Rattle.std.proofs.Common.{◌≡◌, ℕ, zero, suc, ◌+◌, ◌-◌, ◌*◌, ◌%◌, ◌^◌, ◌<◌, ◌≤◌, true, false, cond, eqb, ltb, [], ◌∷◌, ◌++◌, length, ℤ, pos, negsuc, neg_ℤ, refl, sym, ap, ◌∙◌, inl, inr, arith, length-append, mod-eq_of_lt, pow-suc, mul_assoc, mul-one, add-one}
use Rattle.std.specs.Prelude.{decimal}
use Rattle.std.specs.List.{list_all}
use Rattle.std.specs.Char.{is_ascii_digit}
use Rattle.std.proofs.lemmas.Bool.{ltb-false, lt-ltb, and_parts}
use Rattle.std.proofs.lemmas.Bool.Decides.{eqb_tells}
use Rattle.std.proofs.lemmas.Fmt.{decimal_by_steps}
use Rattle.ms_bits.specs.Signed.{signed, wrap}
use Rattle.ms_lex.specs.Tokens.{Text}
use Rattle.ms_lex.specs.Numbers as read
use Rattle.ms_text_grammar.specs.Values.{fits}
use Rattle.ms_text_grammar.specs.LayoutNames.{signed_text}
use Rattle.ms_text_grammar.proofs.WholeNames.{decimal_digits, decimal_some}

-- ---- decimal digits

one_more : (ds : Text) (d : ℕ) → read.decimal (ds ++ d ∷ []) ≡ read.decimal ds * 10 + (d - 48)
one_more [] d = omega (arith, mul-one (d - 48))
one_more (x ∷ ds) d =
    let more = one_more ds d in
    let long : length (ds ++ d ∷ []) ≡ suc (length ds) = omega (arith, length-append ds (d ∷ [])) in
    let power : 10 ^ length (ds ++ d ∷ []) ≡ 10 ^ length ds * 10 = ap (λ k. 10 ^ k) long ∙ pow-suc 10 (length ds) in
    let scaled : (x - 48) * 10 ^ length (ds ++ d ∷ []) ≡ ((x - 48) * 10 ^ length ds) * 10 = ap (λ p. (x - 48) * p) power ∙ sym (mul_assoc (x - 48) (10 ^ length ds) 10) in
    omega (arith, more, scaled)

pub decimal_back : (n : ℕ) → n < 2 ^ 64 → read.decimal (decimal n) ≡ n
decimal_back = decimal_by_steps (λ n ds. read.decimal ds ≡ n)
    (λ n small. omega (arith, mul-one (48 + n - 48)))
    (λ n ds large back. let step = one_more ds (48 + n % 10) in omega (arith, step, back))

-- ---- signed numbers

no_minus : (b : ℕ) → is_ascii_digit b ≡ true → eqb b 45 ≡ false
no_minus b h = elim (eqb_tells b 45) [
  | inl same ↦ let e = ap is_ascii_digit same.1 in absurd cc
  | inr apart ↦ apart.0
]

unsigned : (w : Text) → 0 < length w → list_all is_ascii_digit w ≡ true → read.signed_decimal w ≡ pos (read.decimal w)
unsigned [] some h = absurd (omega (arith, some))
unsigned (b ∷ w) some h = rw (no_minus b (and_parts (is_ascii_digit b) (list_all is_ascii_digit w) h).0) refl

-- a number whose digits are few enough
abbrev pub IsShort : ℤ → Type 0
IsShort (pos n) = n < 2 ^ 64
IsShort (negsuc n) = n + 1 < 2 ^ 64

pub signed_back : (z : ℤ) → IsShort z → read.signed_decimal (signed_text z) ≡ z
signed_back (pos n) small = unsigned (decimal n) (decimal_some n) (decimal_digits n) ∙ ap pos (decimal_back n small)
signed_back (negsuc n) small = ap (λ k. neg_ℤ (pos k)) (decimal_back (n + 1) small ∙ add-one n)

-- ---- numbers of a width

half : (w : ℕ) → 1 ≤ w → 2 ^ w ≡ 2 ^ (w - 1) * 2
half zero h = absurd (omega arith)
half (suc w) h =
    let less : w ≡ suc w - 1 = omega arith in
    pow-suc 2 w ∙ ap (λ k. 2 ^ k * 2) less

low : (w n : ℕ) → n < 2 ^ w → ltb (2 * n) (2 ^ w) ≡ true → (wrap w (pos n) ≡ n) × (fits w (pos n) ≡ true)
unfolding wrap
low w n small h = (mod-eq_of_lt small, lt-ltb n (2 ^ w) small)

high : (w n : ℕ) → 1 ≤ w → n < 2 ^ w → ltb (2 * n) (2 ^ w) ≡ false → (wrap w (negsuc (2 ^ w - 1 - n)) ≡ n) × (fits w (negsuc (2 ^ w - 1 - n)) ≡ true)
unfolding wrap
high w n some small h =
    let twice = half w some in
    let large = ltb-false (2 * n) (2 ^ w) h in
    let same : (2 ^ w - 1 - n) % 2 ^ w ≡ 2 ^ w - 1 - n = mod-eq_of_lt (omega (arith, small)) in
    (ap (λ k. 2 ^ w - 1 - k) same ∙ omega (arith, small), lt-ltb (2 ^ w - 1 - n) (2 ^ (w - 1)) (omega (arith, twice, large, small)))

pub wrapped : (w n : ℕ) → 1 ≤ w → n < 2 ^ w → (wrap w (signed w n) ≡ n) × (fits w (signed w n) ≡ true)
unfolding signed
wrapped w n some small = elim (ltb (2 * n) (2 ^ w)) as (λ b. ltb (2 * n) (2 ^ w) ≡ b → (wrap w (cond b (pos n) (negsuc (2 ^ w - 1 - n))) ≡ n) × (fits w (cond b (pos n) (negsuc (2 ^ w - 1 - n))) ≡ true)) [
  | true ↦ λ h. low w n small h
  | false ↦ λ h. high w n some small h
] refl
