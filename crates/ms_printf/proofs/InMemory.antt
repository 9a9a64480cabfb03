-- The cut of a format that stands in memory.
use Rattle.std.proofs.Common.{◌≡◌, ◌≢◌, ◌≤◌, ◌<◌, ℕ, zero, suc, ◌+◌, ◌-◌, List, [], ◌∷◌, take, drop, Bool, true, false, eqb, Option, Some, None, option_map, refl, sym, ap, ◌∙◌, subst, arith, if◌then◌else◌}
use Rattle.std.proofs.Math.Path.{ap₂}
use Rattle.std.proofs.lemmas.Bool.{ne_eqb, eq-eqb}
use Rattle.ms_bits.specs.Maps.{bytes_at}
use Rattle.ms_runs.specs.declared.formats.Piece.{Piece}
use Rattle.ms_runs.specs.declared.formats.Piece.TheVariants.{Text}
use Rattle.ms_runs.specs.Formats.{letters, long_letters, lettered, by_letter, directive, plain_bytes, no_pieces, with_piece, cut_of}
use Rattle.ms_printf.proofs.Cuts.{first_directive, no_directive, first_text}

-- ---- bytes in memory

pub unrolled : (f : ℕ → ℕ) (a k n : ℕ) → k < n → bytes_at f (a + k) (n - k) ≡ f (a + k) ∷ bytes_at f (a + (k + 1)) (n - (k + 1))
unrolled f a k n l =
    let s : n - k ≡ suc (n - (k + 1)) = omega (arith, l) in
    let x : a + k + 1 ≡ a + (k + 1) = omega arith in
    ap (bytes_at f (a + k)) s ∙ ap (λ (y : ℕ). f (a + k) ∷ bytes_at f y (n - (k + 1))) x

pub taken : (f : ℕ → ℕ) (a k n : ℕ) → k ≤ n → take k (bytes_at f a n) ≡ bytes_at f a k
taken f a zero n l = refl
taken f a (suc k) zero l = absurd (omega (arith, l))
taken f a (suc k) (suc n) l = ap (λ (xs : List ℕ). f a ∷ xs) (taken f (a + 1) k n (omega (arith, l)))

pub dropped : (f : ℕ → ℕ) (a k n : ℕ) → k ≤ n → drop k (bytes_at f a n) ≡ bytes_at f (a + k) (n - k)
dropped f a zero n l = ap₂ (bytes_at f) (let e : a ≡ a + 0 = omega arith in e) (let e : n ≡ n - 0 = omega arith in e)
dropped f a (suc k) zero l = absurd (omega (arith, l))
dropped f a (suc k) (suc n) l =
    dropped f (a + 1) k n (omega (arith, l))
    ∙ ap₂ (bytes_at f) (let e : a + 1 + k ≡ a + suc k = omega arith in e) (let e : n - k ≡ suc n - suc k = omega arith in e)

-- ---- bytes before the first `%`

pub plain_next : (f : ℕ → ℕ) (a k n : ℕ) → k < n → f (a + k) ≢ 37 → plain_bytes (bytes_at f a n) ≡ k + plain_bytes (bytes_at f (a + k) (n - k))
    → plain_bytes (bytes_at f a n) ≡ k + 1 + plain_bytes (bytes_at f (a + (k + 1)) (n - (k + 1)))
plain_next f a k n l ne before =
    let rest = plain_bytes (bytes_at f (a + (k + 1)) (n - (k + 1))) in
    let e : k + suc rest ≡ k + 1 + rest = omega arith in
    before ∙ ap (λ (xs : List ℕ). k + plain_bytes xs) (unrolled f a k n l) ∙ ap (λ (t : Bool). k + (if t then 0 else suc rest)) (ne_eqb (f (a + k)) 37 ne) ∙ e

pub plain_here : (f : ℕ → ℕ) (a k n : ℕ) → k < n → f (a + k) ≡ 37 → plain_bytes (bytes_at f a n) ≡ k + plain_bytes (bytes_at f (a + k) (n - k)) → k ≡ plain_bytes (bytes_at f a n)
plain_here f a k n l is before =
    let rest = plain_bytes (bytes_at f (a + (k + 1)) (n - (k + 1))) in
    let e : k + 0 ≡ k = omega arith in
    sym (before ∙ ap (λ (xs : List ℕ). k + plain_bytes xs) (unrolled f a k n l) ∙ ap (λ (t : Bool). k + (if t then 0 else suc rest)) (eq-eqb (f (a + k)) 37 is) ∙ e)

pub plain_begin : (f : ℕ → ℕ) (a n : ℕ) → plain_bytes (bytes_at f a n) ≡ 0 + plain_bytes (bytes_at f (a + 0) (n - 0))
plain_begin f a n =
    let none : plain_bytes (bytes_at f (a + 0) (n - 0)) ≡ 0 + plain_bytes (bytes_at f (a + 0) (n - 0)) = omega arith in
    ap₂ (λ x y. plain_bytes (bytes_at f x y)) (let e : a ≡ a + 0 = omega arith in e) (let e : n ≡ n - 0 = omega arith in e) ∙ none

pub plain_end : (f : ℕ → ℕ) (a k n : ℕ) → k ≡ n → plain_bytes (bytes_at f a n) ≡ k + plain_bytes (bytes_at f (a + k) (n - k)) → n ≡ plain_bytes (bytes_at f a n)
plain_end f a k n is before =
    let none : n - k ≡ 0 = omega (arith, is) in
    let e : n ≡ k + 0 = omega (arith, is) in
    e ∙ sym (before ∙ ap (λ (m : ℕ). k + plain_bytes (bytes_at f (a + k) m)) none)

-- ---- the first part

pub at_plain : (f : ℕ → ℕ) (a n k : ℕ) → 0 < n → f a ≢ 37 → k ≡ plain_bytes (bytes_at f (a + 1) (n - 1)) → 1 + k ≤ n
    → cut_of (bytes_at f a n) ≡ with_piece (Text (bytes_at f a (1 + k))) (cut_of (bytes_at f (a + (1 + k)) (n - (1 + k))))
at_plain f a zero k l ne is le = absurd (omega (arith, l))
at_plain f a (suc n) k l ne is le =
    let m : suc n - 1 ≡ n = omega arith in
    let j : suc (plain_bytes (bytes_at f (a + 1) n)) ≡ 1 + k = omega (arith, is ∙ ap (λ (z : ℕ). plain_bytes (bytes_at f (a + 1) z)) m) in
    first_text (f a) (bytes_at f (a + 1) n) (ne_eqb (f a) 37 ne)
    ∙ ap (λ (t : Bool). with_piece (Text (take (if t then 0 else suc (plain_bytes (bytes_at f (a + 1) n))) (bytes_at f a (suc n)))) (cut_of (drop (if t then 0 else suc (plain_bytes (bytes_at f (a + 1) n))) (bytes_at f a (suc n))))) (ne_eqb (f a) 37 ne)
    ∙ ap (λ (i : ℕ). with_piece (Text (take i (bytes_at f a (suc n)))) (cut_of (drop i (bytes_at f a (suc n))))) j
    ∙ ap₂ (λ x y. with_piece (Text x) (cut_of y)) (taken f a (1 + k) (suc n) le) (dropped f a (1 + k) (suc n) le)

-- the directive of the letters after a `%`
letter_is : (b : ℕ) (bs : List ℕ) (o : Option Piece) → b ≢ 108 → lettered letters b ≡ o → directive (b ∷ bs) ≡ option_map (λ p. (p, bs)) o
letter_is b bs o ne e = ap (λ (t : Bool). if t then by_letter long_letters bs else by_letter letters (b ∷ bs)) (ne_eqb b 108 ne) ∙ ap (λ (q : Option Piece). option_map {U = Piece × List ℕ} (λ p. (p, bs)) q) e

long_is : (b c : ℕ) (bs : List ℕ) (o : Option Piece) → b ≡ 108 → lettered long_letters c ≡ o → directive (b ∷ c ∷ bs) ≡ option_map (λ p. (p, bs)) o
long_is b c bs o is e = ap (λ (t : Bool). if t then by_letter long_letters (c ∷ bs) else by_letter letters (b ∷ c ∷ bs)) (eq-eqb b 108 is) ∙ ap (λ (q : Option Piece). option_map {U = Piece × List ℕ} (λ p. (p, bs)) q) e

pub ends_at : (f : ℕ → ℕ) (a n : ℕ) → n ≡ 1 → f a ≡ 37 → cut_of (bytes_at f a n) ≡ no_pieces true
ends_at f a n one is = ap (λ (m : ℕ). cut_of (bytes_at f a m)) one ∙ ap (λ (b : ℕ). cut_of (b ∷ [])) is

pub ends_long : (f : ℕ → ℕ) (a n : ℕ) → n ≡ 2 → f a ≡ 37 → f (a + 1) ≡ 108 → cut_of (bytes_at f a n) ≡ no_pieces true
ends_long f a n two is l = ap (λ (m : ℕ). cut_of (bytes_at f a m)) two ∙ ap₂ (λ b c. cut_of (b ∷ c ∷ [])) is l

two_bytes : (f : ℕ → ℕ) (a m : ℕ) → f a ≡ 37 → bytes_at f a (suc (suc m)) ≡ 37 ∷ f (a + 1) ∷ bytes_at f (a + 2) m
two_bytes f a m is = let e : a + 1 + 1 ≡ a + 2 = omega arith in ap₂ (λ x y. x ∷ f (a + 1) ∷ bytes_at f y m) is e

three_bytes : (f : ℕ → ℕ) (a m : ℕ) → f a ≡ 37 → bytes_at f a (suc (suc (suc m))) ≡ 37 ∷ f (a + 1) ∷ f (a + 2) ∷ bytes_at f (a + 3) m
three_bytes f a m is =
    let e : a + 2 + 1 ≡ a + 3 = omega arith in
    two_bytes f a (suc m) is ∙ ap (λ (y : ℕ). 37 ∷ f (a + 1) ∷ f (a + 2) ∷ bytes_at f y m) e

pub at_percent : (f : ℕ → ℕ) (a n : ℕ) → 2 ≤ n → f a ≡ 37 → f (a + 1) ≡ 37 → cut_of (bytes_at f a n) ≡ with_piece (Text (bytes_at f (a + 1) 1)) (cut_of (bytes_at f (a + 2) (n - 2)))
at_percent f a zero l is same = absurd (omega (arith, l))
at_percent f a (suc zero) l is same = absurd (omega (arith, l))
at_percent f a (suc (suc m)) l is same =
    let e : m ≡ suc (suc m) - 2 = omega arith in
    ap cut_of (two_bytes f a m is)
    ∙ ap (λ (b : ℕ). cut_of (37 ∷ b ∷ bytes_at f (a + 2) m)) same
    ∙ first_directive (37 ∷ bytes_at f (a + 2) m) (Text (37 ∷ [])) (bytes_at f (a + 2) m) refl
    ∙ ap₂ (λ b k. with_piece (Text (b ∷ [])) (cut_of (bytes_at f (a + 2) k))) (sym same) e

pub at_letter : (f : ℕ → ℕ) (a n : ℕ) (p : Piece) → 2 ≤ n → f a ≡ 37 → f (a + 1) ≢ 108 → lettered letters (f (a + 1)) ≡ Some p → cut_of (bytes_at f a n) ≡ with_piece p (cut_of (bytes_at f (a + 2) (n - 2)))
at_letter f a zero p l is ne e = absurd (omega (arith, l))
at_letter f a (suc zero) p l is ne e = absurd (omega (arith, l))
at_letter f a (suc (suc m)) p l is ne e =
    let k : m ≡ suc (suc m) - 2 = omega arith in
    ap cut_of (two_bytes f a m is)
    ∙ first_directive (f (a + 1) ∷ bytes_at f (a + 2) m) p (bytes_at f (a + 2) m) (letter_is (f (a + 1)) (bytes_at f (a + 2) m) (Some p) ne e)
    ∙ ap (λ (j : ℕ). with_piece p (cut_of (bytes_at f (a + 2) j))) k

pub no_letter : (f : ℕ → ℕ) (a n : ℕ) → 2 ≤ n → f a ≡ 37 → f (a + 1) ≢ 108 → lettered letters (f (a + 1)) ≡ None → cut_of (bytes_at f a n) ≡ no_pieces true
no_letter f a zero l is ne e = absurd (omega (arith, l))
no_letter f a (suc zero) l is ne e = absurd (omega (arith, l))
no_letter f a (suc (suc m)) l is ne e =
    ap cut_of (two_bytes f a m is) ∙ no_directive (f (a + 1) ∷ bytes_at f (a + 2) m) (letter_is (f (a + 1)) (bytes_at f (a + 2) m) None ne e)

pub at_long : (f : ℕ → ℕ) (a n : ℕ) (p : Piece) → 3 ≤ n → f a ≡ 37 → f (a + 1) ≡ 108 → lettered long_letters (f (a + 2)) ≡ Some p → cut_of (bytes_at f a n) ≡ with_piece p (cut_of (bytes_at f (a + 3) (n - 3)))
at_long f a zero p l is long e = absurd (omega (arith, l))
at_long f a (suc zero) p l is long e = absurd (omega (arith, l))
at_long f a (suc (suc zero)) p l is long e = absurd (omega (arith, l))
at_long f a (suc (suc (suc m))) p l is long e =
    let k : m ≡ suc (suc (suc m)) - 3 = omega arith in
    ap cut_of (three_bytes f a m is)
    ∙ first_directive (f (a + 1) ∷ f (a + 2) ∷ bytes_at f (a + 3) m) p (bytes_at f (a + 3) m) (long_is (f (a + 1)) (f (a + 2)) (bytes_at f (a + 3) m) (Some p) long e)
    ∙ ap (λ (j : ℕ). with_piece p (cut_of (bytes_at f (a + 3) j))) k

pub no_long : (f : ℕ → ℕ) (a n : ℕ) → 3 ≤ n → f a ≡ 37 → f (a + 1) ≡ 108 → lettered long_letters (f (a + 2)) ≡ None → cut_of (bytes_at f a n) ≡ no_pieces true
no_long f a zero l is long e = absurd (omega (arith, l))
no_long f a (suc zero) l is long e = absurd (omega (arith, l))
no_long f a (suc (suc zero)) l is long e = absurd (omega (arith, l))
no_long f a (suc (suc (suc m))) l is long e =
    ap cut_of (three_bytes f a m is) ∙ no_directive (f (a + 1) ∷ f (a + 2) ∷ bytes_at f (a + 3) m) (long_is (f (a + 1)) (f (a + 2)) (bytes_at f (a + 3) m) None long e)
