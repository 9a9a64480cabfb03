-- Names: equality, and which are inserted ones.
use Rattle.std.proofs.Common.{◌≡◌, ◌≢◌, ℕ, ◌+◌, ◌*◌, ◌^◌, ◌<◌, ◌≤◌, List, [], ◌∷◌, ◌++◌, refl, sym, ap, ◌∙◌, arith, Bool, true, false}
use Rattle.std.proofs.Math.Path.{ap₂}
use Rattle.std.proofs.lemmas.Bool.{eq-eqb, eqb-true, eqb-false}
use Rattle.std.proofs.lemmas.List.{append_cancel_left}
use Rattle.std.proofs.lemmas.Int.Digits.{first_digits_of, same_from_digits_of}
use Rattle.std.proofs.lemmas.Fmt.{decimal-digits_of, decimal_digit}
use Rattle.std.specs.Prelude.{if◌then◌else◌, nat_eq, eqb, ◌&&◌, map, get_or, drop, codes, decimal}
use Rattle.std.specs.Cmp.Lexicographic.{pointwise}
use Rattle.std.specs.Int.Digits.{digits_of}
use Rattle.ms_ir.specs.declared.syntax.Name.{Name}
use Rattle.ms_ir.specs.declared.syntax.Name.TheVariants.{Number, Text}
use Rattle.ms_ir.specs.Names.{name_eq, is_reserved}
use Rattle.ms_ir.proofs.RootKinds.{name_same}
use Rattle.ms_runs.specs.Control.{with_value}
use Rattle.ms_pass_tasks.specs.Tasks.{numeral, msan_name, mask_name, origin_name}
use Rattle.ms_pass_tasks.specs.Meaning.{Below}

-- ---- equality of names

bytes_self : (x : List ℕ) → pointwise nat_eq x x ≡ true
bytes_self [] = refl
bytes_self (a ∷ x) = ap (λ b. b && pointwise nat_eq x x) (eq-eqb a a refl) ∙ bytes_self x

pub name_self : (x : Name) → name_eq x x ≡ true
name_self (Number n) = eq-eqb n n refl
name_self (Text x) = bytes_self x

pub name_differs : (x y : Name) → x ≢ y → name_eq x y ≡ false
name_differs x y h = by_test (name_eq x y) refl
  where
    by_test : (b : Bool) → name_eq x y ≡ b → b ≡ false
    by_test true e = absurd (h (name_same x y e))
    by_test false e = refl

pub with_here : {V : Type 0} (values : Name → V) (x : Name) (v : V) → with_value values x v x ≡ v
with_here values x v = ap (λ b. if b then v else values x) (name_self x)

pub with_other : {V : Type 0} (values : Name → V) (x y : Name) (v : V) → y ≢ x → with_value values x v y ≡ values y
with_other values x y v h = ap (λ b. if b then v else values y) (name_differs y x h)

-- ---- numerals

numeral_zero : (k : ℕ) → k ≡ 0 → numeral k ≡ 48 ∷ []
unfolding numeral
numeral_zero k e = ap (λ b. if b then codes "0" else map (λ d. 48 + d) (digits_of 10 k)) (eq-eqb k 0 e)

numeral_more : (k : ℕ) → 0 < k → numeral k ≡ map (λ d. 48 + d) (digits_of 10 k)
unfolding numeral
numeral_more k h = by_test (eqb k 0) refl
  where
    by_test : (b : Bool) → eqb k 0 ≡ b → (if b then codes "0" else map (λ d. 48 + d) (digits_of 10 k)) ≡ map (λ d. 48 + d) (digits_of 10 k)
    by_test true e = absurd (omega (arith, eqb-true k 0 e))
    by_test false e = refl

shifted_one : (ds es : List ℕ) → map (λ d. 48 + d) ds ≡ map (λ d. 48 + d) es → ds ≡ es
shifted_one [] [] e = refl
shifted_one [] (b ∷ es) e = grind arith
shifted_one (a ∷ ds) [] e = grind arith
shifted_one (a ∷ ds) (b ∷ es) e =
    let first : 48 + a ≡ 48 + b = ap (λ l. get_or l 0 0) e in
    ap₂ (λ c z. c ∷ z) (omega (arith, first)) (shifted_one ds es (ap (drop 1) e))

-- the numeral of a positive number doesn't begin with 0
leading : (ds : List ℕ) → map (λ d. 48 + d) ds ≡ 48 ∷ [] → get_or ds 0 0 ≡ 0
leading [] e = refl
leading (a ∷ ds) e = let first : 48 + a ≡ 48 = ap (λ l. get_or l 0 0) e in omega (arith, first)

not_zero : (k : ℕ) → 0 < k → numeral k ≢ 48 ∷ []
not_zero k h e =
    let z = leading (digits_of 10 k) (sym (numeral_more k h) ∙ e) in
    omega (arith, z, first_digits_of 10 k (omega arith) h)

numeral_one : (j k : ℕ) → numeral j ≡ numeral k → j ≡ k
numeral_one j k e = by_tests (eqb j 0) (eqb k 0) refl refl
  where
    positive : (n : ℕ) → eqb n 0 ≡ false → 0 < n
    positive n h = omega (arith, eqb-false n 0 h)

    by_tests : (a b : Bool) → eqb j 0 ≡ a → eqb k 0 ≡ b → j ≡ k
    by_tests true true p q = omega (arith, eqb-true j 0 p, eqb-true k 0 q)
    by_tests true false p q = absurd (not_zero k (positive k q) (sym e ∙ numeral_zero j (eqb-true j 0 p)))
    by_tests false true p q = absurd (not_zero j (positive j p) (e ∙ numeral_zero k (eqb-true k 0 q)))
    by_tests false false p q = same_from_digits_of 10 j k (omega arith) (shifted_one _ _ (sym (numeral_more j (positive j p)) ∙ e ∙ numeral_more k (positive k q)))

pub numeral_decimal : (k : ℕ) → k < 2 ^ 64 → numeral k ≡ decimal k
numeral_decimal k h = by_test (eqb k 0) refl
  where
    by_test : (b : Bool) → eqb k 0 ≡ b → numeral k ≡ decimal k
    by_test true e = let z : k ≡ 0 = eqb-true k 0 e in numeral_zero k z ∙ ap (λ d. (48 + d) ∷ []) (sym z) ∙ sym (decimal_digit k (omega arith))
    by_test false e = let p : 0 < k = omega (arith, eqb-false k 0 e) in numeral_more k p ∙ sym (decimal-digits_of k p h)

-- ---- inserted names

text_of : Name → List ℕ
text_of (Number n) = []
text_of (Text x) = x

pub msan_decimal : (k : ℕ) → k < 2 ^ 64 → msan_name k ≡ Text (codes "__msan." ++ decimal k)
msan_decimal k h = ap (λ l. Text (codes "__msan." ++ l)) (numeral_decimal k h)

pub msan_name_one : (j k : ℕ) → msan_name j ≡ msan_name k → j ≡ k
unfolding text_of
msan_name_one j k e = numeral_one j k (append_cancel_left (codes "__msan.") (numeral j) (numeral k) (ap text_of e))

pub mask_name_one : (v u : ℕ) → mask_name v ≡ mask_name u → v ≡ u
mask_name_one v u e = omega (arith, msan_name_one (2 * v + 1) (2 * u + 1) e)

pub origin_name_one : (v u : ℕ) → origin_name v ≡ origin_name u → v ≡ u
origin_name_one v u e = omega (arith, msan_name_one (2 * v + 2) (2 * u + 2) e)

pub mask_not_origin : (v u : ℕ) → mask_name v ≢ origin_name u
mask_not_origin v u e = omega (arith, msan_name_one (2 * v + 1) (2 * u + 2) e)

pub msan_reserved : (k : ℕ) → is_reserved (msan_name k) ≡ true
msan_reserved k = refl

pub own_not_msan : (x : Name) (k : ℕ) → is_reserved x ≡ false → x ≢ msan_name k
own_not_msan x k h e = let clash : true ≡ false = sym (msan_reserved k) ∙ ap is_reserved (sym e) ∙ h in grind arith

pub own_below : (base : ℕ) (x : Name) → is_reserved x ≡ false → Below base x
own_below base x h k e = absurd (own_not_msan x k h e)

pub msan_below : (base k : ℕ) → k < base → Below base (msan_name k)
msan_below base k h j e = omega (arith, msan_name_one k j e)

pub below_more : (a b : ℕ) → a ≤ b → (x : Name) → Below a x → Below b x
below_more a b le x h k e = omega (arith, h k e)

pub mask_below : (size base v : ℕ) → 2 * size + 1 ≤ base → v < size → Below base (mask_name v)
mask_below size base v room less = msan_below base (2 * v + 1) (omega arith)

pub origin_below : (size base v : ℕ) → 2 * size + 1 ≤ base → v < size → Below base (origin_name v)
origin_below size base v room less = msan_below base (2 * v + 2) (omega arith)
