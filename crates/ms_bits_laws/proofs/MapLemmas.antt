-- Maps of bytes changed in a range: what they hold inside and outside, and the numbers loaded from them.
use Rattle.std.proofs.Common.{◌≡◌, ℕ, zero, suc, ◌+◌, ◌-◌, ◌*◌, ◌/◌, ◌%◌, ◌^◌, ◌<◌, ◌≤◌, true, false, refl, sym, ap, ap₂, ◌∙◌, arith, ◌∷◌}
use Rattle.std.specs.Prelude.{if◌then◌else◌}
use Rattle.std.proofs.Math.Nat.{pow-succ', one-le-pow, mul_left_comm, div-add-mod}
use Rattle.std.proofs.lemmas.Bool.{le-leb, lt-ltb}
use Rattle.std.proofs.lemmas.Nat.{mod_below, mod-mul-add}
use Rattle.ms_bits.specs.Maps.{within, with_range, byte_of, number_at, bytes_at, copied}

-- ---- inside and outside

pub within-true : (a n x : ℕ) → a ≤ x → x < a + n → within a n x ≡ true
within-true a n x p q = grind (arith, le-leb, lt-ltb)

within-low : (a n x : ℕ) → x < a → within a n x ≡ false
within-low a n x p = grind arith

within-high : (a n x : ℕ) → a + n ≤ x → within a n x ≡ false
within-high a n x p = grind arith

pub range_inside : (map : ℕ → ℕ) (a n : ℕ) (new : ℕ → ℕ) (k : ℕ) → k < n → with_range map a n new (a + k) ≡ new k
range_inside map a n new k l =
    let e : a + k - a ≡ k = omega arith in
    ap (λ b. if b then new (a + k - a) else map (a + k)) (within-true a n (a + k) (omega arith) (omega arith)) ∙ ap new e

pub range_below : (map : ℕ → ℕ) (a n : ℕ) (new : ℕ → ℕ) (x : ℕ) → x < a → with_range map a n new x ≡ map x
range_below map a n new x l = ap (λ b. if b then new (x - a) else map x) (within-low a n x l)

pub range_above : (map : ℕ → ℕ) (a n : ℕ) (new : ℕ → ℕ) (x : ℕ) → a + n ≤ x → with_range map a n new x ≡ map x
range_above map a n new x l = ap (λ b. if b then new (x - a) else map x) (within-high a n x l)

-- ---- numbers

-- a number's remainder at one more byte
one_more_byte : (v p : ℕ) → 1 ≤ p → v % 256 + 256 * (v / 256 % p) ≡ v % (256 * p)
one_more_byte v p some =
    let below : v / 256 % p < p = mod_below (v / 256) p some in
    let parts : v / 256 / p * (256 * p) + (v % 256 + 256 * (v / 256 % p)) ≡ v =
    omega (arith, mul_left_comm (v / 256 / p) 256 p, mul_left_comm 256 p (v / 256 / p), div-add-mod (v / 256) p, commuted) in
    sym (mod-mul-add (v / 256 / p) (256 * p) (v % 256 + 256 * (v / 256 % p)) (omega (arith, below))) ∙ ap (λ x. x % (256 * p)) parts
  where
    commuted : v / 256 / p * p ≡ p * (v / 256 / p)
    commuted = omega arith

-- the number that n places hold which have the bytes of another
pub number_of_bytes : (n a v : ℕ) (map : ℕ → ℕ) → ((k : ℕ) → k < n → map (a + k) ≡ byte_of v k) → number_at map a n ≡ v % 256 ^ n
number_of_bytes zero a v map h = omega arith
number_of_bytes (suc n) a v map h =
    let here : a + 0 ≡ a = omega arith in
    let first : map a ≡ v % 256 = ap map (sym here) ∙ h 0 (omega arith) in
    let rest : number_at map (a + 1) n ≡ v / 256 % 256 ^ n =
    number_of_bytes n (a + 1) (v / 256) map (λ k l. let next : a + 1 + k ≡ a + suc k = omega arith in ap map next ∙ h (suc k) (omega arith)) in
    ap₂ (λ x y. x + 256 * y) first rest ∙ one_more_byte v (256 ^ n) (one-le-pow n 256 (omega arith)) ∙ ap (λ x. v % x) (sym (pow-succ' 256 n))

pub stored_is_loaded : (map : ℕ → ℕ) (a n v : ℕ) → number_at (with_range map a n (byte_of v)) a n ≡ v % 256 ^ n
stored_is_loaded map a n v = number_of_bytes n a v (with_range map a n (byte_of v)) (λ k l. range_inside map a n (byte_of v) k l)

-- places that hold the same give the same number
pub same_number : (n a b : ℕ) (map other : ℕ → ℕ) → ((k : ℕ) → k < n → map (a + k) ≡ other (b + k)) → number_at map a n ≡ number_at other b n
same_number zero a b map other h = refl
same_number (suc n) a b map other h =
    let here : a + 0 ≡ a = omega arith in
    let there : b + 0 ≡ b = omega arith in
    ap₂ (λ x y. x + 256 * y) (ap map (sym here) ∙ h 0 (omega arith) ∙ ap other there) (same_number n (a + 1) (b + 1) map other (λ k l.
    let e : a + 1 + k ≡ a + suc k = omega arith in
    let f : b + suc k ≡ b + 1 + k = omega arith in
    ap map e ∙ h (suc k) (omega arith) ∙ ap other f))

pub same_bytes : (n a b : ℕ) (map other : ℕ → ℕ) → ((k : ℕ) → k < n → map (a + k) ≡ other (b + k)) → bytes_at map a n ≡ bytes_at other b n
same_bytes zero a b map other h = refl
same_bytes (suc n) a b map other h =
    let here : a + 0 ≡ a = omega arith in
    let there : b + 0 ≡ b = omega arith in
    ap₂ (λ x y. x ∷ y) (ap map (sym here) ∙ h 0 (omega arith) ∙ ap other there) (same_bytes n (a + 1) (b + 1) map other (λ k l.
    let e : a + 1 + k ≡ a + suc k = omega arith in
    let f : b + suc k ≡ b + 1 + k = omega arith in
    ap map e ∙ h (suc k) (omega arith) ∙ ap other f))

pub byte_of-lt : (v k : ℕ) → byte_of v k < 256
byte_of-lt v zero = omega arith
byte_of-lt v (suc k) = byte_of-lt (v / 256) k

pub number_at-lt : (n a : ℕ) (map : ℕ → ℕ) → ((k : ℕ) → k < n → map (a + k) < 256) → number_at map a n < 256 ^ n
number_at-lt zero a map h = omega arith
number_at-lt (suc n) a map h =
    let here : a + 0 ≡ a = omega arith in
    let first : map (a + 0) ≡ map a = ap map here in
    let rest : number_at map (a + 1) n < 256 ^ n = number_at-lt n (a + 1) map (λ k l.
    let e : a + suc k ≡ a + 1 + k = omega arith in
    let t : map (a + suc k) ≡ map (a + 1 + k) = ap map e in
    omega (arith, t, h (suc k) (omega arith))) in
    omega (arith, first, h 0 (omega arith), rest, pow-succ' 256 n)

-- the bytes of a number that is loaded are those that were there
pub loaded_byte : (n a k : ℕ) (map : ℕ → ℕ) → k < n → ((j : ℕ) → j < n → map (a + j) < 256) → byte_of (number_at map a n) k ≡ map (a + k)
loaded_byte zero a k map l h = absurd (omega arith)
loaded_byte (suc n) a zero map l h =
    let here : a + 0 ≡ a = omega arith in
    let first : map (a + 0) ≡ map a = ap map here in
    omega (arith, first, h 0 (omega arith))
loaded_byte (suc n) a (suc k) map l h =
    let here : a + 0 ≡ a = omega arith in
    let first : map (a + 0) ≡ map a = ap map here in
    let rest : (map a + 256 * number_at map (a + 1) n) / 256 ≡ number_at map (a + 1) n = omega (arith, first, h 0 (omega arith)) in
    let next : a + 1 + k ≡ a + suc k = omega arith in
    ap (λ x. byte_of x k) rest ∙ loaded_byte n (a + 1) k map (omega arith) (λ j lj.
    let e : a + suc j ≡ a + 1 + j = omega arith in
    let t : map (a + suc j) ≡ map (a + 1 + j) = ap map e in
    omega (arith, t, h (suc j) (omega arith))) ∙ ap map next

-- a load from other places is as before
pub load_elsewhere : (map : ℕ → ℕ) (a n : ℕ) (new : ℕ → ℕ) (b m : ℕ) → (b + m ≤ a) → number_at (with_range map a n new) b m ≡ number_at map b m
load_elsewhere map a n new b m l = same_number m b b (with_range map a n new) map (λ k lk. range_below map a n new (b + k) (omega arith))

pub load_elsewhere_above : (map : ℕ → ℕ) (a n : ℕ) (new : ℕ → ℕ) (b m : ℕ) → (a + n ≤ b) → number_at (with_range map a n new) b m ≡ number_at map b m
load_elsewhere_above map a n new b m l = same_number m b b (with_range map a n new) map (λ k lk. range_above map a n new (b + k) (omega arith))

-- ---- copies

pub copied_number : (map : ℕ → ℕ) (to from n : ℕ) → number_at (copied map to from n) to n ≡ number_at map from n
copied_number map to from n = same_number n to from (copied map to from n) map (λ k l. range_inside map to n (λ j. map (from + j)) k l)

pub copied_bytes : (map : ℕ → ℕ) (to from n : ℕ) → bytes_at (copied map to from n) to n ≡ bytes_at map from n
copied_bytes map to from n = same_bytes n to from (copied map to from n) map (λ k l. range_inside map to n (λ j. map (from + j)) k l)
