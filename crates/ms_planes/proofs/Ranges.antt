-- A map changed in a range: what it holds inside and outside, and the last place of the range.
use Rattle.std.proofs.Common.{◌≡◌, ◌≢◌, ℕ, zero, suc, ◌+◌, ◌-◌, ◌/◌, ◌<◌, ◌≤◌, Bool, true, false, List, ◌++◌, length, get_or, set, take, drop, refl, sym, ap, ◌∙◌, arith, ⊎_elim, if◌then◌else◌, eqb, Some, None}
use Rattle.std.proofs.Math.Path.{fun_ext}
use Rattle.std.proofs.lemmas.Bool.{le-leb, lt-leb, lt-ltb, le-ltb, cases_lt, cases_eq, eq-eqb, ne_eqb, and_from, and_left, and_right}
use Rattle.std.proofs.lemmas.List.{length-take-le, length-take, length-drop, length-append, get_or-set_other, get_or-set_same, get_or_append_left, get_or-append_right, get_or-take, get_or-drop, get_or_past}
use Rattle.ms_bits.specs.Maps.{within, with_range, first_nonzero, touches, with_cells, with_cell, copied_cells}
use Rattle.ms_planes.specs.Areas.{held}

pub within-true : (a n x : ℕ) → a ≤ x → x < a + n → within a n x ≡ true
within-true a n x p q = and_from _ _ (le-leb a x p) (lt-ltb x (a + n) q)

pub within-low : (a n x : ℕ) → x < a → within a n x ≡ false
within-low a n x p = and_left _ _ (lt-leb a x p)

pub within-high : (a n x : ℕ) → a + n ≤ x → within a n x ≡ false
within-high a n x p = and_right _ _ (le-ltb x (a + n) p)

pub range-in : (f g : ℕ → ℕ) (a n x : ℕ) → a ≤ x → x < a + n → with_range f a n g x ≡ g (x - a)
range-in f g a n x p q = ap (λ b. if b then g (x - a) else f x) (within-true a n x p q)

pub range-low : (f g : ℕ → ℕ) (a n x : ℕ) → x < a → with_range f a n g x ≡ f x
range-low f g a n x p = ap (λ b. if b then g (x - a) else f x) (within-low a n x p)

pub range-high : (f g : ℕ → ℕ) (a n x : ℕ) → a + n ≤ x → with_range f a n g x ≡ f x
range-high f g a n x p = ap (λ b. if b then g (x - a) else f x) (within-high a n x p)

-- a map that is g inside the range and f outside is the changed map
pub range-is : (f g h : ℕ → ℕ) (a n : ℕ) → ((x : ℕ) → x < a → h x ≡ f x) → ((x : ℕ) → a + n ≤ x → h x ≡ f x) → ((x : ℕ) → a ≤ x → x < a + n → h x ≡ g (x - a)) → h ≡ with_range f a n g
range-is f g h a n low high inside =
    fun_ext (λ x. ⊎_elim
    (λ (p : x < a). low x p ∙ sym (range-low f g a n x p))
    (λ (p : a ≤ x). ⊎_elim
    (λ (q : x < a + n). inside x p q ∙ sym (range-in f g a n x p q))
    (λ (q : a + n ≤ x). high x q ∙ sym (range-high f g a n x q))
    (cases_lt x (a + n)))
    (cases_lt x a))

pub range-none : (f g : ℕ → ℕ) (a : ℕ) → f ≡ with_range f a 0 g
range-none f g a = range-is f g f a 0 (λ x p. refl) (λ x p. refl) (λ x p q. absurd (omega arith))

-- one place more
pub range-more : (xs : List ℕ) (f g : ℕ → ℕ) (a n b : ℕ) → a + n < length xs → held xs ≡ with_range f a n g → b ≡ g n → held (set xs (a + n) b) ≡ with_range f a (n + 1) g
range-more xs f g a n b inside before is =
    range-is f g (held (set xs (a + n) b)) a (n + 1)
    (λ x p. get_or-set_other xs (a + n) x b 0 (λ e. omega arith) ∙ at x ∙ range-low f g a n x p)
    (λ x p. get_or-set_other xs (a + n) x b 0 (λ e. omega arith) ∙ at x ∙ range-high f g a n x (omega arith))
    (λ x p q. ⊎_elim
    (λ (e : x ≡ a + n). ap (λ k. get_or (set xs (a + n) b) k 0) e ∙ get_or-set_same xs (a + n) b 0 inside ∙ is ∙ ap g (omega (arith, e)))
    (λ (e : x ≡ a + n → ⊥). get_or-set_other xs (a + n) x b 0 e ∙ at x ∙ range-in f g a n x p (strict x q e))
    (cases_eq x (a + n)))
  where
    at : (x : ℕ) → held xs x ≡ with_range f a n g x
    at x = ap (λ (h : ℕ → ℕ). h x) before

    strict : (x : ℕ) → x < a + (n + 1) → (x ≡ a + n → ⊥) → x < a + n
    strict x q e = grind arith

-- a part of a list is replaced by a list of its length
pub splice : (len at n k : ℕ) (d w r : List ℕ) → length w ≡ n → k ≡ n → at + n ≤ length d → len ≡ length d →
    held (take len ((take at d ++ (w ++ drop k (drop at d))) ++ r)) ≡ with_range (held d) at n (held w)
splice len at n k d w r lw kn inside le =
    range-is (held d) (held w) (held (take len (whole ++ r))) at n
    (λ x low. top x (omega arith) ∙ get_or_append_left (take at d) (w ++ drop k (drop at d)) 0 x (omega (arith, front)) ∙ get_or-take at d x 0 low)
    (λ x high. ⊎_elim
    (λ (q : x < length d). top x q ∙ tail x (omega arith) ∙ get_or-append_right w (drop k (drop at d)) n (x - at) 0 lw (omega arith)
    ∙ get_or-drop k (drop at d) (x - at - n) 0 ∙ get_or-drop at d (k + (x - at - n)) 0 ∙ ap (held d) (let e : at + (k + (x - at - n)) ≡ x = omega arith in e))
    (λ (q : length d ≤ x). get_or_past (take len (whole ++ r)) x 0 (omega (arith, length-take len (whole ++ r))) ∙ sym (get_or_past d x 0 q))
    (cases_lt x (length d)))
    (λ x low high. top x (omega arith) ∙ tail x low ∙ get_or_append_left w (drop k (drop at d)) 0 (x - at) (omega arith))
  where
    whole : List ℕ
    whole = take at d ++ (w ++ drop k (drop at d))

    front : length (take at d) ≡ at
    front = length-take-le at d (omega arith)

    size : length whole ≡ length d
    size = omega (arith, length-append (take at d) (w ++ drop k (drop at d)), front, length-append w (drop k (drop at d)), length-drop k (drop at d), length-drop at d)

    top : (x : ℕ) → x < length d → held (take len (whole ++ r)) x ≡ held whole x
    top x l = get_or-take len (whole ++ r) x 0 (omega arith) ∙ get_or_append_left whole r 0 x (omega (arith, size))

    tail : (x : ℕ) → at ≤ x → held whole x ≡ held (w ++ drop k (drop at d)) (x - at)
    tail x l = get_or-append_right (take at d) (w ++ drop k (drop at d)) at x 0 front l

-- what stands in a range counts alone
pub range-same : (f g h : ℕ → ℕ) (a n : ℕ) → ((k : ℕ) → k < n → g k ≡ h k) → with_range f a n g ≡ with_range f a n h
range-same f g h a n same =
    range-is f h (with_range f a n g) a n (λ x low. range-low f g a n x low) (λ x high. range-high f g a n x high) (λ x low high. range-in f g a n x low high ∙ same (x - a) (omega arith))

-- the first byte of a range that isn't 0
pub nonzero-found : (f : ℕ → ℕ) (a n i : ℕ) → i < n → f (a + i) ≢ 0 → ((k : ℕ) → k < i → f (a + k) ≡ 0) → Some (a + i) ≡ first_nonzero f a n
nonzero-found f a zero i l some before = absurd (omega arith)
nonzero-found f a (suc n) zero l some before =
    let here : a + 0 ≡ a = omega arith in
    ap Some here ∙ sym (ap (λ b. if b then first_nonzero f (a + 1) n else Some a) (ne_eqb (f a) 0 (λ e. some (ap f here ∙ e))))
nonzero-found f a (suc n) (suc i) l some before =
    let here : a ≡ a + 0 = omega arith in
    let next : a + suc i ≡ a + 1 + i = omega arith in
    ap Some next
    ∙ nonzero-found f (a + 1) n i (omega arith) (λ e. some (ap f next ∙ e)) (λ k m. ap f (let e : a + 1 + k ≡ a + suc k = omega arith in e) ∙ before (suc k) (omega arith))
    ∙ sym (ap (λ b. if b then first_nonzero f (a + 1) n else Some a) (eq-eqb (f a) 0 (ap f here ∙ before 0 (omega arith))))

pub nonzero-none : (f : ℕ → ℕ) (a n : ℕ) → ((k : ℕ) → k < n → f (a + k) ≡ 0) → None ≡ first_nonzero f a n
nonzero-none f a zero before = refl
nonzero-none f a (suc n) before =
    let here : a ≡ a + 0 = omega arith in
    nonzero-none f (a + 1) n (λ k m. ap f (let e : a + 1 + k ≡ a + suc k = omega arith in e) ∙ before (suc k) (omega arith))
    ∙ sym (ap (λ b. if b then first_nonzero f (a + 1) n else Some a) (eq-eqb (f a) 0 (ap f here ∙ before 0 (omega arith))))

-- one place
pub range-one : (xs : List ℕ) (a b : ℕ) → a + 1 ≤ length xs → held (set xs a b) ≡ with_range (held xs) a 1 (λ k. b)
range-one xs a b inside =
    ap (λ (i : ℕ). held (set xs i b)) (let e : a ≡ a + 0 = omega arith in e)
    ∙ range-more xs (held xs) (λ k. b) a 0 b (omega arith) (range-none (held xs) (λ k. b) a) refl

-- the cells that a range touches, as a range of cells
pub touches-true : (a n c : ℕ) → 0 < n → a / 4 ≤ c → c ≤ (a + n - 1) / 4 → touches a n c ≡ true
touches-true a n c some low high = and_from _ _ (and_from _ _ (lt-ltb 0 n some) (le-leb (a / 4) c low)) (le-leb c ((a + n - 1) / 4) high)

pub touches-low : (a n c : ℕ) → c < a / 4 → touches a n c ≡ false
touches-low a n c low = and_left _ _ (and_right _ _ (lt-leb (a / 4) c low))

pub touches-high : (a n c : ℕ) → (a + n - 1) / 4 < c → touches a n c ≡ false
touches-high a n c high = and_right _ _ (lt-leb c ((a + n - 1) / 4) high)

pub range-cells : (f : ℕ → ℕ) (a n cell m o : ℕ) → 0 < n → cell ≡ a / 4 → cell + m ≡ (a + n - 1) / 4 + 1 → with_range f cell m (λ k. o) ≡ with_cells f a n o
range-cells f a n cell m o some at to =
    sym (range-is f (λ k. o) (with_cells f a n o) cell m
    (λ x low. ap (λ b. if b then o else f x) (touches-low a n x (omega (arith, at, low))))
    (λ x high. ap (λ b. if b then o else f x) (touches-high a n x (omega (arith, to, high))))
    (λ x low high. ap (λ b. if b then o else f x) (touches-true a n x some (omega (arith, at, low)) (omega (arith, to, high)))))

pub range-cell : (f : ℕ → ℕ) (a o : ℕ) → with_range f (a / 4) 1 (λ k. o) ≡ with_cell f a o
range-cell f a o =
    sym (range-is f (λ k. o) (with_cell f a o) (a / 4) 1
    (λ x low. ap (λ b. if b then o else f x) (ne_eqb x (a / 4) (λ e. omega arith)))
    (λ x high. ap (λ b. if b then o else f x) (ne_eqb x (a / 4) (λ e. omega arith)))
    (λ x low high. ap (λ b. if b then o else f x) (eq-eqb x (a / 4) (omega arith))))

pub no-cells : (f : ℕ → ℕ) (a n o : ℕ) → n ≡ 0 → with_cells f a n o ≡ f
no-cells f a n o none = fun_ext (λ c. ap (λ b. if b then o else f c) (and_left _ _ (and_left _ _ (le-ltb 0 n (omega (arith, none))))))

-- one byte of a copy of cells
pub copied-step : (shadow old f : ℕ → ℕ) (t s n k : ℕ) → k < n →
    copied_cells shadow old (t + k) (s + k) (n - k) f ≡ copied_cells shadow old (t + (k + 1)) (s + (k + 1)) (n - (k + 1)) (if eqb (shadow (s + k)) 0 then f else with_cell f (t + k) (old ((s + k) / 4)))
copied-step shadow old f t s n k l =
    let left : n - k ≡ suc (n - (k + 1)) = omega arith in
    let tn : t + k + 1 ≡ t + (k + 1) = omega arith in
    let sn : s + k + 1 ≡ s + (k + 1) = omega arith in
    let g : ℕ → ℕ = if eqb (shadow (s + k)) 0 then f else with_cell f (t + k) (old ((s + k) / 4)) in
    ap (λ (m : ℕ). copied_cells shadow old (t + k) (s + k) m f) left
    ∙ ap (λ (x : ℕ). copied_cells shadow old x (s + k + 1) (n - (k + 1)) g) tn
    ∙ ap (λ (x : ℕ). copied_cells shadow old (t + (k + 1)) x (n - (k + 1)) g) sn

pub copy-put : (shadow old f f' : ℕ → ℕ) (t s n k v : ℕ) → k < n → shadow (s + k) ≢ 0 → v ≡ old ((s + k) / 4) → f' ≡ with_range f ((t + k) / 4) 1 (λ i. v) →
    copied_cells shadow old (t + (k + 1)) (s + (k + 1)) (n - (k + 1)) f' ≡ copied_cells shadow old (t + k) (s + k) (n - k) f
copy-put shadow old f f' t s n k v l some is change =
    ap (copied_cells shadow old (t + (k + 1)) (s + (k + 1)) (n - (k + 1)))
    (change ∙ range-cell f (t + k) v ∙ ap (with_cell f (t + k)) is
    ∙ sym (ap (λ b. if b then f else with_cell f (t + k) (old ((s + k) / 4))) (ne_eqb (shadow (s + k)) 0 some)))
    ∙ sym (copied-step shadow old f t s n k l)

pub copy-skip : (shadow old f : ℕ → ℕ) (t s n k : ℕ) → k < n → shadow (s + k) ≡ 0 →
    copied_cells shadow old (t + (k + 1)) (s + (k + 1)) (n - (k + 1)) f ≡ copied_cells shadow old (t + k) (s + k) (n - k) f
copy-skip shadow old f t s n k l none =
    ap (copied_cells shadow old (t + (k + 1)) (s + (k + 1)) (n - (k + 1)))
    (sym (ap (λ b. if b then f else with_cell f (t + k) (old ((s + k) / 4))) (eq-eqb (shadow (s + k)) 0 none)))
    ∙ sym (copied-step shadow old f t s n k l)

-- clean bytes bring no origin
pub copy-clean : (shadow old f : ℕ → ℕ) (t s n : ℕ) → ((k : ℕ) → k < n → shadow (s + k) ≡ 0) → copied_cells shadow old t s n f ≡ f
copy-clean shadow old f t s zero clean = refl
copy-clean shadow old f t s (suc n) clean =
    let first : shadow s ≡ 0 = ap shadow (let e : s ≡ s + 0 = omega arith in e) ∙ clean 0 (omega arith) in
    ap (λ b. copied_cells shadow old (t + 1) (s + 1) n (if b then f else with_cell f t (old (s / 4)))) (eq-eqb (shadow s) 0 first)
    ∙ copy-clean shadow old f (t + 1) (s + 1) n (λ k l. ap shadow (let e : s + 1 + k ≡ s + suc k = omega arith in e) ∙ clean (suc k) (omega (arith, l)))

one-cell : (b : Bool) (f : ℕ → ℕ) (t v x : ℕ) → x ≢ t / 4 → (if b then f else with_cell f t v) x ≡ f x
one-cell true f t v x other = refl
one-cell false f t v x other = ap (λ c. if c then v else f x) (ne_eqb x (t / 4) other)

-- a copy of cells changes those of its bytes alone
pub copied-low : (shadow old : ℕ → ℕ) (t s n : ℕ) (f : ℕ → ℕ) (x : ℕ) → x < t / 4 → copied_cells shadow old t s n f x ≡ f x
copied-low shadow old t s zero f x low = refl
copied-low shadow old t s (suc n) f x low =
    copied-low shadow old (t + 1) (s + 1) n (if eqb (shadow s) 0 then f else with_cell f t (old (s / 4))) x (omega arith)
    ∙ one-cell (eqb (shadow s) 0) f t (old (s / 4)) x (λ e. omega arith)

pub copied-high : (shadow old : ℕ → ℕ) (t s n : ℕ) (f : ℕ → ℕ) (x : ℕ) → (t + n - 1) / 4 < x → copied_cells shadow old t s n f x ≡ f x
copied-high shadow old t s zero f x high = refl
copied-high shadow old t s (suc n) f x high =
    copied-high shadow old (t + 1) (s + 1) n (if eqb (shadow s) 0 then f else with_cell f t (old (s / 4))) x (omega arith)
    ∙ one-cell (eqb (shadow s) 0) f t (old (s / 4)) x (λ e. omega arith)
