-- A copy of origins in parts, and of a whole cell at once.
use Rattle.std.proofs.Common.{◌≡◌, ◌≢◌, ℕ, zero, suc, ◌+◌, ◌-◌, ◌*◌, ◌/◌, ◌%◌, ◌<◌, ◌≤◌, ◌⊎◌, Bool, true, false, sym, ap, ◌∙◌, arith, refl, ⊎_elim, eqb, if◌then◌else◌}
use Rattle.std.proofs.lemmas.Bool.{cases_eq, eq-eqb, ne_eqb}
use Rattle.ms_bits.specs.Maps.{with_range, with_cell, number_at, copied_cells}
use Rattle.ms_planes.proofs.Ranges.{range-is, copied-low, copied-high, copy-clean}

module _ (shadow old : ℕ → ℕ) where
  -- a copy of some bytes, and then of those that follow
  pub copied-parts : (t s n m : ℕ) (f : ℕ → ℕ) → copied_cells shadow old t s (n + m) f ≡ copied_cells shadow old (t + n) (s + n) m (copied_cells shadow old t s n f)
  copied-parts t s zero m f =
      ap (λ (k : ℕ). copied_cells shadow old t s k f) {x = zero + m} {y = m} (omega arith)
      ∙ ap (λ (x : ℕ). copied_cells shadow old x s m f) {x = t} {y = t + 0} (omega arith)
      ∙ ap (λ (x : ℕ). copied_cells shadow old (t + 0) x m f) {x = s} {y = s + 0} (omega arith)
  copied-parts t s (suc n) m f =
      let g : ℕ → ℕ = if eqb (shadow s) 0 then f else with_cell f t (old (s / 4)) in
      let done : ℕ → ℕ = copied_cells shadow old (t + 1) (s + 1) n g in
      ap (λ (k : ℕ). copied_cells shadow old t s k f) {x = suc n + m} {y = suc (n + m)} (omega arith)
      ∙ copied-parts (t + 1) (s + 1) n m g
      ∙ ap (λ (x : ℕ). copied_cells shadow old x (s + 1 + n) m done) {x = t + 1 + n} {y = t + suc n} (omega arith)
      ∙ ap (λ (x : ℕ). copied_cells shadow old (t + suc n) x m done) {x = s + 1 + n} {y = s + suc n} (omega arith)

  step-holds : (b : Bool) (f : ℕ → ℕ) (t c v w : ℕ) → c ≡ t / 4 → v ≡ w → f c ≡ w → (if b then f else with_cell f t v) c ≡ w
  step-holds true f t c v w at is e = e
  step-holds false f t c v w at is e = ap (λ (b : Bool). if b then v else f c) (eq-eqb c (t / 4) at) ∙ is

  -- bytes of one cell bring one origin: it stays once it is there
  holds : (t s n c d : ℕ) (f : ℕ → ℕ) → c * 4 ≤ t → t + n ≤ c * 4 + 4 → d * 4 ≤ s → s + n ≤ d * 4 + 4 → f c ≡ old d → copied_cells shadow old t s n f c ≡ old d
  holds t s zero c d f p q p' q' e = e
  holds t s (suc n) c d f p q p' q' e =
      holds (t + 1) (s + 1) n c d (if eqb (shadow s) 0 then f else with_cell f t (old (s / 4))) (omega arith) (omega arith) (omega arith) (omega arith)
      (step-holds (eqb (shadow s) 0) f t c (old (s / 4)) (old d) (omega arith) (ap old (let same : s / 4 ≡ d = omega arith in same)) e)

  -- and it comes with the first of them that is marked
  comes : (t s n k c d : ℕ) (f : ℕ → ℕ) → c * 4 ≤ t → t + n ≤ c * 4 + 4 → d * 4 ≤ s → s + n ≤ d * 4 + 4 → k < n → shadow (s + k) ≢ 0 → copied_cells shadow old t s n f c ≡ old d
  comes t s zero k c d f p q p' q' l some = absurd (omega arith)
  comes t s (suc n) zero c d f p q p' q' l some =
      let v : ℕ = old (s / 4) in
      let here : s + 0 ≡ s = omega arith in
      holds (t + 1) (s + 1) n c d (if eqb (shadow s) 0 then f else with_cell f t v) (omega arith) (omega arith) (omega arith) (omega arith)
      (ap (λ (b : Bool). (if b then f else with_cell f t v) c) (ne_eqb (shadow s) 0 (λ e. some (ap shadow here ∙ e)))
      ∙ ap (λ (b : Bool). if b then v else f c) (eq-eqb c (t / 4) (omega arith)) ∙ ap old (let same : s / 4 ≡ d = omega arith in same))
  comes t s (suc n) (suc k) c d f p q p' q' l some =
      comes (t + 1) (s + 1) n k c d (if eqb (shadow s) 0 then f else with_cell f t (old (s / 4))) (omega arith) (omega arith) (omega arith) (omega arith) (omega arith)
      (λ e. some (ap shadow (let next : s + suc k ≡ s + 1 + k = omega arith in next) ∙ e))

  -- a cell whose source has a marked byte
  pub cell-marked : (t s : ℕ) (f : ℕ → ℕ) → number_at shadow (s * 4) 4 ≢ 0 → copied_cells shadow old (t * 4) (s * 4) 4 f ≡ with_range f t 1 (λ k. old s)
  cell-marked t s f some =
      let got : (k : ℕ) → k < 4 → shadow (s * 4 + k) ≢ 0 → copied_cells shadow old (t * 4) (s * 4) 4 f t ≡ old s =
      λ k l marked. comes (t * 4) (s * 4) 4 k t s f (omega arith) (omega arith) (omega arith) (omega arith) l marked in
      let value : copied_cells shadow old (t * 4) (s * 4) 4 f t ≡ old s = ⊎_elim
      (λ (e0 : shadow (s * 4 + 0) ≡ 0). ⊎_elim
      (λ (e1 : shadow (s * 4 + 1) ≡ 0). ⊎_elim
      (λ (e2 : shadow (s * 4 + 2) ≡ 0). ⊎_elim
      (λ (e3 : shadow (s * 4 + 3) ≡ 0). absurd (some (none (s * 4) e0 e1 e2 e3)))
      (got 3 (omega arith)) (cases_eq (shadow (s * 4 + 3)) 0))
      (got 2 (omega arith)) (cases_eq (shadow (s * 4 + 2)) 0))
      (got 1 (omega arith)) (cases_eq (shadow (s * 4 + 1)) 0))
      (got 0 (omega arith)) (cases_eq (shadow (s * 4 + 0)) 0) in
      range-is f (λ k. old s) (copied_cells shadow old (t * 4) (s * 4) 4 f) t 1
      (λ x low. copied-low shadow old (t * 4) (s * 4) 4 f x (omega arith))
      (λ x high. copied-high shadow old (t * 4) (s * 4) 4 f x (omega arith))
      (λ x low high. ap (copied_cells shadow old (t * 4) (s * 4) 4 f) (let same : x ≡ t = omega arith in same) ∙ value)
    where
      none : (a : ℕ) → shadow (a + 0) ≡ 0 → shadow (a + 1) ≡ 0 → shadow (a + 2) ≡ 0 → shadow (a + 3) ≡ 0 → number_at shadow a 4 ≡ 0
      none a e0 e1 e2 e3 =
          let s0 : shadow a ≡ shadow (a + 0) = ap shadow (let e : a ≡ a + 0 = omega arith in e) in
          let s2 : shadow (a + 1 + 1) ≡ shadow (a + 2) = ap shadow (let e : a + 1 + 1 ≡ a + 2 = omega arith in e) in
          let s3 : shadow (a + 1 + 1 + 1) ≡ shadow (a + 3) = ap shadow (let e : a + 1 + 1 + 1 ≡ a + 3 = omega arith in e) in
          omega (arith, e0, e1, e2, e3, s0, s2, s3)

  -- a cell whose source has none
  cell-clean : (t s : ℕ) (f : ℕ → ℕ) → number_at shadow (s * 4) 4 ≡ 0 → copied_cells shadow old (t * 4) (s * 4) 4 f ≡ f
  cell-clean t s f none = copy-clean shadow old f (t * 4) (s * 4) 4 (λ k l. each (s * 4) k none l)
    where
      each : (a k : ℕ) → number_at shadow a 4 ≡ 0 → k < 4 → shadow (a + k) ≡ 0
      each a zero e l = ap shadow (let s0 : a + 0 ≡ a = omega arith in s0) ∙ (let z : shadow a ≡ 0 = omega (arith, e) in z)
      each a (suc zero) e l = let z : shadow (a + 1) ≡ 0 = omega (arith, e) in z
      each a (suc (suc zero)) e l = ap shadow (let s2 : a + 2 ≡ a + 1 + 1 = omega arith in s2) ∙ (let z : shadow (a + 1 + 1) ≡ 0 = omega (arith, e) in z)
      each a (suc (suc (suc zero))) e l = ap shadow (let s3 : a + 3 ≡ a + 1 + 1 + 1 = omega arith in s3) ∙ (let z : shadow (a + 1 + 1 + 1) ≡ 0 = omega (arith, e) in z)
      each a (suc (suc (suc (suc k)))) e l = absurd (omega arith)

  -- and keeps its origin
  pub cell-kept : (t s : ℕ) (f : ℕ → ℕ) → number_at shadow (s * 4) 4 ≡ 0 → copied_cells shadow old (t * 4) (s * 4) 4 f ≡ with_range f t 1 (λ k. f t)
  cell-kept t s f none =
      cell-clean t s f none ∙ range-is f (λ k. f t) f t 1 (λ x low. refl) (λ x high. refl) (λ x low high. ap f (let same : x ≡ t = omega arith in same))

  -- one cell of a row of cells
  pub cells-step : (f g : ℕ → ℕ) (t s n i : ℕ) → i < n → copied_cells shadow old ((t + i) * 4) ((s + i) * 4) 4 f ≡ g →
      copied_cells shadow old ((t + (i + 1)) * 4) ((s + (i + 1)) * 4) ((n - (i + 1)) * 4) g ≡ copied_cells shadow old ((t + i) * 4) ((s + i) * 4) ((n - i) * 4) f
  cells-step f g t s n i l is =
      let left : ℕ = (n - (i + 1)) * 4 in
      let done : ℕ → ℕ = copied_cells shadow old ((t + i) * 4) ((s + i) * 4) 4 f in
      sym (ap (λ (k : ℕ). copied_cells shadow old ((t + i) * 4) ((s + i) * 4) k f) {x = (n - i) * 4} {y = 4 + left} (omega arith)
      ∙ copied-parts ((t + i) * 4) ((s + i) * 4) 4 left f
      ∙ ap (λ (x : ℕ). copied_cells shadow old x ((s + i) * 4 + 4) left done) {x = (t + i) * 4 + 4} {y = (t + (i + 1)) * 4} (omega arith)
      ∙ ap (λ (x : ℕ). copied_cells shadow old ((t + (i + 1)) * 4) x left done) {x = (s + i) * 4 + 4} {y = (s + (i + 1)) * 4} (omega arith)
      ∙ ap (copied_cells shadow old ((t + (i + 1)) * 4) ((s + (i + 1)) * 4) left) is)

  -- whole cells, and what stands before and after them
  pub whole-between : (f g h r : ℕ → ℕ) (t s n head whole c d : ℕ) → c ≡ (t + head) / 4 → d ≡ (s + head) / 4 → head + whole * 4 ≤ n → (whole ≡ 0) ⊎ ((t + head) % 4 ≡ 0) → t % 4 ≡ s % 4 →
      g ≡ copied_cells shadow old t s head f → h ≡ copied_cells shadow old (c * 4) (d * 4) (whole * 4) g →
      r ≡ copied_cells shadow old (t + (head + whole * 4)) (s + (head + whole * 4)) (n - (head + whole * 4)) h → r ≡ copied_cells shadow old t s n f
  whole-between f g h r t s n head whole c d there here within even same first middle last =
      let m : ℕ = whole * 4 in
      let rest : ℕ = n - (head + m) in
      let placed : h ≡ copied_cells shadow old (t + head) (s + head) m g = ⊎_elim
      (λ (e : whole ≡ 0). middle ∙ ap (λ (k : ℕ). copied_cells shadow old (c * 4) (d * 4) k g) {x = m} {y = zero} (omega (arith, e))
      ∙ ap (λ (k : ℕ). copied_cells shadow old (t + head) (s + head) k g) {x = zero} {y = m} (omega (arith, e)))
      (λ (e : (t + head) % 4 ≡ 0). middle
      ∙ ap (λ (x : ℕ). copied_cells shadow old x (d * 4) m g) {x = c * 4} {y = t + head} (omega (arith, e, there))
      ∙ ap (λ (x : ℕ). copied_cells shadow old (t + head) x m g) {x = d * 4} {y = s + head} (omega (arith, e, same, here)))
      even in
      let both : h ≡ copied_cells shadow old t s (head + m) f =
      placed ∙ ap (copied_cells shadow old (t + head) (s + head) m) first ∙ sym (copied-parts t s head m f) in
      last ∙ ap (copied_cells shadow old (t + (head + m)) (s + (head + m)) rest) both
      ∙ sym (copied-parts t s (head + m) rest f) ∙ ap (λ (k : ℕ). copied_cells shadow old t s k f) {x = head + m + rest} {y = n} (omega (arith, within))
