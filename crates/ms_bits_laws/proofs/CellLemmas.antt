-- Origins of cells after a store or a copy.
use Rattle.std.proofs.Common.{◌≡◌, ◌≢◌, ℕ, zero, suc, ◌+◌, ◌-◌, ◌*◌, ◌/◌, ◌<◌, ◌≤◌, ◌↔◌, true, eqb, refl, sym, ap, ◌∙◌, arith, ⊎_elim}
use Rattle.std.specs.Prelude.{if◌then◌else◌}
use Rattle.std.proofs.lemmas.Bool.{cases_lt, cases_eq, cases_Bool, and_from, and_parts, le-leb, lt-ltb, leb-true, ltb-true, eq-eqb, ne_eqb}
use Rattle.ms_bits.specs.Maps.{touches, with_cells, with_cell, copied_cells}

-- ---- cells touched

touched : (a n cell : ℕ) → touches a n cell ≡ true → (k : ℕ) × (k < n) × ((a + k) / 4 ≡ cell)
touched a n cell t =
    let outer = and_parts _ _ t in
    let inner = and_parts _ _ outer.0 in
    let some : 0 < n = ltb-true 0 n inner.0 in
    let low : a / 4 ≤ cell = leb-true (a / 4) cell inner.1 in
    let high : cell ≤ (a + n - 1) / 4 = leb-true cell ((a + n - 1) / 4) outer.1 in
    ⊎_elim
    (λ before. (4 * cell - a, omega arith, omega arith))
    (λ after. (0, some, omega arith))
    (cases_lt a (4 * cell))

touched_back : (a n cell k : ℕ) → k < n → (a + k) / 4 ≡ cell → touches a n cell ≡ true
touched_back a n cell k l e =
    and_from _ _ (and_from _ _ (lt-ltb 0 n (omega arith)) (le-leb (a / 4) cell (omega arith))) (le-leb cell ((a + n - 1) / 4) (omega arith))

pub touched_cells : (a n cell : ℕ) → (touches a n cell ≡ true) ↔ ((k : ℕ) × (k < n) × ((a + k) / 4 ≡ cell))
touched_cells a n cell = (touched a n cell, λ (k, l, e). touched_back a n cell k l e)

pub cells_inside : (cells : ℕ → ℕ) (a n origin k : ℕ) → k < n → with_cells cells a n origin ((a + k) / 4) ≡ origin
cells_inside cells a n origin k l = ap (λ b. if b then origin else cells ((a + k) / 4)) (touched_back a n ((a + k) / 4) k l refl)

pub cells_outside : (cells : ℕ → ℕ) (a n origin cell : ℕ) → ((k : ℕ) → k < n → (a + k) / 4 ≢ cell) → with_cells cells a n origin cell ≡ cells cell
cells_outside cells a n origin cell h = ⊎_elim
    (λ t. let (k, l, e) = touched a n cell t in absurd (h k l e))
    (λ f. ap (λ b. if b then origin else cells cell) f)
    (cases_Bool (touches a n cell))

pub cell_inside : (cells : ℕ → ℕ) (a origin : ℕ) → with_cell cells a origin (a / 4) ≡ origin
cell_inside cells a origin = ap (λ b. if b then origin else cells (a / 4)) (eq-eqb (a / 4) (a / 4) refl)

pub cell_outside : (cells : ℕ → ℕ) (a origin cell : ℕ) → cell ≢ a / 4 → with_cell cells a origin cell ≡ cells cell
cell_outside cells a origin cell h = ap (λ b. if b then origin else cells cell) (ne_eqb cell (a / 4) h)

-- ---- copies of origins

-- the map after the first byte
stepped : (shadow old : ℕ → ℕ) (to from : ℕ) (cells : ℕ → ℕ) → (ℕ → ℕ)
stepped shadow old to from cells = if eqb (shadow from) 0 then cells else with_cell cells to (old (from / 4))

stepped_kept : (shadow old : ℕ → ℕ) (to from : ℕ) (cells : ℕ → ℕ) (cell : ℕ) → (shadow from ≢ 0 → to / 4 ≢ cell) → stepped shadow old to from cells cell ≡ cells cell
unfolding stepped
stepped_kept shadow old to from cells cell h = ⊎_elim
    (λ z. ap (λ b. (if b then cells else with_cell cells to (old (from / 4))) cell) (eq-eqb (shadow from) 0 z))
    (λ n. ap (λ b. (if b then cells else with_cell cells to (old (from / 4))) cell) (ne_eqb (shadow from) 0 n) ∙ cell_outside cells to (old (from / 4)) cell (λ e. h n (sym e)))
    (cases_eq (shadow from) 0)

stepped_put : (shadow old : ℕ → ℕ) (to from : ℕ) (cells : ℕ → ℕ) → shadow from ≢ 0 → stepped shadow old to from cells (to / 4) ≡ old (from / 4)
unfolding stepped
stepped_put shadow old to from cells n =
    ap (λ b. (if b then cells else with_cell cells to (old (from / 4))) (to / 4)) (ne_eqb (shadow from) 0 n) ∙ cell_inside cells to (old (from / 4))

pub copied_outside : (shadow old : ℕ → ℕ) (to from n : ℕ) (cells : ℕ → ℕ) (cell : ℕ)
    → ((k : ℕ) → k < n → shadow (from + k) ≢ 0 → (to + k) / 4 ≢ cell) → copied_cells shadow old to from n cells cell ≡ cells cell
unfolding stepped
copied_outside shadow old to from zero cells cell h = refl
copied_outside shadow old to from (suc n) cells cell h =
    copied_outside shadow old (to + 1) (from + 1) n (stepped shadow old to from cells) cell (λ k l s e.
    let t : from + 1 + k ≡ from + suc k = omega arith in
    let u : to + suc k ≡ to + 1 + k = omega arith in
    h (suc k) (omega arith) (λ z. s (ap shadow t ∙ z)) (ap (λ x. x / 4) u ∙ e))
    ∙ stepped_kept shadow old to from cells cell (λ s e.
    let t : from + 0 ≡ from = omega arith in
    let u : to + 0 ≡ to = omega arith in
    h 0 (omega arith) (λ z. s (sym (ap shadow t) ∙ z)) (ap (λ x. x / 4) u ∙ e))

pub copied_inside : (shadow old : ℕ → ℕ) (to from n : ℕ) (cells : ℕ → ℕ) (k : ℕ) → k < n → shadow (from + k) ≢ 0
    → ((j : ℕ) → k < j → j < n → shadow (from + j) ≢ 0 → (to + j) / 4 ≢ (to + k) / 4)
    → copied_cells shadow old to from n cells ((to + k) / 4) ≡ old ((from + k) / 4)
unfolding stepped
copied_inside shadow old to from zero cells k l s h = absurd (omega arith)
copied_inside shadow old to from (suc n) cells zero l s h =
    let t : from + 0 ≡ from = omega arith in
    let u : to + 0 ≡ to = omega arith in
    copied_outside shadow old (to + 1) (from + 1) n (stepped shadow old to from cells) ((to + 0) / 4) (λ j lj sj e.
    let t' : from + 1 + j ≡ from + suc j = omega arith in
    let u' : to + suc j ≡ to + 1 + j = omega arith in
    h (suc j) (omega arith) (omega arith) (λ z. sj (ap shadow t' ∙ z)) (ap (λ x. x / 4) u' ∙ e))
    ∙ ap (λ x. stepped shadow old to from cells (x / 4)) u ∙ stepped_put shadow old to from cells (λ z. s (ap shadow t ∙ z)) ∙ sym (ap (λ x. old (x / 4)) t)
copied_inside shadow old to from (suc n) cells (suc k) l s h =
    let t : from + 1 + k ≡ from + suc k = omega arith in
    let u : to + 1 + k ≡ to + suc k = omega arith in
    sym (ap (λ x. copied_cells shadow old (to + 1) (from + 1) n (stepped shadow old to from cells) (x / 4)) u)
    ∙ copied_inside shadow old (to + 1) (from + 1) n (stepped shadow old to from cells) k (omega arith) (λ z. s (sym (ap shadow t) ∙ z)) (λ j kj lj sj e.
    let t' : from + 1 + j ≡ from + suc j = omega arith in
    let u' : to + suc j ≡ to + 1 + j = omega arith in
    h (suc j) (omega arith) (omega arith) (λ z. sj (ap shadow t' ∙ z)) (ap (λ x. x / 4) u' ∙ e ∙ ap (λ x. x / 4) u))
    ∙ ap (λ x. old (x / 4)) t
