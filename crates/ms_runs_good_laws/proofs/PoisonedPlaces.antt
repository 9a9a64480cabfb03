-- Words and bytes with poisoned bits, one change after the other.
use Rattle.std.proofs.Common.{◌≡◌, ℕ, inl, inr, ◌+◌, ◌/◌, Bool, true, false, refl, sym, arith, true≢false, if◌then◌else◌}
use Rattle.std.specs.Prelude.{leb, ltb, [], ◌∷◌, Contains}
use Rattle.std.proofs.lemmas.Bool.{and_parts}
use Rattle.std.proofs.lemmas.List.Elements.{Contains-push_cases}
use Rattle.ms_bits.specs.Maps.{within, with_range, touches, with_cells}
use Rattle.ms_ir.specs.declared.syntax.Name.{Name}
use Rattle.ms_ir.specs.Names.{name_eq}
use Rattle.ms_runs.specs.Control.{with_value}
use Rattle.ms_runs.specs.Poisoned.{Poisoned}

-- what holds of a word that is set and of all others
pub each_value : (holds : Poisoned → Type 0) (values : Name → Poisoned) (x : Name) (v : Poisoned) → holds v → ((y : Name) → holds (values y))
    → (y : Name) → holds (with_value values x v y)
each_value holds values x v h others y = by_test (name_eq y x)
  where
    by_test : (b : Bool) → holds (if b then v else values y)
    by_test true = h
    by_test false = others y

-- a byte of a range lies in a cell that the range touches
touched : (a n x : ℕ) → within a n x ≡ true → touches a n (x / 4) ≡ true
touched a n x h =
    let parts = and_parts (leb a x) (ltb x (a + n)) h in
    grind (arith, parts.0, parts.1)

-- a range gets poisoned bytes and an origin
pub poisoned_range : (shadow cells : ℕ → ℕ) (a n v origin : ℕ) (holds : ℕ → Type 0) → holds origin
    → ((x : ℕ) → ¬ (shadow x ≡ 0) → holds (cells (x / 4)))
    → (x : ℕ) → ¬ (with_range shadow a n (λ k. v) x ≡ 0) → holds (with_cells cells a n origin (x / 4))
poisoned_range shadow cells a n v origin holds new old x h = by_tests (within a n x) (touches a n (x / 4)) (touched a n x) h
  where
    by_tests : (t u : Bool) → (t ≡ true → u ≡ true) → ¬ ((if t then v else shadow x) ≡ 0) → holds (if u then origin else cells (x / 4))
    by_tests t true e k = new
    by_tests true false e k = absurd (true≢false (sym (e refl)))
    by_tests false false e k = old x k

-- a range gets clean bytes among clean ones
pub clean_range : (a n : ℕ) (holds : ℕ → Type 0) → (x : ℕ) → ¬ (with_range (λ b. 0) a n (λ k. 0) x ≡ 0) → holds x
clean_range a n holds x h = by_test (within a n x) h
  where
    by_test : (t : Bool) → ¬ (◌≡◌ {A = ℕ} (if t then 0 else 0) 0) → holds x
    by_test true k = absurd (k refl)
    by_test false k = absurd (k refl)

-- what a list of one item contains
pub only_one : {A : Type 0} (x y : A) → Contains (x ∷ []) y → x ≡ y
only_one x y h = elim (Contains-push_cases [] x y h) [
  | inl none ↦ absurd (of_none none)
  | inr same ↦ same
]
  where
    of_none : Contains [] y → ⊥
    of_none n = omega (arith, n.1)
