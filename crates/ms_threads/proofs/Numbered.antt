-- The threads that may go on: how many they are, and which stands at a place among them.
use Rattle.std.proofs.Common.{◌≡◌, ◌≢◌, ◌<◌, ◌≤◌, ◌+◌, ◌-◌, ◌&&◌, ℕ, zero, suc, Bool, true, false, true≢false, not, eqb, eqb-true, List, ◌∷◌, length, map, filter, get_or, if◌then◌else◌, refl, sym, ap, ◌∙◌, arith, Option}
use Rattle.std.proofs.Math.ListN.{set}
use Rattle.std.proofs.lemmas.Bool.{eq-eqb}
use Rattle.std.proofs.lemmas.List.{length-map, get_or-set_same, get_or-set_other}
use Rattle.ms_runs.specs.Threads.{thread_at, has_ended}
use Rattle.ms_runs_threads.specs.Fibers.{may_go, is_runnable, numbers_from}
use Rattle.ms_threads.specs.declared.thread_table.ThreadTable.{ThreadTable}
use Rattle.ms_threads.specs.ThreadTables.{Standing, thread_of, standing_joins, threads_of, stands_of, runnable_in, Counted}

-- ---- numbers that pass a test

-- 1 where a test was passed
abbrev pub one : Bool → ℕ
one b = if b then 1 else 0

pub one_few : (b : Bool) → one b ≤ 1
one_few true = omega arith
one_few false = omega arith

one_more : (b : Bool) (k : ℕ) (xs : List ℕ) → one b + length xs ≡ length (if b then k ∷ xs else xs)
one_more true k xs = omega arith
one_more false k xs = omega arith

later : (b : Bool) (k : ℕ) (xs : List ℕ) (d : ℕ) → one b ≤ d → get_or (if b then k ∷ xs else xs) d 0 ≡ get_or xs (d - one b) 0
later true k xs zero le = absurd (omega (arith, le))
later true k xs (suc d) le = ap (λ n. get_or xs n 0) (let e : d ≡ suc d - 1 = omega arith in e)
later false k xs d le = ap (λ n. get_or xs n 0) (let e : d ≡ d - 0 = omega arith in e)

here : (b : Bool) (k : ℕ) (xs : List ℕ) (d : ℕ) → d < one b → get_or (if b then k ∷ xs else xs) d 0 ≡ k
here true k xs zero lt = refl
here true k xs (suc d) lt = absurd (omega (arith, lt))
here false k xs d lt = absurd (omega (arith, lt))

module _ (p : ℕ → Bool) where
  -- those from k on, below n
  abbrev pub rest : (k n : ℕ) → List ℕ
  rest k n = filter p (numbers_from k (n - k))

  rest_on : (k n : ℕ) → k < n → rest k n ≡ (if p k then k ∷ rest (k + 1) n else rest (k + 1) n)
  rest_on k n lt = ap (λ d. filter p (numbers_from k d)) (let e : n - k ≡ suc (n - (k + 1)) = omega (arith, lt) in e)

  pub none_left : (n : ℕ) → length (rest n n) ≡ 0
  none_left n = ap (λ d. length (filter p (numbers_from n d))) (let e : n - n ≡ 0 = omega arith in e)

  pub counted_on : (k n : ℕ) → k < n → one (p k) + length (rest (k + 1) n) ≡ length (rest k n)
  counted_on k n lt = one_more (p k) k (rest (k + 1) n) ∙ ap length (sym (rest_on k n lt))

  pub place_later : (k n d : ℕ) → k < n → one (p k) ≤ d → get_or (rest k n) d 0 ≡ get_or (rest (k + 1) n) (d - one (p k)) 0
  place_later k n d lt le = ap (λ xs. get_or xs d 0) (rest_on k n lt) ∙ later (p k) k (rest (k + 1) n) d le

  pub place_here : (k n d : ℕ) → k < n → d < one (p k) → get_or (rest k n) d 0 ≡ k
  place_here k n d lt few = ap (λ xs. get_or xs d 0) (rest_on k n lt) ∙ here (p k) k (rest (k + 1) n) d few

  -- the list of the first ones, with one number more after them, and those from the next number on
  pub listed_on : (k n count : ℕ) (ready : List ℕ) → k < n → count < length ready → ((d : ℕ) → d < count → get_or ready d 0 ≡ get_or (rest 0 n) d 0) → ((d : ℕ) → get_or (rest k n) d 0 ≡ get_or (rest 0 n) (count + d) 0)
      → (d : ℕ) → d < count + one (p k) → get_or (set ready count k) d 0 ≡ get_or (rest 0 n) d 0
  listed_on k n count ready lt room listed ahead d few = by_test (eqb d count) refl
    where
      by_test : (b : Bool) → eqb d count ≡ b → get_or (set ready count k) d 0 ≡ get_or (rest 0 n) d 0
      by_test true e =
          let is : d ≡ count = eqb-true d count e in
          let some : 0 < one (p k) = omega (arith, few, is) in
          ap (λ j. get_or (set ready count k) j 0) is ∙ get_or-set_same ready count k 0 room ∙ sym (place_here k n 0 lt some) ∙ ahead 0
          ∙ ap (λ j. get_or (rest 0 n) j 0) (let z : count + 0 ≡ d = omega (arith, is) in z)
      by_test false e =
          let other : d ≢ count = (λ same. true≢false (sym (eq-eqb d count same) ∙ e)) in
          get_or-set_other ready count d k 0 other ∙ listed d (omega (arith, few, other, one_few (p k)))

  pub ahead_on : (k n count : ℕ) → k < n → ((d : ℕ) → get_or (rest k n) d 0 ≡ get_or (rest 0 n) (count + d) 0) → (count' : ℕ) → count' ≡ count + one (p k) → (d : ℕ) → get_or (rest (k + 1) n) d 0 ≡ get_or (rest 0 n) (count' + d) 0
  ahead_on k n count lt ahead count' is d =
      ap (λ j. get_or (rest (k + 1) n) j 0) (let e : d ≡ (one (p k) + d) - one (p k) = omega arith in e)
      ∙ sym (place_later k n (one (p k) + d) lt (let le : one (p k) ≤ one (p k) + d = omega arith in le)) ∙ ahead (one (p k) + d)
      ∙ ap (λ j. get_or (rest 0 n) j 0) (let e : count + (one (p k) + d) ≡ count' + d = omega (arith, is) in e)

  -- what stands at a place passes the test
  pub passes : (k n d x : ℕ) → d < length (filter p (numbers_from k n)) → (p (get_or (filter p (numbers_from k n)) d x) ≡ true) × (get_or (filter p (numbers_from k n)) d x < k + n)
  passes k zero d x lt = absurd (omega (arith, lt))
  passes k (suc n) d x lt = by_test (p k) refl (passes (k + 1) n) d lt
    where
      more : List ℕ
      more = filter p (numbers_from (k + 1) n)

      by_test : (b : Bool) → p k ≡ b → ((d x : ℕ) → d < length more → (p (get_or more d x) ≡ true) × (get_or more d x < k + 1 + n)) → (d : ℕ) → d < length (if b then k ∷ more else more)
          → (p (get_or (if b then k ∷ more else more) d x) ≡ true) × (get_or (if b then k ∷ more else more) d x < k + suc n)
      by_test true e go zero lt = (e, omega arith)
      by_test true e go (suc d) lt = let h = go d x (omega (arith, lt)) in (h.0, omega (arith, h.1))
      by_test false e go d lt = let h = go d x lt in (h.0, omega (arith, h.1))

-- ---- threads

-- whether the thread with a number may go on
abbrev pub test_of : ThreadTable → ℕ → Bool
test_of g k = is_runnable standing_joins (threads_of g) (stands_of g) k

pub all_of : (g : ThreadTable) → Counted g → runnable_in g ≡ rest (test_of g) 0 (length g.parked.items)
all_of g counted = ap (λ d. filter (test_of g) (numbers_from 0 d)) (let e : length (threads_of g) + 1 ≡ length g.parked.items - 0 = omega (arith, counted, length-map g.threads.items thread_of) in e)

-- another goes by where it stands
pub goes_by : (g : ThreadTable) (k : ℕ) (o : Option Standing) (b : Bool) → false ≡ has_ended (thread_at k (threads_of g)) → stands_of g k ≡ o → b ≡ may_go standing_joins k (threads_of g) o → b ≡ test_of g k
goes_by g k o b e is goes = goes ∙ ap (may_go standing_joins k (threads_of g)) (sym is) ∙ ap (λ t. not t && may_go standing_joins k (threads_of g) (stands_of g k)) e

-- the one that is picked may go on
pub picked_goes : (g : ThreadTable) → Counted g → (d : ℕ) → d < length (runnable_in g) → (test_of g (get_or (runnable_in g) d 0) ≡ true) × (get_or (runnable_in g) d 0 < length g.parked.items)
picked_goes g counted d lt =
    let h = passes (test_of g) 0 (length (threads_of g) + 1) d 0 lt in
    (h.0, omega (arith, h.1, counted, length-map g.threads.items thread_of))
