-- Exploring from a queue keeps what is explored, and covers all where the queue is empty.
use Rattle.std.proofs.Common.{◌≡◌, ◌≤◌, ◌⊎◌, inl, inr, ℕ, zero, suc, ◌-◌, List, [], ◌∷◌, ◌++◌, length, take, map, refl, sym, ap, subst, arith}
use Rattle.ms_threads_schedules_laws.specs.Picks.{Pick}
use Rattle.ms_threads_schedules_laws.specs.Trees.{Begins, Somewhere, branches}
use Rattle.ms_threads_schedules_laws.specs.Explored.{IsTree, SeenOrLeft, Covers, Exploring}
use Rattle.ms_threads_schedules_laws.specs.Exploration.{schedule_limit, zeros, padded, leaves, next_runs, queue_after, schedules_run, beginnings_left, AreShort}
use Rattle.ms_threads_schedules_laws.proofs.Leading.{padded as reads_padded, exploring_first, exploring_run}

uncut : {X : Type 0} (n : ℕ) (xs : List X) → length xs ≤ n → take n xs ≡ xs
uncut zero [] le = refl
uncut zero (x ∷ xs) le = absurd (omega (arith, le))
uncut (suc n) [] le = refl
uncut (suc n) (x ∷ xs) le = ap (λ l. x ∷ l) (uncut n xs (omega (arith, le)))

-- the last of some runs stands first
onto : {X : Type 0} → List X → List X → List X
onto [] ys = ys
onto (x ∷ xs) ys = onto xs (x ∷ ys)

of_onto : {X : Type 0} (P : X → Type 0) (xs ys : List X) → Somewhere P (onto xs ys) → Somewhere P xs ⊎ Somewhere P ys
unfolding onto
of_onto P [] ys h = inr h
of_onto P (x ∷ xs) ys h = at (of_onto P xs (x ∷ ys) h)
  where
    at : Somewhere P xs ⊎ Somewhere P (x ∷ ys) → Somewhere P (x ∷ xs) ⊎ Somewhere P ys
    at (inl k) = inl (inr k)
    at (inr (inl p)) = inl (inl p)
    at (inr (inr k)) = inr k

module _ (picks : List ℕ → List Pick) (tree : IsTree picks) where
  -- the picks of runs
  abbrev seen_by : List (List ℕ) → List (List Pick)
  seen_by runs = map picks (map padded runs)

  on_queue : (n : ℕ) (queue : List (List ℕ)) (seen : List (List Pick)) → AreShort picks (map padded (next_runs picks n queue)) → Exploring picks seen queue
      → Exploring picks (onto (seen_by (next_runs picks n queue)) seen) (queue_after picks n queue)
  unfolding onto
  on_queue zero queue seen short all = all
  on_queue (suc n) [] seen short all = all
  on_queue (suc n) (told ∷ queue) seen short all =
      on_queue n (queue ++ leaves picks told) (picks (padded told) ∷ seen) short.1
      (subst (λ ps. Exploring picks (picks (padded told) ∷ seen) (queue ++ branches told ps)) (sym (uncut schedule_limit (picks (padded told)) short.0))
      (exploring_run picks tree seen [] told queue all (padded told) (reads_padded told (zeros (schedule_limit - length told)))))

  explored : (n : ℕ) → AreShort picks (schedules_run picks n) → Exploring picks (onto (map picks (schedules_run picks n)) []) (beginnings_left picks n)
  explored n short = on_queue n ([] ∷ []) [] short (exploring_first picks tree)

  -- where the queue is empty, all was run
  pub covers_all : (n : ℕ) → AreShort picks (schedules_run picks n) → beginnings_left picks n ≡ [] → Covers picks (map picks (schedules_run picks n))
  covers_all n short none schedule = by_place ((explored n short).explored schedule)
    where
      in_runs : Somewhere (λ qs. picks schedule ≡ qs) (map picks (schedules_run picks n)) ⊎ Somewhere (λ qs. picks schedule ≡ qs) [] → Somewhere (λ qs. picks schedule ≡ qs) (map picks (schedules_run picks n))
      in_runs (inl h) = h
      in_runs (inr h) = absurd h

      by_place : SeenOrLeft (picks schedule) (onto (map picks (schedules_run picks n)) []) (beginnings_left picks n) → Somewhere (λ qs. picks schedule ≡ qs) (map picks (schedules_run picks n))
      by_place (inl h) = in_runs (of_onto (λ qs. picks schedule ≡ qs) (map picks (schedules_run picks n)) [] h)
      by_place (inr h) = absurd (subst (λ left. Somewhere (λ told. Begins told (picks schedule)) left) none h)
