-- Schedules that were tried up to the first whose run isn't clean: where the last one is clean, all are, and nothing was left out.
use Rattle.std.proofs.Common.{◌≡◌, ℕ, zero, suc, Bool, true, false, true≢false, if◌then◌else◌, List, [], ◌∷◌, ◌++◌, length, map, refl, sym, ap, ◌∙◌, subst}
use Rattle.std.proofs.lemmas.List.{length-map}
use Rattle.ms_ir.specs.declared.syntax.Module.{Module}
use Rattle.ms_runs.specs.declared.runs.Setup.{Setup}
use Rattle.ms_runs.specs.Verdict.{Verdict, Poisoned, Unsure, Clean, verdict_of}
use Rattle.ms_check_valid.specs.Formed.{Formed}
use Rattle.ms_check_valid.specs.Uninstrumented.{CanInstrument}
use Rattle.ms_check_valid.specs.Valid.{Valid}
use Rattle.ms_runs_good_laws.specs.GoodWorlds.{GivesBytes}
use Rattle.ms_runs_threads.specs.ShadowFibers.{shadow_threads}
use Rattle.ms_threads_schedules_laws.specs.Picks.{Pick, shadow_picks}
use Rattle.ms_threads_schedules_laws.specs.Trees.{Everywhere}
use Rattle.ms_threads_schedules_laws.specs.Explored.{IsTree, Covers}
use Rattle.ms_threads_schedules_laws.specs.Exploration.{padded, leaves, next_runs, schedules_run, beginnings_left, AreShort}
use Rattle.ms_threads_schedules_laws.specs.Promise.{RunsAsOne, is_clean, up_to_first, last_or, schedules_tried}
use Rattle.ms_threads_schedules_laws.proofs.Lists.{every_so}
use Rattle.ms_threads_schedules_laws.proofs.SamePicks.{shadow_tree}
use Rattle.ms_threads_schedules_laws.proofs.Queued.{covers_all}
use Rattle.ms_threads_schedules_laws.proofs.Covered.{runs_as_one}

-- where the last one passes, all do
all_pass : {X : Type 0} (test : X → Bool) (xs : List X) (d : X) → test (last_or (up_to_first test xs) d) ≡ true → (up_to_first test xs ≡ xs) × Everywhere (λ x. test x ≡ true) xs
all_pass test [] d h = (refl, tt)
all_pass test (x ∷ xs) d h = by_test (λ k. all_pass test xs x k) (test x) refl h
  where
    by_test : (test (last_or (up_to_first test xs) x) ≡ true → (up_to_first test xs ≡ xs) × Everywhere (λ y. test y ≡ true) xs) → (b : Bool) → test x ≡ b → test (last_or (if b then x ∷ up_to_first test xs else x ∷ []) d) ≡ true
        → ((if b then x ∷ up_to_first test xs else x ∷ []) ≡ (x ∷ xs)) × ((test x ≡ true) × Everywhere (λ y. test y ≡ true) xs)
    by_test rest true e h = let k = rest h in (ap (λ l. x ∷ l) k.0, (e, k.1))
    by_test rest false e h = absurd (true≢false (sym h ∙ e))

clean_so : (v : Verdict) → is_clean v ≡ true → v ≡ Clean
clean_so Clean e = refl
clean_so Poisoned e = absurd (true≢false (sym e))
clean_so Unsure e = absurd (true≢false (sym e))

module _ (picks : List ℕ → List Pick) where
  -- as many runs as were made are those
  as_many : (n : ℕ) (queue : List (List ℕ)) → next_runs picks (length (next_runs picks n queue)) queue ≡ next_runs picks n queue
  as_many zero queue = refl
  as_many (suc n) [] = refl
  as_many (suc n) (told ∷ queue) = ap (λ l. told ∷ l) (as_many n (queue ++ leaves picks told))

  same_schedules : (n : ℕ) → schedules_run picks (length (schedules_run picks n)) ≡ schedules_run picks n
  same_schedules n =
      ap (λ k. map padded (next_runs picks k ([] ∷ []))) (length-map (next_runs picks n ([] ∷ [])) padded)
      ∙ ap (map padded) (as_many n ([] ∷ []))

  covers_run : IsTree picks → (n : ℕ) → AreShort picks (schedules_run picks n) → beginnings_left picks (length (schedules_run picks n)) ≡ [] → Covers picks (map picks (schedules_run picks n))
  covers_run tree n short none =
      subst (λ l. Covers picks (map picks l)) (same_schedules n)
      (covers_all picks tree (length (schedules_run picks n)) (subst (AreShort picks) (sym (same_schedules n)) short) none)

pub all_tried : (m : Module) → Formed m → Valid m → CanInstrument m → (setup : Setup) → GivesBytes setup → (count : ℕ) → verdict_of (shadow_threads m setup (last_or (schedules_tried m setup count) [])) ≡ Clean
    → AreShort (shadow_picks m setup) (schedules_tried m setup count) → beginnings_left (shadow_picks m setup) (length (schedules_tried m setup count)) ≡ [] → RunsAsOne m setup (schedules_tried m setup count)
all_tried m formed valid can setup bytes count clean =
    let all = all_pass (λ schedule. is_clean (verdict_of (shadow_threads m setup schedule))) (schedules_run (shadow_picks m setup) count) [] (ap is_clean clean) in
    subst (λ l. AreShort (shadow_picks m setup) l → beginnings_left (shadow_picks m setup) (length l) ≡ [] → RunsAsOne m setup l) (sym all.0)
    (λ short none. runs_as_one m formed valid can setup bytes (schedules_run (shadow_picks m setup) count) (covers_run (shadow_picks m setup) (shadow_tree m setup) count short none)
    (every_so (λ schedule. is_clean (verdict_of (shadow_threads m setup schedule)) ≡ true) (λ schedule. verdict_of (shadow_threads m setup schedule) ≡ Clean)
    (λ schedule e. clean_so (verdict_of (shadow_threads m setup schedule)) e) (schedules_run (shadow_picks m setup) count) all.1))
