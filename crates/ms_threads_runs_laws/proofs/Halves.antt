-- A step of fibers is a pick, where one is due, and then a step of one fiber.
use Rattle.std.proofs.Common.{◌≡◌, ℕ, ◌+◌, ◌%◌, List, [], ◌∷◌, length, Option, Some, None, refl}
use Rattle.std.specs.Prelude.{get_or}
use Rattle.ms_runs.specs.World.{Thread}
use Rattle.ms_runs.specs.Plain.{Stepped, More, Stop}
use Rattle.ms_runs.specs.Threads.{thread_at}
use Rattle.ms_runs_threads.specs.Fibers.{Going, Meaning, Others, Fibers, Goes, Waits, runnable, standing, turned, goes_on, with_world, moves, resumed, resumes, picked, fibers_step}
use Rattle.ms_threads_runs_laws.specs.Halves.{turn_begun, turn_of, pick_of, half_step, whole_step}

module _ {F S : Type 0} (means : Meaning F S) (schedule : List ℕ) where
  begun_whole : (s : S) (rest : Others F) (k : ℕ) (f : Option F) (t : Option Thread) → resumed means s rest k f t ≡ goes_on (turn_begun means s rest f t) (half_step means schedule)
  begun_whole s rest k (Some f) t = by_step (means.perform f s)
    where
      by_step : (x : Stepped (Going F S)) → goes_on x (moves means rest) ≡ goes_on (goes_on x (λ (g : Going F S). More (Goes g.fiber g.shared rest))) (half_step means schedule)
      by_step (More g) = refl
      by_step (Stop e w) = refl
  begun_whole s rest k None (Some t) = refl
  begun_whole s rest k None None = refl

  turn_whole : (s : S) (rest : Others F) (k : ℕ) → resumes means s rest k ≡ goes_on (turn_of means s rest k) (half_step means schedule)
  turn_whole s rest k =
      begun_whole (with_world means (turned k) s) (record { stands = standing k None rest.stands; picks = rest.picks + 1 }) k (rest.stands k) (thread_at k (means.world s).threads)

  pick_whole : (s : S) (rest : Others F) (l : List ℕ) → picked means schedule s rest l ≡ goes_on (pick_of means schedule s rest l) (half_step means schedule)
  pick_whole s rest [] = refl
  pick_whole s rest (k ∷ ks) = turn_whole s rest (get_or (k ∷ ks) (get_or schedule (rest.picks % length schedule) 0 % length (k ∷ ks)) k)

  pub halves : (c : Fibers F S) → fibers_step means schedule c ≡ whole_step means schedule c
  halves (Goes f s rest) = refl
  halves (Waits s rest) = pick_whole s rest (runnable means.joins (means.world s).threads rest.stands)
