-- Steps of fibers in two halves: a pick, where one is due, with the call or the beginning of the fiber that is picked, and then
-- a step of one fiber (own).
use Rattle.std.specs.Prelude.{ℕ, ◌+◌, ◌%◌, List, [], ◌∷◌, length, get_or, Option, Some, None}
use Rattle.ms_runs.specs.declared.runs.End.TheVariants as «end»
use Rattle.ms_bits.specs.declared.traps.Trap.TheVariants as trap
use Rattle.ms_runs.specs.World.{Thread, stuck}
use Rattle.ms_runs.specs.Plain.{Stepped, More, Stop}
use Rattle.ms_runs.specs.Threads.{thread_at}
use Rattle.ms_runs_threads.specs.Fibers.{Meaning, Others, Fibers, Goes, Waits, runnable, standing, turned, goes_on, with_world, moved, site_at}

module _ {F S : Type 0} (means : Meaning F S) where
  -- a fiber that is picked begins, or does its call, and goes on
  abbrev pub turn_begun : S → Others F → Option F → Option Thread → Stepped (Fibers F S)
  turn_begun s rest (Some f) thread = goes_on (means.perform f s) (λ g. More (Goes g.fiber g.shared rest))
  turn_begun s rest None (Some t) = let g = means.begun t.func t.argument s in More (Goes g.fiber g.shared rest)
  turn_begun s rest None None = Stop stuck (means.world s)

  abbrev pub turn_of : S → Others F → ℕ → Stepped (Fibers F S)
  turn_of s rest k =
      turn_begun (with_world means (turned k) s) (record { stands = standing k None rest.stands; picks = rest.picks + 1 }) (rest.stands k) (thread_at k (means.world s).threads)

  -- a pick alone
  abbrev pub pick_of : List ℕ → S → Others F → List ℕ → Stepped (Fibers F S)
  pick_of schedule s rest [] = Stop («end».Trap trap.Deadlock (site_at means (rest.stands 0))) (means.world s)
  pick_of schedule s rest (k ∷ ks) = turn_of s rest (get_or (k ∷ ks) (get_or schedule (rest.picks % length schedule) 0 % length (k ∷ ks)) k)

  -- half a step: of the fiber that goes on, or of the one that is picked
  abbrev pub half_step : List ℕ → Fibers F S → Stepped (Fibers F S)
  half_step schedule (Goes f s rest) = moved means f s rest (means.due f)
  half_step schedule (Waits s rest) = pick_of schedule s rest (runnable means.joins (means.world s).threads rest.stands)

  -- where a pick was due, a step goes on after it
  abbrev pub whole_step : List ℕ → Fibers F S → Stepped (Fibers F S)
  whole_step schedule (Goes f s rest) = half_step schedule (Goes f s rest)
  whole_step schedule (Waits s rest) = goes_on (half_step schedule (Waits s rest)) (half_step schedule)
