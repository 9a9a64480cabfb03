-- How far an exploration has come: which runs were made, and what is left of the queue.
use Rattle.std.specs.Prelude.{◌≡◌, ◌<◌, ◌≤◌, ◌+◌, ◌-◌, ℕ, Bool, true, not, ◌||◌, ◌&&◌, leb, List, [], ◌∷◌, ◌++◌, length, take, drop, map, get_or, ltb}
use Rattle.std.specs.List.{list_all}
use Rattle.ms_runs.specs.declared.runs.RunResult.{RunResult}
use Rattle.ms_threads_schedules_laws.specs.Picks.{Pick}
use Rattle.ms_threads_schedules_laws.specs.Trees.{Begins, Chosen, Everywhere, branches}
use Rattle.ms_threads_schedules_laws.specs.Exploration.{schedule_limit, padded, next_runs, schedules_run, beginnings_left}
use Rattle.ms_threads_schedules_laws.specs.Promise.{last_or}
use Rattle.ms_threads.specs.declared.recorder.Choice.{Choice}
use Rattle.ms_threads_explore.specs.Beginnings.{IsBeginning, AllZero, told_of}
use Rattle.ms_threads_explore.specs.Explorations.{is_short, runs_clean, told_length}
use Rattle.ms_threads_explore.specs.Outcomes.{shown, with_shown, all_shown, kept_by}
use Rattle.ms_threads_explore.specs.declared.beginnings.Beginning.{Beginning}
use Rattle.ms_threads_explore.specs.declared.trials.Trial.{Trial}
use Rattle.ms_threads_explore.specs.declared.exploration.Exploration.{Exploration}
use Rattle.ms_threads_explore.specs.declared.explorer.Explored.{Explored}

-- a pick, as the code has it
abbrev pub choice_of : Pick → Choice
choice_of p = record { chosen = p.chosen; among = p.among }

-- what is kept of the run under a schedule
abbrev pub trial_by : (picks : List ℕ → List Pick) → (run : List ℕ → RunResult) → (schedule : List ℕ) → Trial
trial_by picks run schedule = record {
  result = run schedule;
  picks = map choice_of (take schedule_limit (picks schedule));
  more = ltb schedule_limit (length (picks schedule));
}

-- the picks kept of a run that began as told, and went on with zeros
pub record GoesOn (told : List ℕ) (ps : List Pick) : Type 0 where
  pub few : length ps ≤ schedule_limit
  pub begins : Begins told ps
  pub zeros : AllZero (drop (length told) ps)
  pub chosen : Chosen ps

-- the beginning at a place of the queue
abbrev pub told_at : (queue : List Beginning) → (place : ℕ) → List ℕ
told_at queue place = get_or (map told_of queue) place []

-- a run was made: what it leaves stands behind the others, as far as that may be run
pub record Registered (ps : List Pick) (result : RunResult) (more : Bool) (old new : Exploration) : Type 0 where
  pub next : new.next ≡ old.next + 1
  pub most : new.most ≡ old.most
  pub told : map told_of new.beginnings.items ≡ take old.most (map told_of old.beginnings.items ++ branches (told_at old.beginnings.items old.next) ps)
  pub are : Everywhere IsBeginning new.beginnings.items
  pub cut : new.cut ≡ (old.cut || more)
  pub shown : kept_by new.outcomes ≡ with_shown (kept_by old.outcomes) (shown result)

-- what is told with the last run that was made
pub record Tells (last : Trial) (e : Exploration) (told : Explored) : Type 0 where
  pub result : told.result ≡ last.result
  pub schedule : told.schedule ≡ take (told_length (length last.picks)) (padded (told_at e.beginnings.items (e.next - 1)))
  pub tried : told.tried ≡ e.next
  pub outcomes : told.outcomes ≡ length (kept_by e.outcomes)
  pub all : told.all ≡ (leb (length e.beginnings.items) e.next && not e.cut)

module _ (picks : List ℕ → List Pick) (run : List ℕ → RunResult) where
  -- so many runs were made; what is left is the queue, as far as it may be run, and one beginning more
  pub record IsAt (e : Exploration) : Type 0 where
    pub within : e.next ≤ length e.beginnings.items
    pub below : e.next < e.most
    pub few : length e.beginnings.items ≤ e.most
    pub are : Everywhere IsBeginning e.beginnings.items
    pub runs : length (next_runs picks e.next ([] ∷ [])) ≡ e.next
    pub queue : drop e.next (map told_of e.beginnings.items) ≡ take (e.most - e.next) (beginnings_left picks e.next)
    pub last : 0 < e.next → last_or (schedules_run picks e.next) [] ≡ padded (told_at e.beginnings.items (e.next - 1))
    pub cut : e.cut ≡ not (list_all (is_short picks) (schedules_run picks e.next))
    pub shown : kept_by e.outcomes ≡ all_shown [] (map run (schedules_run picks e.next))

  -- they were clean, and another one can be made
  pub record IsGoing (e : Exploration) : Type 0 where
    pub at : IsAt e
    pub clean : Everywhere (λ schedule. runs_clean run schedule ≡ true) (schedules_run picks e.next)
    pub left : e.next < length e.beginnings.items
    pub more : e.next + 1 < e.most

  -- some further runs were clean, and another one can be made
  pub record GoesFurther (old new : Exploration) : Type 0 where
    pub going : IsGoing new
    pub next : old.next < new.next
    pub most : new.most ≡ old.most

  -- trials are the runs of the first beginnings of a queue
  abbrev pub AreTrials : List Trial → (queue : List (List ℕ)) → Type 0
  AreTrials [] queue = Unit {0}
  AreTrials (t ∷ ts) [] = ⊥
  AreTrials (t ∷ ts) (told ∷ queue) = (t ≡ trial_by picks run (padded told)) × AreTrials ts queue
