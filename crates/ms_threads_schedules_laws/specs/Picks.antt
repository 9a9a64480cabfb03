-- The picks that a run of fibers makes under a schedule (own).
use Rattle.std.specs.Prelude.{◌≡◌, ℕ, zero, suc, ◌+◌, ◌%◌, List, [], ◌∷◌, ◌++◌, length, map, get_or}
use Rattle.ms_ir.specs.declared.syntax.Module.{Module}
use Rattle.ms_runs.specs.declared.runs.Setup.{Setup}
use Rattle.ms_runs.specs.Masks.{Rules, by_completions}
use Rattle.ms_runs.specs.Plain.{Stepped, More, Stop, setting_of}
use Rattle.ms_runs_threads.specs.Fibers.{Meaning, Fibers, Goes, Waits, runnable, fibers_step}
use Rattle.ms_runs_threads.specs.PlainFibers.{plain_fiber, plain_threads_start}
use Rattle.ms_runs_threads.specs.ShadowFibers.{shadow_fiber, shadow_threads_start}

-- a pick: which place was chosen, of how many fibers that could go on
pub record Pick : Type 0 where
  pub chosen : ℕ
  pub among : ℕ

-- the number that a schedule, over and over, has for a pick
abbrev pub number_at : List ℕ → ℕ → ℕ
number_at schedule k = get_or schedule (k % length schedule) 0

-- the pick by a number, where a fiber can go on
abbrev pub pick_by : ℕ → List ℕ → List Pick
pick_by number [] = []
pick_by number (k ∷ ks) = record { chosen = number % length (k ∷ ks); among = length (k ∷ ks) } ∷ []

-- how many picks were made before a state
abbrev pub picks_of : {F S : Type 0} → Fibers F S → ℕ
picks_of (Goes f s rest) = rest.picks
picks_of (Waits s rest) = rest.picks

module _ {F S : Type 0} (means : Meaning F S) where
  -- the pick before a step, if one is due
  abbrev pub picked_now : List ℕ → Fibers F S → List Pick
  picked_now schedule (Goes f s rest) = []
  picked_now schedule (Waits s rest) = pick_by (number_at schedule rest.picks) (runnable means.joins (means.world s).threads rest.stands)

  -- what was picked after a step
  abbrev pub picked_on : (Fibers F S → List Pick) → Stepped (Fibers F S) → List Pick
  picked_on go (More c) = go c
  picked_on go (Stop e w) = []

  -- the picks of a run of at most so many steps
  abbrev pub picks_in : List ℕ → ℕ → Fibers F S → List Pick
  picks_in schedule zero c = []
  picks_in schedule (suc n) c = picked_now schedule c ++ picked_on (picks_in schedule n) (fibers_step means schedule c)

-- the picks of the plain run, and of the shadow run, of a module
abbrev pub plain_picks : Module → Setup → (schedule : List ℕ) → List Pick
plain_picks m setup schedule = picks_in (plain_fiber (setting_of m setup) m) schedule setup.steps (plain_threads_start m setup)

abbrev pub shadow_picks_by : Rules → Module → Setup → (schedule : List ℕ) → List Pick
shadow_picks_by d m setup schedule = picks_in (shadow_fiber d (setting_of m setup) m) schedule setup.steps (shadow_threads_start m setup)

abbrev pub shadow_picks : Module → Setup → (schedule : List ℕ) → List Pick
shadow_picks = shadow_picks_by by_completions

-- picks as a schedule; that of none is 0
abbrev pub schedule_of : List Pick → List ℕ
schedule_of [] = 0 ∷ []
schedule_of (p ∷ ps) = map (λ (p : Pick). p.chosen) (p ∷ ps)

-- a schedule has, from a pick on, numbers that choose so
abbrev pub Chooses : (schedule : List ℕ) → (from : ℕ) → List Pick → Type 0
Chooses schedule k [] = Unit {0}
Chooses schedule k (p ∷ ps) = (number_at schedule k % p.among ≡ p.chosen) × Chooses schedule (k + 1) ps
