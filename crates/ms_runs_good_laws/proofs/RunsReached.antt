-- Every state that a run reaches is good, where its start is and its steps keep it.
use Rattle.std.proofs.Common.{◌≡◌, ◌<◌, ℕ, zero, suc, All, refl}
use Rattle.ms_ir.specs.declared.syntax.Module.{Module}
use Rattle.ms_runs.specs.declared.runs.End.TheVariants as «end»
use Rattle.ms_runs.specs.World.{World, result}
use Rattle.ms_runs.specs.Plain.{steps, and_then, Stepped, More, Stop, go_on, run}
use Rattle.ms_runs_good_laws.specs.GoodRuns.{LeadsTo}
use Rattle.ms_runs_good_laws.specs.Sited.{HasSite, StopsAtSite}

module _ {S : Type 0} (state : S → Type 0) (world : World → Type 0) (step : S → Stepped S) (keeps : (s : S) → state s → LeadsTo state world (step s)) where
  pub steps_keep : (n : ℕ) (s : S) → state s → LeadsTo state world (steps step n s)
  steps_keep zero s h = h
  steps_keep (suc n) s h = by_step (step s) (keeps s h) (λ t k. steps_keep n t k)
    where
      by_step : (r : Stepped S) → LeadsTo state world r → ((t : S) → state t → LeadsTo state world (steps step n t)) → LeadsTo state world (and_then r (steps step n))
      by_step (More t) h later = later t h
      by_step (Stop e w) h later = h

-- what a run answers is told by what it comes to
pub run_is : {S : Type 0} (world : S → World) (step : S → Stepped S) (n : ℕ) (s : S) → run world step n s ≡ go_on (λ t. result «end».Spent (world t)) (steps step n s)
run_is world step zero s = refl
run_is {S} world step (suc n) s = by_step (step s) (λ t. run_is world step n t)
  where
    by_step : (r : Stepped S) → ((t : S) → run world step n t ≡ go_on (λ u. result «end».Spent (world u)) (steps step n t))
        → go_on (run world step n) r ≡ go_on (λ u. result «end».Spent (world u)) (and_then r (steps step n))
    by_step (More t) later = later t
    by_step (Stop e w) later = refl

-- where all worlds that a run comes to put out bytes, its answer does
pub answer_bytes : {S : Type 0} (state : S → Type 0) (good : World → Type 0) (world : S → World) → ((s : S) → state s → good (world s)) → ((w : World) → good w → All (λ b. b < 256) w.output)
    → (r : Stepped S) → LeadsTo state good r → All (λ b. b < 256) (go_on (λ t. result «end».Spent (world t)) r).output
answer_bytes state good world holds bytes (More s) h = bytes (world s) (holds s h)
answer_bytes state good world holds bytes (Stop e w) h = bytes w h

-- where no step from a good state stops but at a site, no run does
pub steps_stop : {S : Type 0} (m : Module) (state : S → Type 0) (world : World → Type 0) (step : S → Stepped S) → ((s : S) → state s → LeadsTo state world (step s)) → ((s : S) → state s → StopsAtSite m (step s))
    → (n : ℕ) (s : S) → state s → StopsAtSite m (steps step n s)
steps_stop m state world step keeps stops zero s h = tt
steps_stop {S} m state world step keeps stops (suc n) s h = by_step (step s) (keeps s h) (stops s h) (λ t k. steps_stop m state world step keeps stops n t k)
  where
    by_step : (r : Stepped S) → LeadsTo state world r → StopsAtSite m r → ((t : S) → state t → StopsAtSite m (steps step n t)) → StopsAtSite m (and_then r (steps step n))
    by_step (More t) h k later = later t h
    by_step (Stop e w) h k later = k

-- so the end that it answers has a site
pub answer_sited : {S : Type 0} (m : Module) (world : S → World) (r : Stepped S) → StopsAtSite m r → HasSite m (go_on (λ t. result «end».Spent (world t)) r).«end»
answer_sited m world (More s) h = tt
answer_sited m world (Stop e w) h = h
