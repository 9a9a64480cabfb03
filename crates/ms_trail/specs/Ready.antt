-- Followers that may take one more step, and what a step adds to them (own).
use Rattle.std.specs.Prelude.{◌≡◌, ◌≤◌, ◌<◌, ◌+◌, ◌^◌, List, length}
use Rattle.ms_runs.specs.declared.runs.Setup.{Setup}
use Rattle.ms_machine_code.specs.declared.code.Code.{Code}
use Rattle.ms_machine_code.specs.declared.code.Routine.{Routine}
use Rattle.ms_machine_code.specs.Fits.{Fits}
use Rattle.ms_machine_frames.specs.declared.fibers.Fiber.{Fiber}
use Rattle.ms_machine_frames.specs.Meaning.{phis_in}
use Rattle.ms_trail_moves.specs.Traces.{Traced}
use Rattle.ms_trail.specs.declared.traced_run.TracedRun.{TracedRun}
use Rattle.ms_trail_uses.specs.Due.{IsDue}
use Rattle.ms_trail.specs.Following.{IsFollowed, Passes}

-- what code needs is there, in the frame at which a fiber stands
pub record FitsHere (fiber : Fiber) (k : Code) : Type 0 where
  pub routines : List Routine
  pub fits : Fits (length fiber.frame.values.items) (phis_in routines) routines k

-- the numbers of one step more are numbers
pub record HasRoom (f : TracedRun) : Type 0 where
  pub steps : f.event + 1 < 2 ^ 64
  pub few : f.log.count + 2 ^ 33 < 2 ^ 64
  pub made : f.world.made + 2 ^ 26 < 2 ^ 64
  pub calls : f.made + 1 < 2 ^ 64

-- a follower stands for a run of which the instruction that is due has this code and passes its checks
pub record IsReady (f : TracedRun) (k : Code) : Type 0 where
  pub setup : Setup
  pub run : Traced
  pub one : setup.reports ≡ 1
  pub is : IsFollowed f.m.now setup run f
  pub passes : Passes f.m.now setup run
  pub due : IsDue f.m.now f.fiber f.world k
  pub fits : FitsHere f.fiber k
  pub room : HasRoom f

-- what a step adds at most
pub record Grew (old new : TracedRun) : Type 0 where
  pub count : new.log.count ≤ old.log.count + 2 ^ 33
  pub world : new.world.made ≤ old.world.made + 2 ^ 26
  pub calls : new.made ≤ old.made + 1

-- a follower stands for a run that ends at its first report
abbrev pub IsGoing : TracedRun → Type 0
IsGoing f = (u : Setup) × (t : Traced) × ((u.reports ≡ 1) × IsFollowed f.m.now u t f × HasRoom f)
