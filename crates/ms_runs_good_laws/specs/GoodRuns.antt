-- Good states of runs together with their worlds, and the states that a run reaches (own).
use Rattle.std.specs.Prelude.{◌<◌, ℕ}
use Rattle.ms_ir.specs.declared.syntax.Module.{Module}
use Rattle.ms_runs.specs.World.{World}
use Rattle.ms_runs.specs.Plain.{PlainState, Stepped, More, Stop}
use Rattle.ms_runs.specs.Shadow.{ShadowState}
use Rattle.ms_runs_good_laws.specs.GoodStates.{GoodPlain, GoodShadow}
use Rattle.ms_runs_good_laws.specs.GoodWorlds.{GoodWorld, FitsCell, AnyOrigin}

-- a state of a plain run: its frames and its world are good, and the slots hold bytes
pub record SoundPlain (m : Module) (state : PlainState) : Type 0 where
  pub frames : GoodPlain m state
  pub slots : (a : ℕ) → state.slots a < 256
  pub world : GoodWorld FitsCell state.world

-- a state of a shadow run: its frames and its world are good
pub record SoundShadow (m : Module) (state : ShadowState) : Type 0 where
  pub frames : GoodShadow m state
  pub world : GoodWorld AnyOrigin state.world

-- a step leads to a state of a kind, or ends the run in a world of a kind
abbrev pub LeadsTo : {S : Type 0} → (S → Type 0) → (World → Type 0) → Stepped S → Type 0
LeadsTo state world (More s) = state s
LeadsTo state world (Stop e w) = world w
