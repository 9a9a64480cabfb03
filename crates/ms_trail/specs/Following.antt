-- A run that is followed: the machine's fiber and world stand for the plain run, whose world has the shadow of the shadow run,
-- and beside them stand the masks of the frames' values, the frames' numbers, and the moves so far (own).
use Rattle.std.specs.Prelude.{◌≡◌, ◌≢◌, ℕ, ◌<◌, ◌^◌, Bool, true, false, List, [], ◌∷◌, length, Some, reverse}
use Rattle.ms_ir.specs.ThreadCalls.{is_threaded}
use Rattle.ms_ir.specs.declared.syntax.Func.{Func}
use Rattle.ms_ir.specs.declared.syntax.Module.{Module}
use Rattle.ms_ir.specs.declared.syntax.Inst.{Inst}
use Rattle.ms_ir.specs.Instructions.{func_at, operands, count_roots, NoMarks}
use Rattle.ms_ir.specs.Locals.{locals}
use Rattle.ms_runs.specs.declared.runs.End.{End}
use Rattle.ms_runs.specs.declared.runs.End.TheVariants as «end»
use Rattle.ms_runs.specs.declared.runs.Setup.{Setup}
use Rattle.ms_runs.specs.World.{World, Setting, Does}
use Rattle.ms_runs.specs.Control.{Frame, here, rest_of, read_all}
use Rattle.ms_runs.specs.Plain.{PlainState, More, Stop, setting_of}
use Rattle.ms_runs.specs.Poisoned.{Poisoned}
use Rattle.ms_runs.specs.Masks.{by_formulas}
use Rattle.ms_runs.specs.Uses.{uses, check_uses}
use Rattle.ms_runs.specs.Shadow.{ShadowState, read_poisoned, shadow_step}
use Rattle.ms_machine_code.specs.Reads.{Holds}
use Rattle.ms_host.specs.State.{nothing_beside}
use Rattle.ms_runs_good_laws.specs.GoodStates.{IsMain, Bottom}
use Rattle.ms_machine.specs.Running.{IsRunning}
use Rattle.ms_runs_laws.specs.Follows.{Follows}
use Rattle.ms_trail_moves.specs.Traces.{Traced, traced_on, use_of}
use Rattle.ms_trail.specs.declared.traced_run.TracedRun.{TracedRun}
use Rattle.ms_trail.specs.declared.traced_run.StepEnd.{StepEnd}
use Rattle.ms_trail.specs.declared.traced_run.StepEnd.TheVariants as turn
use Rattle.ms_trail_uses.specs.declared.frame_masks.FrameMasks.{FrameMasks}
use Rattle.ms_trail_bytes.specs.Logs.{IsLog}
use Rattle.ms_trail_uses.specs.Tabled.{AreTables}

-- a call's masks, under its number, are those of a frame's values
pub record HasShade (m : Module) (number : ℕ) (frame : Frame Poisoned) (shade : FrameMasks) : Type 0 where
  pub func : Func
  pub is : func_at m frame.func ≡ Some func
  pub numbered : shade.number ≡ number
  pub masks : Holds (locals func) shade.masks.items (λ x. (frame.values x).mask)

-- those of all frames that stand, innermost first
abbrev pub HaveShades : Module → List ℕ → List (Frame Poisoned) → List FrameMasks → Type 0
HaveShades m [] [] [] = Unit {0}
HaveShades m (n ∷ ns) (f ∷ fs) (s ∷ ss) = HasShade m n f s × HaveShades m ns fs ss
HaveShades m _ _ _ = ⊥

pub record IsFollowed (m : Module) (u : Setup) (t : Traced) (f : TracedRun) : Type 0 where
  pub whole : f.m.now ≡ m
  pub bare : NoMarks m
  pub calm : is_threaded m ≡ false
  pub few : count_roots m < 2 ^ 31
  pub state : PlainState
  pub running : IsRunning m u nothing_beside f.fiber f.world state
  pub follows : Follows t.state state
  pub bottom : Bottom (IsMain m) t.state.frames
  pub shades : HaveShades m t.numbers.standing t.state.frames (f.shade ∷ reverse f.below.items)
  pub made : f.made ≡ t.numbers.made
  pub event : f.event ≡ t.events
  pub log : IsLog f.log t.moves
  pub tables : AreTables m f.tables.rows.items
  pub fill : f.fill.now ≡ u.fill
  pub filled : 0 < length u.fill

-- a turn took the run's next step: it goes on, or it ended, at a report or otherwise
abbrev pub Turned : Module → Setup → Traced → StepEnd → TracedRun → Type 0
Turned m u t turn.On f = (c : ShadowState) × ((shadow_step by_formulas (setting_of m u) m t.state ≡ More c) × IsFollowed m u (traced_on (setting_of m u) m t c) f)
Turned m u t turn.Over f = (e : End) × (w : World) × ((shadow_step by_formulas (setting_of m u) m t.state ≡ Stop e w) × (e ≢ «end».Reported))
Turned m u t (turn.Reported at) f = (w : World) × ((shadow_step by_formulas (setting_of m u) m t.state ≡ Stop «end».Reported w) × (at ≡ use_of (setting_of m u) m t.numbers t.state) × IsLog f.log t.moves)

-- the checks of the instruction that is due pass
abbrev pub InstPasses : Setting → Module → List Inst → Frame Poisoned → World → Type 0
InstPasses s m [] fr w = ⊥
InstPasses s m (i ∷ is) fr w =
    check_uses s (here s m fr).site (operands i.op) (read_all (read_poisoned s fr.values) (operands i.op) (here s m fr).root) (uses s.func (here s m fr).main i.op) w ≡ Does w

abbrev pub FramesPass : Setting → Module → List (Frame Poisoned) → World → Type 0
FramesPass s m [] w = ⊥
FramesPass s m (fr ∷ below) w = InstPasses s m (rest_of m fr) fr w

abbrev pub Passes : Module → Setup → Traced → Type 0
Passes m u t = FramesPass (setting_of m u) m t.state.frames t.state.world

-- a step was taken after checks that pass: the run goes on, or it ended without a report
abbrev pub Went : Module → Setup → Traced → Bool → TracedRun → Type 0
Went m u t true f = (c : ShadowState) × ((shadow_step by_formulas (setting_of m u) m t.state ≡ More c) × IsFollowed m u (traced_on (setting_of m u) m t c) f)
Went m u t false f = (e : End) × (w : World) × ((shadow_step by_formulas (setting_of m u) m t.state ≡ Stop e w) × (e ≢ «end».Reported))
