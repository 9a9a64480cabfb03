-- The shadow run of a module with guest threads (own).
use Rattle.std.specs.Prelude.{ℕ, List, [], ◌∷◌, get_or}
use Rattle.ms_ir.specs.declared.syntax.Inst.{Inst}
use Rattle.ms_ir.specs.declared.syntax.Module.{Module}
use Rattle.ms_ir.specs.Instructions.{operands}
use Rattle.ms_runs.specs.declared.runs.Setup.{Setup}
use Rattle.ms_runs.specs.declared.runs.RunResult.{RunResult}
use Rattle.ms_runs.specs.World.{World, Setting, Effect, Gives, Does, Goes as Jumps, Enters, Leaves, Ends, stuck, result}
use Rattle.ms_runs.specs.Control.{Frame, here, rest_of, read_all, entered}
use Rattle.ms_runs.specs.Plain.{Stepped, More, Stop, setting_of, start_world, start_frame}
use Rattle.ms_runs.specs.Poisoned.{Poisoned, clean}
use Rattle.ms_runs.specs.Masks.{Rules, by_completions}
use Rattle.ms_runs.specs.Uses.{uses, check_uses}
use Rattle.ms_runs.specs.Shadow.{ShadowState, shadow_reading, read_poisoned, shadow_moved, after_checks, shadow_step}
use Rattle.ms_runs_threads.specs.Fibers.{Going, Meaning, Fibers, Goes, goes_on, ends_in}
use Rattle.ms_runs_threads.specs.PlainFibers.{due_inst, frames_due, frames_joins, frames_site, frames_left, words_due, no_others}

abbrev pub shadow_state : List (Frame Poisoned) → World → ShadowState
shadow_state frames world = record { frames = frames; world = world }

abbrev pub shadow_going : Stepped ShadowState → Stepped (Going (List (Frame Poisoned)) World)
shadow_going step = goes_on step (λ state. More (record { fiber = state.frames; shared = state.world }))

-- where checks let a run go on, with these frames
abbrev pub checked : List (Frame Poisoned) → Effect → Stepped ShadowState
checked frames (Does world) = More (shadow_state frames world)
checked frames (Ends e world) = Stop e world
checked frames (Gives v world) = Stop stuck world
checked frames (Jumps to world) = Stop stuck world
checked frames (Enters f world) = Stop stuck world
checked frames (Leaves world) = Stop stuck world

-- the checks of what is due
abbrev pub reach_first : Setting → Module → List Inst → Frame Poisoned → List (Frame Poisoned) → World → Stepped ShadowState
reach_first s m [] f below world = Stop stuck world
reach_first s m (i ∷ is) f below world =
    let h = here s m f in
    checked (f ∷ below) (check_uses s h.site (operands i.op) (read_all (read_poisoned s f.values) (operands i.op) h.root) (uses s.func h.main i.op) world)

abbrev pub shadow_reach : Setting → Module → List (Frame Poisoned) → World → Stepped ShadowState
shadow_reach s m [] world = Stop stuck world
shadow_reach s m (f ∷ below) world = reach_first s m (rest_of m f) f below world

-- what is due, without its checks
abbrev pub perform_first : Rules → Setting → Module → List Inst → Frame Poisoned → List (Frame Poisoned) → World → Stepped ShadowState
perform_first d s m [] f below world = Stop stuck world
perform_first d s m (i ∷ is) f below world =
    shadow_moved (after_checks d s m i (here s m f) (read_all (read_poisoned s f.values) (operands i.op) (here s m f).root) f below (Does world))

abbrev pub shadow_perform : Rules → Setting → Module → List (Frame Poisoned) → World → Stepped ShadowState
shadow_perform d s m [] world = Stop stuck world
shadow_perform d s m (f ∷ below) world = perform_first d s m (rest_of m f) f below world

-- the word that a return answers
abbrev pub shadow_answer : Setting → Module → List (Frame Poisoned) → World → Poisoned
shadow_answer s m [] world = clean
shadow_answer s m (f ∷ below) world = get_or (words_due shadow_reading s m f (due_inst (rest_of m f))) 0 clean

abbrev pub shadow_fiber : Rules → Setting → Module → Meaning (List (Frame Poisoned)) World
shadow_fiber d s m = record {
  world = λ world. world;
  within = λ world old. world;
  due = frames_due s m;
  joins = frames_joins shadow_reading (λ p. p.value) s m;
  site = frames_site s m;
  step = λ frames world. shadow_going (shadow_step d s m (shadow_state frames world));
  reach = λ frames world. shadow_going (shadow_reach s m frames world);
  perform = λ frames world. shadow_going (shadow_perform d s m frames world);
  answer = shadow_answer s m;
  left = frames_left;
  begun = λ func argument world. record { fiber = entered shadow_reading m func (record { value = argument; mask = 0; origin = 0 } ∷ []) world ∷ []; shared = world };
}

abbrev pub shadow_threads_start : Module → Setup → Fibers (List (Frame Poisoned)) World
shadow_threads_start m setup = Goes (start_frame shadow_reading m ∷ []) (start_world m setup) no_others

abbrev pub shadow_threads_by : Rules → Module → Setup → (schedule : List ℕ) → RunResult
shadow_threads_by d m setup schedule =
    let at = ends_in (shadow_fiber d (setting_of m setup) m) schedule setup.steps (shadow_threads_start m setup) in result at.0 at.1

-- the shadow run of a module with guest threads, with a setup and a schedule
abbrev pub shadow_threads : Module → Setup → (schedule : List ℕ) → RunResult
shadow_threads = shadow_threads_by by_completions
