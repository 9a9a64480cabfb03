-- The plain run of a module with guest threads (own).
use Rattle.std.specs.Prelude.{ℕ, Bool, ◌&&◌, not, List, [], ◌∷◌, length, map, eqb, if◌then◌else◌, Option, Some, None}
use Rattle.ms_ir.specs.declared.syntax.Name.{Name}
use Rattle.ms_ir.specs.declared.syntax.Op.{Op}
use Rattle.ms_ir.specs.declared.syntax.Op.TheVariants as op
use Rattle.ms_ir.specs.declared.syntax.Inst.{Inst}
use Rattle.ms_ir.specs.declared.syntax.Module.{Module}
use Rattle.ms_ir.specs.declared.calls.External.{External}
use Rattle.ms_ir.specs.declared.calls.External.TheVariants.{PthreadJoin}
use Rattle.ms_ir.specs.ThreadCalls.{is_asked}
use Rattle.ms_ir.specs.Instructions.{operands, external_named}
use Rattle.ms_runs.specs.declared.runs.Setup.{Setup}
use Rattle.ms_runs.specs.declared.runs.RunResult.{RunResult}
use Rattle.ms_runs.specs.World.{World, Setting, stuck, word, result}
use Rattle.ms_runs.specs.Control.{Frame, Reading, here, rest_of, read_all, entered, given_back}
use Rattle.ms_runs.specs.Act.{plain_reading}
use Rattle.ms_runs.specs.Plain.{PlainState, Stepped, More, Stop, and_then, plain_inst, plain_step, setting_of, start_world, start_frame}
use Rattle.ms_runs.specs.Poisoned.{Poisoned}
use Rattle.ms_runs.specs.Threads.{first_clean, result_mask, result_origin}
use Rattle.ms_runs_threads.specs.Fibers.{Due, Own, Asks, Returns, Going, Meaning, Others, Fibers, Goes, goes_on, ends_in}

-- ---- what is due in a fiber

-- the first instruction that isn't marked
abbrev pub due_inst : List Inst → Option Inst
due_inst [] = None
due_inst (i ∷ is) = if i.marked then due_inst is else Some i

-- what an instruction of `main`, or of another function, is that is due in a fiber's only frame, or in another one
abbrev pub due_of : (Name → Option ℕ) → (main only : Bool) → Op → Due
due_of func main only (op.Call ret callee args) = if is_asked (external_named func callee) then Asks else Own
due_of func main only (op.Ret v) = if only && not main then Returns else Own
due_of func main only _ = Own

abbrev pub due_at : (Name → Option ℕ) → (main only : Bool) → Option Inst → Due
due_at func main only None = Own
due_at func main only (Some i) = due_of func main only i.op

abbrev pub frames_due : {V : Type 0} → Setting → Module → List (Frame V) → Due
frames_due s m [] = Own
frames_due s m (f ∷ below) = due_at s.func (here s m f).main (eqb (length below) 0) (due_inst (rest_of m f))

-- the words of what is due
abbrev pub words_due : {V : Type 0} → Reading V → Setting → Module → Frame V → Option Inst → List V
words_due reading s m f None = []
words_due reading s m f (Some i) = read_all (reading.read s f.values) (operands i.op) (here s m f).root

-- the number that a thread call joins
abbrev pub joins_of : Option External → List ℕ → Option ℕ
joins_of (Some PthreadJoin) words = Some (word 0 words)
joins_of callee words = None

abbrev pub op_joins : (Name → Option ℕ) → Op → List ℕ → Option ℕ
op_joins func (op.Call ret callee args) words = joins_of (external_named func callee) words
op_joins func _ words = None

abbrev pub inst_joins : (Name → Option ℕ) → Option Inst → List ℕ → Option ℕ
inst_joins func None words = None
inst_joins func (Some i) words = op_joins func i.op words

abbrev pub frames_joins : {V : Type 0} → Reading V → (V → ℕ) → Setting → Module → List (Frame V) → Option ℕ
frames_joins reading value s m [] = None
frames_joins reading value s m (f ∷ below) = inst_joins s.func (due_inst (rest_of m f)) (map value (words_due reading s m f (due_inst (rest_of m f))))

abbrev pub frames_site : {V : Type 0} → Setting → Module → List (Frame V) → ℕ
frames_site s m [] = 0
frames_site s m (f ∷ below) = (here s m f).site

-- the innermost frame's part of stack and heap is taken back
abbrev pub frames_left : {V : Type 0} → List (Frame V) → World → World
frames_left [] world = world
frames_left (f ∷ below) world = given_back f world

-- ---- plain runs

-- what fibers share in a plain run: the slots' bytes and the world
pub record Shared : Type 0 where
  pub slots : ℕ → ℕ
  pub world : World

abbrev pub state_of : List (Frame ℕ) → Shared → PlainState
state_of frames shared = record { frames = frames; slots = shared.slots; world = shared.world }

abbrev pub going_of : PlainState → Going (List (Frame ℕ)) Shared
going_of state = record { fiber = state.frames; shared = record { slots = state.slots; world = state.world } }

abbrev pub plain_going : Stepped PlainState → Stepped (Going (List (Frame ℕ)) Shared)
plain_going step = goes_on step (λ state. More (going_of state))

-- the marked instructions up to the next unmarked one
abbrev pub through_marked : Setting → Module → List Inst → PlainState → Stepped PlainState
through_marked given m [] state = Stop stuck state.world
through_marked given m (inst ∷ insts) state = if inst.marked then and_then (plain_inst given m inst state state.frames) (through_marked given m insts) else More state

abbrev pub plain_reach : Setting → Module → List (Frame ℕ) → Shared → Stepped PlainState
plain_reach given m [] shared = Stop stuck shared.world
plain_reach given m (f ∷ below) shared = through_marked given m (rest_of m f) (state_of (f ∷ below) shared)

-- the word that a return answers, with the mask and the origin that the slots hold
abbrev pub plain_answer : Setting → Module → List (Frame ℕ) → Shared → Poisoned
plain_answer given m [] shared = record { value = 0; mask = 0; origin = 0 }
plain_answer given m (f ∷ below) shared = record {
  value = word 0 (words_due plain_reading given m f (due_inst (rest_of m f)));
  mask = result_mask shared.slots;
  origin = result_origin shared.slots;
}

abbrev pub plain_fiber : Setting → Module → Meaning (List (Frame ℕ)) Shared
plain_fiber given m = record {
  world = λ shared. shared.world;
  within = λ world shared. record shared { world = world };
  due = frames_due given m;
  joins = frames_joins plain_reading (λ v. v) given m;
  site = frames_site given m;
  step = λ frames shared. plain_going (plain_step given m (state_of frames shared));
  reach = λ frames shared. plain_going (plain_reach given m frames shared);
  perform = λ frames shared. plain_going (plain_step given m (state_of frames shared));
  answer = plain_answer given m;
  left = frames_left;
  begun = λ func argument shared. record {
    fiber = entered plain_reading m func (argument ∷ []) shared.world ∷ [];
    shared = record shared { slots = first_clean shared.slots };
  };
}

-- no fiber stands at a call yet, and no pick was made
abbrev pub no_others : {F : Type 0} → Others F
no_others = record { stands = λ k. None; picks = 0 }

abbrev pub plain_threads_start : Module → Setup → Fibers (List (Frame ℕ)) Shared
plain_threads_start m setup = Goes (start_frame plain_reading m ∷ []) (record { slots = λ a. 0; world = start_world m setup }) no_others

-- the plain run of a module with guest threads, with a setup and a schedule
abbrev pub plain_threads : Module → Setup → (schedule : List ℕ) → RunResult
plain_threads m setup schedule =
    let at = ends_in (plain_fiber (setting_of m setup) m) schedule setup.steps (plain_threads_start m setup) in result at.0 at.1
