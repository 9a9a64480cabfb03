-- The plain run: what marked instructions do, one step, and a whole run of a module with a setup (own; marked
-- instructions are those that were inserted, and shadow stands at an address of its own as in "MemorySanitizer: fast
-- detector of uninitialized memory use in C++", Stepanov and Serebryany, CGO 2015).
use Rattle.std.specs.Prelude.{ℕ, zero, suc, ◌+◌, ◌%◌, ◌^◌, Bool, true, false, ◌&&◌, List, [], ◌∷◌, bit_xor, leb, if◌then◌else◌, Some, None, unwrap_or}
use Rattle.ms_bits.specs.declared.traps.Trap.TheVariants as trap
use Rattle.ms_ir.specs.declared.syntax.Name.{Name}
use Rattle.ms_ir.specs.declared.syntax.Ty.{Ty}
use Rattle.ms_ir.specs.declared.syntax.Op.{Op}
use Rattle.ms_ir.specs.declared.syntax.Op.TheVariants as op
use Rattle.ms_ir.specs.declared.syntax.Inst.{Inst}
use Rattle.ms_ir.specs.declared.syntax.Module.{Module}
use Rattle.ms_runs.specs.declared.runs.End.{End}
use Rattle.ms_runs.specs.declared.runs.End.TheVariants as «end»
use Rattle.ms_runs.specs.declared.runs.Setup.{Setup}
use Rattle.ms_runs.specs.declared.runs.RunResult.{RunResult}
use Rattle.ms_ir.specs.Names.{lookup, slots, runtime_functions, main_name}
use Rattle.ms_ir.specs.Areas.{Stack, area_base}
use Rattle.ms_ir.specs.Layout.{width_of, stored_size}
use Rattle.ms_runs.specs.World.{World, Setting, Here, Effect, Gives, Does, Ends, traps, stuck, result, word, first_world}
use Rattle.ms_bits.specs.Maps.{number_at, byte_of, with_range}
use Rattle.ms_runs.specs.Memory.{is_good, set_shadow}
use Rattle.ms_ir.specs.Instructions.{operands, func_index, count_roots}
use Rattle.ms_runs.specs.Globals.{address_of, make_globals}
use Rattle.ms_runs.specs.Control.{Frame, Reading, Outcome, On, Over, here, rest_of, read_all, after_effect, keeping}
use Rattle.ms_runs.specs.Act.{plain_reading, act}
use Rattle.ms_runs.specs.Runtime.{runtime}

-- the shadow byte of an address stands at this exclusive or with it
abbrev pub shadow_bits : ℕ
shadow_bits = 0x500000000000

-- n bytes from an address on lie in one slot
abbrev pub in_slots : ℕ → ℕ → List (Name × (ℕ × ℕ)) → Bool
in_slots a n [] = false
in_slots a n (p ∷ ps) = if leb p.1.0 a && leb (a + n) (p.1.0 + p.1.1) then true else in_slots a n ps

-- a marked 'load': bytes of a slot, or shadow bytes of one live allocation
abbrev pub load_marked : (site a : ℕ) → Ty → (ℕ → ℕ) → World → Effect
load_marked site a t cells world =
    let n = stored_size t in let b = bit_xor a shadow_bits in
    if in_slots a n slots then Gives (number_at cells a n % 2 ^ width_of t) world else
    if is_good world b n then Gives (number_at world.shadow b n % 2 ^ width_of t) world else traps trap.BadAddress site world

-- a marked 'store': shadow bytes of one live allocation change here, and a slot's in `slots_after`
abbrev pub store_marked : (site a : ℕ) → Ty → ℕ → World → Effect
store_marked site a t v world =
    let n = stored_size t in let b = bit_xor a shadow_bits in
    if in_slots a n slots then Does world else
    if is_good world b n then Does (set_shadow b n (byte_of v) world) else traps trap.BadAddress site world

-- the slots' bytes after a marked instruction: a 'store' into a slot changes them
abbrev pub slots_after : Op → List ℕ → (ℕ → ℕ) → (ℕ → ℕ)
slots_after (op.Store t v addr) words cells =
    if in_slots (word 1 words) (stored_size t) slots then with_range cells (word 1 words) (stored_size t) (byte_of (word 0 words)) else cells
slots_after _ words cells = cells

-- a marked instruction: its accesses reach shadow and slots alone, it calls runtime functions and what moves bits alone, and
-- else it does what an unmarked one does
abbrev pub act_marked : Setting → Here → Op → List ℕ → (ℕ → ℕ) → World → Effect
act_marked setting here (op.Load t addr) words cells world = load_marked here.site (word 0 words) t cells world
act_marked setting here (op.Store t v addr) words cells world = store_marked here.site (word 1 words) t (word 0 words) world
act_marked setting here (op.Call ret callee args) words cells world =
    elim (lookup runtime_functions callee) [ Some f ↦ runtime setting f words world | None ↦ Ends stuck world ]
act_marked setting here o words cells world = act setting here o words world

-- a state of a plain run: the frames, innermost first, the slots' bytes by address, and the world
pub record PlainState : Type 0 where
  pub frames : List (Frame ℕ)
  pub slots : ℕ → ℕ
  pub world : World

-- what a step comes to: a next state, or the end with the world then
pub data Stepped (S : Type 0) : Type 0 where
  More : S → Stepped S
  Stop : End → World → Stepped S

-- goes on, unless the run ended
abbrev pub and_then : {S : Type 0} → Stepped S → (S → Stepped S) → Stepped S
and_then (More s) go = go s
and_then (Stop e w) go = Stop e w

-- the state after an instruction whose frames are known, and its slots' bytes
abbrev pub plain_state : (ℕ → ℕ) → Outcome ℕ → Stepped PlainState
plain_state held (On frames world) = More (record { frames = frames; slots = held; world = world })
plain_state held (Over e world) = Stop e world

-- one instruction, marked or not, of the innermost of these frames
abbrev pub plain_inst : Setting → Module → Inst → PlainState → List (Frame ℕ) → Stepped PlainState
plain_inst given m inst state [] = Stop stuck state.world
plain_inst given m inst state (frame ∷ below) =
    let at = here given m frame in
    let words = read_all (plain_reading.read given frame.values) (operands inst.op) at.root in
    let effect = if inst.marked then act_marked given at inst.op words state.slots state.world else act given at inst.op words state.world in
    plain_state (if inst.marked then slots_after inst.op words state.slots else state.slots)
    (after_effect plain_reading given m at.site inst.result words (λ v world. v) (λ v world. world) (keeping inst.op effect frame) below effect)

-- from here on: the marked instructions, which are no steps, and one unmarked one, which is
abbrev pub through : Setting → Module → List Inst → PlainState → Stepped PlainState
through given m [] state = Stop stuck state.world
through given m (inst ∷ insts) state = and_then (plain_inst given m inst state state.frames) (if inst.marked then through given m insts else More)

-- a step of the innermost of these frames
abbrev pub plain_first : Setting → Module → List (Frame ℕ) → PlainState → Stepped PlainState
plain_first given m [] state = Stop stuck state.world
plain_first given m (frame ∷ below) state = through given m (rest_of m frame) state

-- one step of a plain run: the next unmarked instruction, and the marked ones before it
abbrev pub plain_step : Setting → Module → PlainState → Stepped PlainState
plain_step given m state = plain_first given m state.frames state

-- what a run comes to in so many steps
abbrev pub steps : {S : Type 0} → (S → Stepped S) → ℕ → S → Stepped S
steps step zero s = More s
steps step (suc n) s = and_then (step s) (steps step n)

-- what a run returns after a step
abbrev pub go_on : {S : Type 0} → (S → RunResult) → Stepped S → RunResult
go_on answer (More state) = answer state
go_on answer (Stop e world) = result e world

-- a run of at most so many steps; where none is left and the run hasn't ended, it is spent before any instruction more
abbrev pub run : {S : Type 0} → (S → World) → (S → Stepped S) → ℕ → S → RunResult
run world step zero state = result «end».Spent (world state)
run world step (suc n) state = go_on (run world step n) (step state)

-- what stays the same in the runs of a module with a setup
abbrev pub setting_of : Module → Setup → Setting
setting_of m setup = record {
  types = m.types;
  address = address_of m;
  func = func_index m.funcs;
  fill = setup.fill;
  limit = setup.reports;
  once = setup.once;
  roots = count_roots m;
}

-- the world at the start: the globals alone stand in memory, and nothing is made, taken or printed
abbrev pub start_world : Module → Setup → World
start_world m setup = make_globals m.types (address_of m) m.globals (first_world setup.input)

-- the frame at the start: the first instruction of `main`
abbrev pub start_frame : {V : Type 0} → Reading V → Module → Frame V
start_frame reading m = record {
  func = unwrap_or (func_index m.funcs main_name) 0;
  block = 0;
  place = 0;
  values = λ x. reading.unset;
  mark = area_base Stack;
  heap = [];
}

-- the state at the start: the slots are zero
abbrev pub plain_start : Module → Setup → PlainState
plain_start m setup = record { frames = start_frame plain_reading m ∷ []; slots = λ a. 0; world = start_world m setup }

-- the plain run of a module with a setup: its output, end, reports and number of blind uses
abbrev pub plain : Module → Setup → RunResult
plain m setup = run (λ state. state.world) (plain_step (setting_of m setup) m) setup.steps (plain_start m setup)
