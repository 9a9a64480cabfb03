-- A run without inserted code that is followed, with the shadow of memory written beside it (own): the plain run of a module
-- takes the steps of its shadow run, and after each step memory gets the shadow that the step leaves there.
use Rattle.std.specs.Prelude.{◌≡◌, ℕ, ◌*◌, ◌%◌, List, [], ◌∷◌, map, not, ◌&&◌, ◌||◌, eqb, if◌then◌else◌, Option, Some, None, unwrap_or}
use Rattle.ms_bits.specs.Maps.{byte_of}
use Rattle.ms_ir.specs.declared.syntax.Name.{Name}
use Rattle.ms_ir.specs.declared.syntax.Op.{Op}
use Rattle.ms_ir.specs.declared.syntax.Op.TheVariants as op
use Rattle.ms_ir.specs.declared.syntax.Inst.{Inst}
use Rattle.ms_ir.specs.declared.syntax.Module.{Module}
use Rattle.ms_ir.specs.declared.calls.External.{External}
use Rattle.ms_ir.specs.declared.calls.External.TheVariants.{Malloc, Realloc, Memcpy, Memmove, Memset, Read, LlvmMemcpy, LlvmMemmove, LlvmMemset, LifetimeStart, PthreadCreate, PthreadJoin}
use Rattle.ms_ir.specs.Layout.{stored_size, size_in}
use Rattle.ms_ir.specs.Instructions.{operands, external_named}
use Rattle.ms_runs.specs.declared.runs.End.TheVariants as «end»
use Rattle.ms_runs.specs.World.{World, Setting, Effect, Gives, Does}
use Rattle.ms_runs.specs.Memory.{is_good, heap_size, set_shadow}
use Rattle.ms_runs.specs.Threads.{thread_at, has_ended}
use Rattle.ms_runs.specs.Origins.{poison, unpoison, copy_planes}
use Rattle.ms_runs.specs.Control.{Frame, here, rest_of, read_all}
use Rattle.ms_runs.specs.Act.{act}
use Rattle.ms_runs.specs.Plain.{PlainState, Stepped, More, Stop}
use Rattle.ms_runs.specs.Poisoned.{Poisoned}
use Rattle.ms_runs.specs.Masks.{word_at}
use Rattle.ms_runs.specs.Shadow.{ShadowState, read_poisoned}

-- ---- worlds and frames

-- a world without what says where poisoned bits come from, without reports and without the number of blind uses
abbrev pub light : World → World
light w = record w { origins = λ c. 0; pairs = []; reports = []; blind = 0 }

-- the words of values
abbrev pub words : (Name → Poisoned) → (Name → ℕ)
words values = λ x. (values x).value

-- a frame with its words alone
abbrev pub bare_frame : Frame Poisoned → Frame ℕ
bare_frame fr = record { func = fr.func; block = fr.block; place = fr.place; values = words fr.values; mark = fr.mark; heap = fr.heap }

-- ---- the shadow that an instruction leaves

-- n bytes, where they are good, get a mask's low byte as shadow
abbrev pub fill_shadow : (a n mask : ℕ) → World → World
fill_shadow a n mask w =
    if not (is_good w a n) then w else
    if eqb (mask % 256) 0 || eqb n 0 then set_shadow a n (λ k. 0) w else set_shadow a n (λ k. mask % 256) w

-- after a join that answered a word, the bytes at an address get the mask of the word that a thread answered
abbrev pub answer_shadow : (a id answer : ℕ) → World → World
answer_shadow a id answer w =
    if eqb answer 0 && not (eqb a 0) && is_good w a 8 && has_ended (thread_at id w.threads) then set_shadow a 8 (byte_of (w.answer_masks id)) w else w

-- of an external that answered v; before is the world before the call
abbrev pub external_shadow : External → List Poisoned → (before : World) → ℕ → World → World
external_shadow Malloc ps before v w = poison v 0 (word_at 0 ps).value 0 w
external_shadow Realloc ps before v w = poison v (unwrap_or (heap_size before (word_at 0 ps).value) 0) (word_at 1 ps).value 0 w
external_shadow Memcpy ps before v w = copy_planes (word_at 0 ps).value (word_at 1 ps).value (word_at 2 ps).value w
external_shadow Memmove ps before v w = copy_planes (word_at 0 ps).value (word_at 1 ps).value (word_at 2 ps).value w
external_shadow Memset ps before v w = fill_shadow (word_at 0 ps).value (word_at 2 ps).value (word_at 1 ps).mask w
external_shadow Read ps before v w = unpoison (word_at 1 ps).value v w
external_shadow LlvmMemcpy ps before v w = copy_planes (word_at 0 ps).value (word_at 1 ps).value (word_at 2 ps).value w
external_shadow LlvmMemmove ps before v w = copy_planes (word_at 0 ps).value (word_at 1 ps).value (word_at 2 ps).value w
external_shadow LlvmMemset ps before v w = fill_shadow (word_at 0 ps).value (word_at 2 ps).value (word_at 1 ps).mask w
external_shadow LifetimeStart ps before v w = poison (word_at 1 ps).value 0 (word_at 0 ps).value 0 w
external_shadow PthreadCreate ps before v w = unpoison (word_at 0 ps).value (if eqb v 0 then 8 else 0) w
external_shadow PthreadJoin ps before v w = answer_shadow (word_at 1 ps).value (word_at 0 ps).value v w
external_shadow _ ps before v w = w

abbrev pub callee_shadow : Option External → List Poisoned → (before : World) → ℕ → World → World
callee_shadow None ps before v w = w
callee_shadow (Some e) ps before v w = external_shadow e ps before v w

-- of an instruction that came to v
abbrev pub shadow_left : Setting → Op → List Poisoned → (before : World) → ℕ → World → World
shadow_left s (op.Alloca t u c) ps before v w = poison v 0 (size_in s.types t * (word_at 0 ps).value) 0 w
shadow_left s (op.Store t x a) ps before v w = set_shadow (word_at 1 ps).value (stored_size t) (byte_of (word_at 0 ps).mask) w
shadow_left s (op.Call r x as') ps before v w = callee_shadow (external_named s.func x) ps before v w
shadow_left s _ ps before v w = w

-- after an effect: one that goes on after the instruction leaves shadow, and no other does
abbrev pub leave_shadow : Effect → (ℕ → World → World) → World → World
leave_shadow (Gives v u) after w = after v w
leave_shadow (Does u) after w = after 0 w
leave_shadow effect after w = w

-- the same of the first of these instructions, which the innermost frame has due, in the world before it
abbrev pub first_shadow : Setting → Module → List Inst → Frame Poisoned → (before : World) → World → World
first_shadow s m [] fr before w = w
first_shadow s m (i ∷ is) fr before w =
    let h = here s m fr in
    let ps = read_all (read_poisoned s fr.values) (operands i.op) h.root in
    leave_shadow (act s h i.op (map (λ p. p.value) ps) before) (shadow_left s i.op ps before) w

abbrev pub frames_shadow : Setting → Module → List (Frame Poisoned) → (before : World) → World → World
frames_shadow s m [] before w = w
frames_shadow s m (fr ∷ below) before w = first_shadow s m (rest_of m fr) fr before w

-- the shadow that a step from a state leaves in memory
abbrev pub step_shadow : Setting → Module → ShadowState → World → World
step_shadow s m c w = frames_shadow s m c.frames c.world w

-- ---- runs

-- a state of the plain run follows one of the shadow run: it has the words of the frames, and the shadow of memory
pub record Follows (c : ShadowState) (p : PlainState) : Type 0 where
  pub frames : p.frames ≡ map bare_frame c.frames
  pub world : light p.world ≡ light c.world

-- a step of the plain run follows one of the shadow run: once memory has the shadow that the step leaves there; where the
-- shadow run ends without a report, the plain run ends alike
abbrev pub StepFollows : Setting → Module → ShadowState → Stepped ShadowState → Stepped PlainState → Type 0
StepFollows s m c (More c') (More p') = (p'.frames ≡ map bare_frame c'.frames) × (light (step_shadow s m c p'.world) ≡ light c'.world)
StepFollows s m c (More c') (Stop e w) = ⊥
StepFollows s m c (Stop «end».Reported w) step = Unit {0}
StepFollows s m c (Stop e w) (More p') = ⊥
StepFollows s m c (Stop e w) (Stop e' w') = (e' ≡ e) × (light w' ≡ light w)
