-- The shadow meaning: each word with its mask and its origin.
use Rattle.std.specs.Prelude.{ℕ, ◌+◌, ◌-◌, ◌*◌, ◌%◌, ◌^◌, List, [], ◌∷◌, map, eqb, if◌then◌else◌, Option, Some, None, unwrap_or}
use Rattle.ms_ir.specs.declared.syntax.Name.{Name}
use Rattle.ms_ir.specs.declared.syntax.Ty.{Ty}
use Rattle.ms_ir.specs.declared.syntax.Operand.{Operand}
use Rattle.ms_ir.specs.declared.syntax.Operand.TheVariants as operand
use Rattle.ms_ir.specs.declared.syntax.Op.{Op}
use Rattle.ms_ir.specs.declared.syntax.Op.TheVariants as op
use Rattle.ms_ir.specs.declared.syntax.Inst.{Inst}
use Rattle.ms_ir.specs.declared.syntax.Module.{Module}
use Rattle.ms_runs.specs.declared.runs.Setup.{Setup}
use Rattle.ms_runs.specs.declared.runs.RunResult.{RunResult}
use Rattle.ms_ir.specs.declared.calls.External.{External}
use Rattle.ms_ir.specs.declared.calls.External.TheVariants.{Malloc, Realloc, Memcpy, Memmove, Memset, Read, LlvmMemcpy, LlvmMemmove, LlvmMemset, LifetimeStart, PthreadCreate, PthreadJoin}
use Rattle.ms_ir.specs.Layout.{width_of, stored_size, size_in}
use Rattle.ms_runs.specs.World.{World, Setting, Here, Effect, Gives, Does, Goes, Enters, Leaves, Ends, stuck}
use Rattle.ms_bits.specs.Maps.{byte_of}
use Rattle.ms_runs.specs.Memory.{heap_size, set_shadow}
use Rattle.ms_runs.specs.Origins.{count_blind, poison, unpoison, copy_planes, fill_planes, store_origin, thread_result}
use Rattle.ms_ir.specs.Instructions.{operands, count_undefs, external_named}
use Rattle.ms_runs.specs.Control.{Frame, Reading, Outcome, On, Over, here, rest_of, read_all, after_effect, keeping}
use Rattle.ms_runs.specs.Act.{operand_word, act}
use Rattle.ms_runs.specs.Plain.{Stepped, More, Stop, run, setting_of, start_world, start_frame}
use Rattle.ms_runs.specs.Poisoned.{Poisoned, clean}
use Rattle.ms_runs.specs.Masks.{Rules, by_completions, union, word_at, result_mask, result_origin}
use Rattle.ms_runs.specs.Uses.{uses, check_uses, blinded}

-- ---- operands

abbrev pub operand_mask : (Name → Poisoned) → ℕ → Operand → ℕ
operand_mask values w operand.Undef = 2 ^ w - 1
operand_mask values w operand.Poison = 2 ^ w - 1
operand_mask values w (operand.Local x) = (values x).mask % 2 ^ w
operand_mask values w _ = 0

-- root is the number of roots before the operand
abbrev pub operand_origin : (Name → Poisoned) → (root : ℕ) → Operand → ℕ
operand_origin values root operand.Undef = root + 1
operand_origin values root operand.Poison = root + 1
operand_origin values root (operand.Local x) = (values x).origin
operand_origin values root _ = 0

abbrev pub read_poisoned : Setting → (Name → Poisoned) → (root : ℕ) → Ty → Operand → Poisoned
read_poisoned s values root t o = record {
  value = operand_word s (λ x. (values x).value) (width_of t) o;
  mask = operand_mask values (width_of t) o;
  origin = operand_origin values root o;
}

abbrev pub shadow_reading : Reading Poisoned
shadow_reading = record { read = read_poisoned; unset = clean }

-- ---- planes

-- after an external that answered v; before is the world before the call
abbrev pub external_planes : Setting → (site root : ℕ) → External → List Poisoned → (before : World) → ℕ → World → World
external_planes s site root Malloc ps before v w = poison v 0 (word_at 0 ps).value root w
external_planes s site root Realloc ps before v w = poison v (unwrap_or (heap_size before (word_at 0 ps).value) 0) (word_at 1 ps).value root w
external_planes s site root Memcpy ps before v w = copy_planes (word_at 0 ps).value (word_at 1 ps).value (word_at 2 ps).value w
external_planes s site root Memmove ps before v w = copy_planes (word_at 0 ps).value (word_at 1 ps).value (word_at 2 ps).value w
external_planes s site root Memset ps before v w = fill_planes s (word_at 0 ps).value (word_at 2 ps).value (word_at 1 ps).mask (word_at 1 ps).origin site w
external_planes s site root Read ps before v w = unpoison (word_at 1 ps).value v w
external_planes s site root LlvmMemcpy ps before v w = copy_planes (word_at 0 ps).value (word_at 1 ps).value (word_at 2 ps).value w
external_planes s site root LlvmMemmove ps before v w = copy_planes (word_at 0 ps).value (word_at 1 ps).value (word_at 2 ps).value w
external_planes s site root LlvmMemset ps before v w = fill_planes s (word_at 0 ps).value (word_at 2 ps).value (word_at 1 ps).mask (word_at 1 ps).origin site w
external_planes s site root LifetimeStart ps before v w = poison (word_at 1 ps).value 0 (word_at 0 ps).value root w
external_planes s site root PthreadCreate ps before v w = unpoison (word_at 0 ps).value (if eqb v 0 then 8 else 0) w
external_planes s site root PthreadJoin ps before v w = thread_result s (word_at 1 ps).value (word_at 0 ps).value v site w
external_planes s site root _ ps before v w = w

abbrev pub callee_planes : Setting → (site root : ℕ) → Option External → List Poisoned → (before : World) → ℕ → World → World
callee_planes s site root None ps before v w = w
callee_planes s site root (Some e) ps before v w = external_planes s site root e ps before v w

-- what an instruction does to shadow and origins of memory; root is its own
abbrev pub planes : Setting → (site root : ℕ) → Op → List Poisoned → (before : World) → ℕ → World → World
planes s site root (op.Alloca t u c) ps before v w = poison v 0 (size_in s.types t * (word_at 0 ps).value) root w
planes s site root (op.Store t x a) ps before v w =
    store_origin s (word_at 1 ps).value (word_at 0 ps).mask (word_at 0 ps).origin site
    (set_shadow (word_at 1 ps).value (stored_size t) (byte_of (word_at 0 ps).mask) w)
planes s site root (op.Call r x as') ps before v w = callee_planes s site root (external_named s.func x) ps before v w
planes s site root _ ps before v w = w

-- ---- a step

pub record ShadowState : Type 0 where
  pub frames : List (Frame Poisoned)
  pub world : World

abbrev pub shadow_moved : Outcome Poisoned → Stepped ShadowState
shadow_moved (On fs w) = More (record { frames = fs; world = w })
shadow_moved (Over e w) = Stop e w

abbrev pub poisoned_result : Rules → Op → List Poisoned → ℕ → World → Poisoned
poisoned_result d o ps v w = record { value = v; mask = result_mask d o ps w; origin = result_origin o ps (result_mask d o ps w) w }

-- the instruction, after its checks and its blind count
abbrev pub shadow_act : Rules → Setting → Module → Inst → Here → List Poisoned → Frame Poisoned → List (Frame Poisoned) → World → Outcome Poisoned
shadow_act d s m i h ps fr below w =
    after_effect shadow_reading s m h.site i.result ps
    (poisoned_result d i.op ps)
    (planes s h.site (h.root + count_undefs (operands i.op) + 1) i.op ps w)
    (keeping i.op (act s h i.op (map (λ p. p.value) ps) w) fr) below (act s h i.op (map (λ p. p.value) ps) w)

abbrev pub after_checks : Rules → Setting → Module → Inst → Here → List Poisoned → Frame Poisoned → List (Frame Poisoned) → Effect → Outcome Poisoned
after_checks d s m i h ps fr below (Does w) =
    shadow_act d s m i h ps fr below (count_blind (union (map (λ p. p.mask) (blinded s.func i.op ps))) w)
after_checks d s m i h ps fr below (Ends e w) = Over e w
after_checks d s m i h ps fr below (Gives v w) = Over stuck w
after_checks d s m i h ps fr below (Goes x w) = Over stuck w
after_checks d s m i h ps fr below (Enters f w) = Over stuck w
after_checks d s m i h ps fr below (Leaves w) = Over stuck w

abbrev pub shadow_inst : Rules → Setting → Module → Inst → Frame Poisoned → List (Frame Poisoned) → World → Outcome Poisoned
shadow_inst d s m i fr below w =
    let h = here s m fr in
    let ps = read_all (read_poisoned s fr.values) (operands i.op) h.root in
    after_checks d s m i h ps fr below (check_uses s h.site (operands i.op) ps (uses s.func h.main i.op) w)

abbrev pub shadow_first : Rules → Setting → Module → List Inst → Frame Poisoned → List (Frame Poisoned) → World → Outcome Poisoned
shadow_first d s m [] fr below w = Over stuck w
shadow_first d s m (i ∷ is) fr below w = shadow_inst d s m i fr below w

abbrev pub shadow_frames : Rules → Setting → Module → List (Frame Poisoned) → World → Outcome Poisoned
shadow_frames d s m [] w = Over stuck w
shadow_frames d s m (fr ∷ below) w = shadow_first d s m (rest_of m fr) fr below w

abbrev pub shadow_step : Rules → Setting → Module → ShadowState → Stepped ShadowState
shadow_step d s m c = shadow_moved (shadow_frames d s m c.frames c.world)

-- the state at the start
abbrev pub shadow_start : Module → Setup → ShadowState
shadow_start m setup = record { frames = start_frame shadow_reading m ∷ []; world = start_world m setup }

abbrev pub shadow_by : Rules → Module → Setup → RunResult
shadow_by d m s = run (λ c. c.world) (shadow_step d (setting_of m s) m) s.steps (shadow_start m s)

abbrev pub shadow : Module → Setup → RunResult
shadow = shadow_by by_completions
