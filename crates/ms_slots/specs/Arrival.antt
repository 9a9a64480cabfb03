-- What is loaded from the slots: what was stored in them.
use Rattle.std.specs.Prelude.{◌≡◌, ◌≤◌, ℕ, ◌+◌, ◌*◌, List, [], ◌∷◌, map, slice_get, Some}
use Rattle.ms_ir.specs.declared.syntax.Name.{Name}
use Rattle.ms_ir.specs.declared.syntax.Ty.{Ty}
use Rattle.ms_ir.specs.declared.syntax.Operand.{Operand}
use Rattle.ms_ir.specs.Layout.{width_of}
use Rattle.ms_runs.specs.World.{World, Setting, Here}
use Rattle.ms_runs.specs.Act.{operand_word}
use Rattle.ms_pass_tasks.specs.Tasks.{msan_name, Task, tasks_code}
use Rattle.ms_pass_tasks.specs.Meaning.{Went, run_marked}
use Rattle.ms_pass_tasks.specs.SlotTasks.{result_mask_slot, result_origin_slot}
use Rattle.ms_slots.specs.Places.{store_tasks, load_tasks, store_arguments, load_parameters}

-- types of at most 64 bits
abbrev pub AreWords : List (Ty × Operand × Operand) → Type 0
AreWords [] = Unit {0}
AreWords (word ∷ words) = (width_of word.0 ≤ 64) × AreWords words

-- the code of tasks changes the slots' bytes, and neither a name nor the world; `n` is the number of the first temporary
abbrev pub Stores : Setting → Here → List Task → (n : ℕ) → (names : Name → ℕ) (cells after : ℕ → ℕ) → Type 0
Stores s h ts n names cells after =
    (w : World) → run_marked s h (tasks_code ts n).code (record { names = names; slots = cells }) w ≡ Went (record { names = names; slots = after }) w

-- the code of tasks changes the words of names, and neither the slots nor the world
abbrev pub Loads : Setting → Here → List Task → (n : ℕ) → (cells : ℕ → ℕ) (names after : Name → ℕ) → Type 0
Loads s h ts n cells names after =
    (w : World) → run_marked s h (tasks_code ts n).code (record { names = names; slots = cells }) w ≡ Went (record { names = after; slots = cells }) w

-- the inserted results with a number and the one after it hold the mask and the origin that were sent
pub record HasArrived (s : Setting) (sent got : Name → ℕ) (n : ℕ) (word : Ty × Operand × Operand) : Type 0 where
  pub mask : got (msan_name n) ≡ operand_word s sent (width_of word.0) word.1
  pub origin : got (msan_name (n + 1)) ≡ operand_word s sent 32 word.2

-- the caller stores, and the callee then has all that was sent, each under its own numbers
pub record ArgumentsArrive (s : Setting) (caller callee : Here) (args : List (Ty × Operand × Operand)) (n m next : ℕ) (sent inner : Name → ℕ) (cells : ℕ → ℕ) : Type 0 where
  pub stored : ℕ → ℕ
  pub got : Name → ℕ
  pub stores : Stores s caller (store_arguments 0 args) n sent cells stored
  pub loads : Loads s callee (load_parameters next 0 (map (λ a. a.0) args)) m stored inner got
  pub arrived : (k : ℕ) (word : Ty × Operand × Operand) → slice_get args k ≡ Some word → HasArrived s sent got (next + 2 * k) word

-- the same for a result, which the callee stores
pub record ResultArrives (s : Setting) (callee caller : Here) (word : Ty × Operand × Operand) (n m next : ℕ) (sent outer : Name → ℕ) (cells : ℕ → ℕ) : Type 0 where
  pub stored : ℕ → ℕ
  pub got : Name → ℕ
  pub stores : Stores s callee (store_tasks result_mask_slot result_origin_slot word) n sent cells stored
  pub loads : Loads s caller (load_tasks result_mask_slot result_origin_slot next word.0) m stored outer got
  pub arrived : HasArrived s sent got next word
