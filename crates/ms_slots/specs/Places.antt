-- Where a word's mask and origin are handed over, and the code that does it for whole lists.
use Rattle.std.specs.Prelude.{ℕ, suc, ◌+◌, ◌*◌, List, [], ◌∷◌, ◌++◌}
use Rattle.ms_ir.specs.declared.syntax.Ty.{Ty, Int}
use Rattle.ms_ir.specs.declared.syntax.Operand.{Operand}
use Rattle.ms_ir.specs.declared.syntax.Inst.{Inst}
use Rattle.ms_pass_tasks.specs.Tasks.{msan_name, Task, Leaf, Fetches, Puts, InsertedCode}
use Rattle.ms_pass_tasks.specs.Environments.{mask_type}
use Rattle.ms_pass_tasks.specs.SlotTasks.{param_mask, param_origin, result_mask_slot, result_origin_slot}
use Rattle.ms_slots.specs.declared.places.WordSlot.{WordSlot}
use Rattle.ms_slots.specs.declared.places.WordSlot.TheVariants as place

-- the slot of a mask
abbrev pub mask_slot : WordSlot → Operand
mask_slot (place.Parameter k) = param_mask k
mask_slot place.Result = result_mask_slot

-- the slot of an origin
abbrev pub origin_slot : WordSlot → Operand
origin_slot (place.Parameter k) = param_origin k
origin_slot place.Result = result_origin_slot

-- a mask and an origin, of a word of a type, go into two slots
abbrev pub store_tasks : (mask_at origin_at : Operand) → Ty × Operand × Operand → List Task
store_tasks mask_at origin_at word =
    Puts (mask_type word.0) (Leaf word.1) (Leaf mask_at) ∷ Puts (Int 32) (Leaf word.2) (Leaf origin_at) ∷ []

-- and come out of them, as the inserted result with a number and the one after it
abbrev pub load_tasks : (mask_at origin_at : Operand) → ℕ → Ty → List Task
load_tasks mask_at origin_at n t =
    Fetches (msan_name n) (mask_type t) (Leaf mask_at) ∷ Fetches (msan_name (n + 1)) (Int 32) (Leaf origin_at) ∷ []

-- the masks and origins of arguments, from number k on
abbrev pub store_arguments : ℕ → List (Ty × Operand × Operand) → List Task
store_arguments k [] = []
store_arguments k (word ∷ words) = store_tasks (param_mask k) (param_origin k) word ++ store_arguments (suc k) words

-- those of parameters, from number k on; those of parameter k are the inserted results n + 2 * k and the one after it
abbrev pub load_parameters : ℕ → ℕ → List Ty → List Task
load_parameters n k [] = []
load_parameters n k (t ∷ ts) = load_tasks (param_mask k) (param_origin k) (n + 2 * k) t ++ load_parameters n (suc k) ts

-- instructions with the next free number of an inserted result
abbrev pub as_inserted : List Inst × ℕ → InsertedCode
as_inserted r = record { code = r.0; next = r.1 }
