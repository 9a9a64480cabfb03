-- When the words of inserted code stand for masks and origins.
use Rattle.std.specs.Prelude.{◌≡◌, ◌<◌, ℕ, ◌+◌, ◌*◌, ◌%◌, ◌^◌, true, false, List, [], ◌∷◌, Option, Some, ◌≢◌, ◌≤◌, suc, Bool, is_some, length, unwrap_or}
use Rattle.ms_ir.specs.declared.syntax.Name.{Name}
use Rattle.ms_ir.specs.declared.syntax.Ty.{Ty, Int}
use Rattle.ms_ir.specs.declared.syntax.Operand.{Operand}
use Rattle.ms_ir.specs.declared.syntax.Operand.TheVariants as operand
use Rattle.ms_ir.specs.declared.syntax.Op.{Op}
use Rattle.ms_ir.specs.declared.syntax.Op.TheVariants as op
use Rattle.ms_ir.specs.declared.syntax.Inst.{Inst}
use Rattle.ms_ir.specs.Names.{is_reserved, slot_name, slot_room}
use Rattle.ms_ir.specs.Layout.{width_of, stored_size}
use Rattle.ms_runs.specs.World.{World, Setting, Here, Allocation}
use Rattle.ms_ir.specs.Instructions.{operands, external_named, roots_in}
use Rattle.ms_runs.specs.Masks.{word_at}
use Rattle.ms_ir.specs.declared.calls.External.{External}
use Rattle.ms_ir.specs.declared.calls.External.TheVariants.{Realloc}
use Rattle.ms_ir.specs.declared.calls.Slot.TheVariants as slot
use Rattle.ms_bits.specs.Maps.{number_at}
use Rattle.ms_runs.specs.Memory.{heap_size}
use Rattle.ms_ir.specs.declared.calls.Slot.{Slot}
use Rattle.ms_runs.specs.Poisoned.{Poisoned}
use Rattle.ms_ir.specs.Areas.{Fixed, Stack, area_base, area_limit}
use Rattle.ms_runs.specs.Origins.{pair_limit}
use Rattle.ms_pass_tasks.specs.Tasks.{msan_name}
use Rattle.ms_pass_tasks.specs.Environments.{Env, local_mask, local_origin}

-- ---- words

-- what an operand that is a number or a local name holds
abbrev pub held : (Name → ℕ) → Operand → ℕ
held names (operand.Int n) = n
held names (operand.Local x) = names x
held names _ = 0

-- a frame's words: values agree; masks agree, as the environment says where they stand; origins agree where a mask
-- isn't 0
pub record Matches (env : Env) (values : Name → Poisoned) (names : Name → ℕ) : Type 0 where
  pub value : (x : Name) → is_reserved x ≡ false → names x ≡ (values x).value
  pub mask : (x : Name) (v : ℕ) → env.number x ≡ Some v → held names (local_mask env x) ≡ (values x).mask
  pub origin : (x : Name) (v : ℕ) → env.number x ≡ Some v → (values x).mask ≢ 0 → held names (local_origin env x) ≡ (values x).origin

-- ---- what every state of a run has

-- an allocation lies between the first address of the globals and the last of the stack
pub record IsPlaced (a : Allocation) : Type 0 where
  pub from : area_base Fixed ≤ a.base
  pub to : a.base + a.size ≤ area_base Stack + area_limit Stack

-- so do all allocations of a list
abbrev pub ArePlaced : List Allocation → Type 0
ArePlaced [] = Unit {0}
ArePlaced (a ∷ rest) = IsPlaced a × ArePlaced rest

-- origins are numbers of 32 bits, and no more pairs stand than may be made
pub record RangedWorld (w : World) : Type 0 where
  pub placed : ArePlaced w.allocs
  pub origins : (c : ℕ) → w.origins c < 2 ^ 32
  pub pairs : length w.pairs ≤ pair_limit
  pub answers : (k : ℕ) → w.answer_origins k < 2 ^ 32

-- origins of words are numbers of 32 bits
abbrev pub RangedValues : (Name → Poisoned) → Type 0
RangedValues values = (x : Name) → (values x).origin < 2 ^ 32

-- sites and the numbers of roots are numbers of 32 bits
pub record RangedHere (s : Setting) (h : Here) (i : Inst) : Type 0 where
  pub site : h.site < 2 ^ 32
  pub root : h.root + roots_in s.func i < 2 ^ 32

-- ---- slots

-- each slot has its own address
pub record SlotAddresses (s : Setting) : Type 0 where
  pub stand : (k : Slot) → s.address (slot_name k) ≡ (slot_room k).0

-- where the mask of parameter k stands
abbrev pub mask_slot : ℕ → ℕ
mask_slot k = (slot_room slot.ParamMasks).0 + k * 8

-- where the origin of parameter k stands
abbrev pub origin_slot : ℕ → ℕ
origin_slot k = (slot_room slot.ParamOrigins).0 + k * 4

-- the bytes from two addresses on hold the mask of a word of so many bits and, where this isn't 0, its origin
pub record SlotsHold (cells : ℕ → ℕ) (a b w : ℕ) (p : Poisoned) : Type 0 where
  pub mask : number_at cells a (stored_size (Int w)) % 2 ^ w ≡ p.mask
  pub origin : p.mask ≢ 0 → number_at cells b 4 % 2 ^ 32 ≡ p.origin

-- words of types in the parameters' slots from number k on
abbrev pub ArgsHeld : (ℕ → ℕ) → ℕ → List (Ty × Operand) → List Poisoned → Type 0
ArgsHeld cells k (o ∷ os) (p ∷ ps) = SlotsHold cells (mask_slot k) (origin_slot k) (width_of o.0) p × ArgsHeld cells (suc k) os ps
ArgsHeld cells k os ps = Unit {0}

-- what stands in the slots before a call of a function of the module
abbrev pub CallHeld : (own : Bool) → (ℕ → ℕ) → List (Ty × Operand) → List Poisoned → Type 0
CallHeld true cells os ps = ArgsHeld cells 0 os ps
CallHeld false cells os ps = Unit {0}

-- what stands in the slots before a return outside `main`
abbrev pub ResultHeld : (main : Bool) → (ℕ → ℕ) → List (Ty × Operand) → List Poisoned → Type 0
ResultHeld false cells (o ∷ os) (p ∷ ps) = SlotsHold cells (slot_room slot.RetvalMask).0 (slot_room slot.RetvalOrigin).0 (width_of o.0) p
ResultHeld main cells os ps = Unit {0}

-- what must stand in the slots when a call or a return is due
abbrev pub Handed : (Name → Option ℕ) → (main : Bool) → Op → List Poisoned → (ℕ → ℕ) → Type 0
Handed func main (op.Call ret callee args) ps cells = CallHeld (is_some (func callee)) cells args ps
Handed func main (op.Ret v) ps cells = ResultHeld main cells (operands (op.Ret v)) ps
Handed func main _ ps cells = Unit {0}

-- ---- the size that is saved

-- where `realloc` is due, the old block's size stands under a number
abbrev pub SavedSize : Option External → ℕ → List Poisoned → World → (Name → ℕ) → Type 0
SavedSize (Some Realloc) saved ps w names = names (msan_name saved) ≡ unwrap_or (heap_size w (word_at 0 ps).value) 0
SavedSize _ saved ps w names = Unit {0}

-- the same where an instruction is due
abbrev pub Saved : (Name → Option ℕ) → ℕ → Op → List Poisoned → World → (Name → ℕ) → Type 0
Saved func saved (op.Call ret callee args) ps w names = SavedSize (external_named func callee) saved ps w names
Saved func saved _ ps w names = Unit {0}
