-- What checks the operands of an instruction, and counts a blind use.
use Rattle.std.specs.Prelude.{ℕ, true, List, [], ◌∷◌, ◌++◌, if◌then◌else◌, Option, None, Bool, ◌&&◌, drop, take}
use Rattle.ms_bits.specs.declared.operations.BinOp.{BinOp}
use Rattle.ms_ir.specs.declared.syntax.Ty.{Int, Ptr}
use Rattle.ms_ir.specs.declared.syntax.Op.{Op}
use Rattle.ms_ir.specs.declared.syntax.Op.TheVariants as op
use Rattle.ms_ir.specs.Layout.{width_of}
use Rattle.ms_bits.specs.declared.operations.BinOp.TheVariants as binary
use Rattle.ms_ir.specs.declared.calls.RuntimeFn.TheVariants as function
use Rattle.ms_runs.specs.Uses.{CheckedUse, Word, Bytes, Line, Asked, has_flag, blind_words}
use Rattle.ms_ir.specs.declared.syntax.Name.{Name}
use Rattle.ms_ir.specs.Instructions.{external_named}
use Rattle.ms_pass_tasks.specs.Tasks.{Expr, Task, Calls}
use Rattle.ms_pass_tasks.specs.Environments.{Tracked, tracked_at, is_zero, mask_of, origin_of, word_of, widened, widened_mask, joined, unknown, number}

-- ---- checks

-- a report of a word whose mask is set
abbrev pub check_task : ℕ → ℕ → ℕ → Tracked → Task
check_task site kind part t =
    Calls None function.Check
    ((Int 64, widened (width_of t.ty) (mask_of t)) ∷ (Int 32, number (width_of t.ty)) ∷ (Int 32, origin_of t) ∷ (Int 32, number kind)
    ∷ (Int 32, number part) ∷ (Int 32, number site) ∷ [])

-- a report of the first poisoned one of so many bytes
abbrev pub memory_task : (site kind : ℕ) → Tracked → Tracked → Task
memory_task site kind a n = Calls None function.CheckMemory ((Ptr, word_of a) ∷ (Int 64, word_of n) ∷ (Int 32, number kind) ∷ (Int 32, number site) ∷ [])

-- a report of the first poisoned byte of a string
abbrev pub string_task : (site : ℕ) → Tracked → Task
string_task site a = Calls None function.CheckString ((Ptr, word_of a) ∷ (Int 32, number site) ∷ [])

-- the same, where the format at another operand asks for a string there
abbrev pub format_task : (site addr : ℕ) → Tracked → Tracked → Task
format_task site k f a =
    Calls None function.CheckFormat ((Ptr, word_of f) ∷ (Int 32, number k) ∷ (Ptr, word_of a) ∷ (Int 32, number site) ∷ [])

-- a check is left out where the mask is known to be 0
abbrev pub use_tasks : ℕ → List Tracked → CheckedUse → List Task
use_tasks site ts (Word kind k) =
    if is_zero (tracked_at k ts).mask then [] else check_task site kind k (tracked_at k ts) ∷ []
use_tasks site ts (Bytes kind a n) = memory_task site kind (tracked_at a ts) (tracked_at n ts) ∷ []
use_tasks site ts (Line a) = string_task site (tracked_at a ts) ∷ []
use_tasks site ts (Asked a) = format_task site a (tracked_at 0 ts) (tracked_at a ts) ∷ []

-- the checks of uses, in their order
abbrev pub check_tasks : ℕ → List Tracked → List CheckedUse → List Task
check_tasks site ts [] = []
check_tasks site ts (u ∷ us) = use_tasks site ts u ++ check_tasks site ts us

-- ---- blind uses

-- the operands of an operation whose poisoned bits are blind uses: the dividend, a shift amount
abbrev pub blind_binary_of : {A : Type 0} → BinOp → List A → List A
blind_binary_of binary.Udiv ps = take 1 ps
blind_binary_of binary.Sdiv ps = take 1 ps
blind_binary_of binary.Urem ps = take 1 ps
blind_binary_of binary.Srem ps = take 1 ps
blind_binary_of binary.Shl ps = drop 1 ps
blind_binary_of binary.Lshr ps = drop 1 ps
blind_binary_of binary.Ashr ps = drop 1 ps
blind_binary_of _ ps = []

-- what `blinded` takes of words, for what stands for them
abbrev pub blinded_of : {A : Type 0} → (Name → Option ℕ) → Op → List A → List A
blinded_of func (op.Binary o f t a b) ps = if has_flag f then ps else blind_binary_of o ps
blinded_of func (op.Icmp p f t a b) ps = if has_flag f then ps else []
blinded_of func (op.Cast o f t a u) ps = if has_flag f then ps else []
blinded_of func (op.Freeze t a) ps = ps
blinded_of func (op.Call ret callee args) ps = blind_words (external_named func callee) args ps
blinded_of func _ ps = []

-- the masks of all operands are known to be 0
abbrev pub all_zero : List Tracked → Bool
all_zero [] = true
all_zero (t ∷ ts) = is_zero t.mask && all_zero ts

-- the masks of operands, widened and joined
abbrev pub union_masks : List Tracked → Expr
union_masks ts = joined (Int 64) widened_mask (unknown ts)

-- the blind count of one instruction, which is left out where all masks are known to be 0
abbrev pub blind_tasks : List Tracked → List Task
blind_tasks ts = if all_zero ts then [] else Calls None function.Blind ((Int 64, union_masks ts) ∷ []) ∷ []
