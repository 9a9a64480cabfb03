-- The uses that are checked, and the blind ones.
use Rattle.std.specs.Prelude.{ℕ, zero, suc, Bool, false, ◌||◌, ◌%◌, eqb, List, [], ◌∷◌, ◌++◌, take, drop, if◌then◌else◌, Option, Some, None}
use Rattle.ms_bits.specs.declared.operations.Flags.{Flags}
use Rattle.ms_bits.specs.declared.operations.BinOp.{BinOp}
use Rattle.ms_bits.specs.declared.operations.BinOp.TheVariants.{Udiv, Sdiv, Urem, Srem, Shl, Lshr, Ashr}
use Rattle.ms_ir.specs.declared.syntax.Ty.{Ty}
use Rattle.ms_ir.specs.declared.syntax.Ty as ty
use Rattle.ms_ir.specs.declared.syntax.Operand.{Operand}
use Rattle.ms_ir.specs.declared.syntax.Op.{Op}
use Rattle.ms_ir.specs.declared.syntax.Op.TheVariants as op
use Rattle.ms_ir.specs.declared.syntax.Name.{Name}
use Rattle.ms_ir.specs.declared.calls.External.{External}
use Rattle.ms_ir.specs.declared.calls.External.TheVariants.{Malloc, Calloc, Realloc, Free, Memcpy, Memmove, Memset, Memcmp, Strlen, Putchar, Puts, Getchar, Read, Write, Exit, Abort, LlvmMemcpy, LlvmMemmove, LlvmMemset, LifetimeStart, LifetimeEnd, Printf, LlvmTrap, LlvmAssume, LlvmObjectSize, PthreadCreate, PthreadJoin, SchedYield}
use Rattle.ms_ir.specs.declared.calls.External.TheVariants as external
use Rattle.ms_bits.specs.WordFunctions.{is_flagged}
use Rattle.ms_ir.specs.declared.syntax.Operand.TheVariants as operand
use Rattle.ms_ir.specs.Equal.{type_eq}
use Rattle.ms_ir.specs.Layout.{width_of}
use Rattle.ms_runs.specs.World.{World, Setting, Effect, Does, then_does}
use Rattle.ms_runs.specs.Origins.{check, check_memory, check_string, check_format}
use Rattle.ms_ir.specs.Instructions.{external_named}
use Rattle.ms_runs.specs.Poisoned.{Poisoned}
use Rattle.ms_runs.specs.Masks.{word_at}

-- a checked use: the mask of an operand, whose place is the part; the bytes at an operand; the string there; the string
-- there, where the format at operand 0 asks for one
pub data CheckedUse : Type 0 where
  Word : (kind operand : ℕ) → CheckedUse
  Bytes : (kind addr size : ℕ) → CheckedUse
  Line : (addr : ℕ) → CheckedUse
  Asked : (addr : ℕ) → CheckedUse

-- of the arguments of `printf` after its format, which are counted from k on: the word of each
abbrev pub value_uses : ℕ → List (Ty × Operand) → List CheckedUse
value_uses k [] = []
value_uses k (a ∷ args) = Word 7 k ∷ value_uses (suc k) args

-- and the string at each pointer, where the format asks for one
abbrev pub string_uses : ℕ → List (Ty × Operand) → List CheckedUse
string_uses k [] = []
string_uses k (a ∷ args) = if type_eq a.0 ty.Ptr then Asked k ∷ string_uses (suc k) args else string_uses (suc k) args

abbrev pub external_uses : External → List (Ty × Operand) → List CheckedUse
external_uses Malloc args = Word 5 0 ∷ []
external_uses Calloc args = Word 5 0 ∷ Word 5 1 ∷ []
external_uses Realloc args = Word 6 0 ∷ Word 5 1 ∷ []
external_uses Free args = Word 6 0 ∷ []
external_uses Memcpy args = Word 6 0 ∷ Word 6 1 ∷ Word 5 2 ∷ []
external_uses Memmove args = Word 6 0 ∷ Word 6 1 ∷ Word 5 2 ∷ []
external_uses Memset args = Word 6 0 ∷ Word 5 2 ∷ []
external_uses Memcmp args = Word 6 0 ∷ Word 6 1 ∷ Word 5 2 ∷ Bytes 11 0 2 ∷ Bytes 12 1 2 ∷ []
external_uses Strlen args = Word 6 0 ∷ Line 0 ∷ []
external_uses Putchar args = Word 7 0 ∷ []
external_uses Puts args = Word 6 0 ∷ Line 0 ∷ []
external_uses Getchar args = []
external_uses Read args = Word 7 0 ∷ Word 6 1 ∷ Word 5 2 ∷ []
external_uses Write args = Word 7 0 ∷ Word 6 1 ∷ Word 5 2 ∷ Bytes 9 1 2 ∷ []
external_uses Exit args = Word 8 0 ∷ []
external_uses Abort args = []
external_uses LlvmMemcpy args = Word 6 0 ∷ Word 6 1 ∷ Word 5 2 ∷ []
external_uses LlvmMemmove args = Word 6 0 ∷ Word 6 1 ∷ Word 5 2 ∷ []
external_uses LlvmMemset args = Word 6 0 ∷ Word 5 2 ∷ []
external_uses LifetimeStart args = Word 5 0 ∷ Word 6 1 ∷ []
external_uses LifetimeEnd args = Word 5 0 ∷ Word 6 1 ∷ []
external_uses LlvmTrap args = []
external_uses LlvmAssume args = Word 1 0 ∷ []
external_uses LlvmObjectSize args = Word 7 1 ∷ []
external_uses PthreadCreate args = Word 6 0 ∷ Word 6 1 ∷ Word 6 3 ∷ []
external_uses PthreadJoin args = Word 7 0 ∷ Word 6 1 ∷ []
external_uses SchedYield args = []
external_uses (external.Word f n) args = []
external_uses Printf args = Word 6 0 ∷ Line 0 ∷ (value_uses 1 (drop 1 args) ++ string_uses 1 (drop 1 args))

abbrev pub binary_uses : BinOp → List CheckedUse
binary_uses Udiv = Word 4 1 ∷ []
binary_uses Sdiv = Word 4 1 ∷ []
binary_uses Urem = Word 4 1 ∷ []
binary_uses Srem = Word 4 1 ∷ []
binary_uses _ = []

abbrev pub callee_uses : Option External → List (Ty × Operand) → List CheckedUse
callee_uses None args = []
callee_uses (Some e) args = external_uses e args

abbrev pub uses : (Name → Option ℕ) → (main : Bool) → Op → List CheckedUse
uses func main (op.Binary o f t a b) = binary_uses o
uses func main (op.Alloca t u c) = Word 5 0 ∷ []
uses func main (op.Load t a) = Word 3 0 ∷ []
uses func main (op.Store t v a) = Word 3 1 ∷ []
uses func main (op.Call r x as') = callee_uses (external_named func x) as'
uses func main (op.CondBr c to other) = Word 1 0 ∷ []
uses func main (op.Switch t v other cases) = Word 2 0 ∷ []
uses func main (op.Ret v) = if main then Word 8 0 ∷ [] else []
uses func main _ = []

abbrev pub type_at : ℕ → List (Ty × Operand) → Ty
type_at k [] = ty.Ptr
type_at zero (o ∷ os) = o.0
type_at (suc k) (o ∷ os) = type_at k os

abbrev pub check_use : Setting → (site : ℕ) → List (Ty × Operand) → List Poisoned → CheckedUse → World → Effect
check_use s site os ps (Word kind k) w = check s (word_at k ps).mask (width_of (type_at k os)) (word_at k ps).origin kind k site w
check_use s site os ps (Bytes kind a n) w = check_memory s (word_at a ps).value (word_at n ps).value kind site w
check_use s site os ps (Line a) w = check_string s (word_at a ps).value site w
check_use s site os ps (Asked a) w = check_format s (word_at 0 ps).value a (word_at a ps).value site w

abbrev pub check_uses : Setting → (site : ℕ) → List (Ty × Operand) → List Poisoned → List CheckedUse → World → Effect
check_uses s site os ps [] w = Does w
check_uses s site os ps (u ∷ us) w = then_does (check_use s site os ps u w) (check_uses s site os ps us)

-- ---- blind uses

abbrev pub has_flag : Flags → Bool
has_flag f = f.nuw || f.nsw || f.exact || f.disjoint || f.nneg || f.samesign

-- of a division the dividend, of a shift the amount
abbrev pub blind_binary : BinOp → List Poisoned → List Poisoned
blind_binary Udiv ps = take 1 ps
blind_binary Sdiv ps = take 1 ps
blind_binary Urem ps = take 1 ps
blind_binary Srem ps = take 1 ps
blind_binary Shl ps = drop 1 ps
blind_binary Lshr ps = drop 1 ps
blind_binary Ashr ps = drop 1 ps
blind_binary _ ps = []

-- an odd number, which is `true` where it is a flag
abbrev pub is_odd : Operand → Bool
is_odd (operand.Int n) = eqb (n % 2) 1
is_odd o = false

-- the second argument is one
abbrev pub has_true_flag : List (Ty × Operand) → Bool
has_true_flag (x ∷ a ∷ rest) = is_odd a.1
has_true_flag args = false

-- of a function of whole words the word that a flag judges
abbrev pub flagged_words : {A : Type 0} → Option External → List A → List A
flagged_words (Some (external.Word f n)) ps = if is_flagged f then take 1 ps else []
flagged_words e ps = []

-- the same where the flag is there
abbrev pub blind_words : {A : Type 0} → Option External → List (Ty × Operand) → List A → List A
blind_words e args ps = if has_true_flag args then flagged_words e ps else []

-- the words whose poison an instruction loses; one with a flag may trap by it, whatever its mask says
abbrev pub blinded : (Name → Option ℕ) → Op → List Poisoned → List Poisoned
blinded func (op.Binary o f t a b) ps = if has_flag f then ps else blind_binary o ps
blinded func (op.Icmp p f t a b) ps = if has_flag f then ps else []
blinded func (op.Cast o f t a u) ps = if has_flag f then ps else []
blinded func (op.Freeze t a) ps = ps
blinded func (op.Call ret callee args) ps = blind_words (external_named func callee) args ps
blinded func _ ps = []
