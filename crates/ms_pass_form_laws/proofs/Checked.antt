-- What inserted instructions are checked for, given which names are known where they stand and with which types, and which
-- other operands may stand there.
use Rattle.std.specs.Prelude.{◌≡◌, ℕ, true, List, [], ◌∷◌, map, ◌⊎◌, Option, Some, None}
use Rattle.ms_bits.specs.declared.operations.CastOp.{CastOp}
use Rattle.ms_ir.specs.declared.syntax.Name.{Name}
use Rattle.ms_ir.specs.declared.syntax.Ty.{Ty, Int}
use Rattle.ms_ir.specs.declared.syntax.Operand.{Operand}
use Rattle.ms_ir.specs.declared.syntax.Operand.TheVariants as operand
use Rattle.ms_ir.specs.declared.syntax.Op.{Op}
use Rattle.ms_ir.specs.declared.syntax.Op.TheVariants as op
use Rattle.ms_ir.specs.declared.syntax.Inst.{Inst}
use Rattle.ms_bits.specs.declared.word_functions.BitMove.{BitMove}
use Rattle.ms_ir.specs.declared.calls.RuntimeFn.{RuntimeFn}
use Rattle.ms_ir.specs.declared.calls.RuntimeFn.TheVariants.{Move}
use Rattle.ms_bits.specs.NoFlags.{no_flags}
use Rattle.ms_ir.specs.Instructions.{operands}
use Rattle.ms_ir.specs.Written.{result_type}
use Rattle.ms_check_valid.specs.FormedCode.{is_int_type, is_value_type, number_formed}
use Rattle.ms_check_valid.specs.TypesAgree.{cast_allows}
use Rattle.ms_ir.specs.Signatures.{runtime_signature}
use Rattle.ms_pass_tasks.specs.Tasks.{msan_name, Expr, Leaf, Two, Turn, Test, Pick, Task, Sets, Tries, Fetches, Puts, Calls, parts, target}
use Rattle.ms_ir.specs.Names.{runtime_name}

abbrev pub IsInt : Ty → Type 0
IsInt t = is_int_type t ≡ true

abbrev pub TurnFits : CastOp → Ty → Ty → Type 0
TurnFits o from to = (cast_allows o from to ≡ true) × (is_value_type from ≡ true) × (is_value_type to ≡ true)

-- which operands may stand that are neither names of values nor numbers, and which functions that move bits may be called
pub record Allowed : Type 1 where
  pub const : Ty → Operand → Type 0
  pub call : BitMove → Type 0

-- ---- operands

-- an operand fits a type, where K says which names are known with which types, and C which other operands may stand
abbrev pub OperandFits : (Name → Ty → Type 0) → Allowed → Ty → Operand → Type 0
OperandFits K C t (operand.Local x) = K x t
OperandFits K C t (operand.Int k) = number_formed t k ≡ true
OperandFits K C t o = C.const t o

abbrev pub OperandsFit : (Name → Ty → Type 0) → Allowed → List (Ty × Operand) → Type 0
OperandsFit K C [] = Unit {0}
OperandsFit K C (o ∷ os) = OperandFits K C o.0 o.1 × OperandsFit K C os

-- ---- instructions

-- a call of a runtime function with its types
pub record CallFits (ret : Option Ty) (callee : Name) (args : List (Ty × Operand)) : Type 0 where
  pub function : RuntimeFn
  pub named : callee ≡ runtime_name function
  pub gives : ret ≡ (runtime_signature function).ret
  pub takes : map (λ a. a.0) args ≡ (runtime_signature function).params

-- an operation that may be inserted, its operands left aside
abbrev pub OpFits : Op → Type 0
OpFits (op.Binary o flags t a b) = (flags ≡ no_flags) × IsInt t
OpFits (op.Icmp p flags t a b) = (flags ≡ no_flags) × IsInt t
OpFits (op.Cast o flags from a to) = (flags ≡ no_flags) × TurnFits o from to
OpFits (op.Select c t a b) = IsInt t
OpFits (op.Load t addr) = IsInt t
OpFits (op.Store t v addr) = IsInt t
OpFits (op.Call ret callee args) = CallFits ret callee args
OpFits _ = ⊥

-- what a marked call reaches may be called: the runtime's own functions always
abbrev pub MayCall : Allowed → RuntimeFn → Type 0
MayCall C (Move k) = C.call k
MayCall C f = Unit {0}

abbrev pub MayAsk : (C : Allowed) (o : Op) → OpFits o → Type 0
MayAsk C (op.Call ret callee args) s = MayCall C s.function
MayAsk C o s = Unit {0}

-- a result that may be inserted
abbrev pub ResultFits : Option Name → Option Ty → Type 0
ResultFits None None = Unit {0}
ResultFits (Some x) (Some t) = (k : ℕ) × (x ≡ msan_name k)
ResultFits _ _ = ⊥

pub record InstFits (K : Name → Ty → Type 0) (C : Allowed) (i : Inst) : Type 0 where
  pub marked : i.marked ≡ true
  pub shaped : OpFits i.op
  pub calls : MayAsk C i.op shaped
  pub reads : OperandsFit K C (operands i.op)
  pub gives : ResultFits i.result (result_type i.op)

-- what is known after an instruction, and after some
abbrev pub grow : (Name → Ty → Type 0) → Inst → Name → Ty → Type 0
grow K i x t = K x t ⊎ ((i.result ≡ Some x) × (result_type i.op ≡ Some t))

abbrev pub grows : (Name → Ty → Type 0) → List Inst → Name → Ty → Type 0
grows K [] = K
grows K (i ∷ is) = grows (grow K i) is

-- instructions that stand in a row
abbrev pub Fits : (Name → Ty → Type 0) → Allowed → List Inst → Type 0
Fits K C [] = Unit {0}
Fits K C (i ∷ is) = InstFits K C i × Fits (grow K i) C is

-- ---- words and tasks

-- a word has a type
abbrev pub Typed : (Name → Ty → Type 0) → Allowed → Ty → Expr → Type 0
Typed K C t (Leaf o) = OperandFits K C t o
Typed K C t (Two o u a b) = (u ≡ t) × IsInt u × Typed K C u a × Typed K C u b
Typed K C t (Turn o u a v) = (v ≡ t) × TurnFits o u v × Typed K C u a
Typed K C t (Test p u a b) = (Int 1 ≡ t) × IsInt u × Typed K C u a × Typed K C u b
Typed K C t (Pick c u a b) = (u ≡ t) × IsInt u × Typed K C (Int 1) c × Typed K C u a × Typed K C u b

abbrev pub AllTyped : (Name → Ty → Type 0) → Allowed → List (Ty × Expr) → Type 0
AllTyped K C [] = Unit {0}
AllTyped K C (e ∷ es) = Typed K C e.0 e.1 × AllTyped K C es

-- the type of what a task gives a name to
abbrev pub target_type : Task → Option Ty
target_type (Sets x t e) = Some t
target_type (Tries x o t a b) = Some t
target_type (Fetches x t a) = Some t
target_type (Puts t a b) = None
target_type (Calls x f args) = (runtime_signature f).ret

-- what a task asks for beside the words that it takes
abbrev pub TaskShape : Task → Type 0
TaskShape (Sets x t e) = IsInt t
TaskShape (Tries x o t a b) = IsInt t
TaskShape (Fetches x t a) = IsInt t
TaskShape (Puts t a b) = IsInt t
TaskShape (Calls x f args) = map (λ a. a.0) args ≡ (runtime_signature f).params

abbrev pub MayTask : Allowed → Task → Type 0
MayTask C (Calls x f args) = MayCall C f
MayTask C t = Unit {0}

abbrev pub TaskWords : (Name → Ty → Type 0) → Allowed → Task → Type 0
TaskWords K C (Sets x t e) = Typed K C t e
TaskWords K C t = AllTyped K C (parts t)

pub record TaskFits (K : Name → Ty → Type 0) (C : Allowed) (t : Task) : Type 0 where
  pub shape : TaskShape t
  pub calls : MayTask C t
  pub words : TaskWords K C t
  pub gives : ResultFits (target t) (target_type t)

-- what is known after a task
abbrev pub sets : (Name → Ty → Type 0) → Task → Name → Ty → Type 0
sets K t x u = K x u ⊎ ((target t ≡ Some x) × (target_type t ≡ Some u))

abbrev pub TasksFit : (Name → Ty → Type 0) → Allowed → List Task → Type 0
TasksFit K C [] = Unit {0}
TasksFit K C (t ∷ ts) = TaskFits K C t × TasksFit (sets K t) C ts
