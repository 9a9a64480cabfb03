-- What is written in an instruction, an operand and an initialiser: types, names and labels, in written order (LLVM
-- Language Reference, "Instruction Reference", "Constant Expressions" and "Global Variables").
use Rattle.std.specs.Prelude.{List, [], ◌∷◌, ◌++◌, map, flat_map, Option, Some, None}
use Rattle.ms_ir.specs.declared.syntax.Name.{Name}
use Rattle.ms_ir.specs.declared.syntax.Ty.{Ty, Int, Ptr, Array', Struct', Named, Row_of-Ty, end_of-Ty, more_of-Ty}
use Rattle.ms_ir.specs.declared.syntax.Operand.{Operand}
use Rattle.ms_ir.specs.declared.syntax.Operand.TheVariants as operand
use Rattle.ms_ir.specs.declared.syntax.Init.{Init, Row_of-Init-Array-0-2, end_of-Init-Array-0-2, more_of-Init-Array-0-2}
use Rattle.ms_ir.specs.declared.syntax.Init as initial
use Rattle.ms_ir.specs.declared.syntax.Op.{Op}
use Rattle.ms_ir.specs.declared.syntax.Op.TheVariants as op
use Rattle.ms_ir.specs.declared.syntax.Block.{Block}
use Rattle.ms_ir.specs.Instructions.{operands}

-- ---- names

-- a name where it is used: of a type, of a value or block of the function, or of a global or function
pub data Mention : Type 0 where
  OfType : Name → Mention
  OfLocal : Name → Mention
  OfGlobal : Name → Mention

-- the named types in a type, and in a row of types
abbrev mutual
  pub type_mentions : Ty → List Mention
  type_mentions (Named x) = OfType x ∷ []
  type_mentions (Array' n shape item) = row_mentions item
  type_mentions (Struct' packed shape fields) = row_mentions fields
  type_mentions t = []

  pub row_mentions : {n : _} → Row_of-Ty n → List Mention
  row_mentions end_of-Ty = []
  row_mentions (more_of-Ty t ts) = type_mentions t ++ row_mentions ts

-- the names in an operand
abbrev pub operand_mentions : Operand → List Mention
operand_mentions (operand.Local x) = OfLocal x ∷ []
operand_mentions (operand.Global x) = OfGlobal x ∷ []
operand_mentions (operand.Offset x steps) = flat_map (λ s. type_mentions s.0) steps ++ OfGlobal x ∷ []
operand_mentions o = []

-- the names in operands
abbrev pub operands_mentions : List (Ty × Operand) → List Mention
operands_mentions os = flat_map (λ o. operand_mentions o.1) os

-- the blocks that an instruction names, in written order
abbrev pub labels : Op → List Name
labels (op.Phi t edges) = map (λ e. e.1) edges
labels (op.Br to) = to ∷ []
labels (op.CondBr c to other) = to ∷ other ∷ []
labels (op.Switch t v other cases) = other ∷ map (λ c. c.1) cases
labels o = []

-- the blocks to which an instruction may go
abbrev pub targets : Op → List Name
targets (op.Phi t edges) = []
targets o = labels o

-- the names in an instruction, in written order: a type before the operands, a callee before the arguments, each of a
-- phi's values before its label
abbrev pub mentions : Op → List Mention
mentions (op.Phi t edges) = flat_map (λ e. operand_mentions e.0 ++ OfLocal e.1 ∷ []) edges
mentions (op.Alloca t u count) = type_mentions t ++ operand_mentions count
mentions (op.Gep t base indices) = type_mentions t ++ (operand_mentions base ++ operands_mentions indices)
mentions (op.Call ret callee args) = OfGlobal callee ∷ operands_mentions args
mentions o = operands_mentions (operands o) ++ map OfLocal (labels o)

-- the names in an initialiser, and in its items or fields with their types
abbrev mutual
  pub init_mentions : Init → List Mention
  init_mentions (initial.Value o) = operand_mentions o
  init_mentions (initial.Array' shape items) = items_mentions items
  init_mentions (initial.Struct' packed shape fields) = items_mentions fields
  init_mentions i = []

  pub items_mentions : {n : _} → Row_of-Init-Array-0-2 n → List Mention
  items_mentions end_of-Init-Array-0-2 = []
  items_mentions (more_of-Init-Array-0-2 t i rest) = type_mentions t ++ (init_mentions i ++ items_mentions rest)

-- ---- types

-- a type and all types within it, a named type's definition left aside
abbrev mutual
  pub type_parts : Ty → List Ty
  type_parts (Array' n shape item) = Array' n shape item ∷ row_parts item
  type_parts (Struct' packed shape fields) = Struct' packed shape fields ∷ row_parts fields
  type_parts t = t ∷ []

  pub row_parts : {n : _} → Row_of-Ty n → List Ty
  row_parts end_of-Ty = []
  row_parts (more_of-Ty t ts) = type_parts t ++ row_parts ts

-- the types that an operand names by itself
abbrev pub operand_types : Operand → List Ty
operand_types (operand.Offset x steps) = flat_map (λ s. s.0 ∷ map (λ i. i.0) s.1) steps
operand_types o = []

-- the types in an instruction that stand before no operand: those that an operation works on, casts to or answers
abbrev pub own_types : Op → List Ty
own_types (op.Cast o flags from a to) = to ∷ []
own_types (op.Phi t edges) = t ∷ []
own_types (op.Alloca t u count) = t ∷ []
own_types (op.Load t addr) = t ∷ []
own_types (op.Gep t base indices) = t ∷ []
own_types (op.Call (Some t) callee args) = t ∷ []
own_types o = []

-- the types in an instruction, and in its operands
abbrev pub op_types : Op → List Ty
op_types o = own_types o ++ flat_map (λ a. a.0 ∷ operand_types a.1) (operands o)

-- the types in an initialiser, and in its items or fields
abbrev mutual
  pub init_types : Init → List Ty
  init_types (initial.Value o) = operand_types o
  init_types (initial.Array' shape items) = items_types items
  init_types (initial.Struct' packed shape fields) = items_types fields
  init_types i = []

  pub items_types : {n : _} → Row_of-Init-Array-0-2 n → List Ty
  items_types end_of-Init-Array-0-2 = []
  items_types (more_of-Init-Array-0-2 t i rest) = t ∷ (init_types i ++ items_types rest)

-- ---- results

-- the type of what an instruction answers: none where it returns nothing
abbrev pub result_type : Op → Option Ty
result_type (op.Binary o flags t a b) = Some t
result_type (op.Icmp p flags t a b) = Some (Int 1)
result_type (op.Cast o flags from a to) = Some to
result_type (op.Select c t a b) = Some t
result_type (op.Freeze t a) = Some t
result_type (op.Phi t edges) = Some t
result_type (op.Alloca t u count) = Some Ptr
result_type (op.Load t addr) = Some t
result_type (op.Gep t base indices) = Some Ptr
result_type (op.Call ret callee args) = ret
result_type o = None

-- the blocks to which a block may go, once for each edge
abbrev pub block_targets : Block → List Name
block_targets b = flat_map (λ inst. targets inst.op) b.insts
