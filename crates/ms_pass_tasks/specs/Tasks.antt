-- A small language of what inserted code does, without temporaries, and the instructions that it becomes (own, after
-- Stepanov and Serebryany, CGO 2015).
use Rattle.std.specs.Prelude.{ℕ, ◌+◌, ◌*◌, true, eqb, List, [], ◌∷◌, ◌++◌, map, get_or, if◌then◌else◌, Option, Some, None, codes}
use Rattle.std.specs.Int.Digits.{digits_of}
use Rattle.ms_bits.specs.declared.operations.BinOp.{BinOp}
use Rattle.ms_bits.specs.declared.operations.BinOp.TheVariants as binop
use Rattle.ms_bits.specs.declared.operations.CastOp.{CastOp}
use Rattle.ms_bits.specs.declared.operations.Pred.{Pred}
use Rattle.ms_ir.specs.declared.syntax.Name.{Name}
use Rattle.ms_ir.specs.declared.syntax.Name.TheVariants as name
use Rattle.ms_ir.specs.declared.syntax.Ty.{Ty, Ptr}
use Rattle.ms_ir.specs.declared.syntax.Operand.{Operand}
use Rattle.ms_ir.specs.declared.syntax.Operand.TheVariants as operand
use Rattle.ms_ir.specs.declared.syntax.Op.{Op}
use Rattle.ms_ir.specs.declared.syntax.Op.TheVariants as op
use Rattle.ms_ir.specs.declared.syntax.Inst.{Inst}
use Rattle.ms_ir.specs.declared.calls.RuntimeFn.{RuntimeFn}
use Rattle.ms_bits.specs.NoFlags.{no_flags}
use Rattle.ms_ir.specs.Names.{runtime_name}
use Rattle.ms_ir.specs.Signatures.{runtime_signature}

-- ---- names

-- a number in decimal digits, however many; std's `decimal`, which is the same below 2 ^ 64, has 64 of them at most
unfoldable pub numeral : ℕ → List ℕ
numeral k = if eqb k 0 then codes "0" else map (λ d. 48 + d) (digits_of 10 k)

-- the local name of an inserted result
abbrev pub msan_name : ℕ → Name
msan_name k = name.Text (codes "__msan." ++ numeral k)

-- the name of the mask of the function's value with a number, counted from 0
abbrev pub mask_name : ℕ → Name
mask_name v = msan_name (2 * v + 1)

-- the name of the origin of that value
abbrev pub origin_name : ℕ → Name
origin_name v = msan_name (2 * v + 2)

-- ---- the language

-- an operation on two words that never traps
pub data Operation : Type 0 where
  And : Operation
  Or : Operation
  Xor : Operation
  Add : Operation
  Sub : Operation
  Mul : Operation

-- a word that inserted code computes
pub data Expr : Type 0 where
  Leaf : Operand → Expr
  Two : Operation → Ty → Expr → Expr → Expr
  Turn : CastOp → Ty → Expr → Ty → Expr
  Test : Pred → Ty → Expr → Expr → Expr
  Pick : Expr → Ty → Expr → Expr → Expr

-- one thing that inserted code does
pub data Task : Type 0 where
  Sets : Name → Ty → Expr → Task
  Tries : Name → BinOp → Ty → Expr → Expr → Task
  Fetches : Name → Ty → Expr → Task
  Puts : Ty → (value addr : Expr) → Task
  Calls : Option Name → RuntimeFn → List (Ty × Expr) → Task

-- ---- the instructions that they become

-- instructions, the operand that holds what they compute, and the next free number of an inserted result
pub record Flat : Type 0 where
  pub code : List Inst
  pub operand : Operand
  pub next : ℕ

-- the same for a list of words
pub record Flats : Type 0 where
  pub code : List Inst
  pub operands : List (Ty × Operand)
  pub next : ℕ

-- what is left of a word when its parts stand: an operand, or an operation on operands
pub data Last : Type 0 where
  Is : Operand → Last
  By : Op → Last

-- the instructions of a word's parts, and what is left then
pub record Half : Type 0 where
  pub code : List Inst
  pub last : Last
  pub next : ℕ

-- instructions, and the next free number of an inserted result
pub record InsertedCode : Type 0 where
  pub code : List Inst
  pub next : ℕ

-- an inserted instruction
abbrev pub inserted : Option Name → Op → Inst
inserted x o = record { op = o; result = x; marked = true }

-- the operation as an instruction has it
abbrev pub binop_of : Operation → BinOp
binop_of And = binop.And
binop_of Or = binop.Or
binop_of Xor = binop.Xor
binop_of Add = binop.Add
binop_of Sub = binop.Sub
binop_of Mul = binop.Mul

-- an operation on two operands, without flags
abbrev pub binary : BinOp → Ty → Operand → Operand → Op
binary o t a b = op.Binary o no_flags t a b

-- what is left becomes an operand
abbrev pub close : List Inst → Last → ℕ → Flat
close code (Is o) n = record { code = code; operand = o; next = n }
close code (By o) n = record { code = code ++ inserted (Some (msan_name n)) o ∷ []; operand = operand.Local (msan_name n); next = n + 1 }

-- the same of a word whose parts stand
abbrev pub closed : Half → Flat
closed h = close h.code h.last h.next

-- the instructions of the parts of a word, from a free number on, and what is left of the word then
abbrev pub half : Expr → ℕ → Half
half (Leaf o) n = record { code = []; last = Is o; next = n }
half (Two o t a b) n =
    let x = closed (half a n) in let y = closed (half b x.next) in
    record { code = x.code ++ y.code; last = By (binary (binop_of o) t x.operand y.operand); next = y.next }
half (Turn o t a u) n = let x = closed (half a n) in record { code = x.code; last = By (op.Cast o no_flags t x.operand u); next = x.next }
half (Test p t a b) n =
    let x = closed (half a n) in let y = closed (half b x.next) in
    record { code = x.code ++ y.code; last = By (op.Icmp p no_flags t x.operand y.operand); next = y.next }
half (Pick c t a b) n =
    let z = closed (half c n) in let x = closed (half a z.next) in let y = closed (half b x.next) in
    record { code = z.code ++ (x.code ++ y.code); last = By (op.Select z.operand t x.operand y.operand); next = y.next }

-- the instructions of a word, from a free number on, and the operand that holds it
abbrev pub flatten : Expr → ℕ → Flat
flatten e n = closed (half e n)

-- the same for words in turn
abbrev pub flatten_all : List (Ty × Expr) → ℕ → Flats
flatten_all [] n = record { code = []; operands = []; next = n }
flatten_all (e ∷ es) n =
    let x = flatten e.1 n in let y = flatten_all es x.next in
    record { code = x.code ++ y.code; operands = (e.0, x.operand) ∷ y.operands; next = y.next }

-- the words that a task needs, with the types at which it reads them; none of `Sets`
abbrev pub parts : Task → List (Ty × Expr)
parts (Sets x t e) = []
parts (Tries x o t a b) = (t, a) ∷ (t, b) ∷ []
parts (Fetches x t a) = (Ptr, a) ∷ []
parts (Puts t a b) = (t, a) ∷ (Ptr, b) ∷ []
parts (Calls x f args) = args

-- the result of a task's last instruction, if it has one
abbrev pub target : Task → Option Name
target (Sets x t e) = Some x
target (Tries x o t a b) = Some x
target (Fetches x t a) = Some x
target (Puts t a b) = None
target (Calls x f args) = x

-- operand k, counted from 0
abbrev pub operand_at : List (Ty × Operand) → ℕ → Operand
operand_at os k = (get_or os k (Ptr, operand.Int 0)).1

-- a name gets what is left of a word
abbrev pub set_op : Ty → Last → Op
set_op t (Is o) = binary binop.Or t o (operand.Int 0)
set_op t (By o) = o

-- a task's last instruction, of the operands that hold its words
abbrev pub last_op : Task → List (Ty × Operand) → Op
last_op (Sets x t e) os = op.Unreachable
last_op (Tries x o t a b) os = binary o t (operand_at os 0) (operand_at os 1)
last_op (Fetches x t a) os = op.Load t (operand_at os 0)
last_op (Puts t a b) os = op.Store t (operand_at os 0) (operand_at os 1)
last_op (Calls x f args) os = op.Call (runtime_signature f).ret (runtime_name f) os

-- a task whose last instruction takes words
abbrev pub plain_code : Task → ℕ → InsertedCode
plain_code t n =
    let x = flatten_all (parts t) n in
    record { code = x.code ++ inserted (target t) (last_op t x.operands) ∷ []; next = x.next }

-- the instructions of a task, from a free number on
abbrev pub task_code : Task → ℕ → InsertedCode
task_code (Sets x t e) n = let h = half e n in record { code = h.code ++ inserted (Some x) (set_op t h.last) ∷ []; next = h.next }
task_code t n = plain_code t n

-- the instructions of tasks in turn
abbrev pub tasks_code : List Task → ℕ → InsertedCode
tasks_code [] n = record { code = []; next = n }
tasks_code (t ∷ ts) n = let x = task_code t n in let y = tasks_code ts x.next in record { code = x.code ++ y.code; next = y.next }
