-- The words on a stack as operands, and the instructions that have made them.
use Rattle.std.specs.Prelude.{ℕ, ◌+◌, ◌≡◌, List, [], ◌∷◌, ◌++◌, Option, Some, None, eqb, if◌then◌else◌}
use Rattle.ms_bits.specs.NoFlags.{no_flags}
use Rattle.ms_bits.specs.declared.operations.CastOp.{CastOp}
use Rattle.ms_bits.specs.declared.operations.CastOp.TheVariants as cast
use Rattle.ms_ir.specs.declared.syntax.Name.{Name}
use Rattle.ms_ir.specs.declared.syntax.Ty.{Int, Ptr}
use Rattle.ms_ir.specs.declared.syntax.Operand.{Operand}
use Rattle.ms_ir.specs.declared.syntax.Operand.TheVariants as operand
use Rattle.ms_ir.specs.declared.syntax.Op.{Op}
use Rattle.ms_ir.specs.declared.syntax.Op.TheVariants as op
use Rattle.ms_ir.specs.declared.syntax.Inst.{Inst}
use Rattle.ms_pass_tasks.specs.Tasks.{InsertedCode, Expr, Turn, msan_name, inserted, binary, binop_of, flatten}
use Rattle.ms_pass_tasks.specs.Environments.{tracked_at}
use Rattle.ms_rules_builder.specs.declared.steps.StackOp.{StackOp}
use Rattle.ms_rules_builder.specs.declared.steps.StackOp.TheVariants as step
use Rattle.ms_rules_builder.specs.Steps.{Inputs, bits_in, task_operation}

-- ---- operands that are there already

-- the result of the instruction as an operand
abbrev pub result_operand : Option Name → Operand
result_operand (Some x) = operand.Local x
result_operand None = operand.Int 0

-- the operand that a step puts on the stack which takes no word
abbrev pub leaf_operand : Inputs → StackOp → Operand
leaf_operand i (step.Word k) = (tracked_at k i.operands).operand
leaf_operand i (step.Mask k) = (tracked_at k i.operands).mask
leaf_operand i (step.Origin k) = (tracked_at k i.operands).origin
leaf_operand i (step.Constant n) = operand.Int n
leaf_operand i step.Ones = operand.Int i.ones
leaf_operand i step.Sign = operand.Int i.sign
leaf_operand i (step.Inserted n) = operand.Local (msan_name n)
leaf_operand i step.Result = result_operand i.result
leaf_operand i _ = operand.Int 0

-- ---- operations on a stack of operands, of which the last is on top

-- the operand on top, 0 where there is none
abbrev pub last_operand : List Operand → Operand
last_operand [] = operand.Int 0
last_operand (x ∷ []) = x
last_operand (x ∷ y ∷ os) = last_operand (y ∷ os)

-- the operands below it
abbrev pub all_but_last : List Operand → List Operand
all_but_last [] = []
all_but_last (x ∷ []) = []
all_but_last (x ∷ y ∷ os) = x ∷ all_but_last (y ∷ os)

-- the operation of a step on the operands that it takes
abbrev pub operation_at : Inputs → StackOp → List Operand → Op
operation_at i (step.Two o w) os =
    binary (binop_of (task_operation o)) (Int (bits_in i w)) (last_operand (all_but_last os)) (last_operand os)
operation_at i (step.Test p w) os =
    op.Icmp p no_flags (Int (bits_in i w)) (last_operand (all_but_last os)) (last_operand os)
operation_at i (step.Pick w) os =
    op.Select (last_operand (all_but_last (all_but_last os))) (Int (bits_in i w)) (last_operand (all_but_last os)) (last_operand os)
operation_at i (step.Turn o w u) os = op.Cast o no_flags (Int (bits_in i w)) (last_operand os) (Int (bits_in i u))
operation_at i step.ToNumber os = op.Cast cast.PtrToInt no_flags Ptr (last_operand os) (Int 64)
operation_at i step.ToPointer os = op.Cast cast.IntToPtr no_flags (Int 64) (last_operand os) Ptr
operation_at i _ os = op.Unreachable

-- the operands that it leaves
abbrev pub left_by : StackOp → List Operand → List Operand
left_by (step.Two o w) os = all_but_last (all_but_last os)
left_by (step.Test p w) os = all_but_last (all_but_last os)
left_by (step.Pick w) os = all_but_last (all_but_last (all_but_last os))
left_by (step.Turn o w u) os = all_but_last os
left_by step.ToNumber os = all_but_last os
left_by step.ToPointer os = all_but_last os
left_by _ os = os

-- code with an operation of which the result has the next number
abbrev pub with_operation : InsertedCode → Op → InsertedCode
with_operation c o = record { code = c.code ++ inserted (Some (msan_name c.next)) o ∷ []; next = c.next + 1 }

-- ---- what words come to

-- a word of w bits as one of 64, by a cast
abbrev pub widened_by : CastOp → ℕ → Expr → Expr
widened_by o w e = if eqb w 64 then e else Turn o (Int w) e (Int 64)

-- the instructions of the words on a stack, the lowest first, with the operands that hold them
pub record Stack : Type 0 where
  pub code : List Inst
  pub operands : List Operand
  pub next : ℕ

abbrev pub flatten_stack : List Expr → ℕ → Stack
flatten_stack [] n = record { code = []; operands = []; next = n }
flatten_stack (e ∷ st) n =
    let y = flatten_stack st n in let x = flatten e y.next in
    record { code = y.code ++ x.code; operands = y.operands ++ x.operand ∷ []; next = x.next }

-- code with the instructions of the words on a stack after it
abbrev pub with_words : InsertedCode → List Expr → InsertedCode
with_words c st = let x = flatten_stack st c.next in record { code = c.code ++ x.code; next = x.next }

-- from some code on, code and operands hold the words on a stack
pub record Holds (from : InsertedCode) (st : List Expr) (c : InsertedCode) (os : List Operand) : Type 0 where
  pub code : c ≡ with_words from st
  pub operands : os ≡ (flatten_stack st from.next).operands
