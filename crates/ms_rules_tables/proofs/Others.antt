-- Operations of which nothing is computed.
use Rattle.std.proofs.Common.{◌≡◌, ℕ, List, [], refl}
use Rattle.std.specs.Prelude.{Option}
use Rattle.ms_bits.specs.declared.operations.BinOp.{BinOp}
use Rattle.ms_bits.specs.declared.operations.CastOp.{CastOp}
use Rattle.ms_bits.specs.declared.operations.Flags.{Flags}
use Rattle.ms_bits.specs.declared.operations.Pred.{Pred}
use Rattle.ms_ir.specs.declared.syntax.Name.{Name}
use Rattle.ms_ir.specs.declared.syntax.Ty.{Ty}
use Rattle.ms_ir.specs.declared.syntax.Operand.{Operand}
use Rattle.ms_ir.specs.declared.syntax.Op.{Op}
use Rattle.ms_ir.specs.declared.syntax.Op.TheVariants as op
use Rattle.ms_pass_tasks.specs.Environments.{Tracked}
use Rattle.ms_pass_tasks.specs.ResultTasks.{define_tasks}

pub nothing_else : (func : Name → Option ℕ) (v : ℕ) (ts : List Tracked) (o : Op)
    → ((x : BinOp) (f : Flags) (t : Ty) (a b : Operand) → o ≡ op.Binary x f t a b → ⊥)
    → ((x : Pred) (f : Flags) (t : Ty) (a b : Operand) → o ≡ op.Icmp x f t a b → ⊥)
    → ((x : CastOp) (f : Flags) (t : Ty) (a : Operand) (u : Ty) → o ≡ op.Cast x f t a u → ⊥)
    → ((c : Operand) (t : Ty) (a b : Operand) → o ≡ op.Select c t a b → ⊥)
    → ((t : Ty) (a : Operand) → o ≡ op.Freeze t a → ⊥)
    → ((t u : Ty) (a : Operand) → o ≡ op.Alloca t u a → ⊥)
    → ((t : Ty) (a : Operand) → o ≡ op.Load t a → ⊥)
    → ((t : Ty) (a : Operand) (is : List (Ty × Operand)) → o ≡ op.Gep t a is → ⊥)
    → ((ret : Option Ty) (callee : Name) (args : List (Ty × Operand)) → o ≡ op.Call ret callee args → ⊥)
    → define_tasks func v o ts ≡ []
nothing_else func v ts (op.Binary x f t a b) binary icmp cast select freeze alloca load gep call = absurd (binary x f t a b refl)
nothing_else func v ts (op.Icmp x f t a b) binary icmp cast select freeze alloca load gep call = absurd (icmp x f t a b refl)
nothing_else func v ts (op.Cast x f t a u) binary icmp cast select freeze alloca load gep call = absurd (cast x f t a u refl)
nothing_else func v ts (op.Select c t a b) binary icmp cast select freeze alloca load gep call = absurd (select c t a b refl)
nothing_else func v ts (op.Freeze t a) binary icmp cast select freeze alloca load gep call = absurd (freeze t a refl)
nothing_else func v ts (op.Alloca t u a) binary icmp cast select freeze alloca load gep call = absurd (alloca t u a refl)
nothing_else func v ts (op.Load t a) binary icmp cast select freeze alloca load gep call = absurd (load t a refl)
nothing_else func v ts (op.Gep t a is) binary icmp cast select freeze alloca load gep call = absurd (gep t a is refl)
nothing_else func v ts (op.Call ret callee args) binary icmp cast select freeze alloca load gep call = absurd (call ret callee args refl)
nothing_else func v ts _ binary icmp cast select freeze alloca load gep call = refl
