-- What the pass knows of names by one environment it knows by each other that numbers values in the same way.
use Rattle.std.proofs.Common.{ℕ, suc, List, [], ◌∷◌, Bool, Option, Some, None}
use Rattle.ms_ir.specs.declared.syntax.Name.{Name}
use Rattle.ms_ir.specs.declared.syntax.Ty.{Ty}
use Rattle.ms_ir.specs.declared.syntax.Operand.{Operand}
use Rattle.ms_ir.specs.declared.syntax.Operand.TheVariants as operand
use Rattle.ms_ir.specs.declared.syntax.Op.{Op}
use Rattle.ms_ir.specs.declared.syntax.Op.TheVariants as op
use Rattle.ms_ir.specs.declared.syntax.Inst.{Inst}
use Rattle.ms_ir.specs.Instructions.{operands}
use Rattle.ms_pass_tasks.specs.Environments.{Env}
use Rattle.ms_pass_tasks.specs.Known.{KnownName, KnownOperand, KnownOperands, KnownResult, KnownInst, KnownEdges, KnownPhi, KnownPhis, KnownParams}

module _ (number : Name → Option ℕ) (c d : Name → Bool) (size : ℕ) where
  abbrev one : Env
  one = record { number = number; clean = c }

  abbrev other : Env
  other = record { number = number; clean = d }

  same_name : (x : Name) → KnownName one size x → KnownName other size x
  same_name x h = record { own = h.own; place = h.place; numbered = h.numbered; below = h.below }

  same_operand : (o : Operand) → KnownOperand one size o → KnownOperand other size o
  same_operand (operand.Local x) h = same_name x h
  same_operand _ h = tt

  pub same_operands : (os : List (Ty × Operand)) → KnownOperands one size os → KnownOperands other size os
  same_operands [] h = tt
  same_operands (o ∷ os) h = (h.0, same_operand o.1 h.1, same_operands os h.2)

  same_result : (x : Option Name) → KnownResult one size x → KnownResult other size x
  same_result None h = tt
  same_result (Some x) h = same_name x h

  pub same_inst : (func : Name → Option ℕ) (i : Inst) → KnownInst func one size i → KnownInst func other size i
  same_inst func i h = record { unmarked = h.unmarked; built = h.built; named = same_result i.result h.named; reads = same_operands (operands i.op) h.reads }

  same_edges : (es : List (Operand × Name)) → KnownEdges one size es → KnownEdges other size es
  same_edges [] h = tt
  same_edges (e ∷ es) h = (same_operand e.0 h.0, same_edges es h.1)

  same_phi : (x : Option Name) (o : Op) → KnownPhi one size x o → KnownPhi other size x o
  same_phi (Some x) (op.Phi t es) h = (same_name x h.0, same_edges es h.1)
  same_phi None (op.Phi t es) h = h
  same_phi (Some x) (op.Binary o flags t a b) h = tt
  same_phi (Some x) (op.Icmp o flags t a b) h = tt
  same_phi (Some x) (op.Cast o flags t a b) h = tt
  same_phi (Some x) (op.Select k t a b) h = tt
  same_phi (Some x) (op.Freeze t a) h = tt
  same_phi (Some x) (op.Alloca t u k) h = tt
  same_phi (Some x) (op.Load t a) h = tt
  same_phi (Some x) (op.Store t v a) h = tt
  same_phi (Some x) (op.Gep t a is) h = tt
  same_phi (Some x) (op.Call ret callee args) h = tt
  same_phi (Some x) (op.Br to) h = tt
  same_phi (Some x) (op.CondBr k to next) h = tt
  same_phi (Some x) (op.Switch t v next cases) h = tt
  same_phi (Some x) (op.Ret v) h = tt
  same_phi (Some x) op.Unreachable h = tt
  same_phi None _ h = tt

  pub same_phis : (is : List Inst) → KnownPhis one size is → KnownPhis other size is
  same_phis [] h = tt
  same_phis (i ∷ is) h = (h.0, same_phi i.result i.op h.1, same_phis is h.2)

  pub same_params : (k : ℕ) (ps : List (Ty × Name)) → KnownParams one size k ps → KnownParams other size k ps
  same_params k [] h = tt
  same_params k (p ∷ ps) h = (h.0, h.1, h.2, h.3, same_params (suc k) ps h.4)
