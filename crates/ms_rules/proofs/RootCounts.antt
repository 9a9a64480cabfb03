-- How many roots stand after operands, and how many an instruction has.
use Rattle.std.proofs.Common.{◌≡◌, ◌<◌, ◌≤◌, ◌+◌, ◌^◌, ◌-◌, ℕ, Bool, true, false, if◌then◌else◌, Option, length, sym, ap, ◌∙◌, arith}
use Rattle.std.proofs.lemmas.List.{length-map}
use Rattle.ms_ir.specs.declared.syntax.Name.{Name}
use Rattle.ms_ir.specs.declared.syntax.Operand.{Operand}
use Rattle.ms_ir.specs.declared.syntax.Operand.TheVariants as constant
use Rattle.ms_ir.specs.declared.syntax.Op.{Op}
use Rattle.ms_ir.specs.declared.syntax.Inst.{Inst}
use Rattle.ms_ir.specs.Instructions.{operands, one_undef, count_undefs, is_root, roots_in}
use Rattle.ms_pass_tasks.specs.Environments.{Env}
use Rattle.ms_rules_builder.specs.Steps.{tracked_of}
use Rattle.ms_rules.specs.declared.tracked.Tracking.{Tracking}
use Rattle.ms_rules.specs.Tracking.{IsTracked}
use Rattle.ms_runs_good_laws.proofs.Starting.{undefs_few}
use Rattle.ms_pass_form_laws.proofs.CostSum.{tracked_many}

-- ---- operands

pub one_at_most : (o : Operand) → one_undef o ≤ 1
one_at_most constant.Undef = omega arith
one_at_most constant.Poison = omega arith
one_at_most o = omega arith

-- the operands are as many as those that are tracked
pub all_tracked : (env : Env) (o : Op) (t : Tracking) → IsTracked env o t → length t.operands.items ≡ length (operands o)
all_tracked env o t is = sym (length-map t.operands.items tracked_of) ∙ ap length is.are ∙ tracked_many env t.before (operands o)

-- the roots so far have 64 bits
pub after_low : (env : Env) (o : Op) (t : Tracking) → IsTracked env o t → t.before < 2 ^ 40 → t.after + 1 < 2 ^ 64
after_low env o t is low = omega (arith, is.after, all_tracked env o t is, undefs_few (operands o), t.operands.ok, t.operands.small)

-- ---- instructions

pub one_if : (b : Bool) → (if b then 1 else 0) ≤ 1
one_if true = omega arith
one_if false = omega arith

pub roots_few : (func : Name → Option ℕ) (i : Inst) → roots_in func i ≤ length (operands i.op) + 1
roots_few func i = by_mark i.marked
  where
    by_mark : (b : Bool) → (if b then 0 else (count_undefs (operands i.op) + (if is_root func i.op then 1 else 0))) ≤ length (operands i.op) + 1
    by_mark true = omega arith
    by_mark false = omega (arith, undefs_few (operands i.op), one_if (is_root func i.op))

-- undefined operands and one more root are few enough to be added
pub roots_fit : (env : Env) (o : Op) (t : Tracking) (b : Bool) → IsTracked env o t → t.after - t.before + (if b then 1 else 0) < 2 ^ 64
roots_fit env o t b is = omega (arith, is.after, all_tracked env o t is, undefs_few (operands o), t.operands.ok, t.operands.small, one_if b)
