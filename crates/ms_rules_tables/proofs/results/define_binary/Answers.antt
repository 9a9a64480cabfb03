use Rattle.std.proofs.Common.{◌≡◌, ℕ, [], ◌∷◌, List, map, sym, ap, ◌∙◌, subst, OnOk}
use Rattle.ms_ir.specs.declared.syntax.Op.TheVariants as operation
use Rattle.ms_pass_tasks.specs.Tasks.{Task, mask_name, origin_name}
use Rattle.ms_pass_tasks.specs.Environments.{tracked_at}
use Rattle.ms_pass_tasks.specs.ResultMasks.{binary_expr, sum_expr, first_last}
use Rattle.ms_rules_builder.specs.Made.{with_tasks}
use Rattle.ms_rules_builder.specs.Steps.{Inputs, tracked_of, words}
use Rattle.ms_rules_tables.specs.Rules.{defined}
use Rattle.ms_rules_tables.proofs.Shifts.{of_a_shift, of_no_shift, of_a_sum}
use Rattle.ms_rules_tables.proofs.results.define_binary.Goals as goal

pub returns-in-Shl : goal.returns-in-Shl
returns-in-Shl c = λ f t a b e.
    let v = c.args.value in let o = c.args.op in
    subst (λ (l : List Task). OnOk c.define_shift.result (c.define_shift.new.builder ≡ with_tasks c.args.builder.now l))
    (sym (of_a_shift (mask_name v) (origin_name v) (operation.Binary o f t a b) c.args.width (map tracked_of c.args.operands.now) o c.in-Shl.is)) c.define_shift.ensures

pub returns-in-Add : goal.returns-in-Add
returns-in-Add c = λ f t a b e.
    let v = c.args.value in let ts = map tracked_of c.args.operands.now in
    let tasks = λ (u : ℕ). let l : List Task = defined v u (first_last ts) (sum_expr u (tracked_at 0 ts ∷ tracked_at 1 ts ∷ [])) in l in
    subst (λ (l : List Task). OnOk c.define_sum.result (c.define_sum.new.builder ≡ with_tasks c.args.builder.now l))
    (ap tasks (sym e) ∙ sym (of_a_sum (mask_name v) (origin_name v) f t a b c.args.width ts c.args.op c.in-Add.is)) c.define_sum.ensures

pub returns-in_default : goal.returns-in_default
returns-in_default c = λ f t a b e.
    let v = c.args.value in let o = c.args.op in let w = c.args.width in
    let ts = map tracked_of c.args.operands.now in
    let x = binary_expr o w (tracked_at 0 ts) (tracked_at 1 ts) in
    let i = c.new-inputs.ensures in
    let tasks = λ (u : ℕ). let l : List Task = defined v u (first_last ts) (binary_expr o u (tracked_at 0 ts) (tracked_at 1 ts)) in l in
    let d = c.in_default in
    subst (λ (l : List Task). OnOk c.define_joined.result (c.define_joined.new.builder ≡ with_tasks c.args.builder.now l))
    (ap tasks (sym e) ∙ sym (of_no_shift (mask_name v) (origin_name v) (operation.Binary o f t a b) w ts o d.not-Shl d.not-Lshr d.not-Ashr))
    (subst (λ (y : Inputs). OnOk c.define_joined.result (c.define_joined.new.builder ≡ with_tasks c.args.builder.now (defined v w (first_last y.operands) x))) i
    (c.define_joined.ensures x (ap (λ y. words y c.binary_rule.result.now []) i ∙ c.binary_rule.ensures.mask w ts)))
