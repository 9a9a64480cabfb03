use Rattle.std.proofs.Common.{◌≡◌, ℕ, List, map, sym, refl, subst, OnOk}
use Rattle.ms_ir.specs.declared.syntax.Op.TheVariants as operation
use Rattle.ms_pass_tasks.specs.Tasks.{Expr}
use Rattle.ms_pass_tasks.specs.Environments.{Tracked, tracked_at, word_of, mask_of, bits_of}
use Rattle.ms_pass_tasks.specs.ResultMasks.{origin_expr, select_expr}
use Rattle.ms_rules_builder.specs.Made.{with_tasks}
use Rattle.ms_rules_builder.specs.Steps.{Inputs, inputs_of, tracked_of}
use Rattle.ms_rules_tables.specs.Rules.{defined}
use Rattle.ms_rules_tables.proofs.results.define_select.Goals as goal

abbrev chosen : ℕ → List Tracked → Expr
chosen w ts =
    select_expr w (word_of (tracked_at 0 ts)) (mask_of (tracked_at 0 ts)) (bits_of (tracked_at 1 ts)) (mask_of (tracked_at 1 ts)) (bits_of (tracked_at 2 ts)) (mask_of (tracked_at 2 ts))

pub returns : goal.returns
returns c = λ x a b t e.
    let i = inputs_of c.plain-inputs.result in
    let r = c.define_word in let v = c.args.value in
    let origin = λ (l : List Tracked). origin_expr (operation.Select x t a b) l in
    subst (λ (w : ℕ). OnOk r.result (r.new.builder ≡ with_tasks c.args.builder.now (defined v w (origin (map tracked_of c.args.operands.now)) (chosen w (map tracked_of c.args.operands.now))))) (sym e)
    (subst (λ (y : Inputs). OnOk r.result (r.new.builder ≡ with_tasks c.args.builder.now (defined v y.width (origin y.operands) (chosen y.width y.operands)))) c.plain-inputs.ensures
    (r.ensures (origin i.operands) (chosen i.width i.operands) refl refl))
