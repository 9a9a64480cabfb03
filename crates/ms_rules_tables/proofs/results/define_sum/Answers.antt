use Rattle.std.proofs.Common.{◌≡◌, List, [], ◌∷◌, ◌++◌, ap, sym, ◌∙◌, map, take, drop, subst, OnOk}
use Rattle.ms_ir.specs.declared.syntax.Ty.{Int}
use Rattle.ms_pass_tasks.specs.Tasks.{Expr}
use Rattle.ms_pass_tasks.specs.Environments.{Tracked, tracked_at, mask_of, unknown, joined}
use Rattle.ms_pass_tasks.specs.ResultMasks.{carry_expr, sum_expr, first_last}
use Rattle.ms_rules_builder.specs.declared.unions.Widening.TheVariants as widening
use Rattle.ms_rules_builder.specs.Made.{with_tasks}
use Rattle.ms_rules_builder.specs.Steps.{Inputs, inputs_of, tracked_of, words}
use Rattle.ms_rules_tables.specs.Rules.{defined, carry_in}
use Rattle.ms_rules_tables.proofs.Sums.{pair_unknown, pair_first}
use Rattle.ms_rules_tables.proofs.results.define_sum.Goals as goal

pub returns : goal.returns
returns c =
    let i = inputs_of c.plain-inputs.result in
    let r = c.define_joined in let ops = c.args.operands.now in let w = c.args.width in
    let ts = map tracked_of ops in
    let two = take 2 ops in
    let e = sum_expr w (tracked_at 0 ts ∷ tracked_at 1 ts ∷ []) in
    let same = ap (λ x. x.operands) c.plain-inputs.ensures in
    let mask : carry_in i widening.Own (map tracked_of two) ≡ e =
    ap (λ (x : Inputs). carry_in x widening.Own (map tracked_of two)) c.plain-inputs.ensures
    ∙ ap (λ (l : List Tracked). carry_expr (Int w) (joined (Int w) mask_of l)) (pair_unknown ops) in
    subst (λ (x : Inputs). OnOk r.result (r.new.builder ≡ with_tasks c.args.builder.now (defined c.args.value w (first_last x.operands) e)))
    c.plain-inputs.ensures
    (r.ensures e (ap (λ l. words i l []) c.as_slice.ensures.value
    ∙ c.in_ok-mask.ensures.mask i (map tracked_of (drop 2 ops)) (same ∙ pair_first ops ∙ ap (λ l. map tracked_of l ++ map tracked_of (drop 2 ops)) (sym c.first_two.ensures))
    ∙ ap (λ l. carry_in i widening.Own (map tracked_of l) ∷ []) c.first_two.ensures ∙ ap (λ x. x ∷ []) mask))
