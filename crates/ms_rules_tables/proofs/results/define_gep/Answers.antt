use Rattle.std.proofs.Common.{◌≡◌, [], ap, ◌∙◌, sym, append-nil, map, subst, OnOk}
use Rattle.ms_pass_tasks.specs.ResultMasks.{address_expr, first_last}
use Rattle.ms_rules_builder.specs.Made.{with_tasks}
use Rattle.ms_rules_builder.specs.Steps.{Inputs, inputs_of, tracked_of, words}
use Rattle.ms_rules_tables.specs.Rules.{defined}
use Rattle.ms_rules_tables.proofs.results.define_gep.Goals as goal

pub returns : goal.returns
returns c =
    let i = inputs_of c.plain-inputs.result in
    let r = c.define_joined in let ts = map tracked_of c.args.operands.now in
    let same = ap (λ x. x.operands) c.plain-inputs.ensures in
    subst (λ (x : Inputs). OnOk r.result (r.new.builder ≡ with_tasks c.args.builder.now (defined c.args.value 64 (first_last x.operands) (address_expr ts))))
    c.plain-inputs.ensures
    (r.ensures (address_expr ts) (ap (λ l. words i l []) c.as_slice.ensures.value ∙ c.in_ok-mask.ensures.mask i [] (same ∙ sym (append-nil ts))))
