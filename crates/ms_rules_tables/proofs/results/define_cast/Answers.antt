use Rattle.std.proofs.Common.{◌≡◌, [], ◌∷◌, sym, ap, subst, OnOk}
use Rattle.ms_pass_tasks.specs.Environments.{number, tracked_at, mask_of}
use Rattle.ms_pass_tasks.specs.ResultMasks.{cast_expr, first_last}
use Rattle.ms_rules_builder.specs.Made.{with_tasks}
use Rattle.ms_rules_builder.specs.Steps.{Inputs, inputs_of}
use Rattle.ms_rules_tables.specs.Rules.{defined}
use Rattle.ms_rules_tables.proofs.results.define_cast.Goals as goal

pub define_joined-requires : goal.define_joined-requires
define_joined-requires c = (c.in-Some.ensures (inputs_of c.plain-inputs.result) (number 0)).0

pub returns-in-Some : goal.returns-in-Some
returns-in-Some c =
    let a = c.args in let r = c.define_joined in let i = inputs_of c.plain-inputs.result in
    let m = mask_of (tracked_at 0 i.operands) in
    subst (λ (x : Inputs). OnOk r.result (r.new.builder ≡ with_tasks a.builder.now (defined a.value a.to (first_last x.operands) (cast_expr a.op a.from a.to (mask_of (tracked_at 0 x.operands))))))
    c.plain-inputs.ensures (r.ensures (cast_expr a.op a.from a.to m) (c.in-Some.ensures i m).1)

pub returns-in-None : goal.returns-in-None
returns-in-None c =
    let a = c.args in let r = c.define_joined-in-None in let i = inputs_of c.plain-inputs.result in
    let m = mask_of (tracked_at 0 i.operands) in
    subst (λ (x : Inputs). OnOk r.result (r.new.builder ≡ with_tasks a.builder.now (defined a.value a.to (first_last x.operands) (cast_expr a.op a.from a.to (mask_of (tracked_at 0 x.operands))))))
    c.plain-inputs.ensures (r.ensures (cast_expr a.op a.from a.to m) (ap (λ e. e ∷ []) (sym (c.in-None.ensures i m))))
