use Rattle.std.proofs.Common.{[], ap, ◌∙◌, refl}
use Rattle.ms_pass_tasks.specs.ResultMasks.{first_last}
use Rattle.ms_rules_builder.specs.Steps.{inputs_of, words}
use Rattle.ms_rules_tables.proofs.origins.set_last_origin.Goals as goal

pub returns : goal.returns
returns c =
    let i = inputs_of c.args.inputs.now in
    c.set_origin.ensures (first_last i.operands) (ap (λ l. words i l []) c.as_slice.ensures.value ∙ c.in_ok-rule.ensures.origin i refl)
