use Rattle.std.proofs.Common.{[], ap, ◌∙◌, arith}
use Rattle.ms_rules_builder.specs.declared.steps.StackOp.TheVariants as step
use Rattle.ms_rules_builder.specs.Steps.{inputs_of, words}
use Rattle.ms_rules_tables.proofs.Tables.{last_operation, before_last}
use Rattle.ms_rules_tables.proofs.rules.set.Goals as goal

pub set-requires : goal.set-requires
set-requires c = last_operation c.args.rule.now (step.Word 0) c.requires c.in-len1-up.len_at_least

pub returns-in-len1-up : goal.returns-in-len1-up
returns-in-len1-up c = λ e p.
    c.set.ensures e (ap (λ l. words (inputs_of c.args.inputs.now) l []) (before_last c.args.rule.now (step.Word 0) (omega arith)) ∙ p)
