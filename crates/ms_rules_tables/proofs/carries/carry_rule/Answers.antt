use Rattle.std.proofs.Common.{◌≡◌, ◌∷◌, [], ◌++◌, map, ap, ◌∙◌}
use Rattle.ms_rules_builder.specs.declared.steps.Operation.TheVariants as operation
use Rattle.ms_rules_builder.specs.declared.steps.StackOp.TheVariants as step
use Rattle.ms_rules_builder.specs.Steps.{tracked_of}
use Rattle.ms_rules_tables.specs.Rules.{is_rule}
use Rattle.ms_rules_tables.proofs.Sums.{carry_steps, carry_made, carry_is_rule, carry_words}
use Rattle.ms_rules_tables.proofs.carries.carry_rule.Goals as goal

made : (c : goal.In_ok-extend_from_slice) → c.extend_from_slice.new.self.items ≡ carry_steps c.args.widening (map tracked_of c.args.operands.now)
made c =
    carry_made c.args.widening (map tracked_of c.args.operands.now) c.new-steps.result.items c.push_union.new.steps.items c.push.new.self.items c.push_union-2.new.steps.items c.extend_from_slice.new.self.items
    c.new-steps.ensures.items c.in_ok-push_union.ensures c.in_ok-push.ensures.items c.in_ok-push_union-2.ensures
    (c.in_ok-extend_from_slice.ensures.items ∙ ap (λ w. c.push_union-2.new.steps.items ++ step.Two operation.Sub w ∷ step.Two operation.Or w ∷ []) c.width-width.ensures)

pub returns-clause-rule : goal.returns-clause-rule
returns-clause-rule c = ap is_rule (made c) ∙ carry_is_rule c.args.widening (map tracked_of c.args.operands.now)

pub returns-clause-mask : goal.returns-clause-mask
returns-clause-mask c = λ i more e. carry_words c.args.widening i (map tracked_of c.args.operands.now) more c.extend_from_slice.new.self.items e (made c)
