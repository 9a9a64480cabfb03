use Rattle.std.proofs.Common.{◌≡◌, ◌-◌, map, length, ap, ◌∙◌, sym}
use Rattle.std.proofs.lemmas.List.{length-map}
use Rattle.ms_rules_builder.specs.Steps.{tracked_of}
use Rattle.ms_rules_tables.specs.Rules.{is_rule}
use Rattle.ms_rules_tables.proofs.LastOrigin.{origin_steps, origin_steps_made, origin_is_rule, last_origin}
use Rattle.ms_rules_tables.proofs.origins.last_origin_rule.Goals as goal

made : (c : goal.In_ok-push_times) → c.push_times.new.steps.items ≡ origin_steps (map tracked_of c.args.operands.now) (length c.args.operands.now - 1)
made c =
    origin_steps_made (map tracked_of c.args.operands.now) (length c.args.operands.now - 1) c.saturating_sub.result c.new-steps.result.items c.push_tests.new.steps.items c.push.new.self.items
    c.push_times.new.steps.items c.new-steps.ensures.items c.in_ok-push_tests.ensures c.in_ok-push.ensures.items c.saturating_sub.ensures c.in_ok-push_times.ensures

pub returns-clause-rule : goal.returns-clause-rule
returns-clause-rule c = ap is_rule (made c) ∙ origin_is_rule (map tracked_of c.args.operands.now) (length c.args.operands.now - 1)

pub returns-clause-origin : goal.returns-clause-origin
returns-clause-origin c = λ i e.
    last_origin i (map tracked_of c.args.operands.now) (length c.args.operands.now - 1) c.push_times.new.steps.items e (ap (λ n. n - 1) (sym (length-map c.args.operands.now tracked_of))) (made c)
