use Rattle.std.proofs.Common.{◌≡◌, ◌+◌, ◌≤◌, [], ◌∷◌, ◌++◌, map, sym, subst}
use Rattle.std.specs.Prelude.{OnOk}
use Rattle.ms_ir.specs.Instructions.{operands, one_undef}
use Rattle.ms_ir.specs.Layout.{width_of}
use Rattle.ms_rules_builder.specs.Steps.{tracked_of}
use Rattle.ms_rules.specs.Scopes.{env_of}
use Rattle.ms_rules.specs.Tracking.{tracked_one}
use Rattle.ms_rules.proofs.Operands.{none_below, type_found, operand_found, both_found}
use Rattle.ms_rules.proofs.tracked.Tracking.push_operand.Goals as goal
use Rattle.ms_rules.proofs.tracked.Tracking.push_operand.Goals.{in_default-via-in-Some+in_default, in_default-via-in_default}

pub push-requires-clause-narrow : goal.push-requires-clause-narrow
push-requires-clause-narrow c =
    subst (λ t. width_of t ≤ 64) (sym (type_found (operands c.args.op.now) c.args.place _ c.in-Some-Some.ensures'))
    (c.requires.narrow c.args.place _ c.requires.place)

pub unreachable-requires : goal.unreachable-requires
unreachable-requires c =
    elim c.in_default.branch [
      | in_default-via-in-Some+in_default w ↦ none_below (λ o. o.0) (operands c.args.op.now) c.args.place w.in_default.ensures' c.requires.place
      | in_default-via-in_default w ↦ none_below (λ o. o.1) (operands c.args.op.now) c.args.place w.in_default.ensures c.requires.place
    ]

pub returns-clause-are : goal.returns-clause-are
returns-clause-are c =
    subst (λ o. OnOk c.push.result (map tracked_of c.push.new.self.operands.items ≡ map tracked_of c.args.self.now.operands.items ++ tracked_one (env_of c.args.scope.now) c.args.self.now.after o ∷ []))
    (both_found (operands c.args.op.now) c.args.place _ _ c.in-Some-Some.ensures' c.in-Some-Some.ensures) c.push.ensures.are

pub returns-clause-after : goal.returns-clause-after
returns-clause-after c =
    subst (λ o. OnOk c.push.result (c.push.new.self.after ≡ c.args.self.now.after + one_undef o))
    (operand_found (operands c.args.op.now) c.args.place _ c.in-Some-Some.ensures) c.push.ensures.after
