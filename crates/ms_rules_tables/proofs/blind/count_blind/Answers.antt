use Rattle.std.proofs.Common.{◌≡◌, ◌∙◌, Bool, List, [], ◌∷◌, map, ap, sym, subst, refl}
use Rattle.std.specs.Prelude.{OnOk, None, reverse, if◌then◌else◌}
use Rattle.ms_ir.specs.declared.syntax.Ty.{Int}
use Rattle.ms_ir.specs.declared.calls.RuntimeFn.TheVariants as function
use Rattle.ms_pass_tasks.specs.Tasks.{Calls}
use Rattle.ms_pass_tasks.specs.Environments.{Tracked}
use Rattle.ms_pass_tasks.specs.CheckTasks.{blind_tasks, union_masks}
use Rattle.ms_rules_builder.specs.Made.{with_tasks}
use Rattle.ms_rules_builder.specs.Steps.{tracked_of, words}
use Rattle.ms_rules_tables.specs.Plain.{plain}
use Rattle.ms_rules_tables.proofs.Made.{with_none}
use Rattle.ms_rules_tables.proofs.Unions.{blinded_map}
use Rattle.ms_rules_tables.proofs.blind.count_blind.Goals as goal

pub returns-then-are_clean : goal.returns-then-are_clean
returns-then-are_clean c = λ func calls.
    let ts = map tracked_of c.blinded-blind.result.now in
    sym (with_none c.args.builder.now)
    ∙ ap (λ (b : Bool). with_tasks c.args.builder.now (if b then [] else Calls None function.Blind ((Int 64, union_masks ts) ∷ []) ∷ [])) c.if-are_clean.ensures
    ∙ ap (λ us. with_tasks c.args.builder.now (blind_tasks us)) (ap (map tracked_of) (c.blinded-blind.ensures func calls) ∙ blinded_map tracked_of func c.args.op.now c.args.operands.now)

pub returns : goal.returns
returns c = λ func calls.
    let ts = map tracked_of c.blinded-blind.result.now in
    let Made : List Tracked → Type 0 = λ us. OnOk c.call.result (c.call.new.builder ≡ with_tasks c.args.builder.now (blind_tasks us)) in
    let Chosen : Bool → Type 0 = λ b.
    OnOk c.call.result (c.call.new.builder ≡ with_tasks c.args.builder.now (if b then [] else Calls None function.Blind ((Int 64, union_masks ts) ∷ []) ∷ [])) in
    subst Made (ap (map tracked_of) (c.blinded-blind.ensures func calls) ∙ blinded_map tracked_of func c.args.op.now c.args.operands.now)
    (subst Chosen c.if-are_clean.ensures
    (c.call.ensures ((Int 64, union_masks ts) ∷ []) refl
    (ap reverse (sym (ap (λ steps. words (plain ts None) steps []) c.deref.ensures.value ∙ c.in_ok-steps.ensures None)))))
