use Rattle.std.proofs.Common.{◌≡◌, [], ◌∷◌, map, ap, sym, subst, refl}
use Rattle.std.specs.Prelude.{OnOk, Some, reverse}
use Rattle.ms_ir.specs.declared.syntax.Ty.{Ptr}
use Rattle.ms_ir.specs.declared.syntax.Name.{Name}
use Rattle.ms_ir.specs.declared.calls.External.{External}
use Rattle.ms_ir.specs.declared.calls.RuntimeFn.TheVariants as function
use Rattle.ms_pass_tasks.specs.Tasks.{Calls}
use Rattle.ms_pass_tasks.specs.Environments.{tracked_at, word_of}
use Rattle.ms_pass_tasks.specs.PlaneTasks.{saved_tasks}
use Rattle.ms_rules_builder.specs.declared.steps.StackOp.TheVariants as step
use Rattle.ms_rules_builder.specs.Made.{with_tasks}
use Rattle.ms_rules_builder.specs.Steps.{tracked_of, words}
use Rattle.ms_rules_tables.proofs.planes.save_for.Goals as goal

pub returns-in_ok-name-in-Realloc : goal.returns-in_ok-name-in-Realloc
returns-in_ok-name-in-Realloc c =
    let ts = map tracked_of c.args.operands.now in
    let args = (Ptr, word_of (tracked_at 0 ts)) ∷ [] in
    let Named : Name → Type 0 = λ x. OnOk c.call.result (c.call.new.self ≡ with_tasks c.args.builder.now (Calls (Some x) function.Size args ∷ [])) in
    let Of : External → Type 0 = λ e. OnOk c.call.result (c.call.new.self ≡ with_tasks c.args.builder.now (saved_tasks c.args.number e ts)) in
    subst Of (sym c.in-Realloc.is)
    (subst Named c.in_ok-name-in-Realloc.ensures
    (c.call.ensures args refl (ap (λ i. reverse (words i (step.Word 0 ∷ []) [])) (sym c.plain-inputs.ensures))))
