use Rattle.std.proofs.Common.{◌≡◌, ℕ, Bool, List, [], ◌∷◌, map, subst, refl}
use Rattle.std.specs.Prelude.{OnOk, None, if◌then◌else◌}
use Rattle.ms_ir.specs.declared.syntax.Ty.{Ty, Int}
use Rattle.ms_ir.specs.declared.calls.RuntimeFn.TheVariants as function
use Rattle.ms_pass_tasks.specs.Tasks.{Expr, Calls}
use Rattle.ms_pass_tasks.specs.Environments.{tracked_at, mask_of, origin_of, widened, number}
use Rattle.ms_pass_tasks.specs.CheckTasks.{check_task}
use Rattle.ms_rules_builder.specs.Made.{with_tasks}
use Rattle.ms_rules_builder.specs.Steps.{tracked_of}
use Rattle.ms_rules_tables.proofs.checks.check_word.Goals as goal

pub returns : goal.returns
returns c =
    let t = tracked_at c.args.place (map tracked_of c.args.inst.now.operands.now) in
    let args : ℕ → List (Ty × Expr) = λ w.
    (Int 64, widened w (mask_of t)) ∷ (Int 32, number w) ∷ (Int 32, origin_of t) ∷ (Int 32, number c.args.kind) ∷ (Int 32, number c.args.place) ∷ (Int 32, number c.args.inst.now.site) ∷ [] in
    let Made : ℕ → Type 0 = λ w. OnOk c.call.result (c.call.new.builder ≡ with_tasks c.args.builder.now (Calls None function.Check (args w) ∷ [])) in
    let Chosen : Bool → Type 0 = λ b.
    OnOk c.call.result (c.call.new.builder ≡ with_tasks c.args.builder.now (if b then [] else check_task c.args.inst.now.site c.args.kind c.args.place t ∷ [])) in
    subst Chosen c.if-is_clean_at.ensures (subst Made c.width_at-width.ensures (c.call.ensures (args c.width_at-width.result) refl refl))
