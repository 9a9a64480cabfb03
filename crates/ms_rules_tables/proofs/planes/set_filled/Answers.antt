use Rattle.std.proofs.Common.{◌≡◌, ℕ, List, [], ◌∷◌, map, subst, refl}
use Rattle.std.specs.Prelude.{OnOk, None}
use Rattle.ms_ir.specs.declared.syntax.Ty.{Ty, Int, Ptr}
use Rattle.ms_ir.specs.declared.calls.RuntimeFn.TheVariants as function
use Rattle.ms_pass_tasks.specs.Tasks.{Expr, Calls}
use Rattle.ms_pass_tasks.specs.Environments.{tracked_at, mask_of, origin_of, word_of, widened, number}
use Rattle.ms_rules_builder.specs.Made.{with_tasks}
use Rattle.ms_rules_builder.specs.Steps.{tracked_of}
use Rattle.ms_rules_tables.proofs.planes.set_filled.Goals as goal

pub returns : goal.returns
returns c =
    let ts = map tracked_of c.args.operands.now in
    let filler = tracked_at 1 ts in
    let args : ℕ → List (Ty × Expr) = λ w.
    (Ptr, word_of (tracked_at 0 ts)) ∷ (Int 64, word_of (tracked_at 2 ts)) ∷ (Int 64, widened w (mask_of filler)) ∷ (Int 32, origin_of filler) ∷ (Int 32, number c.args.site) ∷ [] in
    let Made : ℕ → Type 0 = λ w. OnOk c.call.result (c.call.new.builder ≡ with_tasks c.args.builder.now (Calls None function.Fill (args w) ∷ [])) in
    subst Made c.width_at.ensures (c.call.ensures (args c.width_at.result) refl refl)
