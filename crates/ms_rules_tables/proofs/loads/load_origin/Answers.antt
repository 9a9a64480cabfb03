use Rattle.std.proofs.Common.{◌≡◌, [], ◌∷◌, Some, refl, subst, OnOk, List}
use Rattle.ms_ir.specs.declared.syntax.Name.{Name}
use Rattle.ms_ir.specs.declared.syntax.Ty.{Ty, Int, Ptr}
use Rattle.ms_ir.specs.declared.syntax.Operand.TheVariants as operand
use Rattle.ms_ir.specs.declared.calls.RuntimeFn.TheVariants as function
use Rattle.ms_pass_tasks.specs.Tasks.{Expr, Leaf, Calls, mask_name}
use Rattle.ms_pass_tasks.specs.Environments.{tracked_at, word_of, widened}
use Rattle.ms_rules_builder.specs.Made.{with_tasks}
use Rattle.ms_rules_builder.specs.Steps.{inputs_of}
use Rattle.ms_rules_tables.proofs.loads.load_origin.Goals as goal

pub returns : goal.returns
returns c =
    let args : List (Ty × Expr) = (Ptr, word_of (tracked_at 0 (inputs_of c.args.inputs.now).operands)) ∷ (Int 64, widened c.args.width (Leaf (operand.Local (mask_name c.args.value)))) ∷ [] in
    subst (λ (x : Name). OnOk c.call.result (c.call.new.self ≡ with_tasks c.args.builder.now (Calls (Some x) function.LoadOrigin args ∷ []))) c.in_ok-name.ensures
    (c.call.ensures args refl refl)
