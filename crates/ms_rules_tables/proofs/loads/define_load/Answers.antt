use Rattle.std.proofs.Common.{◌≡◌, ℕ, [], ◌∷◌, ◌++◌, List, Some, sym, subst, OnOk, map}
use Rattle.ms_ir.specs.declared.syntax.Ty.{Int, Ptr}
use Rattle.ms_ir.specs.declared.syntax.Operand.TheVariants as operand
use Rattle.ms_ir.specs.declared.calls.RuntimeFn.TheVariants as function
use Rattle.ms_pass_tasks.specs.Tasks.{Leaf, Task, Fetches, Calls, mask_name, origin_name}
use Rattle.ms_pass_tasks.specs.Environments.{Tracked, tracked_at, word_of, widened}
use Rattle.ms_pass_tasks.specs.ResultTasks.{shadow_address}
use Rattle.ms_rules_builder.specs.Made.{with_tasks}
use Rattle.ms_rules_builder.specs.Steps.{Inputs, inputs_of, tracked_of}
use Rattle.ms_rules_tables.proofs.Tasks.{more_tasks}
use Rattle.ms_rules_tables.proofs.loads.define_load.Goals as goal

abbrev fetches : ℕ → ℕ → List Tracked → List Task
fetches v w ts = Fetches (mask_name v) (Int w) (shadow_address (word_of (tracked_at 0 ts))) ∷ []

abbrev calls : ℕ → ℕ → List Tracked → List Task
calls v w ts =
    Calls (Some (origin_name v)) function.LoadOrigin ((Ptr, word_of (tracked_at 0 ts)) ∷ (Int 64, widened w (Leaf (operand.Local (mask_name v)))) ∷ []) ∷ []

pub returns : goal.returns
returns c = λ func t a e.
    let v = c.args.value in let w = c.args.width in let r = c.load_origin in
    let i = inputs_of c.plain-inputs.result in
    subst (λ (u : ℕ). OnOk r.result (r.new.builder ≡ with_tasks c.args.builder.now (fetches v u (map tracked_of c.args.operands.now) ++ calls v u (map tracked_of c.args.operands.now)))) (sym e)
    (subst (λ (x : Inputs). OnOk r.result (r.new.builder ≡ with_tasks c.args.builder.now (fetches v w x.operands ++ calls v w x.operands))) c.plain-inputs.ensures
    (more_tasks r.result c.args.builder.now c.load_mask.new.builder r.new.builder (fetches v w i.operands) (calls v w i.operands) c.in_ok-load_mask.ensures r.ensures))
