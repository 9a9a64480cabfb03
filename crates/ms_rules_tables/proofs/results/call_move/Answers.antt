use Rattle.std.proofs.Common.{◌≡◌, [], ◌∷◌, Some, subst, OnOk}
use Rattle.ms_ir.specs.declared.syntax.Name.{Name}
use Rattle.ms_ir.specs.declared.calls.RuntimeFn.TheVariants as function
use Rattle.ms_pass_tasks.specs.Tasks.{Calls}
use Rattle.ms_rules_builder.specs.Made.{with_tasks}
use Rattle.ms_rules_tables.proofs.results.call_move.Goals as goal

pub returns : goal.returns
returns c = λ args types is.
    subst (λ (x : Name). OnOk c.call.result (c.call.new.self ≡ with_tasks c.args.builder.now (Calls (Some x) (function.Move c.args.kind) args ∷ []))) c.in_ok-name.ensures (c.call.ensures args types is)
