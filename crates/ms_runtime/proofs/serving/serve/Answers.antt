use Rattle.std.proofs.Common.{List, ℕ, IfOk, sym, subst}
use Rattle.ms_runs.specs.Runtime.{runtime}
use Rattle.ms_host.specs.declared.calls.Answer.TheVariants.{Resumed}
use Rattle.ms_host.specs.declared.calls.Asked.{Asked}
use Rattle.ms_host.specs.Answers.{effect_asked}
use Rattle.ms_runtime.specs.Served.{CanAnswer, Served}
use Rattle.ms_runtime.proofs.serving.serve.Goals as goal

pub returns-then-matches-clause-served : goal.returns-then-matches-clause-served
returns-then-matches-clause-served c = λ setting types beside meant for kept can shows.
    subst (λ (asked : Asked). IfOk c.report.result (λ a. Served (effect_asked setting c.args.call.now.site asked types c.args.call.now.args meant) a c.args.world.now c.args.depot.now c.report.new.told)) (sym c.in-Runtime.is)
    (subst (λ (args : List ℕ). IfOk c.report.result (λ a. Served (runtime setting c.in-Runtime.function args meant) a c.args.world.now c.args.depot.now c.report.new.told)) c.as_slice-args.ensures
    (c.report.ensures.served setting beside meant for kept shows))

pub returns-clause-served : goal.returns-clause-served
returns-clause-served c = λ setting types beside meant for kept can shows.
    subst (λ (asked : Asked). Served (effect_asked setting c.args.call.now.site asked types c.args.call.now.args meant) (Resumed c.in_ok-value.value) c.serve_update.new.world c.serve_update.new.depot c.serve_update.new.told) (sym c.in-Runtime.is)
    (subst (λ (args : List ℕ). Served (runtime setting c.in-Runtime.function args meant) (Resumed c.in_ok-value.value) c.serve_update.new.world c.serve_update.new.depot c.serve_update.new.told) c.as_slice-args.ensures
    (c.in_ok-value.ensures.served setting beside meant for.same_roots kept (subst (λ (asked : Asked). CanAnswer asked beside) c.in-Runtime.is can) shows))
