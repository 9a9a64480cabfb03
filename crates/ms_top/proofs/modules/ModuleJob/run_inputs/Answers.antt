use Rattle.std.proofs.Common.{sym, ap, ◌∙◌, subst}
use Rattle.ms_ir.specs.declared.syntax.Module.{Module}
use Rattle.ms_ir.specs.ThreadCalls.{is_threaded}
use Rattle.ms_top.proofs.modules.ModuleJob.run_inputs.Goals as goal
use Rattle.ms_runtime.proofs.Fitting.{if_ok}

pub run_all-requires-clause-alone : goal.run_all-requires-clause-alone
run_all-requires-clause-alone g c κs within = ap is_threaded c.get.ensures ∙ c.in_ok-instrumented.ensures.threads ∙ c.requires.alone

pub returns : goal.returns
returns g c = if_ok c.run_all.result (λ rs is. (c.get.result.now, subst (λ (j : Module). g.P.Pass.gives c.args.self.now.m.now j) (sym c.get.ensures) c.in_ok-instrumented.ensures.gives, is)) c.run_all.ensures
