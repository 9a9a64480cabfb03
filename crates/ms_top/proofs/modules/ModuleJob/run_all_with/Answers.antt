use Rattle.std.proofs.Common.{List, subst}
use Rattle.std.specs.Prelude.{IfOk}
use Rattle.ms_runtime.specs.declared.runs.ToldRun.{ToldRun}
use Rattle.ms_runs.specs.declared.runs.Setup.{Setup}
use Rattle.ms_corpus.specs.declared.wanted.Wanted.{Wanted}
use Rattle.ms_top.specs.Command.{wanted_of}
use Rattle.ms_top.specs.Parts.{AreRunsOfGiven}
use Rattle.ms_top.proofs.Answering.{all_within}
use Rattle.ms_top.proofs.modules.ModuleJob.run_all_with.Goals as goal

pub run_inputs-requires-clause-limits : goal.run_inputs-requires-clause-limits
run_inputs-requires-clause-limits g c κs within = all_within c.args.options.now c.in_ok-setup.setup c.args.self.now.inputs.now c.requires.limits c.requires.inputs c.in_ok-setup.ensures

pub returns : goal.returns
returns g c =
    subst (λ (s : Setup). IfOk c.run_inputs.result (λ (rs : List ToldRun). AreRunsOfGiven g.P.Pass.gives c.args.self.now.m.now s (wanted_of c.args.options.now) c.args.self.now.inputs.now rs)) c.in_ok-setup.ensures
    (subst (λ (w : Wanted). IfOk c.run_inputs.result (λ (rs : List ToldRun). AreRunsOfGiven g.P.Pass.gives c.args.self.now.m.now c.in_ok-setup.setup w c.args.self.now.inputs.now rs)) c.wanted_of.ensures c.run_inputs.ensures)
