use Rattle.std.proofs.Common.{◌≡◌, ℕ, List, [], refl, ap, ◌∙◌}
use Rattle.ms_top.specs.Command.{setup_of}
use Rattle.ms_top.specs.Said.{answer_of_results}
use Rattle.ms_top.proofs.Answering.{corpus_answer}
use Rattle.ms_top.proofs.modules.ModuleJob.write_sections.Goals as goal
use Rattle.ms_runtime.proofs.Fitting.{if_ok}

pub returns : goal.returns
returns g c =
    let job = c.args.self.now in
    let names = c.args.names.now in
    let under : ℕ → List ℕ = g.L.SiteLines.lines job.lines.now in
    let m = c.module.result.now in
    let options = c.args.options.now in
    let results = c.in_ok-results.results in
    if_ok c.output_of_runs.result
    (λ a (is : a ≡ answer_of_results under m names c.as_slice.result.now).
    corpus_answer g.P.Pass.gives under job.m.now m names options (setup_of options []) job.inputs.now results a c.module.ensures refl c.in_ok-results.ensures
    (is ∙ ap (answer_of_results under m names) c.as_slice.ensures))
    c.output_of_runs.ensures
