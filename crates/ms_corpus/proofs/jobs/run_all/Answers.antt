use denote.Param.Send.{sendable}
use Rattle.std.proofs.Common.{◌≡◌, ◌∙◌, ℕ, List, [], map}
use Rattle.std.proofs.Crossing
use Rattle.std.proofs.lemmas.Result.{IfOk-weaker}
use Rattle.ms_ir.proofs.Crosses.{List-sync}
use Rattle.ms_runtime.specs.declared.runs.ToldRun.{ToldRun}
use Rattle.ms_check.proofs.Crosses.{CheckedModule-sync}
use Rattle.ms_fork.proofs.Rows.{by_each}
use Rattle.ms_corpus.specs.Jobs.{with_input}
use Rattle.ms_corpus.specs.Wanted.{plain_wanted}
use Rattle.ms_corpus.proofs.jobs.run_all.Goals as goal

pub parallel_map-requires-sync-W : goal.parallel_map-requires-sync-W
parallel_map-requires-sync-W g c κs within = search (CheckedModule-sync, List-sync, Crossing.crosses, sendable) depth 60 fits 20000

pub returns : goal.returns
returns g c =
    let of_each : List ℕ → ToldRun = λ input. plain_wanted c.args.wanted c.args.j.now (with_input c.args.setup.now input) in
    let inputs = c.args.inputs.now in
    IfOk-weaker c.parallel_map.result _ (λ all. all ≡ map of_each inputs) (λ all made. made ∙ by_each of_each inputs []) c.parallel_map.ensures
