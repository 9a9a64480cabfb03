use Rattle.std.proofs.Common.{◌∙◌, Bool, ap}
use Rattle.ms_runtime.specs.ToldRuns.{plain_told}
use Rattle.ms_corpus.proofs.Telling.{told_wanted}
use Rattle.ms_corpus.proofs.wanted.run_wanted.Goals as goal

pub returns : goal.returns
returns c =
    let m = c.args.m.now in
    let s = c.args.setup.now in
    c.of_told.ensures ∙ told_wanted c.args.wanted m s c.in_ok-told.told (c.in_ok-told.ensures ∙ ap (λ (asked : Bool). plain_told asked m s) c.any.ensures)
