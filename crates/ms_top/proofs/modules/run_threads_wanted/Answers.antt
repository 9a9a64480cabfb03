use Rattle.std.proofs.Common.{◌∙◌, Bool, ap}
use Rattle.ms_runs.specs.Calls.{places_of}
use Rattle.ms_runs_threads.specs.Blind.{plain_threads_blind, plain_threads_end_calls}
use Rattle.ms_runs_threads.specs.Calls.{plain_threads_calls}
use Rattle.ms_runs_threads.specs.PlainFibers.{plain_threads}
use Rattle.ms_threads.specs.ToldThreads.{plain_threads_told}
use Rattle.ms_corpus.specs.Wanted.{of_told}
use Rattle.ms_corpus.proofs.Telling.{wanted_told}
use Rattle.ms_top.proofs.modules.run_threads_wanted.Goals as goal

pub returns : goal.returns
returns c =
    let m = c.args.m.now in
    let s = c.args.setup.now in
    let schedule = c.args.schedule.now in
    c.of_told.ensures
    ∙ ap (of_told c.args.wanted) (c.in_ok-told.ensures ∙ ap (λ (asked : Bool). plain_threads_told asked m s schedule) c.any.ensures)
    ∙ wanted_told (plain_threads m s schedule) (plain_threads_calls m s schedule) (plain_threads_end_calls m s schedule) (places_of (plain_threads_blind m s schedule)) c.args.wanted
