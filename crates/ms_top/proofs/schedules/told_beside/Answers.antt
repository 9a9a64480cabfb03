use Rattle.std.proofs.Common.{sym, ◌∙◌, ap}
use Rattle.ms_top.specs.Parts.{beside_of}
use Rattle.ms_top.specs.Runs.{plain_under, plain_calls_under, plain_end_calls_under, plain_places_under}
use Rattle.ms_top.proofs.Exploring.{none_beside}
use Rattle.ms_top.proofs.schedules.told_beside.Goals as goal

pub returns-in_ok-told : goal.returns-in_ok-told
returns-in_ok-told c = c.beside_result.ensures ∙ ap beside_of c.in_ok-told.ensures

pub returns-else-any : goal.returns-else-any
returns-else-any c =
    let t = c.args.threads in
    let m = c.args.m.now in
    let s = c.args.setup.now in
    let schedule = c.args.schedule.now in
    c.nothing_beside.ensures
    ∙ none_beside (plain_under t m s schedule) (plain_calls_under t m s schedule) (plain_end_calls_under t m s schedule) (plain_places_under t m s schedule) c.args.wanted (sym c.if-any.ensures)
