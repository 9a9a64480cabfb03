use Rattle.std.proofs.Common.{Option, refl, subst, ◌∙◌}
use Rattle.ms_runs.specs.declared.runs.End.{End}
use Rattle.ms_runs.specs.Calls.{places_of}
use Rattle.ms_runs_threads.specs.PlainFibers.{plain_threads}
use Rattle.ms_runs_threads.specs.Calls.{plain_threads_calls}
use Rattle.ms_runs_threads.specs.Blind.{plain_threads_blind, plain_threads_end_calls}
use Rattle.ms_runtime.specs.Going.{ahead}
use Rattle.ms_runtime.proofs.RecordedRuns.{told_if, ended_if}
use Rattle.ms_threads.specs.Going.{Turned}
use Rattle.ms_threads.proofs.Begun.{going_begun}
use Rattle.ms_threads.proofs.runs.run_to_end.Goals as goal

pub loop-threads-init : goal.loop-threads-init
loop-threads-init c = (going_begun c.args.m.now c.args.setup.now c.args.schedule.now c.requires.scheduled _ c.in_ok-running.ensures.begins c.in_ok-table.ensures c.new-2.ensures.items refl c.new-3.ensures, refl)

pub returns-in-Some-clause-result : goal.returns-in-Some-clause-result
returns-in-Some-clause-result c =
    let m = c.args.m.now in
    let u = c.args.setup.now in
    let schedule = c.args.schedule.now in
    let threads = c.loop-threads.threads in
    c.into_result.ensures (plain_threads m u schedule)
    (subst (λ (o : Option End). Turned m u schedule (ahead m threads.running) o c.run_to_pause.new.self) c.in-Some.is (c.in_ok-end.ensures.turned u refl c.loop-threads.invariant.0)).0

pub returns-in-Some-clause-picks : goal.returns-in-Some-clause-picks
returns-in-Some-clause-picks c =
    let m = c.args.m.now in
    let u = c.args.setup.now in
    let schedule = c.args.schedule.now in
    let threads = c.loop-threads.threads in
    (subst (λ (o : Option End). Turned m u schedule (ahead m threads.running) o c.run_to_pause.new.self) c.in-Some.is (c.in_ok-end.ensures.turned u refl c.loop-threads.invariant.0)).1

pub returns-in-Some-clause-calls : goal.returns-in-Some-clause-calls
returns-in-Some-clause-calls c =
    let m = c.args.m.now in
    let u = c.args.setup.now in
    let schedule = c.args.schedule.now in
    let threads = c.loop-threads.threads in
    let over = subst (λ (o : Option End). Turned m u schedule (ahead m threads.running) o c.run_to_pause.new.self) c.in-Some.is (c.in_ok-end.ensures.turned u refl c.loop-threads.invariant.0) in
    c.told_calls.ensures
    ∙ told_if c.args.wanted c.run_to_pause.new.self.calls.items (plain_threads_calls m u schedule) (λ wanted. over.2 (c.run_to_pause.ensures.wanted ∙ c.loop-threads.invariant.1 ∙ wanted))

pub returns-in-Some-clause-end_calls : goal.returns-in-Some-clause-end_calls
returns-in-Some-clause-end_calls c =
    let m = c.args.m.now in
    let u = c.args.setup.now in
    let schedule = c.args.schedule.now in
    let threads = c.loop-threads.threads in
    let over = subst (λ (o : Option End). Turned m u schedule (ahead m threads.running) o c.run_to_pause.new.self) c.in-Some.is (c.in_ok-end.ensures.turned u refl c.loop-threads.invariant.0) in
    c.told_end.ensures
    ∙ ended_if c.args.wanted c.run_to_pause.new.self.ended (plain_threads_end_calls m u schedule) (λ wanted. over.3 (c.run_to_pause.ensures.wanted ∙ c.loop-threads.invariant.1 ∙ wanted))

pub returns-in-Some-clause-places : goal.returns-in-Some-clause-places
returns-in-Some-clause-places c =
    let m = c.args.m.now in
    let u = c.args.setup.now in
    let schedule = c.args.schedule.now in
    let threads = c.loop-threads.threads in
    let over = subst (λ (o : Option End). Turned m u schedule (ahead m threads.running) o c.run_to_pause.new.self) c.in-Some.is (c.in_ok-end.ensures.turned u refl c.loop-threads.invariant.0) in
    c.into_places.ensures (places_of (plain_threads_blind m u schedule)) (λ wanted. over.4 (c.run_to_pause.ensures.wanted ∙ c.loop-threads.invariant.1 ∙ wanted))

pub loop-threads-smaller : goal.loop-threads-smaller
loop-threads-smaller c =
    let m = c.args.m.now in
    let u = c.args.setup.now in
    let schedule = c.args.schedule.now in
    let threads = c.loop-threads.threads in
    let on = subst (λ (o : Option End). Turned m u schedule (ahead m threads.running) o c.run_to_pause.new.self) c.in_default.is (c.in_ok-end.ensures.turned u refl c.loop-threads.invariant.0) in
    on.1

pub loop-threads-preserved : goal.loop-threads-preserved
loop-threads-preserved c =
    let m = c.args.m.now in
    let u = c.args.setup.now in
    let schedule = c.args.schedule.now in
    let threads = c.loop-threads.threads in
    let on = subst (λ (o : Option End). Turned m u schedule (ahead m threads.running) o c.run_to_pause.new.self) c.in_default.is (c.in_ok-end.ensures.turned u refl c.loop-threads.invariant.0) in
    (on.0, c.run_to_pause.ensures.wanted ∙ c.loop-threads.invariant.1)
