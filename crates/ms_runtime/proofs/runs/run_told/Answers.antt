use Rattle.std.proofs.Common.{◌∙◌, Option, refl, subst}
use Rattle.ms_runs.specs.declared.runs.End.{End}
use Rattle.ms_runs.specs.Plain.{plain}
use Rattle.ms_runs.specs.Calls.{plain_calls, plain_end_calls, plain_blind, places_of}
use Rattle.ms_runtime.specs.Going.{ahead}
use Rattle.ms_runtime.specs.Recorded.{TurnedTold}
use Rattle.ms_runtime.proofs.RecordedRuns.{told_begun, told_if, ended_if}
use Rattle.ms_runtime.proofs.runs.run_told.Goals as goal

pub loop-recorded-init : goal.loop-recorded-init
loop-recorded-init c = (told_begun c.args.m.now c.args.setup.now c.requires.alone _ c.in_ok-running.ensures.begins c.new.ensures.items c.new-2.ensures, refl)

pub returns-in-Some : goal.returns-in-Some
returns-in-Some c =
    let m = c.args.m.now in
    let u = c.args.setup.now in
    let recorded = c.loop-recorded.recorded in
    let over = subst (λ (o : Option End). TurnedTold m u (ahead m recorded.running) o c.run_to_pause.new.self) c.in-Some.is (c.in_ok-end.ensures.turned u refl c.loop-recorded.invariant.0) in
    let result = c.into_result.ensures (plain m u) over.0 in
    let calls = c.told_calls.ensures ∙ told_if c.args.wanted c.run_to_pause.new.self.calls.items (plain_calls m u) (λ wanted. over.1 (c.run_to_pause.ensures.wanted ∙ c.loop-recorded.invariant.1 ∙ wanted)) in
    let end_calls = c.told_end.ensures ∙ ended_if c.args.wanted c.run_to_pause.new.self.ended (plain_end_calls m u) (λ wanted. over.2 (c.run_to_pause.ensures.wanted ∙ c.loop-recorded.invariant.1 ∙ wanted)) in
    let places = c.into_places.ensures (places_of (plain_blind m u)) (λ wanted. over.3 (c.run_to_pause.ensures.wanted ∙ c.loop-recorded.invariant.1 ∙ wanted)) in
    λ i. record { result = result i; calls = calls i; end_calls = end_calls i; places = places i }

pub loop-recorded-smaller : goal.loop-recorded-smaller
loop-recorded-smaller c =
    let m = c.args.m.now in
    let u = c.args.setup.now in
    let recorded = c.loop-recorded.recorded in
    let on = subst (λ (o : Option End). TurnedTold m u (ahead m recorded.running) o c.run_to_pause.new.self) c.in_default.is (c.in_ok-end.ensures.turned u refl c.loop-recorded.invariant.0) in
    on.1

pub loop-recorded-preserved : goal.loop-recorded-preserved
loop-recorded-preserved c =
    let m = c.args.m.now in
    let u = c.args.setup.now in
    let recorded = c.loop-recorded.recorded in
    let on = subst (λ (o : Option End). TurnedTold m u (ahead m recorded.running) o c.run_to_pause.new.self) c.in_default.is (c.in_ok-end.ensures.turned u refl c.loop-recorded.invariant.0) in
    (on.0, c.run_to_pause.ensures.wanted ∙ c.loop-recorded.invariant.1)
