use Rattle.std.proofs.Common.{ℕ, List}
use Rattle.std.proofs.lemmas.Result.{IfOk-weaker}
use Rattle.ms_runs.specs.declared.runs.Setup.{Setup}
use Rattle.ms_runs.specs.Faithful.{Fair}
use Rattle.ms_runs.specs.Calls.{SameCalls}
use Rattle.ms_pass_form_laws.specs.Elided.{IsElided}
use Rattle.ms_pass_form_laws.proofs.Elided.{calls_same}
use Rattle.ms_runs_threads.specs.PlainFibers.{plain_threads}
use Rattle.ms_threads.specs.Faithful.{FaithfulThreads, IsSchedule}
use Rattle.ms_threads.specs.Fills.{ThreadsHoldUnderFills}
use Rattle.ms_threads.proofs.FaithfulRuns.{faithful_threads, threads_hold}
use Rattle.ms_threads.proofs.instruments.instrument_threads.Goals as goal

pub returns : goal.returns
returns g c =
    let m = c.args.m.now in
    let formed = c.law_valid.ensures.formed in
    let valid = c.law_valid.ensures.valid in
    let made = c.instrument.ensures in
    record {
      threads = IfOk-weaker c.instrument.result (λ j. IsElided m j) (λ j. FaithfulThreads m j) (λ j elided. faithful_threads m formed valid c.requires j elided) made.pass;
      pass = made.pass;
      checks = made.checks;
      faithful = made.faithful;
      calls = IfOk-weaker c.instrument.result (λ j. IsElided m j) (λ j. SameCalls m j) (λ j elided. calls_same m formed valid c.requires j elided) made.pass;
      stripped = made.stripped;
      undisturbed = made.undisturbed;
      pieces = made.pieces;
      holds = IfOk-weaker c.instrument.result (λ j. IsElided m j)
          (λ j. (setup : Setup) → Fair setup → (schedule : List ℕ) → IsSchedule schedule → ThreadsHoldUnderFills m setup schedule (plain_threads j setup schedule))
          (λ j elided setup fair schedule some. threads_hold m formed valid c.requires j elided setup fair schedule) made.pass;
    }
