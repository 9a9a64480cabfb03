-- The module that the pass makes, with threads or without.
use Rattle.std.proofs.Common.{◌≡◌, ◌∙◌, Bool, true, false, refl, sym, ap, subst, true≢false}
use Rattle.ms_ir.specs.declared.syntax.Module.{Module}
use Rattle.ms_ir.specs.Instructions.{strip}
use Rattle.ms_ir.specs.ThreadCalls.{is_threaded}
use Rattle.ms_runs.specs.Faithful.{Faithful, Undisturbed}
use Rattle.ms_runs.specs.Calls.{SameCalls}
use Rattle.ms_check_valid.specs.Formed.{Formed}
use Rattle.ms_check_valid.specs.Uninstrumented.{CanInstrument}
use Rattle.ms_check_valid.specs.Valid.{Valid}
use Rattle.ms_runs_laws.proofs.SameOutput.{faithful_undisturbed}
use Rattle.ms_runs_fills_laws.proofs.Chosen.{checked_holds_chosen}
use Rattle.ms_runs_fills_laws.proofs.SameCalls.{calls_hold}
use Rattle.ms_runs_fills_laws.proofs.Whole.{inserted_fills, checked_holds}
use Rattle.ms_pass_form_laws.specs.Elided.{IsElided}
use Rattle.ms_pass.specs.Passed.{IsMadeOf}
use Rattle.ms_threads.proofs.FaithfulRuns.{faithful_threads, shadow_calls_hold, threads_hold}
use Rattle.ms_threads.proofs.Stripped.{same_threads as inserted_same}
use Rattle.ms_top.specs.Instrumented.{IsInstrumented}
use Rattle.ms_top.specs.Runs.{plain_under, plain_picks_under, plain_calls_under, shadow_under, shadow_picks_under, shadow_calls_under, plain_end_calls_under, shadow_end_calls_under, plain_blind_under, shadow_blind_under, HoldsUnder, CallsHoldUnder}

-- what the pass makes of m is j
pub record IsMade (m j : Module) : Type 0 where
  pub strips : strip j ≡ m
  pub formed : Formed j
  pub valid : Valid j
  pub elided : IsElided m j
  pub made : IsMadeOf m j
  pub faithful : Faithful m j
  pub calls : SameCalls m j

module _ (m : Module) (formed : Formed m) (valid : Valid m) (can : CanInstrument m) (j : Module) (is : IsMade m j) where
  alone : is_threaded m ≡ false → IsInstrumented m j
  alone none = record {
    strips = is.strips;
    formed = is.formed;
    valid = is.valid;
    elided = is.elided;
    made = is.made;
    runs = λ s fair schedule some. subst (λ t. plain_under t j s schedule ≡ shadow_under t m s schedule) (sym none) (is.faithful.runs s fair);
    calls = λ s fair schedule some. subst (λ t. plain_calls_under t j s schedule ≡ shadow_calls_under t m s schedule) (sym none) (is.calls.same s fair);
    ends = λ s fair schedule some. subst (λ t. plain_end_calls_under t j s schedule ≡ shadow_end_calls_under t m s schedule) (sym none) (is.calls.ends s fair);
    blind = λ s fair schedule some. subst (λ t. plain_blind_under t j s schedule ≡ shadow_blind_under t m s schedule) (sym none) (is.calls.blind s fair);
    picks = λ s fair schedule some. subst (λ t. plain_picks_under t j s schedule ≡ shadow_picks_under t m s schedule) (sym none) refl;
    holds = λ s fair schedule some.
        subst (λ t. HoldsUnder t m s schedule (plain_under t j s schedule)) (sym none) (checked_holds m formed valid none can.plain.unmarked j is.faithful s fair);
    calls_hold = λ s fair schedule some.
        subst (λ t. CallsHoldUnder t m s schedule) (sym none) (calls_hold m formed valid none can.plain.unmarked s (record { input = fair.bytes; fill = fair.fill }));
    undisturbed = λ s fair schedule some.
        subst (λ t. Undisturbed (plain_under t j s schedule) (plain_under t m s schedule)) (sym none) (faithful_undisturbed m j is.faithful s fair);
    under_fills = λ calm s fair. inserted_fills m formed valid calm j is.faithful s fair;
    choices = λ calm s fair. checked_holds_chosen m formed valid calm can.plain.unmarked j is.faithful s fair;
  }

  with_threads : is_threaded m ≡ true → IsInstrumented m j
  with_threads some_are =
      let threads = faithful_threads m formed valid can j is.elided in
      record {
        strips = is.strips;
        formed = is.formed;
        valid = is.valid;
        elided = is.elided;
        made = is.made;
        runs = λ s fair schedule some. subst (λ t. plain_under t j s schedule ≡ shadow_under t m s schedule) (sym some_are) (threads.runs s fair schedule some);
        calls = λ s fair schedule some. subst (λ t. plain_calls_under t j s schedule ≡ shadow_calls_under t m s schedule) (sym some_are) (threads.calls s fair schedule some);
        ends = λ s fair schedule some. subst (λ t. plain_end_calls_under t j s schedule ≡ shadow_end_calls_under t m s schedule) (sym some_are) (threads.ends s fair schedule some);
        blind = λ s fair schedule some. subst (λ t. plain_blind_under t j s schedule ≡ shadow_blind_under t m s schedule) (sym some_are) (threads.blind s fair schedule some);
        picks = λ s fair schedule some. subst (λ t. plain_picks_under t j s schedule ≡ shadow_picks_under t m s schedule) (sym some_are) (threads.picks s fair schedule some);
        holds = λ s fair schedule some.
            subst (λ t. HoldsUnder t m s schedule (plain_under t j s schedule)) (sym some_are) (threads_hold m formed valid can j is.elided s fair schedule);
        calls_hold = λ s fair schedule some. subst (λ t. CallsHoldUnder t m s schedule) (sym some_are) (shadow_calls_hold m formed valid can s fair schedule);
        undisturbed = λ s fair schedule some.
            subst (λ t. Undisturbed (plain_under t j s schedule) (plain_under t m s schedule)) (sym some_are) (threads.undisturbed s fair schedule some);
        under_fills = λ calm. absurd (true≢false (sym some_are ∙ calm));
        choices = λ calm. absurd (true≢false (sym some_are ∙ calm));
      }

  pub instrumented : IsInstrumented m j
  instrumented = by_threads (is_threaded m) refl
    where
      by_threads : (t : Bool) → is_threaded m ≡ t → IsInstrumented m j
      by_threads true e = with_threads e
      by_threads false e = alone e

-- a valid module that is another one once its inserted code is gone has threads exactly where that one has
pub same_threads : (m j k : Module) → k ≡ j → strip j ≡ m → Valid j → is_threaded k ≡ is_threaded m
same_threads m j k same strips valid = ap is_threaded same ∙ inserted_same m j valid strips
