-- What runs with threads of a module's instrumented form say of the module.
use Rattle.std.proofs.Common.{◌≡◌, inl, inr, ℕ, List, [], ◌∷◌, take, length, sym, ap, ◌∙◌, subst, arith}
use Rattle.ms_ir.specs.declared.syntax.Module.{Module}
use Rattle.ms_ir.specs.Instructions.{strip}
use Rattle.ms_runs.specs.declared.runs.Report.{Report}
use Rattle.ms_runs.specs.declared.runs.RunResult.{RunResult}
use Rattle.ms_runs.specs.declared.runs.Setup.{Setup}
use Rattle.ms_runs.specs.Faithful.{Fair, Undisturbed}
use Rattle.ms_runs.specs.Masks.{by_completions}
use Rattle.ms_check_valid.specs.Formed.{Formed}
use Rattle.ms_check_valid.specs.Uninstrumented.{CanInstrument}
use Rattle.ms_check_valid.specs.Valid.{Valid}
use Rattle.ms_runs_good_laws.specs.Fills.{to_first_report}
use Rattle.ms_runs_good_laws.specs.GoodWorlds.{GivesBytes}
use Rattle.ms_runs_fills_laws.specs.First.{FirstOf}
use Rattle.ms_runs_fills_laws.proofs.Whole.{quiet_first, nothing_told}
use Rattle.ms_pass_laws.proofs.Unmarked.{module_strips}
use Rattle.ms_pass_laws.proofs.Whole.{strip_pass}
use Rattle.ms_pass_form_laws.specs.Eliding.{eliding}
use Rattle.ms_pass_form_laws.specs.Elided.{IsElided}
use Rattle.ms_pass_form_laws.proofs.Elided.{known, formed_valid}
use Rattle.ms_runs_threads.specs.PlainFibers.{plain_threads}
use Rattle.ms_runs_threads.specs.ShadowFibers.{shadow_threads}
use Rattle.ms_runs_threads.specs.Calls.{plain_threads_calls, shadow_threads_calls}
use Rattle.ms_runs_threads.specs.Blind.{plain_threads_blind, shadow_threads_blind, plain_threads_end_calls, shadow_threads_end_calls}
use Rattle.ms_threads_laws.proofs.SameShown.{threads_undisturbed}
use Rattle.ms_threads_laws.proofs.KeptRuns.{threads_followed, calls_followed, blind_followed, end_followed}
use Rattle.ms_threads_schedules_laws.specs.Picks.{plain_picks, shadow_picks}
use Rattle.ms_threads_schedules_laws.proofs.PicksFollowed.{picks_followed}
use Rattle.ms_threads_laws.proofs.UnderFills.{first_threads, alone_threads, first_same, same_threads, same_threads_calls, shown_threads}
use Rattle.ms_threads.specs.Faithful.{ThreadsUnderFills, FaithfulThreads}
use Rattle.ms_threads.specs.Fills.{ThreadsHoldUnderFills, ThreadsCallsUnderFills}
use Rattle.ms_threads_laws.proofs.FirstCalls.{first_calls}
use Rattle.ms_threads.proofs.Stripped as stripped

-- ---- runs under other fills

module _ (m : Module) (formed : Formed m) (valid : Valid m) (can : CanInstrument m) (setup : Setup) (fair : Fair setup) (schedule : List ℕ) where
  bytes : GivesBytes setup
  bytes = record { input = fair.bytes; fill = fair.fill }

  under_fills : ThreadsUnderFills m setup schedule
  under_fills = record {
    same = λ quiet fill is. same_threads m formed valid can setup bytes schedule quiet fill is;
    calls = λ quiet fill is. same_threads_calls m formed valid can setup bytes schedule quiet fill is;
    shown = λ quiet none fill is.
        let r = shadow_threads m (to_first_report setup) schedule in
        let q = shadow_threads m setup schedule in
        let all : r ≡ q = first_same r q (first_threads m setup schedule) none in
        let other = shown_threads m formed valid can setup bytes schedule quiet none fill is in
        let own = alone_threads m can setup schedule (ap (λ (k : RunResult). k.reports) (sym all) ∙ none) in
        record { output = other.output ∙ sym own.output; ends = other.ends ∙ sym own.ends };
  }

  -- the first of two runs has no report where the second has none
  none_first : (r q : RunResult) → FirstOf r q → q.reports ≡ [] → r.reports ≡ []
  none_first r q (inl h) none = ap (λ (k : RunResult). k.reports) h.0 ∙ none
  none_first r q (inr h) none = absurd (omega (arith, ap length (sym none ∙ h.more)))

  -- and where the second has some, its first one alone
  one_first : (r q : RunResult) → FirstOf r q → (report : Report) (rest : List Report) → q.reports ≡ report ∷ rest → r.reports ≡ report ∷ []
  one_first r q (inl h) report rest some = absurd (omega (arith, ap length (sym h.1 ∙ some)))
  one_first r q (inr h) report rest some = h.one ∙ ap (λ l. take 1 l) (sym h.more ∙ some)

  shadow_holds : ThreadsHoldUnderFills m setup schedule (shadow_threads m setup schedule)
  shadow_holds =
      let r = shadow_threads m (to_first_report setup) schedule in
      let q = shadow_threads m setup schedule in
      let first : FirstOf r q = first_threads m setup schedule in
      record {
        clean = λ is fill h.
            let none = nothing_told q.reports q.blind is in
            shown_threads m formed valid can setup bytes schedule (quiet_first r q first none.1) (none_first r q first none.0) fill h;
        first = λ quiet report rest some. one_first r q first report rest some;
        same = λ quiet fill h. same_threads m formed valid can setup bytes schedule (quiet_first r q first quiet) fill h;
      }

  pub shadow_calls_hold : ThreadsCallsUnderFills m setup schedule (shadow_threads m setup schedule).blind (shadow_threads_calls m setup schedule)
  shadow_calls_hold =
      let r = shadow_threads m (to_first_report setup) schedule in
      let q = shadow_threads m setup schedule in
      record {
        first = λ quiet one rest some. first_calls m setup schedule one rest some;
        same = λ quiet fill h. same_threads_calls m formed valid can setup bytes schedule (quiet_first r q (first_threads m setup schedule) quiet) fill h;
      }

-- ---- the instrumented form

module _ (m : Module) (formed : Formed m) (valid : Valid m) (can : CanInstrument m) (j : Module) (elided : IsElided m j) where
  j_runs : (setup : Setup) → Fair setup → (schedule : List ℕ) → plain_threads j setup schedule ≡ shadow_threads m setup schedule
  j_runs setup fair schedule =
      ap (λ (k : Module). plain_threads k setup schedule) elided.is_pass
      ∙ threads_followed m formed valid (eliding elided.clean m) elided.exact.sound setup fair (known m formed valid can elided.clean setup) schedule

  j_picks : (setup : Setup) → Fair setup → (schedule : List ℕ) → plain_picks j setup schedule ≡ shadow_picks m setup schedule
  j_picks setup fair schedule =
      ap (λ (k : Module). plain_picks k setup schedule) elided.is_pass
      ∙ picks_followed m formed valid (eliding elided.clean m) elided.exact.sound setup fair (known m formed valid can elided.clean setup) schedule

  j_calls : (setup : Setup) → Fair setup → (schedule : List ℕ) → plain_threads_calls j setup schedule ≡ shadow_threads_calls m setup schedule
  j_calls setup fair schedule =
      ap (λ (k : Module). plain_threads_calls k setup schedule) elided.is_pass
      ∙ calls_followed m formed valid (eliding elided.clean m) elided.exact.sound setup fair (known m formed valid can elided.clean setup) schedule

  j_ends : (setup : Setup) → Fair setup → (schedule : List ℕ) → plain_threads_end_calls j setup schedule ≡ shadow_threads_end_calls m setup schedule
  j_ends setup fair schedule =
      ap (λ (k : Module). plain_threads_end_calls k setup schedule) elided.is_pass
      ∙ end_followed m formed valid (eliding elided.clean m) elided.exact.sound setup fair (known m formed valid can elided.clean setup) schedule

  j_blind : (setup : Setup) → Fair setup → (schedule : List ℕ) → plain_threads_blind j setup schedule ≡ shadow_threads_blind m setup schedule
  j_blind setup fair schedule =
      ap (λ (k : Module). plain_threads_blind k setup schedule) elided.is_pass
      ∙ blind_followed m formed valid (eliding elided.clean m) elided.exact.sound setup fair (known m formed valid can elided.clean setup) schedule

  j_valid : Valid j
  j_valid = subst Valid (sym elided.is_pass) (formed_valid m formed valid can elided.clean).1

  j_strips : strip j ≡ m
  j_strips = ap strip elided.is_pass ∙ strip_pass (eliding elided.clean m) m (module_strips m can)

  pub faithful_threads : FaithfulThreads m j
  faithful_threads = record {
    same = stripped.same_threads m j j_valid j_strips;
    runs = λ setup fair schedule some. j_runs setup fair schedule;
    calls = λ setup fair schedule some. j_calls setup fair schedule;
    ends = λ setup fair schedule some. j_ends setup fair schedule;
    blind = λ setup fair schedule some. j_blind setup fair schedule;
    picks = λ setup fair schedule some. j_picks setup fair schedule;
    undisturbed = λ setup fair schedule some.
        subst (λ (r : RunResult). Undisturbed r (plain_threads m setup schedule)) (sym (j_runs setup fair schedule)) (threads_undisturbed by_completions m can.plain.unmarked setup schedule);
    under_fills = λ setup fair schedule some. under_fills m formed valid can setup fair schedule;
  }

  pub threads_hold : (setup : Setup) → Fair setup → (schedule : List ℕ) → ThreadsHoldUnderFills m setup schedule (plain_threads j setup schedule)
  threads_hold setup fair schedule =
      subst (λ (r : RunResult). ThreadsHoldUnderFills m setup schedule r) (sym (j_runs setup fair schedule)) (shadow_holds m formed valid can setup fair schedule)
