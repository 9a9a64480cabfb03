use Rattle.std.proofs.Common.{◌≡◌, false, sym, ap, subst, ◌∙◌}
use Rattle.std.proofs.lemmas.Result.{IfOk-weaker}
use Rattle.ms_ir.specs.declared.syntax.Module.{Module}
use Rattle.ms_ir.specs.ThreadCalls.{is_threaded}
use Rattle.ms_ir.specs.Instructions.{strip}
use Rattle.ms_runs.specs.declared.runs.Setup.{Setup}
use Rattle.ms_runs.specs.Faithful.{Fair, Faithful, Undisturbed}
use Rattle.ms_runs.specs.Plain.{plain}
use Rattle.ms_runs_good_laws.specs.Fills.{InsertedUnderFills}
use Rattle.ms_runs_fills_laws.specs.Checked.{HoldsUnderFills}
use Rattle.ms_runs_fills_laws.specs.Chosen.{HoldsUnderChoices}
use Rattle.ms_pass_form_laws.specs.Elided.{IsElided, ChecksUnclean}
use Rattle.ms_pass.specs.Passed.{IsMadeOf}
use Rattle.ms_pass.proofs.instruments.instrument.Goals as goal

pub returns : goal.returns
returns g c =
    let m = c.args.m.now in
    let answer = c.in_ok-module.module in
    let made : Module → Type 0 = λ j. j ≡ answer in
    let given = c.in_ok-module.ensures in
    record {
      pass = IfOk-weaker c.of_valid.result made (λ j. IsElided m j) (λ j same. subst (λ (x : Module). IsElided m x) (sym same) given.pass) c.of_valid.ensures;
      checks = IfOk-weaker c.of_valid.result made (λ j. ChecksUnclean m j) (λ j same. subst (λ (x : Module). ChecksUnclean m x) (sym same) given.checks) c.of_valid.ensures;
      faithful = IfOk-weaker c.of_valid.result made (λ j. Faithful m j) (λ j same. subst (λ (x : Module). Faithful m x) (sym same) given.faithful) c.of_valid.ensures;
      stripped = IfOk-weaker c.of_valid.result made (λ j. strip j ≡ m) (λ j same. ap strip same ∙ given.stripped) c.of_valid.ensures;
      under_fills = IfOk-weaker c.of_valid.result made (λ j. is_threaded m ≡ false → (setup : Setup) → Fair setup → InsertedUnderFills j setup)
          (λ j same. subst (λ (x : Module). is_threaded m ≡ false → (setup : Setup) → Fair setup → InsertedUnderFills x setup) (sym same) given.under_fills) c.of_valid.ensures;
      holds = IfOk-weaker c.of_valid.result made (λ j. is_threaded m ≡ false → (setup : Setup) → Fair setup → HoldsUnderFills m setup (plain j setup))
          (λ j same. subst (λ (x : Module). is_threaded m ≡ false → (setup : Setup) → Fair setup → HoldsUnderFills m setup (plain x setup)) (sym same) given.holds) c.of_valid.ensures;
      choices = IfOk-weaker c.of_valid.result made (λ j. is_threaded m ≡ false → (setup : Setup) → Fair setup → HoldsUnderChoices m setup (plain j setup))
          (λ j same. subst (λ (x : Module). is_threaded m ≡ false → (setup : Setup) → Fair setup → HoldsUnderChoices m setup (plain x setup)) (sym same) given.choices) c.of_valid.ensures;
      undisturbed = IfOk-weaker c.of_valid.result made (λ j. (setup : Setup) → Fair setup → Undisturbed (plain j setup) (plain m setup))
          (λ j same. subst (λ (x : Module). (setup : Setup) → Fair setup → Undisturbed (plain x setup) (plain m setup)) (sym same) given.undisturbed) c.of_valid.ensures;
      pieces = IfOk-weaker c.of_valid.result made (λ j. IsMadeOf m j) (λ j same. subst (λ (x : Module). IsMadeOf m x) (sym same) given.pieces) c.of_valid.ensures;
    }
