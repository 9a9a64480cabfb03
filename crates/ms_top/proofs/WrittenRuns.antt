-- What `run` says of what `instrument` writes is what `check` says of the module that was read.
use Rattle.std.proofs.Common.{◌≡◌, ◌⊎◌, inl, inr, ℕ, true, false, List, Some, Result, Ok, Err, ap, sym, ◌∙◌, subst}
use Rattle.std.proofs.lemmas.Option.{same_Some}
use Rattle.ms_lex.specs.Tokens.{tokens_of}
use Rattle.ms_ir.specs.declared.syntax.Module.{Module}
use Rattle.ms_ir.specs.declared.forms.Form.TheVariants.{Instrumented}
use Rattle.ms_ir.specs.ThreadCalls.{is_threaded}
use Rattle.ms_text_grammar.specs.declared.refusals.Cause.{Cause}
use Rattle.ms_text_grammar.specs.Causes.{printed_number}
use Rattle.ms_text_grammar.specs.Texts.{Reads, Stops, max_tokens}
use Rattle.ms_read_body.specs.declared.errors.ReadError.{ReadError}
use Rattle.ms_read_body.specs.declared.errors.ReadError.TheVariants as e
use Rattle.ms_read_top.specs.Reading.{IsReading}
use Rattle.ms_check_valid.specs.Formed.{Formed}
use Rattle.ms_text_grammar.specs.LayoutModules.{written}
use Rattle.ms_text_laws.specs.Fits.{FitsText, NamesLimit}
use Rattle.ms_text_laws.proofs.ReadBack.{text_back, same_text}
use Rattle.ms_text_laws.proofs.WrittenTexts.{written_reads, written_stops, written_cut}
use Rattle.ms_pass_form_laws.specs.Elided.{IsElided}
use Rattle.ms_pass_form_laws.proofs.ElidedOnce.{elided_once}
use Rattle.ms_top.specs.declared.output.Output.{Output}
use Rattle.ms_words.specs.declared.commands.Command.TheVariants.{Instrument, Run}
use Rattle.ms_words.specs.declared.commands.Options.{Options}
use Rattle.ms_top.specs.Command.{only_input, setup_of, wanted_of}
use Rattle.ms_report.specs.WithLines.{Lines}
use Rattle.ms_top.specs.Instrumented.{IsInstrumented}
use Rattle.ms_top.specs.Said.{answer_of_result, IsAnswerOfInstrument, IsAnswerOfCheck, IsAnswerToValid, IsAnswerToReading, IsAnswerToText}
use Rattle.ms_top.specs.Runs.{plain_told_under}
use Rattle.ms_top.specs.Written.{IsLimitRefusal, RunsAlike}
use Rattle.ms_top.proofs.Answered.{text_answered}
use Rattle.ms_top.proofs.OneAnswer.{made_once}
use Rattle.ms_top.proofs.SameLines.{same_answer}
use Rattle.ms_threads.proofs.Stripped.{same_threads}

-- the text is that of no other formed module
pub named : (under : Lines) (file : List ℕ) (inputs : List (List ℕ)) (m j : Module) (a : Output) → IsAnswerToValid IsInstrumented under (Instrument file) inputs m a → Formed j → a.out ≡ written j
    → IsInstrumented m j
named under file inputs m j a (k, made, is) formed text = subst (IsInstrumented m) (same_text k j made.formed formed (sym (ap (λ x. x.out) is) ∙ text)) made

module _ (under : Lines) (name : List ℕ) (inputs : List (List ℕ)) (o : Options) (m : Module) (a b c : Output)
    (answered : IsAnswerOfInstrument IsInstrumented m a) (read : IsAnswerToText IsInstrumented (Run name o) inputs a.out b) (checked : IsAnswerOfCheck IsInstrumented under (wanted_of o) (setup_of o (only_input inputs)) o.schedule m c) where
  j : Module
  j = answered.0

  made : IsInstrumented m j
  unfolding j
  made = answered.1

  is_written : a.out ≡ written j
  unfolding j
  is_written = ap (λ x. x.out) answered.2

  -- where the text reads as the module that was written
  read_alike : Reads Instrumented a.out j → RunsAlike m name o a.out under b c
  read_alike reads =
      let s = setup_of o (only_input inputs) in
      let r = plain_told_under (wanted_of o) (is_threaded m) j s o.schedule in
      let run = text_answered (Run name o) inputs a.out j b reads made.valid read in
      record {
        made = j;
        instrumented = made;
        below = run.0;
        lines = run.1;
        told = r;
        run =
            run.2 ∙ ap (λ t. answer_of_result run.0 false j (plain_told_under (wanted_of o) t j s o.schedule)) (same_threads m j made.valid made.strips)
            ∙ same_answer run.0 m j made.strips false r;
        check = checked.2 ∙ ap (λ n. answer_of_result under true m (plain_told_under (wanted_of o) (is_threaded m) n s o.schedule)) (made_once m checked.0 j checked.1 made);
      }

  -- a text within the limits does
  pub fitting : (i : Module) → IsElided m i → FitsText i → RunsAlike m name o a.out under b c
  fitting i elided fits =
      read_alike (subst (λ t. Reads Instrumented t j) (sym is_written) (text_back j made.formed (subst FitsText (elided_once m i j elided made.elided) fits)))

  limit_number : (cause : Cause) (number : ℕ) → NamesLimit cause → printed_number cause ≡ Some number → (number ≡ 6) ⊎ (number ≡ 7)
  limit_number cause number (inl (limit, is)) printed = let same : Some 6 ≡ Some number = sym (ap printed_number is) ∙ printed in inl (sym (same_Some 6 number same))
  limit_number cause number (inr is) printed = let same : Some 7 ≡ Some number = sym (ap printed_number is) ∙ printed in inr (sym (same_Some 7 number same))

  -- any text does, or is refused for a limit
  pub alike : IsLimitRefusal b ⊎ RunsAlike m name o a.out under b c
  alike = by_reading read.0 read.1 read.2
    where
      by_reading : (r : Result Module ReadError) → IsReading Instrumented a.out r → IsAnswerToReading IsInstrumented (Run name o) inputs a.out r b → IsLimitRefusal b ⊎ RunsAlike m name o a.out under b c
      by_reading (Ok k) reads shown =
          let same : k ≡ j = written_reads j made.formed k (subst (λ t. Reads Instrumented t k) is_written reads) in
          inr (read_alike (subst (Reads Instrumented a.out) same reads))
      by_reading (Err (e.Lex cause)) (cut, some) is = inl (e.Lex cause, written_cut j cause (subst (λ t. tokens_of t (max_tokens Instrumented) ≡ Err cause) is_written cut), is)
      by_reading (Err (e.Refused number what token place)) refused is =
          let stops = subst (λ t. Stops Instrumented t token refused.cause) is_written refused.stops in
          inl (e.Refused number what token place, limit_number refused.cause number (written_stops j made.formed token refused.cause stops) refused.numbered, is)
      by_reading (Err e.NoMemory) reading is = absurd is
