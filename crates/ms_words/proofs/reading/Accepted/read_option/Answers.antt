use Rattle.std.proofs.Common.{◌∙◌, sym, ap, subst, arith, option_map}
use Rattle.std.specs.Prelude.{Option, Some, None}
use Rattle.std.proofs.lemmas.Str.Pattern.{split_once_first}
use Rattle.ms_words.specs.declared.names.OptionName.{OptionName}
use Rattle.ms_words.specs.Table.{Word}
use Rattle.ms_words.specs.Reading.{Answers, read_option}
use Rattle.ms_words.proofs.Splits.{known_with_value, known_alone}
use Rattle.ms_words.proofs.reading.Accepted.read_option.Goals as goal

abbrev no_value : Option Word
no_value = None

pub returns-in-Some : goal.returns-in-Some
returns-in-Some c =
    let cut = split_once_first 61 c.args.text.now (Some (c.in-Some.name, c.in-Some.value)) c.in-Some.ensures.cases (omega arith) in
    let known = known_with_value c.args.command c.args.text.now c.in-Some.name.now c.in-Some.value.now cut ∙ ap (option_map (λ (o : OptionName). (o, Some c.in-Some.value.now))) (sym c.option_named-option.ensures) in
    subst (λ o. Answers (read_option o c.args.place c.args.self.now) c.read_known.result c.read_known.new.self) (sym known) c.read_known.ensures

pub returns-in-None : goal.returns-in-None
returns-in-None c =
    let none = split_once_first 61 c.args.text.now None c.in-None.ensures.cases (omega arith) in
    let known = known_alone c.args.command c.args.text.now none ∙ ap (option_map (λ (o : OptionName). (o, no_value))) (sym c.option_named-option-in-None.ensures) in
    subst (λ o. Answers (read_option o c.args.place c.args.self.now) c.read_known-in-None.result c.read_known-in-None.new.self) (sym known) c.read_known-in-None.ensures
