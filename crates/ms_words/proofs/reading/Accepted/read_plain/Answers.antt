use Rattle.std.proofs.Common.{◌∙◌, sym, ap, subst, arith, inr, true≢false, length}
use Rattle.std.specs.Prelude.{Some, None, ◌==◌}
use Rattle.std.proofs.lemmas.Str.Pattern.{strip_prefix_char}
use Rattle.ms_words.specs.Reading.{Answers}
use Rattle.ms_words.proofs.Splits.{plain_file, plain_unknown, plain_option}
use Rattle.ms_words.proofs.reading.Accepted.read_plain.Goals as goal

pub returns-in_default : goal.returns-in_default
returns-in_default c =
    let none = strip_prefix_char 45 c.args.word.now None c.in_default.ensures.cases (omega arith) in
    subst (λ o. Answers o c.read_file.result c.read_file.new.self) (sym (plain_file c.args.command c.args.place c.args.word.now c.args.self.now none)) c.read_file.ensures

pub returns-in-Some-strip_prefix : goal.returns-in-Some-strip_prefix
returns-in-Some-strip_prefix c =
    let one = strip_prefix_char 45 c.args.word.now (Some c.in-Some.rest) c.in-Some.ensures.cases (omega arith) in
    let two = strip_prefix_char 45 c.in-Some.rest.now (Some c.in-Some-strip_prefix.text) c.in-Some-strip_prefix.ensures.cases (omega arith) in
    subst (λ o. Answers o c.read_option.result c.read_option.new.self) (sym (plain_option c.args.command c.args.place c.args.word.now c.in-Some.rest.now c.in-Some-strip_prefix.text.now c.args.self.now one two)) c.read_option.ensures

pub returns-in-None : goal.returns-in-None
returns-in-None c =
    let one = strip_prefix_char 45 c.args.word.now (Some c.in-Some.rest) c.in-Some.ensures.cases (omega arith) in
    let none = strip_prefix_char 45 c.in-Some.rest.now None c.in-None.ensures.cases (omega arith) in
    inr (plain_unknown c.args.command c.args.place c.args.word.now c.in-Some.rest.now c.args.self.now one (λ e. true≢false (sym (c.if-is_empty.ensures ∙ ap (λ r. length r == 0) e))) none)
