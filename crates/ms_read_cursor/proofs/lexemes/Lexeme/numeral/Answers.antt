use Rattle.std.proofs.Common.{◌≡◌, sym, ◌∙◌}
use Rattle.ms_text_grammar.specs.Lexemes.{name_in}
use Rattle.ms_read_cursor.proofs.Widths.{numbered_in}
use Rattle.ms_read_cursor.proofs.lexemes.Lexeme.numeral.Goals as goal

pub returns-clause-value : goal.returns-clause-value
returns-clause-value c =
    let digits : name_in c.args.self.now ≡ c.digits.result.now = numbered_in c.self.inside c.args.self.now c.self.invariant c.self.view_is c.requires ∙ sym c.digits.ensures in
    rw digits c.decimal.ensures.value

pub returns-clause-none : goal.returns-clause-none
returns-clause-none c =
    let digits : name_in c.args.self.now ≡ c.digits.result.now = numbered_in c.self.inside c.args.self.now c.self.invariant c.self.view_is c.requires ∙ sym c.digits.ensures in
    rw digits c.decimal.ensures.none
