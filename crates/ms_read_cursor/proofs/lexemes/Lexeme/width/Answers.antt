use Rattle.std.proofs.Common.{◌≡◌, ◌<◌, ◌^◌, ap, ◌∙◌, rules, arith}
use Rattle.ms_lex.specs.Numbers.{decimal}
use Rattle.ms_text_grammar.specs.Lexemes.{width_in}
use Rattle.ms_read_cursor.proofs.Widths.{narrow_in}
use Rattle.ms_read_cursor.proofs.lexemes.Lexeme.width.Goals as goal

pub overflow_cast-result : goal.overflow_cast-result
overflow_cast-result c =
    let narrow = narrow_in c.self.inside c.args.self.now c.self.invariant c.self.view_is c.requires in
    let same : c.in-Some.width ≡ width_in c.args.self.now = c.in-Some.ensures.value ∙ ap decimal c.after_sign.ensures in
    let less : c.in-Some.width < 2 ^ 8 = omega arith in
    search rules

pub returns-in-Some-clause-narrow : goal.returns-in-Some-clause-narrow
returns-in-Some-clause-narrow c =
    let narrow = narrow_in c.self.inside c.args.self.now c.self.invariant c.self.view_is c.requires in
    let same : c.in-Some.width ≡ width_in c.args.self.now = c.in-Some.ensures.value ∙ ap decimal c.after_sign.ensures in
    (omega arith, omega arith)

pub returns-in-None-clause-value : goal.returns-in-None-clause-value
returns-in-None-clause-value c =
    let narrow = narrow_in c.self.inside c.args.self.now c.self.invariant c.self.view_is c.requires in
    let same = ap decimal c.after_sign.ensures in
    absurd (omega (arith, c.in-None.ensures.none))

pub returns-in-None-clause-narrow : goal.returns-in-None-clause-narrow
returns-in-None-clause-narrow c =
    let narrow = narrow_in c.self.inside c.args.self.now c.self.invariant c.self.view_is c.requires in
    let same = ap decimal c.after_sign.ensures in
    absurd (omega (arith, c.in-None.ensures.none))
