use Rattle.std.proofs.Common.{◌≡◌, sym, ap, ◌∙◌, arith, true, Bool, Ok}
use Rattle.ms_lex.specs.Grammar.{loop}
use Rattle.ms_lex.proofs.Loops.{loop_goes, loop_moves, after}
use Rattle.ms_text_grammar.specs.Lexemes.{end_of_text}
use Rattle.ms_text_grammar.specs.Steps.{Verdict}
use Rattle.ms_read_cursor.specs.Reading.{run}
use Rattle.ms_read_cursor.proofs.turns.repeat.Goals as goal

said : Bool → Verdict Bool
said b = Ok b

pub turns-smaller : goal.turns-smaller
turns-smaller g c =
    let rule = c.args.rule.now in
    loop_moves end_of_text (g.T.Turn.begins rule) (g.T.Turn.body rule) c.turns.state c.turns.tokens c.in_ok-state.state c.turn.new.tokens (omega arith) c.in_ok-state.ensures

pub turns-preserved : goal.turns-preserved
unfolding said
turns-preserved g c =
    let rule = c.args.rule.now in
    let is_true : c.in_ok-goes_on.field-0 ≡ true = grind arith in
    let begins = c.in_ok-goes_on.ensures ∙ ap said is_true in
    let step = loop_goes end_of_text (g.T.Turn.begins rule) (g.T.Turn.body rule) c.turns.state c.turns.tokens (omega arith) begins in
    sym (step ∙ after end_of_text _ (λ s. run (loop (g.T.Turn.begins rule) (g.T.Turn.body rule) s)) _ _ c.in_ok-state.ensures) ∙ c.turns.invariant
