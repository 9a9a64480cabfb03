use Rattle.std.proofs.Common.{◌≡◌, sym, ap, ◌∙◌, arith, true, Bool, Ok}
use Rattle.ms_lex.specs.Grammar.{loop}
use Rattle.ms_lex.proofs.Loops.{loop_goes, loop_moves, after}
use Rattle.ms_text_grammar.specs.Lexemes.{end_of_text}
use Rattle.ms_text_grammar.specs.Modules.{entity, entity_begins}
use Rattle.ms_text_grammar.specs.Steps.{Verdict}
use Rattle.ms_read_cursor.specs.Reading.{run}
use Rattle.ms_read_top.proofs.modules.entities.Goals as goal

said : Bool → Verdict Bool
said b = Ok b

pub entities-smaller : goal.entities-smaller
entities-smaller c =
    let form = c.args.form in
    let ts = c.entities.tokens in
    loop_moves end_of_text (entity_begins form) (entity form) c.entities.parts ts c.entity.new.parts c.entity.new.tokens (omega arith) c.in_ok-entity.ensures.exact

pub entities-preserved : goal.entities-preserved
unfolding said
entities-preserved c =
    let form = c.args.form in
    let ts = c.entities.tokens in
    let is_true : c.in_ok-entity_begins.field-0 ≡ true = grind arith in
    let begins = c.in_ok-entity_begins.ensures ∙ ap said is_true in
    let step = loop_goes end_of_text (entity_begins form) (entity form) c.entities.parts ts (omega arith) begins in
    (sym (step ∙ after end_of_text _ (λ s. run (loop (entity_begins form) (entity form) s)) _ _ c.in_ok-entity.ensures.exact) ∙ c.entities.invariant.0, c.in_ok-entity.ensures.few)
