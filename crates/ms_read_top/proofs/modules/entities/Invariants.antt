use Rattle.std.proofs.Common.{◌≡◌, ◌≤◌, length}
use Rattle.ms_lex.specs.Grammar.{loop}
use Rattle.ms_text_grammar.specs.Bodies.{max_instructions}
use Rattle.ms_text_grammar.specs.Modules.{entity_begins, entity}
use Rattle.ms_read_cursor.specs.Reading.{run}
use Rattle.ms_read_top.proofs.modules.entities.Given as goal

-- the rest is read from what was read so far, whose instructions aren't too many
abbrev pub invariant-entities : goal.invariant-entities
invariant-entities l =
    (run (loop (entity_begins l.form) (entity l.form) l.parts) l.tokens ≡ run (loop (entity_begins l.form) (entity l.form) l.fn.parts) l.fn.tokens)
    × (l.parts.count ≤ max_instructions l.form)

abbrev pub decreases-entities : goal.decreases-entities
decreases-entities l = length l.tokens
