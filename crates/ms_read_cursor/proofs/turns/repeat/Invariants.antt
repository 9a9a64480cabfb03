use Rattle.std.proofs.Common.{◌≡◌, length}
use Rattle.ms_lex.specs.Grammar.{loop}
use Rattle.ms_read_cursor.specs.Reading.{run}
use Rattle.ms_read_cursor.proofs.turns.repeat.Given as goal

abbrev pub invariant-turns : goal.invariant-turns
invariant-turns g l = run (loop (g.T.Turn.begins l.rule) (g.T.Turn.body l.rule) l.state) l.tokens ≡ run (loop (g.T.Turn.begins l.rule) (g.T.Turn.body l.rule) l.initial.state) l.fn.tokens

abbrev pub decreases-turns : goal.decreases-turns
decreases-turns g l = length l.tokens
