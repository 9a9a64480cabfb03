use Rattle.std.proofs.Common.{length}
use Rattle.ms_lex.proofs.Cuts.{Found}
use Rattle.ms_lex.proofs.lexer.cut.Given as goal

abbrev pub invariant-cut : goal.invariant-cut
invariant-cut l = Found l.text l.limit l.found.items l.place l.rest

abbrev pub decreases-cut : goal.decreases-cut
decreases-cut l = length l.rest
