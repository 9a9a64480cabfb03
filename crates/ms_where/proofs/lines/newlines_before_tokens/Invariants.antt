use Rattle.ms_where.proofs.Newlines.{Counted}
use Rattle.ms_where.proofs.lines.newlines_before_tokens.Given as goal

abbrev pub invariant-loop-token : goal.invariant-loop-token
invariant-loop-token l = Counted l.text l.tokens l.token-index l.place l.count l.found.items
