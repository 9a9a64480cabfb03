use Rattle.std.proofs.Common.{length}
use Rattle.ms_where_places.specs.Marks.{LinesAdd}
use Rattle.ms_where_places.proofs.inside.all_lines.Given as goal

abbrev pub invariant-lines : goal.invariant-lines
invariant-lines l = LinesAdd l.form l.total l.fn.body l.fn.tokens l.body l.tokens l.fn.found.items l.found.items

abbrev pub decreases-lines : goal.decreases-lines
decreases-lines l = length l.tokens
