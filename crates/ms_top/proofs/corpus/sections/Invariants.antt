use Rattle.std.proofs.Common.{◌≡◌, ◌+◌, ◌++◌, drop}
use Rattle.ms_top.specs.Said.{sections_of}
use Rattle.ms_top.proofs.corpus.sections.Given as goal

abbrev pub invariant-loop-index : goal.invariant-loop-index
invariant-loop-index g l =
    let under = g.L.SiteLines.lines l.lines in l.text.items ++ sections_of under l.m (l.index + 1) (drop l.index l.names) (drop l.index l.results) ≡ sections_of under l.m 1 l.names l.results
