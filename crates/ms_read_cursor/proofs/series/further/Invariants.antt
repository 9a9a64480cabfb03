use Rattle.std.proofs.Common.{◌≡◌, length}
use Rattle.ms_read_cursor.specs.Reading.{run}
use Rattle.ms_read_cursor.specs.Lists.{further}
use Rattle.ms_read_cursor.proofs.series.further.Given as goal

-- what comes after what was read is what came after the start
abbrev pub invariant-commas : goal.invariant-commas
invariant-commas g l =
    run (further (g.S.Series.more l.rule) (g.S.Series.item l.rule) l.fn.start) l.fn.tokens
    ≡ run (further (g.S.Series.more l.rule) (g.S.Series.item l.rule) l.state) l.tokens

abbrev pub decreases-commas : goal.decreases-commas
decreases-commas g l = length l.tokens
