-- What following a run comes to (own).
use Rattle.std.specs.Prelude.{leb, length, if◌then◌else◌}
use Rattle.ms_trail_moves.specs.Traces as moves_of
use Rattle.ms_trail.specs.declared.found.Trace.{Trace}
use Rattle.ms_trail.specs.declared.found.Trace.TheVariants as found
use Rattle.ms_trail_bytes.specs.Logs.{move_limit}

-- a run's moves and what its report's use reads; of moves above the limit their number alone
abbrev pub limited : moves_of.Trace → Trace
limited moves_of.NoReport = found.NoReport
limited (moves_of.Found moves at) = if leb (length moves) move_limit then found.Found moves at else found.TooLong (length moves)
