-- A place that is read, as a source (own).
use Rattle.ms_trail_moves.specs.declared.moves.Source.{Source}
use Rattle.ms_trail_moves.specs.declared.moves.Source.TheVariants as source
use Rattle.ms_trail_moves.specs.declared.back.Reading.{Reading}
use Rattle.ms_trail_moves.specs.declared.back.Reading.TheVariants as reading

abbrev pub source_of : Reading → Source
source_of (reading.Root n) = source.Root n
source_of (reading.Value frame x) = source.Value frame x.now
source_of (reading.Byte a) = source.Byte a
