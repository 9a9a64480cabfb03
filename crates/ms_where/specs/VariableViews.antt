-- What the table of the records of all instructions has.
use Rattle.std.specs.Prelude.{◌≡◌, ℕ, List, Option, None, slice_index_or}
use Rattle.ms_where_places.specs.Told.{Told}
use Rattle.ms_where.specs.Variables.{record_of}

abbrev pub IsTable : Told → List (Option ℕ) → Type 0
IsTable d records = (place : ℕ) → slice_index_or records place None ≡ record_of d place
