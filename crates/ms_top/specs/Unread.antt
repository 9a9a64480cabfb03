-- Why the inputs of a command aren't all read. What `msan` promises does not name this file.
use Rattle.std.specs.Prelude.{ℕ, ◌<◌, List, [], length, get_or}
use Rattle.ms_io.specs.declared.traits.FileError.{FileError}
use Rattle.ms_io.specs.declared.traits.FileError.TheVariants.{Failed, Absent, TooLong, NoMemory}
use Rattle.ms_top.specs.declared.files.InputFault.{InputFault}
use Rattle.ms_top.specs.Command.{input_files}
use Rattle.ms_top.specs.Files.{Counted, CanRead, Fault, Long}

-- what reading files with these names comes to, where the one with this name isn't read for a cause
abbrev pub CauseShows : Counted → List (List ℕ) → List ℕ → FileError → Type 0
CauseShows c names name Failed = CanRead c (input_files names) (Fault name)
CauseShows c names name Absent = CanRead c (input_files names) (Fault name)
CauseShows c names name (TooLong taken) = CanRead c (input_files names) (Long name)
CauseShows c names name NoMemory = Unit {0}

-- the first file that isn't read is one of those with these names, and its cause shows
pub record IsUnread (c : Counted) (names : List (List ℕ)) (u : InputFault) : Type 0 where
  pub within : u.index < length names
  pub shows : CauseShows c names (get_or names u.index []) u.cause
