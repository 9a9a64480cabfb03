-- What a recorder holds of the picks that a run made (own).
use Rattle.std.specs.Prelude.{◌≡◌, ℕ, List, [], ◌∷◌, ◌++◌, length, map, take, ltb}
use Rattle.ms_threads_schedules_laws.specs.Picks.{Pick}
use Rattle.ms_threads.specs.declared.recorder.Choice.{Choice as Kept}
use Rattle.ms_threads.specs.declared.recorder.Recorder.{Recorder}

-- a pick, as the definitions have it
abbrev pub pick_of : Kept → Pick
pick_of p = record { chosen = p.chosen; among = p.among }

-- how many picks are kept: as many as a schedule may have numbers
abbrev pub kept_picks : ℕ
kept_picks = 2048

-- the first of the picks that were made are kept, and whether there are more
pub record Records (r : Recorder) (made : List Pick) : Type 0 where
  pub picks : map pick_of r.picks.items ≡ take kept_picks made
  pub more : r.more ≡ ltb kept_picks (length made)

-- a recorder that held some picks holds one more
abbrev pub RecordsNext : Pick → (old new : Recorder) → Type 0
RecordsNext p old new = (made : List Pick) → Records old made → Records new (made ++ p ∷ [])
