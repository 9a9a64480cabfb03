-- What a world of a run holds, and what stays.
use Rattle.std.specs.Prelude.{◌≡◌, ◌≤◌, ◌<◌, [], ℕ, List, length}
use Rattle.ms_planes.specs.Memory.{Memory}
use Rattle.ms_runs.specs.declared.runs.Report.{Report}
use Rattle.ms_runs.specs.Threads.{Fibers, no_fibers}

-- the memory, the bytes of the slots, the input and how much of it was taken, the output, the fill, and the number of
-- uninitialised bytes made
pub record WorldState : Type 0 where
  pub planes : Memory
  pub slots : List ℕ
  pub input : List ℕ
  pub at : ℕ
  pub output : List ℕ
  pub fill : List ℕ
  pub made : ℕ

-- what every world has
pub record IsWorld (w : WorldState) : Type 0 where
  pub at : w.at ≤ length w.input
  pub filled : 0 < length w.fill

-- what a run keeps beside the world: chained origins, reports, the number of blind uses, and fibers
pub record Beside : Type 0 where
  pub pairs : List (ℕ × ℕ)
  pub reports : List Report
  pub blind : ℕ
  pub fibers : Fibers

-- what a run keeps beside the world at its start
abbrev pub nothing_beside : Beside
nothing_beside = record { pairs = []; reports = []; blind = 0; fibers = no_fibers }

-- what no call changes: the input and the fill
pub record KeepsGiven (old new : WorldState) : Type 0 where
  pub input : new.input ≡ old.input
  pub fill : new.fill ≡ old.fill

-- what marked stores alone change: the slots too stay
pub record Keeps (old new : WorldState) : Type 0 where
  pub input : new.input ≡ old.input
  pub fill : new.fill ≡ old.fill
  pub slots : new.slots ≡ old.slots
