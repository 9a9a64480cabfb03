-- What reading the files of a command can come to.
use Rattle.std.specs.Prelude.{◌≡◌, ◌⊎◌, ℕ, List, [], ◌∷◌, Option}
use Rattle.ms_io.specs.Counts.{Rose}
use Rattle.ms_io.specs.Reading.{Holdings, IsWholeFile, IsAbsent, IsTooLong}

-- the two counts of the files, before a call and after it
pub record Counted : Type 0 where
  pub told : Option Holdings
  pub faults : ℕ
  pub faults_after : ℕ
  pub taken : ℕ
  pub taken_after : ℕ

abbrev pub counted : Option Holdings → (faults faults_after taken taken_after : ℕ) → Counted
counted told faults faults_after taken taken_after =
    record { told = told; faults = faults; faults_after = faults_after; taken = taken; taken_after = taken_after }

-- the bytes of all files, in order; or the name of the one that is at fault, or that has more bytes than its limit
pub data FilesRead : Type 0 where
  Whole : List (List ℕ) → FilesRead
  Fault : List ℕ → FilesRead
  Long : List ℕ → FilesRead

-- after a file that is read whole
abbrev pub after : List ℕ → FilesRead → FilesRead
after text (Whole texts) = Whole (text ∷ texts)
after text (Fault name) = Fault name
after text (Long name) = Long name

-- the file isn't held; any other fault shows in the count of faults
abbrev pub IsAtFault : Counted → List ℕ → Type 0
IsAtFault c name = IsAbsent c.told name c.faults c.faults_after ⊎ Rose c.faults c.faults_after

abbrev pub IsLong : Counted → List ℕ → ℕ → Type 0
IsLong c name limit = (n : ℕ) × IsTooLong c.told name limit n c.taken c.taken_after

-- files with these names and limits are read in order, up to the first that isn't read whole
abbrev pub CanRead : Counted → List (List ℕ × ℕ) → FilesRead → Type 0
CanRead c [] r = r ≡ Whole []
CanRead c ((name, limit) ∷ rest) r =
    (IsAtFault c name × (r ≡ Fault name))
    ⊎ ((IsLong c name limit × (r ≡ Long name))
    ⊎ ((text : List ℕ) × IsWholeFile c.told name limit text × (later : FilesRead) × CanRead c rest later × (r ≡ after text later)))
