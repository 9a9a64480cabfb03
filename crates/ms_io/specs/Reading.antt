-- What reading a whole file answers. The held files are `None` where an implementation doesn't tell them.
use Rattle.std.specs.Prelude.{◌≡◌, ℕ, ◌+◌, ◌<◌, ◌≤◌, ◌^◌, List, All, length, Option, Some, None, Result, Ok, Err}
use Rattle.ms_io.specs.declared.traits.FileError.{FileError}
use Rattle.ms_io.specs.declared.traits.FileError.TheVariants.{Failed, Absent, TooLong, NoMemory}
use Rattle.ms_io.specs.Counts.{Rose, RoseBy}

-- named files: the bytes under each name that is held
abbrev pub Holdings : Type 0
Holdings = List ℕ → Option (List ℕ)

-- these are bytes, no more than the limit, and the whole file of this name where files are told
abbrev pub IsWholeFile : Option Holdings → List ℕ → ℕ → List ℕ → Type 0
IsWholeFile None name limit bytes = (length bytes ≤ limit) × All (λ b. b < 2 ^ 8) bytes
IsWholeFile (Some files) name limit bytes = (files name ≡ Some bytes) × (length bytes ≤ limit) × All (λ b. b < 2 ^ 8) bytes

-- no file of this name is held; where files aren't told, a fault was counted
abbrev pub IsAbsent : Option Holdings → List ℕ → ℕ → ℕ → Type 0
IsAbsent None name faults faults' = Rose faults faults'
IsAbsent (Some files) name faults faults' = files name ≡ None

-- the file of this name is longer than the limit; where files aren't told, `taken` bytes were counted
abbrev pub IsTooLong : Option Holdings → List ℕ → ℕ → ℕ → ℕ → ℕ → Type 0
IsTooLong None name limit taken before now = (taken ≡ limit + 1) × RoseBy taken before now
IsTooLong (Some files) name limit taken before now =
    (taken ≡ limit + 1) × ((bytes : List ℕ) × (files name ≡ Some bytes) × (limit < length bytes))

-- no fault was counted, where files are told
abbrev pub IsFaultless : Option Holdings → ℕ → ℕ → Type 0
IsFaultless None faults faults' = Unit {0}
IsFaultless (Some files) faults faults' = faults' ≡ faults

-- P holds where the answer is `Failed`
abbrev pub IfFailed : {A : Type 0} → Result A FileError → Type 0 → Type 0
IfFailed (Ok answer) P = Unit {0}
IfFailed (Err Failed) P = P
IfFailed (Err Absent) P = Unit {0}
IfFailed (Err (TooLong taken)) P = Unit {0}
IfFailed (Err NoMemory) P = Unit {0}

-- P holds where the answer isn't `Failed`
abbrev pub UnlessFailed : {A : Type 0} → Result A FileError → Type 0 → Type 0
UnlessFailed (Ok answer) P = P
UnlessFailed (Err Failed) P = Unit {0}
UnlessFailed (Err Absent) P = P
UnlessFailed (Err (TooLong taken)) P = P
UnlessFailed (Err NoMemory) P = P

-- P holds where the answer is `Absent`
abbrev pub IfAbsent : {A : Type 0} → Result A FileError → Type 0 → Type 0
IfAbsent (Ok answer) P = Unit {0}
IfAbsent (Err Failed) P = Unit {0}
IfAbsent (Err Absent) P = P
IfAbsent (Err (TooLong taken)) P = Unit {0}
IfAbsent (Err NoMemory) P = Unit {0}

-- P holds of what was taken, where the answer is `TooLong`
abbrev pub IfTooLong : {A : Type 0} → Result A FileError → (ℕ → Type 0) → Type 0
IfTooLong (Ok answer) P = Unit {0}
IfTooLong (Err Failed) P = Unit {0}
IfTooLong (Err Absent) P = Unit {0}
IfTooLong (Err (TooLong taken)) P = P taken
IfTooLong (Err NoMemory) P = Unit {0}
