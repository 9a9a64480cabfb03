-- What the table of records by function and address has.
use Rattle.std.specs.Prelude.{◌≡◌, ℕ, ◌&&◌, ◌==◌, if◌then◌else◌, List, Option, Some, None}
use Rattle.std.specs.Borrow.{Bor}
use Rattle.std.specs.Str.{bytes_eq}
use Rattle.std.specs.declared.hash.FoldHasher.{FoldHasher}
use Rattle.std.specs.declared.hash.BuildHasherDefault.{BuildHasherDefault}
use Rattle.std.specs.HashMap.{HashMap, get_by}
use Rattle.ms_lex.specs.Tokens.{Text}
use Rattle.ms_where_places.specs.Told.{Told}
use Rattle.ms_where.specs.VariableChoices.{either, first_below}
use Rattle.ms_where.specs.Variables.{declares, is_local}

abbrev pub Records : Type 0
Records = HashMap (ℕ × Bor (List ℕ)) ℕ (BuildHasherDefault FoldHasher)

-- the place that is noted for a function and an address
abbrev pub noted : Records → ℕ → Text → Option ℕ
noted records function local = get_by (λ key. (function == key.0) && bytes_eq local key.1.now) records

-- a place was noted for a function and the address that a record in it declares, if it does and none was noted for them
abbrev pub Notes : Records → Records → (function : ℕ) → Option Text → (place : ℕ) → Type 0
Notes old new function declared place =
    (f : ℕ) (l : Text) → noted new f l ≡ either (noted old f l) (if (function == f) && is_local l declared then Some place else None)

-- of so many marks the first record is noted, for each function and address
abbrev pub HasFirst : Told → ℕ → Records → Type 0
HasFirst d n records = (f : ℕ) (l : Text) → noted records f l ≡ first_below (declares d f l) n
