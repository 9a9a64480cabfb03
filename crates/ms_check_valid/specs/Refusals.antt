-- What a module is refused for: the first clause of `Valid` that fails, in the order in which they stand there, and for
-- this one the first place in the text (own).
use Rattle.std.specs.Prelude.{◌≡◌, ◌≢◌, ℕ, List, [], ◌∷◌, ◌++◌, All, AllPairs, IsTrue, Some, slice_get}
use Rattle.ms_ir.specs.declared.syntax.Name.{Name}
use Rattle.ms_ir.specs.declared.syntax.Module.{Module}
use Rattle.ms_ir.specs.Locals.{Spelled}
use Rattle.ms_check_valid.specs.NamesOnce.{duplicates}
use Rattle.ms_check_valid.specs.NamesKnown.{unknowns}
use Rattle.ms_check_valid.specs.TypesAgree.{mismatches}
use Rattle.ms_check_valid.specs.PhisFit.{bad_edges}
use Rattle.ms_check_valid.specs.HasMain.{defines_main}
use Rattle.ms_check_valid.specs.ExternalsFit.{bad_externals}
use Rattle.ms_check_valid.specs.Paths.{Misses}
use Rattle.ms_check_valid.specs.UsesDefined.{SiteUse, IsUseDefined, uses, UsesDefined}
use Rattle.ms_check_valid.specs.MarksFit.{bad_marks}
use Rattle.ms_check_valid.specs.SizesFit.{unsized}

-- a cause with its place: a name as it is spelled, a site, the number of an operand, or the numbers of the blocks of a path
pub data Fault : Type 0 where
  Duplicate : Spelled → Fault
  Unknown : (site : ℕ) → Spelled → Fault
  TypeMismatch : (site operand : ℕ) → Fault
  BadPhi : (site : ℕ) → Fault
  NoMain : Fault
  BadExternal : Name → Fault
  Undefined : (site : ℕ) → (path : List ℕ) → Fault
  BadMark : (site : ℕ) → Fault
  BadSize : Spelled → Fault

-- the first use that isn't defined on every path has a site, and a path shows it that visits no block twice
pub record IsFirstUndefined (m : Module) (site : ℕ) (path : List ℕ) : Type 0 where
  pub earlier : List SiteUse
  pub «use» : SiteUse
  pub later : List SiteUse
  pub splits : uses m ≡ earlier ++ «use» ∷ later
  pub defined : All IsUseDefined earlier
  pub misses : Misses «use».func «use».value path
  pub once : AllPairs (λ a b. a ≢ b) path
  pub stands : «use».site ≡ site

-- the clauses before each but the first
abbrev pub UpToNames : Module → Type 0
UpToNames m = (duplicates m ≡ []) × (unknowns m ≡ [])

abbrev pub UpToTypes : Module → Type 0
UpToTypes m = UpToNames m × (mismatches m ≡ [])

abbrev pub UpToPhis : Module → Type 0
UpToPhis m = UpToTypes m × (bad_edges m ≡ [])

abbrev pub UpToMain : Module → Type 0
UpToMain m = UpToPhis m × IsTrue (defines_main m)

abbrev pub UpToExternals : Module → Type 0
UpToExternals m = UpToMain m × (bad_externals m ≡ [])

abbrev pub UpToUses : Module → Type 0
UpToUses m = UpToExternals m × UsesDefined m

abbrev pub UpToMarks : Module → Type 0
UpToMarks m = UpToUses m × (bad_marks m ≡ [])

-- a module is refused for a fault
abbrev pub IsRefused : Module → Fault → Type 0
IsRefused m (Duplicate x) = slice_get (duplicates m) 0 ≡ Some x
IsRefused m (Unknown site x) = (duplicates m ≡ []) × (slice_get (unknowns m) 0 ≡ Some (site, x))
IsRefused m (TypeMismatch site operand) = UpToNames m × (slice_get (mismatches m) 0 ≡ Some (site, operand))
IsRefused m (BadPhi site) = UpToTypes m × (slice_get (bad_edges m) 0 ≡ Some site)
IsRefused m NoMain = UpToPhis m × (¬ IsTrue (defines_main m))
IsRefused m (BadExternal x) = UpToMain m × (slice_get (bad_externals m) 0 ≡ Some x)
IsRefused m (Undefined site path) = UpToExternals m × IsFirstUndefined m site path
IsRefused m (BadMark site) = UpToUses m × (slice_get (bad_marks m) 0 ≡ Some site)
IsRefused m (BadSize x) = UpToMarks m × (slice_get (unsized m) 0 ≡ Some x)
