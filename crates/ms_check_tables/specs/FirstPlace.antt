-- The first place of a name in a list (own).
use Rattle.std.specs.Prelude.{ℕ, suc, List, [], ◌∷◌, if◌then◌else◌, Option, Some, None, option_map, slice_get}
use Rattle.ms_ir.specs.declared.syntax.Name.{Name}
use Rattle.ms_ir.specs.Names.{name_eq}

-- the place of the first name that is equal to a name, counted from 0
abbrev pub first_place : List Name → Name → Option ℕ
first_place [] x = None
first_place (y ∷ rest) x = if name_eq y x then Some 0 else option_map suc (first_place rest x)

-- what stands at a place, if there is one
abbrev pub at_place : {A : Type 0} → List A → Option ℕ → Option A
at_place items None = None
at_place items (Some k) = slice_get items k
