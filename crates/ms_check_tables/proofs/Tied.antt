-- What other definitions say of a name, by its first place.
use Rattle.std.proofs.Common.{◌≡◌, ℕ, suc, Bool, true, false, List, [], ◌∷◌, Option, Some, None, length, map, option_map, refl, sym, ◌∙◌, ap, if◌then◌else◌}
use Rattle.std.specs.Prelude.{unwrap_or}
use Rattle.ms_ir.specs.declared.syntax.Name.{Name}
use Rattle.ms_ir.specs.declared.syntax.Func.{Func}
use Rattle.ms_ir.specs.Names.{name_eq, lookup}
use Rattle.ms_ir.specs.Instructions.{func_index}
use Rattle.ms_check_valid.specs.FlowGraph.{name_place}
use Rattle.ms_check_tables.specs.FirstPlace.{first_place, at_place}

-- one place further, where there is one
next_or : (place : Option ℕ) (n : ℕ) → unwrap_or (option_map suc place) (suc n) ≡ suc (unwrap_or place n)
next_or (Some k) n = refl
next_or None n = refl

-- the place among values, which is their number where the name isn't there
pub name_place_is : (names : List Name) (x : Name) → name_place names x ≡ unwrap_or (first_place names x) (length names)
name_place_is [] x = refl
name_place_is (y ∷ names) x = split (name_eq y x) (ap suc (name_place_is names x) ∙ sym (next_or (first_place names x) (length names)))
  where
    split : (hit : Bool) → suc (name_place names x) ≡ unwrap_or (option_map suc (first_place names x)) (suc (length names))
        → (if hit then 0 else suc (name_place names x)) ≡ unwrap_or (if hit then Some 0 else option_map suc (first_place names x)) (suc (length names))
    split true rest = refl
    split false rest = rest

-- the number of a function
pub func_index_is : (funcs : List Func) (x : Name) → func_index funcs x ≡ first_place (map (λ f. f.name) funcs) x
func_index_is [] x = refl
func_index_is (f ∷ funcs) x = ap (λ place. if name_eq f.name x then Some 0 else option_map suc place) (func_index_is funcs x)

-- what a table has beside a name
pub lookup_is : {A : Type 0} (rows : List (Name × A)) (x : Name) → lookup rows x ≡ option_map (λ row. row.1) (at_place rows (first_place (map (λ row. row.0) rows) x))
lookup_is [] x = refl
lookup_is {A} (row ∷ rows) x = split (name_eq row.0 x) (first_place (map (λ r. r.0) rows) x) (lookup_is rows x)
  where
    split : (hit : Bool) (place : Option ℕ) → lookup rows x ≡ option_map (λ r. r.1) (at_place rows place)
        → (if hit then Some row.1 else lookup rows x) ≡ option_map (λ r. r.1) (at_place (row ∷ rows) (if hit then Some 0 else option_map suc place))
    split true place rest = refl
    split false (Some k) rest = rest
    split false None rest = rest
