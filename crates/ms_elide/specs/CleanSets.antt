-- Sets of values of a module, and the one that has its clean values (own).
use Rattle.std.specs.Prelude.{◌≡◌, ◌↔◌, ◌++◌, ℕ, Bool, false, List, [], ◌∷◌, Some, None, IsTrue, slice_index_or}
use Rattle.ms_ir.specs.declared.syntax.Name.{Name}
use Rattle.ms_ir.specs.declared.syntax.Func.{Func}
use Rattle.ms_ir.specs.declared.syntax.Module.{Module}
use Rattle.ms_ir.specs.Instructions.{func_at}
use Rattle.ms_ir.specs.Equal.{has_name}
use Rattle.ms_ir.specs.Locals.{function_names}
use Rattle.ms_check_valid.specs.CleanValues.{IsClean}

-- the value x of the function k is in the set, which has a list of names for each function
abbrev pub is_in : List (List Name) → ℕ → Name → Bool
is_in set k x = has_name (slice_index_or set k []) x

-- of each function of a module the set has the clean values, and nothing else; it has no values of further functions
pub record IsExact (m : Module) (set : List (List Name)) : Type 0 where
  pub values : (k : ℕ) (f : Func) → func_at m k ≡ Some f → (x : Name) → IsTrue (is_in set k x) ↔ IsClean m f x
  pub functions : (k : ℕ) → func_at m k ≡ None → (x : Name) → is_in set k x ≡ false

-- lists of names have become one more, with the clean values of the function f in each module whose functions have these names
pub record HasMore (functions : List Name) (f : Func) (before after : List (List Name)) : Type 0 where
  pub names : List Name
  pub grown : after ≡ before ++ names ∷ []
  pub exact : (m : Module) → functions ≡ function_names m → (x : Name) → IsTrue (has_name names x) ↔ IsClean m f x
