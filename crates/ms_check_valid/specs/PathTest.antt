-- A test that uses are defined, which computes: a value isn't defined only in blocks of a list that no edge leaves.
use Rattle.std.specs.Prelude.{ℕ, zero, suc, Bool, not, ◌&&◌, ◌||◌, nat_eq, List, [], ◌∷◌, length, take, filter, flat_map, if◌then◌else◌}
use Rattle.std.specs.List.{list_any, list_all}
use Rattle.ms_ir.specs.declared.syntax.Name.{Name}
use Rattle.ms_ir.specs.declared.syntax.Func.{Func}
use Rattle.ms_ir.specs.declared.syntax.Module.{Module}
use Rattle.ms_ir.specs.Equal.{has_name}
use Rattle.ms_ir.specs.Locals.{results, parameter_names}
use Rattle.ms_check_valid.specs.Paths.{ValueUse, insts_of, successors, block_results}
use Rattle.ms_check_valid.specs.UsesDefined.{SiteUse, uses}

-- a list has a number
abbrev pub has_number : List ℕ → ℕ → Bool
has_number set n = list_any (λ k. nat_eq k n) set

-- a list with further numbers, each once
abbrev pub with_new : List ℕ → List ℕ → List ℕ
with_new set [] = set
with_new set (n ∷ rest) = if has_number set n then with_new set rest else with_new (n ∷ set) rest

-- where a value that comes to a block goes on: nowhere from a block that defines it
abbrev pub goes_on : Func → Name → ℕ → List ℕ
goes_on f x b = if has_name (block_results f b) x then [] else successors f b

-- the blocks to which paths of at most so many edges come without a definition
abbrev pub arrives_within : Func → Name → ℕ → List ℕ
arrives_within f x zero = 0 ∷ []
arrives_within f x (suc n) = with_new (arrives_within f x n) (flat_map (goes_on f x) (arrives_within f x n))

-- the entry block is in a list of blocks, and no edge leads out of it from a block without the definition
abbrev pub is_closed : Func → Name → List ℕ → Bool
is_closed f x set = has_number set 0 && list_all (λ b. list_all (has_number set) (goes_on f x b)) set

-- a use stands outside such a list, or after the definition in its block
abbrev pub is_outside : Func → ValueUse → List ℕ → Bool
is_outside f u set = is_closed f u.name set && (not (has_number set u.block) || has_name (results (take u.place (insts_of f u.block))) u.name)

-- a use passes the test; a parameter is defined
abbrev pub passes : SiteUse → Bool
passes u = has_name (parameter_names u.func) u.value.name || is_outside u.func u.value (arrives_within u.func u.value.name (length u.func.blocks))

-- the uses that don't pass it
abbrev pub undefined_uses : Module → List SiteUse
undefined_uses m = filter (λ u. not (passes u)) (uses m)
