-- What a scope says of a module and of a function.
use Rattle.std.specs.Prelude.{ℕ, is_some, if◌then◌else◌, Option, None}
use Rattle.ms_ir.specs.declared.syntax.Name.{Name}
use Rattle.ms_check_tables.specs.FirstPlace.{first_place}
use Rattle.ms_pass_tasks.specs.Environments.{Env, Given}
use Rattle.ms_rules.specs.declared.scopes.Scope.{Scope}

-- how the values of the function are numbered, and which are known to be clean
abbrev pub env_of : Scope → Env
env_of s = record { number = first_place s.values.now; clean = λ x. is_some (first_place s.clean.now x) }

-- the number of a value that isn't known to be clean
abbrev pub unclean_number : Env → Name → Option ℕ
unclean_number env x = if env.clean x then None else env.number x

-- the types of the module, and the places of its functions
abbrev pub given_of : Scope → Given
given_of s = record { types = s.extents.now; func = first_place s.functions.now }
