-- How the values of each function of a module are numbered: the parameters first, then the results in text order.
-- Nothing is known to be clean.
use Rattle.std.specs.Prelude.{ℕ, suc, false, List, [], ◌∷◌, length, if◌then◌else◌, Option, Some, None, option_map, unwrap_or}
use Rattle.ms_ir.specs.declared.syntax.Name.{Name}
use Rattle.ms_ir.specs.declared.syntax.Ty.{Ty}
use Rattle.ms_ir.specs.declared.syntax.Module.{Module}
use Rattle.ms_ir.specs.Names.{name_eq}
use Rattle.ms_ir.specs.Instructions.{func_at}
use Rattle.ms_ir.specs.Locals.{values}
use Rattle.ms_pass_laws.specs.Pass.{Numbering}

-- the place of a value's name among values, counted from 0
abbrev pub value_index : List (Name × Ty) → Name → Option ℕ
value_index [] x = None
value_index (v ∷ vs) x = if name_eq v.0 x then Some 0 else option_map suc (value_index vs x)

-- the values of the function at a place
abbrev pub values_at : Module → ℕ → List (Name × Ty)
values_at m f = unwrap_or (option_map values (func_at m f)) []

-- the numbering of each function of a module
abbrev pub numbering : Module → ℕ → Numbering
numbering m f = record { env = record { number = value_index (values_at m f); clean = λ x. false }; size = length (values_at m f) }
