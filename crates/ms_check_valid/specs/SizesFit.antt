-- Each type that is written has a size, and the globals fit into their memory (LLVM Language Reference, "Type System",
-- "Structure Type"; own: the limits).
use Rattle.std.specs.Prelude.{ℕ, ◌+◌, Bool, true, false, not, ◌&&◌, nat_le, List, [], ◌∷◌, ◌++◌, flat_map, if◌then◌else◌, is_some}
use Rattle.std.specs.List.{list_all}
use Rattle.ms_ir.specs.declared.syntax.Name.{Name}
use Rattle.ms_ir.specs.declared.syntax.Ty.{Ty, Named}
use Rattle.ms_ir.specs.declared.syntax.Func.{Func}
use Rattle.ms_ir.specs.declared.syntax.GlobalVar.{GlobalVar}
use Rattle.ms_ir.specs.declared.syntax.Module.{Module}
use Rattle.ms_ir.specs.Names.{is_reserved}
use Rattle.ms_ir.specs.Areas.{Fixed, room, area_limit}
use Rattle.ms_ir.specs.Layout.{Types, size_of, size_in}
use Rattle.ms_ir.specs.Written.{type_parts, init_types, op_types}
use Rattle.ms_ir.specs.Locals.{func_insts, Spelled}

-- types and all types within them have sizes
abbrev pub sized : Types → List Ty → Bool
sized types ts = list_all (λ t. is_some (size_of types t)) (flat_map type_parts ts)

-- a name as it is spelled, unless something holds
abbrev pub spelled_unless : Bool → (global : Bool) → Name → List Spelled
spelled_unless holds global x = if holds then [] else record { global = global; name = x } ∷ []

-- the bytes that the globals take after one more; one with a reserved name takes none
abbrev pub taken_with : Types → ℕ → GlobalVar → ℕ
taken_with types taken g = if is_reserved g.name then taken else taken + room (size_in types g.ty)

-- the limit is passed between two numbers of bytes
abbrev pub passes_limit : ℕ → ℕ → Bool
passes_limit before after = nat_le before (area_limit Fixed) && not (nat_le after (area_limit Fixed))

-- globals without a size, or with which the globals pass their limit, where so many bytes are taken before
abbrev pub unsized_globals : Types → ℕ → List GlobalVar → List Spelled
unsized_globals types taken [] = []
unsized_globals types taken (g ∷ rest) =
    spelled_unless (sized types (g.ty ∷ init_types g.init) && not (passes_limit taken (taken_with types taken g))) true g.name
    ++ unsized_globals types (taken_with types taken g) rest

-- the types in a function
abbrev pub func_types : Func → List Ty
func_types f = flat_map (λ inst. op_types inst.op) (func_insts f)

-- the types, globals and functions that are or have a type without a size, and the global with which the globals pass
-- their limit, in text order
abbrev pub unsized : Module → List Spelled
unsized m =
    flat_map (λ t. spelled_unless (sized m.types (Named t.0 ∷ t.1 ∷ [])) false t.0) m.types
    ++ (unsized_globals m.types 0 m.globals
    ++ flat_map (λ f. spelled_unless (sized m.types (func_types f)) true f.name) m.funcs)
