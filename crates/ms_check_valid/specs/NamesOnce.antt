-- Each name is defined once (LLVM Language Reference, "Identifiers", "Module Structure").
use Rattle.std.specs.Prelude.{true, false, List, [], ◌∷◌, ◌++◌, map, if◌then◌else◌}
use Rattle.ms_ir.specs.declared.syntax.Name.{Name}
use Rattle.ms_ir.specs.declared.syntax.Func.{Func}
use Rattle.ms_ir.specs.declared.syntax.Module.{Module}
use Rattle.ms_ir.specs.Equal.{has_name}
use Rattle.ms_ir.specs.Locals.{locals, global_names, declared_names, type_names, Spelled}

-- spelled with `@`
abbrev pub at_sign : List Name → List Spelled
at_sign names = map (λ x. record { global = true; name = x }) names

-- spelled with `%`
abbrev pub percent_sign : List Name → List Spelled
percent_sign names = map (λ x. record { global = false; name = x }) names

-- the names of a list that stand already in it, or among those seen before
abbrev pub repeats : List Name → List Name → List Name
repeats seen [] = []
repeats seen (x ∷ rest) = if has_name seen x then x ∷ repeats (x ∷ seen) rest else repeats (x ∷ seen) rest

-- of functions, where the symbols before them are given: the name of each, and its locals
abbrev pub function_duplicates : List Name → List Func → List Spelled
function_duplicates seen [] = []
function_duplicates seen (f ∷ rest) =
    at_sign (repeats seen (f.name ∷ [])) ++ (percent_sign (repeats [] (locals f)) ++ function_duplicates (f.name ∷ seen) rest)

-- a second type, global, declaration or function with a name, and a second local of a function with one, in text order
abbrev pub duplicates : Module → List Spelled
duplicates m =
    percent_sign (repeats [] (type_names m)) ++ (at_sign (repeats [] (global_names m ++ declared_names m))
    ++ function_duplicates (global_names m ++ declared_names m) m.funcs)
