-- The items of an initialiser, as a list.
use Rattle.std.specs.Prelude.{Bool, true, false, ◌&&◌, List, [], ◌∷◌, Option, Some, None}
use Rattle.ms_ir.specs.declared.syntax.Ty.{Ty}
use Rattle.ms_ir.specs.declared.syntax.Operand.{Operand}
use Rattle.ms_ir.specs.declared.syntax.Init.{Init}
use Rattle.ms_ir.specs.Layout.{Types}
use Rattle.ms_ir.specs.Equal.{type_eq}
use Rattle.ms_check_valid.specs.Initialisers.{init_fits}

-- an item with its type fits the type that is asked for
abbrev pub item_fits : (Ty → Operand → Bool) → Types → Ty → Ty × Init → Bool
item_fits fits types t i = type_eq i.0 t && init_fits fits types t i.1

-- items fit the types of a list one by one, and are as many
abbrev pub each_fits : (Ty → Operand → Bool) → Types → List Ty → List (Ty × Init) → Bool
each_fits fits types [] [] = true
each_fits fits types (t ∷ ts) (i ∷ rest) = item_fits fits types t i && each_fits fits types ts rest
each_fits fits types ts items = false

-- the same, where there may be no types that are asked for
abbrev pub all_fit : (Ty → Operand → Bool) → Types → Option (List Ty) → List (Ty × Init) → Bool
all_fit fits types None items = false
all_fit fits types (Some ts) items = each_fits fits types ts items
