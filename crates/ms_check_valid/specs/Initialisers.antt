-- Which initialisers fit a type (LLVM Language Reference, "Global Variables", "Complex Constants").
use Rattle.std.specs.Prelude.{ℕ, Bool, true, false, ◌&&◌, ◌||◌, nat_eq, suc, List, [], ◌∷◌, length, replicate, if◌then◌else◌, Option, Some, None}
use Rattle.std.specs.Bool.{beq}
use Rattle.ms_ir.specs.declared.syntax.Ty.{Ty, Int, Array', Struct'}
use Rattle.ms_ir.specs.declared.syntax.Operand.{Operand}
use Rattle.ms_ir.specs.declared.syntax.Init.{Init, Row_of-Init-Array-0-2, end_of-Init-Array-0-2, more_of-Init-Array-0-2}
use Rattle.ms_ir.specs.declared.syntax.Init as initial
use Rattle.ms_ir.specs.Layout.{Types, resolved, row_types, type_at}
use Rattle.ms_ir.specs.Equal.{type_eq, types_eq, is_undefined}

-- the number of items
abbrev pub count_items : {n : _} → Row_of-Init-Array-0-2 n → ℕ
count_items end_of-Init-Array-0-2 = 0
count_items (more_of-Init-Array-0-2 t i rest) = suc (count_items rest)

-- the types that so many items of an array have; none where the type is no array of so many
abbrev pub item_types : Ty → ℕ → Option (List Ty)
item_types (Array' n shape item) count = if nat_eq n count then Some (replicate count (type_at (row_types item) 0)) else None
item_types t count = None

-- the types that the fields of a struct have, packed or not
abbrev pub field_types : Ty → Bool → Option (List Ty)
field_types (Struct' other shape fields) packed = if beq other packed then Some (row_types fields) else None
field_types t packed = None

-- a type is an array of so many bytes
abbrev pub is_text_type : Ty → ℕ → Bool
is_text_type (Array' n shape item) count = nat_eq n count && types_eq (row_types item) (Int 8 ∷ [])
is_text_type t count = false

-- an initialiser fits a type, where it is said which constants do; items and fields fit their types, which are written
-- beside them
abbrev mutual
  pub init_fits : (Ty → Operand → Bool) → Types → Ty → Init → Bool
  init_fits fits types t (initial.Value o) = is_undefined o || fits t o
  init_fits fits types t initial.Zero = true
  init_fits fits types t (initial.Text bytes) = is_text_type t (length bytes)
  init_fits fits types t (initial.Array' shape items) = items_fit fits types (item_types t (count_items items)) items
  init_fits fits types t (initial.Struct' packed shape fields) = items_fit fits types (field_types (resolved types t) packed) fields

  pub items_fit : (Ty → Operand → Bool) → Types → Option (List Ty) → {n : _} → Row_of-Init-Array-0-2 n → Bool
  items_fit fits types (Some []) end_of-Init-Array-0-2 = true
  items_fit fits types (Some (t ∷ ts)) (more_of-Init-Array-0-2 u i rest) = type_eq u t && init_fits fits types t i && items_fit fits types (Some ts) rest
  items_fit fits types asked row = false
