-- Arrays and structs, and initialisers that are, by the lists of what they hold.
use Rattle.std.proofs.Common.{◌≡◌, ℕ, Bool, refl, sym, ap, ◌∙◌}
use Rattle.ms_ir.specs.declared.syntax.Ty.{Ty, Array, Array', Struct, Struct', Row_of-Ty, end_of-Ty, more_of-Ty, items-the_row-Ty, items_shown-the_row-Ty-1, out-Ty, roll-Ty, roll-out-Ty}
use Rattle.ms_ir.specs.declared.syntax.Ty.TheBlock.{hidden-the_row-Ty-0, shape-the_row-Ty-0}
use Rattle.ms_ir.specs.declared.syntax.Init.{Init, Row_of-Init-Array-0-2, items-the_row-Init-Array-0-2, out-Init, roll-Init, roll-out-Init}
use Rattle.ms_ir.specs.declared.syntax.Init as initial

pub array_is : (n : ℕ) (shape : _) (t : Ty) → Array n t ≡ Array' n shape (more_of-Ty t end_of-Ty)
unfolding denote.Hole.Carrier.hidden hidden-the_row-Ty-0 shape-the_row-Ty-0
array_is n shape t = refl

pub struct_is : (packed : Bool) (shape : _) (row : Row_of-Ty _) → Struct packed (items-the_row-Ty _ row) ≡ Struct' packed shape row
unfolding out-Ty roll-Ty denote.Hole.Carrier.roll denote.Hole.Carrier.out
struct_is packed shape row = ap (Struct packed) (sym (items_shown-the_row-Ty-1 shape row)) ∙ roll-out-Ty (Struct' packed shape row)

pub init_array_is : (shape : _) (row : Row_of-Init-Array-0-2 _) → initial.Array (items-the_row-Init-Array-0-2 _ row) ≡ initial.Array' shape row
unfolding out-Init roll-Init denote.Hole.Carrier.roll denote.Hole.Carrier.out
init_array_is shape row = ap initial.Array (sym (initial.items_shown-the_row-Init-Array-0-2-0 shape row)) ∙ roll-out-Init (initial.Array' shape row)

pub init_struct_is : (packed : Bool) (shape : _) (row : Row_of-Init-Array-0-2 _) → initial.Struct packed (items-the_row-Init-Array-0-2 _ row) ≡ initial.Struct' packed shape row
unfolding out-Init roll-Init denote.Hole.Carrier.roll denote.Hole.Carrier.out
init_struct_is packed shape row = ap (initial.Struct packed) (sym (initial.items_shown-the_row-Init-Array-0-2-0 shape row)) ∙ roll-out-Init (initial.Struct' packed shape row)
