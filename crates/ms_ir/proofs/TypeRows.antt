-- Types that hold types, by the list of what they hold.
use Rattle.std.proofs.Common.{◌≡◌, ℕ, ◌*◌, Bool, List, [], ◌∷◌, map, length, Option, refl, ap, ◌∙◌}
use Rattle.ms_ir.specs.declared.syntax.Name.{Name}
use Rattle.ms_ir.specs.declared.syntax.Ty.{Ty, Array, Struct, Row_of-Ty, end_of-Ty, more_of-Ty, items-the_row-Ty, items_hidden-the_row-Ty-1}
use Rattle.ms_ir.specs.declared.syntax.Ty.TheBlock.{hidden-the_row-Ty-0, hidden-the_row-Ty-1, shape-the_row-Ty-0}
use Rattle.ms_ir.specs.Layout.{Extent, extent, Types, place_fields, array_extent, type_extent, row_extents, row_types, field_offset, part_offset, size_in}
use Rattle.ms_ir.specs.Parts.{count_parts}

row_extents-items : (named : Name → Option Extent) (n : _) (r : Row_of-Ty n) → row_extents named r ≡ map (type_extent named) (items-the_row-Ty n r)
row_extents-items named n end_of-Ty = refl
row_extents-items named n (more_of-Ty t ts) = ap (λ es. type_extent named t ∷ es) (row_extents-items named _ ts)

pub row_types-items : (n : _) (r : Row_of-Ty n) → row_types r ≡ items-the_row-Ty n r
row_types-items n end_of-Ty = refl
row_types-items n (more_of-Ty t ts) = ap (λ us. t ∷ us) (row_types-items _ ts)

pub struct_types : (ts : List Ty) → row_types (hidden-the_row-Ty-1 ts) ≡ ts
struct_types ts = row_types-items _ (hidden-the_row-Ty-1 ts) ∙ items_hidden-the_row-Ty-1 ts

pub extent-struct : (named : Name → Option Extent) (p : Bool) (ts : List Ty) → type_extent named (Struct p ts) ≡ place_fields p (extent 0 1) (map (type_extent named) ts)
extent-struct named p ts = ap (place_fields p (extent 0 1)) (row_extents-items named _ (hidden-the_row-Ty-1 ts) ∙ ap (map (type_extent named)) (items_hidden-the_row-Ty-1 ts))

pub extent-array : (named : Name → Option Extent) (n : ℕ) (t : Ty) → type_extent named (Array n t) ≡ array_extent n (type_extent named t ∷ [])
unfolding hidden-the_row-Ty-0 shape-the_row-Ty-0 denote.Hole.Carrier.hidden
extent-array named n t = refl

pub offset-struct : (types : Types) (p : Bool) (ts : List Ty) (k : ℕ) → part_offset types (Struct p ts) k ≡ field_offset types p (extent 0 1) ts k
offset-struct types p ts k = ap (λ us. field_offset types p (extent 0 1) us k) (struct_types ts)

pub offset-array : (types : Types) (n : ℕ) (t : Ty) (k : ℕ) → part_offset types (Array n t) k ≡ k * size_in types t
unfolding hidden-the_row-Ty-0 shape-the_row-Ty-0 denote.Hole.Carrier.hidden
offset-array types n t k = refl

pub count-struct : (p : Bool) (ts : List Ty) → count_parts (Struct p ts) ≡ length ts
count-struct p ts = ap length (struct_types ts)
