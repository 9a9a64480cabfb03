use Rattle.std.proofs.Common.{◌≡◌, ◌+◌, ◌*◌, drop, map}
use Rattle.std.specs.Prelude.{option_map}
use denote.Param.Weighed.{most}
use Rattle.ms_ir.specs.declared.syntax.Ty.{size-Ty}
use Rattle.ms_ir.specs.Names.{lookup}
use Rattle.ms_ir.specs.Layout.{extent, place_fields, type_extent, named_extent}
use Rattle.ms_ir.specs.Extents.{IsLayout, limit_extent, as_extent}
use Rattle.ms_ir.proofs.extents.+types.Given as goal

-- a named type takes one off the chain, which counts for more than any type of the table
abbrev pub decreases-layout_of : goal.decreases-layout_of
decreases-layout_of l = l.chain * (2 * most (λ p. size-Ty p.1) l.types.now + 4) + 2 * size-Ty l.ty.now + 2

abbrev pub decreases-struct_layout : goal.decreases-struct_layout
decreases-struct_layout l = l.chain * (2 * most (λ p. size-Ty p.1) l.types.now + 4) + 2 * most size-Ty l.fields.now + 3

abbrev pub decreases-named_layout : goal.decreases-named_layout
decreases-named_layout l = l.chain * (2 * most (λ p. size-Ty p.1) l.types.now + 4) + 1

abbrev pub invariant-struct_layout-loop-field : goal.invariant-struct_layout-loop-field
invariant-struct_layout-loop-field l = record {
  is : option_map limit_extent (place_fields l.packed (as_extent l.so_far) (map (type_extent (named_extent (lookup l.types) l.chain)) (drop l.field-index l.fields)))
      ≡ option_map limit_extent (place_fields l.packed (extent 0 1) (map (type_extent (named_extent (lookup l.types) l.chain)) l.fields));
  layout : IsLayout l.so_far;
}
