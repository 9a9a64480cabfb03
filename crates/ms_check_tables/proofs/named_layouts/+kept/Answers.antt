use Rattle.std.proofs.Common.{◌∷◌, [], ap, sym, ◌∙◌, map}
use Rattle.std.specs.Prelude.{option_map}
use Rattle.ms_ir.specs.Names.{lookup}
use Rattle.ms_ir.specs.Layout.{extent, place_fields, array_extent, type_extent, named_extent}
use Rattle.ms_ir.specs.Extents.{limit_extent, as_extent}
use Rattle.ms_ir.proofs.Sizes.{array_limited, struct_passed, struct_without, type_positive, named_positive}
use Rattle.ms_ir.proofs.TypeRows.{extent-struct, extent-array}
use Rattle.ms_check_tables.proofs.named_layouts.+kept.Goals as goal

pub layout_of-returns-in-Array-clause-is : goal.layout_of-returns-in-Array-clause-is
layout_of-returns-in-Array-clause-is t c =
    let named = named_extent (lookup c.args.kept.now.types) c.args.kept.now.links in
    c.repeat.ensures.is
    ∙ ap (λ o. option_map limit_extent (array_extent c.in-Array.count (o ∷ []))) c.layout_of.ensures.is
    ∙ ap (λ u. option_map limit_extent (array_extent c.in-Array.count (option_map limit_extent (type_extent named u) ∷ []))) c.get.ensures
    ∙ array_limited c.in-Array.count (type_extent named c.in-Array.item)
    ∙ ap (option_map limit_extent) (sym (extent-array named c.in-Array.count c.in-Array.item))
    ∙ ap (λ u. option_map limit_extent (type_extent named u)) (sym c.in-Array.is)

pub layout_of-returns-in-Struct-clause-is : goal.layout_of-returns-in-Struct-clause-is
layout_of-returns-in-Struct-clause-is t c =
    let named = named_extent (lookup c.args.kept.now.types) c.args.kept.now.links in
    c.struct_layout.ensures.is
    ∙ ap (λ ts. option_map limit_extent (place_fields c.in-Struct.packed (extent 0 1) (map (type_extent named) ts))) c.as_slice.ensures
    ∙ ap (option_map limit_extent) (sym (extent-struct named c.in-Struct.packed c.in-Struct.fields))
    ∙ ap (λ u. option_map limit_extent (type_extent named u)) (sym c.in-Struct.is)

pub struct_layout-returns-in-None-clause-is : goal.struct_layout-returns-in-None-clause-is
struct_layout-returns-in-None-clause-is t c =
    let e = type_extent (named_extent (lookup c.args.kept.now.types) c.args.kept.now.links) in
    struct_without c.args.packed e c.args.fields.now c.loop-field.field-index c.field-item.result (as_extent c.loop-field.so_far) _
    c.loop-field-test.true c.field-item.is c.in-None.ensures.is c.loop-field.invariant.is

pub struct_layout-loop-field-preserved : goal.struct_layout-loop-field-preserved
struct_layout-loop-field-preserved t c =
    let types = lookup c.args.kept.now.types in
    let named = named_extent types c.args.kept.now.links in
    record {
      is = struct_passed c.args.packed (type_extent named) (type_positive named (named_positive types c.args.kept.now.links)) c.args.fields.now c.loop-field.field-index c.field-item.result
          (as_extent c.loop-field.so_far) (as_extent c.in-Some.layout) _ _
          c.loop-field-test.true c.field-item.is c.loop-field.invariant.layout.positive c.in-Some.ensures.is c.place_field-so_far.ensures.is c.loop-field.invariant.is;
      layout = c.place_field-so_far.ensures.layout;
    }
