use Rattle.std.proofs.Common.{◌≡◌, ◌<◌, ◌+◌, ◌-◌, ◌*◌, suc, Some, ◌∷◌, [], ap, sym, ◌∙◌, subst, map, arith}
use Rattle.std.specs.Prelude.{option_map}
use Rattle.std.specs.Option.{option_copied}
use denote.Param.Weighed.{most}
use Rattle.ms_ir.specs.declared.syntax.Ty.{size-Ty}
use Rattle.ms_ir.specs.Names.{lookup}
use Rattle.ms_ir.specs.Layout.{extent, place_fields, array_extent, type_extent, named_extent}
use Rattle.ms_ir.specs.Extents.{limit_extent, as_extent}
use Rattle.ms_ir.proofs.Sizes.{array_limited, struct_passed, struct_without, type_positive, named_positive, lookup_below, chain_shorter}
use Rattle.ms_ir.proofs.TypeRows.{extent-struct, extent-array}
use Rattle.ms_ir.proofs.extents.+types.Goals as goal

pub layout_of-returns-in-Array-clause-is : goal.layout_of-returns-in-Array-clause-is
layout_of-returns-in-Array-clause-is t c =
    let named = named_extent (lookup c.args.types.now) c.args.chain in
    c.repeat.ensures.is
    ∙ ap (λ o. option_map limit_extent (array_extent c.in-Array.count (o ∷ []))) c.layout_of.ensures.is
    ∙ ap (λ u. option_map limit_extent (array_extent c.in-Array.count (option_map limit_extent (type_extent named u) ∷ []))) c.get.ensures
    ∙ array_limited c.in-Array.count (type_extent named c.in-Array.item)
    ∙ ap (option_map limit_extent) (sym (extent-array named c.in-Array.count c.in-Array.item))
    ∙ ap (λ u. option_map limit_extent (type_extent named u)) (sym c.in-Array.is)

pub layout_of-returns-in-Struct-clause-is : goal.layout_of-returns-in-Struct-clause-is
layout_of-returns-in-Struct-clause-is t c =
    let named = named_extent (lookup c.args.types.now) c.args.chain in
    c.struct_layout.ensures.is
    ∙ ap (λ ts. option_map limit_extent (place_fields c.in-Struct.packed (extent 0 1) (map (type_extent named) ts))) c.as_slice.ensures
    ∙ ap (option_map limit_extent) (sym (extent-struct named c.in-Struct.packed c.in-Struct.fields))
    ∙ ap (λ u. option_map limit_extent (type_extent named u)) (sym c.in-Struct.is)

pub named_layout-layout_of-requires : goal.named_layout-layout_of-requires
named_layout-layout_of-requires t c =
    let types = c.args.types.now in
    let u = c.in-Some.ty.now in
    let e : lookup types c.args.name.now ≡ Some u = sym c.find.ensures ∙ ap option_copied c.in-Some.is in
    let next : c.args.chain ≡ suc (c.args.chain - 1) = omega arith in
    let lower = chain_shorter (c.args.chain - 1) c.args.chain (most (λ p. size-Ty p.1) types) (size-Ty u) next (lookup_below types c.args.name.now u e) in
    (subst (λ n. (c.args.chain - 1) * (2 * most (λ p. size-Ty p.1) types + 4) + 2 * size-Ty u + 2 < n) c.decreases lower, tt)

pub struct_layout-returns-in-None-clause-is : goal.struct_layout-returns-in-None-clause-is
struct_layout-returns-in-None-clause-is t c =
    let e = type_extent (named_extent (lookup c.args.types.now) c.args.chain) in
    struct_without c.args.packed e c.args.fields.now c.loop-field.field-index c.field-item.result (as_extent c.loop-field.so_far) _
    c.loop-field-test.true c.field-item.is c.in-None.ensures.is c.loop-field.invariant.is

pub struct_layout-loop-field-preserved : goal.struct_layout-loop-field-preserved
struct_layout-loop-field-preserved t c =
    let named = named_extent (lookup c.args.types.now) c.args.chain in
    record {
      is = struct_passed c.args.packed (type_extent named) (type_positive named (named_positive (lookup c.args.types.now) c.args.chain)) c.args.fields.now c.loop-field.field-index c.field-item.result
          (as_extent c.loop-field.so_far) (as_extent c.in-Some.layout) _ _
          c.loop-field-test.true c.field-item.is c.loop-field.invariant.layout.positive c.in-Some.ensures.is c.place_field-so_far.ensures.is c.loop-field.invariant.is;
      layout = c.place_field-so_far.ensures.layout;
    }
