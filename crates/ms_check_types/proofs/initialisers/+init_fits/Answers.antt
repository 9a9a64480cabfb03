use Rattle.std.proofs.Common.{ap, ◌∙◌, None, length}
use Rattle.std.specs.List.{list_all}
use Rattle.ms_ir.specs.Layout.{resolved}
use Rattle.ms_check_valid.specs.Initialisers.{item_types, field_types}
use Rattle.ms_check_valid.specs.TypesAgree.{operand_fits}
use Rattle.ms_check_types.specs.Items.{item_fits, each_fits, all_fit}
use Rattle.ms_check_types.proofs.Items.{array_items, struct_fields, whole_array, whole_struct, other_count}
use Rattle.ms_check_types.proofs.initialisers.+init_fits.Goals as goal

pub array_fits-returns-then-count-items : goal.array_fits-returns-then-count-items
array_fits-returns-then-count-items t c =
    let fits = operand_fits c.args.symbols.now.source.now (λ x. None) in
    let types = c.args.symbols.now.source.now.types in
    c.items_fit.ensures ∙ ap (λ u. list_all (item_fits fits types u) c.args.items.now) c.get.ensures
    ∙ whole_array fits types c.args.ty.now c.in-Array.count c.in-Array.item c.args.items.now c.in-Array.is c.if-count-items.true

pub fields_fit-returns-then-types-fields : goal.fields_fit-returns-then-types-fields
fields_fit-returns-then-types-fields t c =
    let fits = operand_fits c.args.symbols.now.source.now (λ x. None) in
    let types = c.args.symbols.now.source.now.types in
    other_count fits types c.args.types.now c.args.fields.now c.if-types-fields.true

pub init_fits-returns-in-Array : goal.init_fits-returns-in-Array
init_fits-returns-in-Array t c =
    let fits = operand_fits c.args.symbols.now.source.now (λ x. None) in
    let types = c.args.symbols.now.source.now.types in
    c.array_fits.ensures ∙ ap (λ xs. all_fit fits types (item_types c.args.ty.now (length xs)) xs) c.as_slice-in-Array.ensures
    ∙ array_items fits types c.args.ty.now c.args.init.now c.in-Array.items c.in-Array.is

pub init_fits-returns-in-Some : goal.init_fits-returns-in-Some
init_fits-returns-in-Some t c =
    let fits = operand_fits c.args.symbols.now.source.now (λ x. None) in
    let types = c.args.symbols.now.source.now.types in
    c.struct_fits.ensures ∙ ap (λ w. all_fit fits types (field_types w c.in-Struct.packed) c.as_slice-in-Some.result.now) c.in-Some.ensures
    ∙ ap (λ xs. all_fit fits types (field_types (resolved types c.args.ty.now) c.in-Struct.packed) xs) c.as_slice-in-Some.ensures
    ∙ struct_fields fits types c.args.ty.now c.args.init.now c.in-Struct.packed c.in-Struct.fields c.in-Struct.is

pub init_fits-returns-in-None : goal.init_fits-returns-in-None
init_fits-returns-in-None t c =
    let fits = operand_fits c.args.symbols.now.source.now (λ x. None) in
    let types = c.args.symbols.now.source.now.types in
    ap (λ w. all_fit fits types (field_types w c.in-Struct.packed) c.in-Struct.fields) c.in-None.ensures
    ∙ struct_fields fits types c.args.ty.now c.args.init.now c.in-Struct.packed c.in-Struct.fields c.in-Struct.is

pub struct_fits-returns-then-own-packed : goal.struct_fits-returns-then-own-packed
struct_fits-returns-then-own-packed t c =
    let fits = operand_fits c.args.symbols.now.source.now (λ x. None) in
    let types = c.args.symbols.now.source.now.types in
    c.fields_fit.ensures ∙ ap (λ ts. each_fits fits types ts c.args.fields.now) c.as_slice.ensures
    ∙ whole_struct fits types c.args.ty.now c.in-Struct.own c.args.packed c.in-Struct.types c.args.fields.now c.in-Struct.is c.if-own-packed.true
