use Rattle.std.proofs.Common.{◌*◌, ap, sym, ◌∙◌}
use Rattle.ms_ir.specs.Layout.{extent, size_in, field_offset, part_offset}
use Rattle.ms_ir.specs.Extents.{limited}
use Rattle.ms_ir.proofs.Sizes.{limited_twice, limited_product}
use Rattle.ms_ir.proofs.TypeRows.{offset-struct, offset-array}
use Rattle.ms_ir.proofs.extents.part_offset.Goals as goal

pub returns-in-Array : goal.returns-in-Array
returns-in-Array c =
    let types = c.args.types.now in
    let n = c.args.number in
    let size = size_in types c.in-Array.item in
    ap (λ k. limited (k * c.layout_or_empty-layout.result.size)) c.from.ensures
    ∙ ap (λ x. limited (n * x)) (c.layout_or_empty-layout.ensures.size ∙ ap (λ u. limited (size_in types u)) c.get.ensures)
    ∙ limited_product n (limited size) size (limited_twice size)
    ∙ ap limited (sym (offset-array types c.in-Array.field-0 c.in-Array.item n))
    ∙ ap (λ u. limited (part_offset types u n)) (sym c.in-Array.is)

pub returns-in-Struct : goal.returns-in-Struct
returns-in-Struct c =
    let types = c.args.types.now in
    let n = c.args.number in
    c.field_offset.ensures
    ∙ ap (λ ts. limited (field_offset types c.in-Struct.packed (extent 0 1) ts n)) c.as_slice.ensures
    ∙ ap limited (sym (offset-struct types c.in-Struct.packed c.in-Struct.fields n))
    ∙ ap (λ u. limited (part_offset types u n)) (sym c.in-Struct.is)
