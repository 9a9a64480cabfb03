use Rattle.std.proofs.Common.{ap, ◌∙◌}
use Rattle.std.specs.Prelude.{is_some}
use Rattle.std.specs.List.{list_all}
use Rattle.ms_check_types.specs.SizedParts.{has_sizes}
use Rattle.ms_check_types.proofs.AllSized.{array_sized, struct_sized}
use Rattle.ms_check_types.proofs.parts.+parts.Goals as goal

pub has_sizes-returns-then-is_some : goal.has_sizes-returns-then-is_some
has_sizes-returns-then-is_some t c =
    array_sized c.args.extents.now c.args.ty.now c.in-Array.field-0 c.in-Array.item c.is_some.result c.has_sizes.result c.in-Array.is
    (c.is_some.ensures ∙ ap is_some c.size_of.ensures) c.if-is_some.true (c.has_sizes.ensures ∙ ap (has_sizes c.args.extents.now) c.get.ensures)

pub has_sizes-returns-then-is_some-2 : goal.has_sizes-returns-then-is_some-2
has_sizes-returns-then-is_some-2 t c =
    struct_sized c.args.extents.now c.args.ty.now c.in-Struct.field-0 c.in-Struct.fields c.is_some-in-Struct.result c.all_have_sizes.result c.in-Struct.is
    (c.is_some-in-Struct.ensures ∙ ap is_some c.size_of-in-Struct.ensures) c.if-is_some-2.true
    (c.all_have_sizes.ensures ∙ ap (list_all (has_sizes c.args.extents.now)) c.as_slice.ensures)
