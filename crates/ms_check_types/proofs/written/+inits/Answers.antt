use Rattle.std.proofs.Common.{ap, sym, ◌∙◌}
use Rattle.std.specs.List.{list_all}
use Rattle.ms_ir.specs.Written.{init_types}
use Rattle.ms_check_types.specs.SizedParts.{has_sizes, is_item_sized}
use Rattle.ms_check_types.proofs.AllSized.{array_items, struct_items}
use Rattle.ms_check_types.proofs.written.+inits.Goals as goal

pub is_init_sized-returns-in-Array : goal.is_init_sized-returns-in-Array
is_init_sized-returns-in-Array t c =
    let types = c.args.extents.now in
    c.are_items_sized.ensures ∙ ap (list_all (is_item_sized types)) c.as_slice.ensures ∙ sym (array_items types c.in-Array.items)
    ∙ ap (λ i. list_all (has_sizes types) (init_types i)) (sym c.in-Array.is)

pub is_init_sized-returns-in-Struct : goal.is_init_sized-returns-in-Struct
is_init_sized-returns-in-Struct t c =
    let types = c.args.extents.now in
    c.are_items_sized-in-Struct.ensures ∙ ap (list_all (is_item_sized types)) c.as_slice-in-Struct.ensures
    ∙ sym (struct_items types c.in-Struct.field-0 c.in-Struct.fields)
    ∙ ap (λ i. list_all (has_sizes types) (init_types i)) (sym c.in-Struct.is)
