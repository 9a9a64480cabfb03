use Rattle.std.proofs.Common.{sym, ◌∙◌, ap}
use Rattle.std.specs.Prelude.{flat_map}
use Rattle.ms_ir.specs.Written.{type_mentions}
use Rattle.ms_check_valid.proofs.TypeShapes.{type_mentions-array, type_mentions-struct}
use Rattle.ms_check_tables.specs.Sought.{first_sought}
use Rattle.ms_check_tables.proofs.Items.{none_left}
use Rattle.ms_check_tables.proofs.Mentioned.{sought_passed, sought_stopped, with_end}
use Rattle.ms_check_tables.proofs.sought.+types.Goals as goal

pub in_type-returns-in-Array : goal.in_type-returns-in-Array
in_type-returns-in-Array g t c =
    let sought = g.S.Search.sought c.args.search.now in
    c.in_type.ensures ∙ ap (λ u. first_sought sought (type_mentions u)) c.get.ensures ∙ with_end sought (type_mentions c.in-Array.item)
    ∙ ap (first_sought sought) (sym (type_mentions-array c.in-Array.field-0 c.in-Array.item)) ∙ ap (λ u. first_sought sought (type_mentions u)) (sym c.in-Array.is)

pub in_type-returns-in-Struct : goal.in_type-returns-in-Struct
in_type-returns-in-Struct g t c =
    let sought = g.S.Search.sought c.args.search.now in
    c.in_types.ensures ∙ ap (λ ts. first_sought sought (flat_map type_mentions ts)) c.as_slice.ensures
    ∙ ap (first_sought sought) (sym (type_mentions-struct c.in-Struct.field-0 c.in-Struct.fields)) ∙ ap (λ u. first_sought sought (type_mentions u)) (sym c.in-Struct.is)

pub in_types-returns-in-Some : goal.in_types-returns-in-Some
in_types-returns-in-Some g t c =
    sym (sought_stopped (g.S.Search.sought c.args.search.now) type_mentions c.args.types.now c.loop-ty.ty-index c.ty-item.result c.in-Some.spelled c.loop-ty-test.true c.ty-item.is
    (sym c.in_type.ensures ∙ c.in-Some.is))
    ∙ c.loop-ty.invariant

pub in_types-loop-ty-preserved : goal.in_types-loop-ty-preserved
in_types-loop-ty-preserved g t c =
    sought_passed (g.S.Search.sought c.args.search.now) type_mentions c.args.types.now c.loop-ty.ty-index c.ty-item.result _ c.loop-ty-test.true c.ty-item.is
    (sym c.in_type.ensures ∙ none_left c.in_type.result c.in_default.not-Some) c.loop-ty.invariant
