use Rattle.std.proofs.Common.{◌≡◌, ◌++◌, List, sym, ◌∙◌, ap}
use Rattle.std.specs.Prelude.{flat_map}
use Rattle.std.specs.Option.{option_or}
use Rattle.std.proofs.Math.Path.{ap₂}
use Rattle.ms_ir.specs.declared.syntax.Ty.{Ty}
use Rattle.ms_ir.specs.declared.syntax.Init.{Init}
use Rattle.ms_ir.specs.Written.{Mention, type_mentions, init_mentions}
use Rattle.ms_check_valid.proofs.TypeShapes.{init_mentions-array, init_mentions-struct}
use Rattle.ms_check_tables.specs.Sought.{first_sought}
use Rattle.ms_check_tables.proofs.Items.{none_left}
use Rattle.ms_check_tables.proofs.Mentioned.{sought-append, sought_passed, sought_stopped}
use Rattle.ms_check_tables.proofs.sought.+initialisers.Goals as goal

abbrev item_mentions : Ty × Init → List Mention
item_mentions i = type_mentions i.0 ++ init_mentions i.1

pub in_init-returns-in-Array : goal.in_init-returns-in-Array
in_init-returns-in-Array g t c =
    let sought = g.S.Search.sought c.args.search.now in
    c.in_items.ensures ∙ ap (λ items. first_sought sought (flat_map item_mentions items)) c.as_slice.ensures
    ∙ ap (first_sought sought) (sym (init_mentions-array c.in-Array.items)) ∙ ap (λ i. first_sought sought (init_mentions i)) (sym c.in-Array.is)

pub in_init-returns-in-Struct : goal.in_init-returns-in-Struct
in_init-returns-in-Struct g t c =
    let sought = g.S.Search.sought c.args.search.now in
    c.in_items-in-Struct.ensures ∙ ap (λ items. first_sought sought (flat_map item_mentions items)) c.as_slice-in-Struct.ensures
    ∙ ap (first_sought sought) (sym (init_mentions-struct c.in-Struct.field-0 c.in-Struct.fields)) ∙ ap (λ i. first_sought sought (init_mentions i)) (sym c.in-Struct.is)

pub in_items-returns-in-Some : goal.in_items-returns-in-Some
in_items-returns-in-Some g t c =
    let sought = g.S.Search.sought c.args.search.now in
    let item = c.loop-ty-item.result in
    let here : c.or.result ≡ first_sought sought (item_mentions item) =
    c.or.ensures ∙ ap₂ option_or c.in_type.ensures c.in_init.ensures ∙ sym (sought-append sought (type_mentions item.0) (init_mentions item.1)) in
    sym (sought_stopped sought item_mentions c.args.items.now c.loop-ty.ty-index item c.in-Some.spelled c.loop-ty-test.true c.loop-ty-item.is (sym here ∙ c.in-Some.is))
    ∙ c.loop-ty.invariant

pub in_items-loop-ty-preserved : goal.in_items-loop-ty-preserved
in_items-loop-ty-preserved g t c =
    let sought = g.S.Search.sought c.args.search.now in
    let item = c.loop-ty-item.result in
    let here : c.or.result ≡ first_sought sought (item_mentions item) =
    c.or.ensures ∙ ap₂ option_or c.in_type.ensures c.in_init.ensures ∙ sym (sought-append sought (type_mentions item.0) (init_mentions item.1)) in
    sought_passed sought item_mentions c.args.items.now c.loop-ty.ty-index item _ c.loop-ty-test.true c.loop-ty-item.is (sym here ∙ none_left c.or.result c.in_default.not-Some) c.loop-ty.invariant
