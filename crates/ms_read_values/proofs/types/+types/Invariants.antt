use Rattle.std.proofs.Common.{◌≡◌, ◌+◌, ◌*◌, length}
use Rattle.ms_text_grammar.specs.Types.{type_to}
use Rattle.ms_read_cursor.specs.Lists.{further_items}
use Rattle.ms_read_cursor.specs.Reading.{run}
use Rattle.ms_read_values.proofs.types.+types.Given as goal

abbrev pub decreases-type_to : goal.decreases-type_to
decreases-type_to l = 7 * l.depth

abbrev pub decreases-more_fields : goal.decreases-more_fields
decreases-more_fields l = 7 * l.depth + 2

abbrev pub decreases-fields : goal.decreases-fields
decreases-fields l = 7 * l.depth + 4

abbrev pub decreases-array_item : goal.decreases-array_item
decreases-array_item l = 7 * l.depth + 3

abbrev pub decreases-array_rest : goal.decreases-array_rest
decreases-array_rest l = 7 * l.depth + 4

abbrev pub decreases-struct_rest : goal.decreases-struct_rest
decreases-struct_rest l = 7 * l.depth + 5

abbrev pub decreases-packed_rest : goal.decreases-packed_rest
decreases-packed_rest l = 7 * l.depth + 5

abbrev pub decreases-nested : goal.decreases-nested
decreases-nested l = 7 * l.depth + 6

abbrev pub decreases-some_fields : goal.decreases-some_fields
decreases-some_fields l = 7 * l.depth + 3

-- what comes after what was found is what came after the start
abbrev pub invariant-more_fields-commas : goal.invariant-more_fields-commas
invariant-more_fields-commas l =
    run (further_items (type_to l.form l.depth) l.fn.start) l.fn.tokens
    ≡ run (further_items (type_to l.form l.depth) l.found) l.tokens

abbrev pub decreases-more_fields-commas : goal.decreases-more_fields-commas
decreases-more_fields-commas l = length l.tokens
