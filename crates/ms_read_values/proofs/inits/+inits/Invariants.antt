use Rattle.std.proofs.Common.{◌≡◌, ◌+◌, ◌*◌, length}
use Rattle.ms_read_cursor.specs.Lists.{further_items}
use Rattle.ms_read_cursor.specs.Reading.{run}
use Rattle.ms_read_values.specs.Parts.{part_of}
use Rattle.ms_read_values.proofs.inits.+inits.Given as goal

abbrev pub decreases-init_to : goal.decreases-init_to
decreases-init_to l = 8 * l.depth

abbrev pub decreases-part : goal.decreases-part
decreases-part l = 8 * l.depth + 1

abbrev pub decreases-more_parts : goal.decreases-more_parts
decreases-more_parts l = 8 * l.depth + 2

abbrev pub decreases-parts : goal.decreases-parts
decreases-parts l = 8 * l.depth + 4

abbrev pub decreases-array_init : goal.decreases-array_init
decreases-array_init l = 8 * l.depth + 5

abbrev pub decreases-struct_init : goal.decreases-struct_init
decreases-struct_init l = 8 * l.depth + 5

abbrev pub decreases-packed_init : goal.decreases-packed_init
decreases-packed_init l = 8 * l.depth + 5

abbrev pub decreases-nested_init : goal.decreases-nested_init
decreases-nested_init l = 8 * l.depth + 6

abbrev pub decreases-some_parts : goal.decreases-some_parts
decreases-some_parts l = 8 * l.depth + 3

-- what comes after what was found is what came after the start
abbrev pub invariant-more_parts-commas : goal.invariant-more_parts-commas
invariant-more_parts-commas l =
    run (further_items (part_of l.form l.depth) l.fn.start) l.fn.tokens
    ≡ run (further_items (part_of l.form l.depth) l.found) l.tokens

abbrev pub decreases-more_parts-commas : goal.decreases-more_parts-commas
decreases-more_parts-commas l = length l.tokens
