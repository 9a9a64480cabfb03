use Rattle.std.proofs.Common.{◌≡◌, ◌++◌, map, flat_map, take}
use Rattle.ms_check_tables.specs.FirstPlace.{first_place}
use Rattle.ms_elide.specs.Needed.{row_needs, block_rows}
use Rattle.ms_elide.proofs.needs.needs_of.Given as goal

abbrev pub invariant-loop-block : goal.invariant-loop-block
invariant-loop-block l =
    l.needs.items ≡ l.initial.needs.items ++ map (row_needs (first_place l.scope.locals.now) (first_place l.scope.functions.now)) (flat_map block_rows (take l.block-index l.func.blocks))
