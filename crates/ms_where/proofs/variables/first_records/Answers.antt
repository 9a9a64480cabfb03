use Rattle.ms_where_places.specs.declared.marks.MarkKind.TheVariants.{Function}
use Rattle.ms_where_places.specs.declared.marks.Mark.{Mark}
use Rattle.ms_where.proofs.Noting.{first_next}
use Rattle.ms_where.proofs.variables.first_records.Goals as goal

-- what is read past the last mark
abbrev past : Mark
past = record { kind = Function; first = 0; after = 0 }

pub loop-place-preserved : goal.loop-place-preserved
loop-place-preserved c =
    first_next c.args.marked.now c.marks-marks.result.now c.loop-place.place c.loop-place.function c.function_after-function.result past
    c.loop-place.records c.note_mark.new.records c.marks-marks.ensures c.loop-place-test.true
    c.loop-place.invariant.0 c.loop-place.invariant.1 c.in_ok-note_mark.ensures c.function_after-function.ensures
