use Rattle.std.proofs.Common.{◌≡◌, ℕ, length, ap, subst, arith}
use Rattle.ms_where_places.specs.declared.marks.MarkKind.TheVariants.{Function}
use Rattle.ms_where_places.specs.declared.marks.Mark.{Mark}
use Rattle.ms_where.proofs.VariableTables.{IsTableOf, table_next, table_whole}
use Rattle.ms_where.proofs.variables.all_records.Goals as goal

-- what is read past the last mark
abbrev past : Mark
past = record { kind = Function; first = 0; after = 0 }

pub loop-mark-preserved : goal.loop-mark-preserved
loop-mark-preserved c =
    table_next c.args.marked.now c.marks-marks.result.now c.loop-mark.mark-index c.loop-mark.function c.function_after-function.result past
    c.loop-mark.records.items c.push.new.self.items c.record_for.result c.marks-marks.ensures c.loop-mark-test.true
    c.loop-mark.invariant.0 c.loop-mark.invariant.1 c.record_for.ensures c.in_ok-push.ensures.items c.function_after-function.ensures

pub returns : goal.returns
returns c =
    let all : c.loop-mark.mark-index ≡ length c.args.marked.now.marks = omega (arith, ap length c.marks-marks.ensures) in
    table_whole c.args.marked.now c.loop-mark.records.items
    (subst (λ (n : ℕ). IsTableOf c.args.marked.now n c.loop-mark.records.items) all c.loop-mark.invariant.0)
