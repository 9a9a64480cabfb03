use Rattle.std.proofs.Common.{◌<◌, sym, ap, ◌∙◌, arith, length, refl, slice_index}
use Rattle.std.proofs.lemmas.Option.{slice_get_read}
use Rattle.ms_ir.specs.declared.syntax.Name.{Name}
use Rattle.ms_ir.specs.declared.syntax.Operand.{Operand}
use Rattle.ms_ir.specs.Equal.{operand_eq}
use Rattle.ms_check_flow.proofs.Agreeing.{AgreesWithLast, agree_more, last_more, compared}
use Rattle.ms_check_flow.proofs.phis.operands_agree.Goals as goal
use Rattle.ms_check_flow.proofs.phis.operands_agree.Goals.{else-other-place-via-then-other-place+then-numbers-other+else-not-same_operand, else-other-place-via-then-other-place+else-numbers-other, else-other-place-via-else-other-place}

pub loop-place-preserved : goal.loop-place-preserved
loop-place-preserved c =
    let edges = c.args.edges.now in
    let numbers = c.args.numbers.now in
    let i = c.loop-place.place in
    let last = c.loop-place.last in
    let e = c.index-edges-place.result in
    let here = slice_get_read edges (length edges) i e refl c.loop-place-test.true c.index-edges-place.is in
    let below : slice_index numbers i < length last = omega (arith, c.requires.below i 0 (omega (arith, c.requires.len, c.loop-place-test.true)), c.loop-place.auto.last) in
    let checked : AgreesWithLast i edges numbers last e.0 =
    elim c.else-other-place.branch [
      | else-other-place-via-then-other-place+then-numbers-other+else-not-same_operand w ↦
          compared edges numbers last i e.0 w.index-edges-other.result w.same_operand.result w.index-edges-other.is (w.same_operand.ensures ∙ ap (λ (z : Operand × Name). operand_eq e.0 z.0) (sym w.index-edges-other.is)) w.if-not-same_operand.false
      | else-other-place-via-then-other-place+else-numbers-other w ↦ λ l same d at. absurd (w.if-numbers-other.false same)
      | else-other-place-via-else-other-place w ↦ λ l same d at. absurd (omega (arith, l, w.if-other-place.false))
    ] in
    record {
      agree = agree_more edges numbers last i e c.loop-place-test.true here c.loop-place.invariant.agree c.loop-place.invariant.last checked;
      last = last_more numbers last i below c.loop-place.invariant.last;
    }
