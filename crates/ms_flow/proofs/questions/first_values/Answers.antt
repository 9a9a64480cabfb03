use Rattle.std.proofs.Common.{get_or, arith}
use Rattle.ms_flow.proofs.Members.{contained, values_more, values_push}
use Rattle.ms_flow.proofs.questions.first_values.Goals as goal
use Rattle.ms_flow.proofs.questions.first_values.Goals.{then-not-contains+else-len-eq64+in_ok-push, else-not-contains}

pub loop-count-preserved : goal.loop-count-preserved
loop-count-preserved c =
    let questions = c.args.questions.now in
    let k = c.loop-count.count in
    elim c.if-not-contains.branch [
      | then-not-contains+else-len-eq64+in_ok-push w ↦
          rw w.values-is record {
            few = omega (arith, w.in_ok-push.ensures.len, w.len.ensures, w.if-len-eq64.false, c.loop-count.invariant.few);
            fewer = omega (arith, w.in_ok-push.ensures.len, c.loop-count.invariant.fewer);
            values = rw w.in_ok-push.ensures.items (values_push questions c.loop-count.values.items k c.loop-count.invariant.values);
          }
      | else-not-contains w ↦ rw w.values-is record {
        few = c.loop-count.invariant.few;
        fewer = omega (arith, c.loop-count.invariant.fewer);
        values = values_more questions c.loop-count.values.items k c.loop-count.invariant.values
            ((contained c.loop-count.values.items (get_or questions k (0, 0)).0 c.contains.result (rw c.deref.ensures.value at c.contains.ensures.cases)).0 w.if-not-contains.false);
      }
    ]
