use Rattle.std.proofs.Common.{ℕ, true, false, get_or, subst, below_more, set, refl, sym, ◌∙◌, arith}
use Rattle.std.proofs.lemmas.Bool.{true≢false}
use Rattle.std.proofs.lemmas.List.{get_or_default}
use Rattle.ms_flow.proofs.Answered.{Judged, flag_kept, judged_kept, right_set}
use Rattle.ms_flow.proofs.States.{get_set_same}
use Rattle.ms_flow.proofs.dataflow.judge.Goals as goal
use Rattle.ms_flow.proofs.dataflow.judge.Goals.{then-arrives, else-arrives}

pub loop-which-preserved : goal.loop-which-preserved
loop-which-preserved c =
    let uses = c.args.uses.now in
    let values = c.args.values.now in
    let kills = c.args.kills.now in
    let words = c.args.words.now in
    let flags = c.loop-which.undefined in
    let k = c.loop-which.which-index in
    let which = (get_or c.args.questions.now k (0, 0)).1 in
    let a = c.arrives.ensures in
    let h = c.loop-which.invariant in
    let small = c.requires.places k (0, 0) c.loop-which-test.true in
    elim c.if-arrives.branch [
      | then-arrives w ↦ rw w.undefined-is record {
        marked = below_more (λ j. Judged uses values kills words (set flags which true) (get_or c.args.questions.now j (0, 0)).1) k
            (λ j lt. judged_kept uses values kills words flags (set flags which true) _ (flag_kept flags which _ (omega arith)) (h.marked j lt))
            (a.0, a.1, λ l. get_set_same flags which which true false (omega arith) refl);
        kept = λ j on. flag_kept flags which j (omega arith) (h.kept j on);
        right = λ j on. right_set uses values kills words c.args.undefined.now flags which j h.right (a.0, a.1, a.2.0 w.if-arrives.true) on;
      }
      | else-arrives w ↦ rw w.undefined-is record {
        marked = below_more (λ j. Judged uses values kills words flags (get_or c.args.questions.now j (0, 0)).1) k h.marked
            (a.0, a.1, λ l. absurd (true≢false (sym (a.2.1 l) ∙ w.if-arrives.false)));
        kept = h.kept;
        right = h.right;
      }
    ]

pub returns-clause-marked : goal.returns-clause-marked
returns-clause-marked c k d lt =
    let P : ℕ × ℕ → Type 0 = λ q. Judged c.args.uses.now c.args.values.now c.args.kills.now c.args.words.now c.loop-which.undefined q.1 in
    subst P (get_or_default c.args.questions.now k (0, 0) d lt) (c.loop-which.invariant.marked k (omega arith))
