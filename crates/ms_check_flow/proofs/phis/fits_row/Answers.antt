use Rattle.std.proofs.Common.{◌<◌, ℕ, List, All, length, refl, sym, ap, subst, ◌∙◌, true≢false}
use Rattle.ms_check_flow.specs.Counted.{count_of}
use Rattle.ms_check_flow.specs.Fitting.{Agree}
use Rattle.ms_check_flow.proofs.phis.fits_row.Goals as goal

pub returns-then-not-same_counts-clause-is : goal.returns-then-not-same_counts-clause-is
returns-then-not-same_counts-clause-is c =
    let labels = c.as_slice-labels.ensures.value ∙ c.in_ok-put_labels.ensures in
    ((λ e. absurd (true≢false (sym e))), (λ w. c.if-not-same_counts.ensures.is.1 (λ k. ap (count_of k) labels ∙ w.counts k ∙ ap (count_of k) (sym c.at.ensures))))

pub returns-clause-is : goal.returns-clause-is
returns-clause-is c =
    let size = length c.args.into.now.arrivals in
    let labels = c.as_slice-labels.ensures.value ∙ c.in_ok-put_labels.ensures in
    let low = subst (λ (m : ℕ). All (λ n. n < m) c.as_slice-labels.result.now) c.len.ensures (c.if-not-all_below.ensures.0 refl) in (
      (λ e. record {
        known = subst (λ (xs : List ℕ). All (λ n. n < size) xs) labels low;
        counts = λ k. ap (count_of k) (sym labels) ∙ c.if-not-same_counts.ensures.is.0 refl k ∙ ap (count_of k) c.at.ensures;
        agree = subst (Agree c.args.edges.now) labels (c.operands_agree.ensures.0 e);
      }),
      (λ w. c.operands_agree.ensures.1 (subst (Agree c.args.edges.now) (sym labels) w.agree)),
    )
