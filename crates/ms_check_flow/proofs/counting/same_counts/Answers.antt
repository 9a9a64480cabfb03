use Rattle.std.proofs.Common.{ℕ, sym, slice_index, true≢false}
use Rattle.ms_check_flow.proofs.Counts.{same_length, taken_all, none_left}
use Rattle.ms_check_flow.proofs.counting.same_counts.Goals as goal

pub returns-then-numbers-others-clause-is : goal.returns-then-numbers-others-clause-is
returns-then-numbers-others-clause-is c =
    ((λ e. absurd (true≢false (sym e))), (λ h. absurd (c.if-numbers-others.true (same_length c.args.numbers.now c.args.others.now h))))

pub returns-clause-is : goal.returns-clause-is
returns-clause-is c =
    taken_all c.take_off.result c.args.numbers.now c.args.others.now (λ (k : ℕ). slice_index c.count_all.new.due k) (λ (k : ℕ). slice_index c.take_off.new.due k)
    c.count_all.ensures c.take_off.ensures.enough c.take_off.ensures.short c.if-numbers-others.false

pub returns-clause-clear : goal.returns-clause-clear
returns-clause-clear c =
    λ t. none_left c.args.numbers.now c.args.others.now (λ (k : ℕ). slice_index c.count_all.new.due k) (λ (k : ℕ). slice_index c.take_off.new.due k)
    c.count_all.ensures (c.take_off.ensures.enough t) c.if-numbers-others.false
