use Rattle.std.proofs.Common.{◌≡◌, ◌+◌, ◌-◌, true, ap, sym, ◌∙◌, arith, drop, rules}
use Rattle.std.specs.Prelude.{nat_eq, not}
use Rattle.std.specs.List.{list_any}
use Rattle.std.specs.Ordering.{nat_cmp}
use Rattle.std.specs.BTreeSet.{contains}
use Rattle.ms_check_types.proofs.Cases.{case_again, was_there}
use Rattle.ms_check_types.proofs.jumps.differ.Goals as goal

added : (c : goal.After-drop-later-then-not-branch) → c.in_ok-insert.field-0 ≡ not (contains nat_cmp c.loop-place.later c.index-cases-place.result.0)
added c = search rules

pub returns-then-not-branch : goal.returns-then-not-branch
returns-then-not-branch c =
    let l = c.loop-place in
    let x = c.index-cases-place.result in
    let back : l.place - 1 + 1 ≡ l.place = omega arith in
    let there : contains nat_cmp l.later x.0 ≡ true = was_there c.in_ok-insert.field-0 (contains nat_cmp l.later x.0) (added c) c.if-not-branch.true in
    case_again c.args.cases.now (l.place - 1) x (omega arith) c.index-cases-place.is
    (ap (λ n. list_any (λ other. nat_eq other.0 x.0) (drop n c.args.cases.now)) back ∙ sym (l.invariant.seen x.0) ∙ there)
