use Rattle.std.proofs.Common.{◌<◌, List, ℕ, refl, All, subst, arith}
use Rattle.std.proofs.lemmas.List.{take_all}
use Rattle.std.proofs.lemmas.List.Elements.{All-more}
use Rattle.ms_check_flow.proofs.phis.all_below.Goals as goal

pub loop-number-preserved : goal.loop-number-preserved
loop-number-preserved c = All-more (λ n. n < c.args.len) c.args.numbers.now c.loop-number.number-index 0 c.loop-number-test.true c.loop-number.invariant c.if-number-len.false

pub returns : goal.returns
returns c =
    ((λ e. subst (λ (xs : List ℕ). All (λ n. n < c.args.len) xs) (take_all c.loop-number.number-index c.args.numbers.now (omega arith)) c.loop-number.invariant), (λ h. refl))
