use Rattle.std.proofs.Common.{◌≡◌, ◌≤◌, ◌+◌, ◌^◌, arith}
use Rattle.ms_host.proofs.KeptNumbers.{reaches-some, reaches-none, reaches-sum}
use Rattle.ms_host.proofs.numbers.sum.Goals as goal

pub returns-in_default : goal.returns-in_default
returns-in_default c = λ m n r s. let far : 2 ^ 64 ≤ m = reaches-none c.args.a m c.in_default.is r in omega (arith, far)

pub returns-in_default-b : goal.returns-in_default-b
returns-in_default-b c = λ m n r s. let far : 2 ^ 64 ≤ n = reaches-none c.args.b n c.in_default-b.is s in omega (arith, far)

pub returns : goal.returns
returns c = λ m n r s.
    let x : c.in-Some.x ≡ m = reaches-some c.args.a c.in-Some.x m c.in-Some.is r in
    let y : c.in-Some-b.y ≡ n = reaches-some c.args.b c.in-Some-b.y n c.in-Some-b.is s in
    reaches-sum c.checked_add.result (c.in-Some.x + c.in-Some-b.y) (m + n) (omega (arith, x, y)) c.checked_add.ensures
