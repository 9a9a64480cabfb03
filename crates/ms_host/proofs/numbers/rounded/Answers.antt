use Rattle.std.proofs.Common.{◌≡◌, ◌≤◌, ◌+◌, ◌*◌, ◌/◌, ◌^◌, ◌∙◌, ℕ, ap, arith, sym}
use Rattle.std.proofs.Math.Nat.{div-mul-le_self}
use Rattle.ms_ir.specs.Layout.{round_up}
use Rattle.ms_ir.proofs.Sizes.{rounded_near}
use Rattle.ms_host.proofs.KeptNumbers.{reaches-some, reaches-none, reaches-sum, round-even, round-odd}
use Rattle.ms_host.proofs.numbers.rounded.Goals as goal

pub returns-in_default : goal.returns-in_default
returns-in_default c = λ n r.
    let far : 2 ^ 64 ≤ n = reaches-none c.args.a n c.in_default.is r in
    let near : n ≤ round_up n c.args.align = (rounded_near n c.args.align c.requires).0 in
    omega (arith, far, near)

pub overflow_mul-down : goal.overflow_mul-down
overflow_mul-down c = omega (arith, div-mul-le_self c.in-Some.x c.args.align)

pub returns-then-down-x : goal.returns-then-down-x
returns-then-down-x c = λ n r.
    let x : c.in-Some.x ≡ n = reaches-some c.args.a c.in-Some.x n c.in-Some.is r in
    sym (round-even c.in-Some.x c.args.align c.requires c.if-down-x.true) ∙ ap (λ (k : ℕ). round_up k c.args.align) x

pub returns : goal.returns
returns c = λ n r.
    let x : c.in-Some.x ≡ n = reaches-some c.args.a c.in-Some.x n c.in-Some.is r in
    reaches-sum c.checked_add.result (c.in-Some.x / c.args.align * c.args.align + c.args.align) (round_up n c.args.align)
    (sym (round-odd c.in-Some.x c.args.align c.requires c.if-down-x.false) ∙ ap (λ (k : ℕ). round_up k c.args.align) x) c.checked_add.ensures
