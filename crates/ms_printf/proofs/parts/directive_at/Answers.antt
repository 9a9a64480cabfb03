use Rattle.std.proofs.Common.{◌≡◌, ◌≢◌, ◌≤◌, ◌∙◌, ℕ, Some, None, sym, subst, arith}
use Rattle.ms_runs.specs.Formats.{letters, long_letters, lettered}
use Rattle.ms_host.proofs.Liveness.{part-live}
use Rattle.ms_printf.proofs.InMemory.{ends_at, ends_long, at_percent, at_letter, no_letter, at_long, no_long}
use Rattle.ms_printf.proofs.parts.directive_at.Goals as goal

pub byte-letter-requires : goal.byte-letter-requires
byte-letter-requires c = part-live c.args.world.now.planes.table c.args.addr c.args.left 1 c.requires.rest.live (omega (arith, c.requires.some, c.if-left-eq1.false))

pub returns-then-left-eq1-clause-value : goal.returns-then-left-eq1-clause-value
returns-then-left-eq1-clause-value c beside meant shows is = ends_at meant.bytes c.args.addr c.args.left c.if-left-eq1.true is

pub returns-then-letter-eq37-clause-value : goal.returns-then-letter-eq37-clause-value
returns-then-letter-eq37-clause-value c beside meant shows is =
    at_percent meant.bytes c.args.addr c.args.left (omega (arith, c.requires.some, c.if-left-eq1.false)) is (sym (c.byte-letter.ensures beside meant shows) ∙ c.if-letter-eq37.true)

pub returns-then-letter-eq37-clause-fits : goal.returns-then-letter-eq37-clause-fits
returns-then-letter-eq37-clause-fits c =
    let two : 2 ≤ c.args.left = omega (arith, c.requires.some, c.if-left-eq1.false) in
    (omega arith, two, part-live c.args.world.now.planes.table c.args.addr c.args.left 1 c.requires.rest.live (omega (arith, two)))

pub returns-in-Some-clause-value : goal.returns-in-Some-clause-value
returns-in-Some-clause-value c beside meant shows is =
    let byte = c.byte-letter.ensures beside meant shows in
    at_letter meant.bytes c.args.addr c.args.left c.in-Some.piece (omega (arith, c.requires.some, c.if-left-eq1.false)) is (λ e. c.if-letter-ne108.true (byte ∙ e))
    (subst (λ (b : ℕ). lettered letters b ≡ Some c.in-Some.piece) byte (sym (c.short.ensures.value c.if-letter-eq37.false) ∙ c.in-Some.is))

pub returns-in-None-clause-value : goal.returns-in-None-clause-value
returns-in-None-clause-value c beside meant shows is =
    let byte = c.byte-letter.ensures beside meant shows in
    no_letter meant.bytes c.args.addr c.args.left (omega (arith, c.requires.some, c.if-left-eq1.false)) is (λ e. c.if-letter-ne108.true (byte ∙ e))
    (subst (λ (b : ℕ). lettered letters b ≡ None) byte (sym (c.short.ensures.value c.if-letter-eq37.false) ∙ c.in-None.is))

pub returns-then-left-eq2-clause-value : goal.returns-then-left-eq2-clause-value
returns-then-left-eq2-clause-value c beside meant shows is =
    ends_long meant.bytes c.args.addr c.args.left c.if-left-eq2.true is (sym (c.byte-letter.ensures beside meant shows) ∙ c.if-letter-ne108.false)

pub byte-requires : goal.byte-requires
byte-requires c = part-live c.args.world.now.planes.table c.args.addr c.args.left 2 c.requires.rest.live (omega (arith, c.requires.some, c.if-left-eq1.false, c.if-left-eq2.false))

pub returns-in-Some-long-clause-value : goal.returns-in-Some-long-clause-value
returns-in-Some-long-clause-value c beside meant shows is =
    at_long meant.bytes c.args.addr c.args.left c.in-Some-long.piece (omega (arith, c.requires.some, c.if-left-eq1.false, c.if-left-eq2.false)) is (sym (c.byte-letter.ensures beside meant shows) ∙ c.if-letter-ne108.false)
    (subst (λ (b : ℕ). lettered long_letters b ≡ Some c.in-Some-long.piece) (c.byte.ensures beside meant shows) (sym c.long.ensures.value ∙ c.in-Some-long.is))

pub returns-in-None-long-clause-value : goal.returns-in-None-long-clause-value
returns-in-None-long-clause-value c beside meant shows is =
    no_long meant.bytes c.args.addr c.args.left (omega (arith, c.requires.some, c.if-left-eq1.false, c.if-left-eq2.false)) is (sym (c.byte-letter.ensures beside meant shows) ∙ c.if-letter-ne108.false)
    (subst (λ (b : ℕ). lettered long_letters b ≡ None) (c.byte.ensures beside meant shows) (sym c.long.ensures.value ∙ c.in-None-long.is))
