use Rattle.std.proofs.Common.{◌≡◌, ◌<◌, ◌≤◌, ◌+◌, ◌-◌, ◌∙◌, ℕ, List, Some, sym, subst, arith}
use Rattle.ms_bits.specs.Maps.{bytes_at}
use Rattle.ms_printf.specs.Walks.{BeginsWith, FitsRest, IsPart}
use Rattle.ms_printf.proofs.Numbered.{none_left, bad_left, asked_here, asked_later}
use Rattle.ms_printf.proofs.Steps.{rest_after}
use Rattle.ms_printf.proofs.asking.asks_within.Goals as goal

pub returns-in_default : goal.returns-in_default
returns-in_default c beside meant shows =
    sym (c.parts.invariant.same beside meant shows ∙ bad_left (bytes_at meant.bytes c.parts.addr c.parts.left) c.parts.number (c.in_default.ensures.value beside meant shows))

pub returns-then-number-eq0 : goal.returns-then-number-eq0
returns-then-number-eq0 c beside meant shows =
    let fits : (0 < c.in-Some.len) × (c.in-Some.len ≤ c.parts.left) × IsPart c.args.world.now.planes.table c.in-Some.part = subst (FitsRest c.args.world.now.planes.table c.parts.left) c.in-Some.is c.part_at.ensures.fits in
    let begins : BeginsWith meant c.parts.addr c.parts.left (Some (c.in-Some.part, c.in-Some.len)) = subst (BeginsWith meant c.parts.addr c.parts.left) c.in-Some.is (c.part_at.ensures.value beside meant shows) in
    c.is_string.ensures
    ∙ sym (c.parts.invariant.same beside meant shows
    ∙ asked_here c.args.world.now.planes.table meant c.in-Some.part (bytes_at meant.bytes c.parts.addr c.parts.left) (bytes_at meant.bytes (c.parts.addr + c.in-Some.len) (c.parts.left - c.in-Some.len)) c.parts.number c.number_after-number.result
    fits.2 begins c.parts.invariant.some c.number_after-number.ensures c.if-number-eq0.true)

pub parts-preserved-else-number-eq0-2 : goal.parts-preserved-else-number-eq0-2
parts-preserved-else-number-eq0-2 c =
    let fits : (0 < c.in-Some.len) × (c.in-Some.len ≤ c.parts.left) × IsPart c.args.world.now.planes.table c.in-Some.part = subst (FitsRest c.args.world.now.planes.table c.parts.left) c.in-Some.is c.part_at.ensures.fits in
    let some : 0 < c.number_after-number.result = omega (arith, c.if-number-eq0.false) in
    record {
      rest = rest_after c.args.world.now.planes.table c.parts.addr c.parts.left c.in-Some.len c.parts.invariant.rest fits.1;
      some = some;
      same = λ beside meant shows.
          let begins : BeginsWith meant c.parts.addr c.parts.left (Some (c.in-Some.part, c.in-Some.len)) = subst (BeginsWith meant c.parts.addr c.parts.left) c.in-Some.is (c.part_at.ensures.value beside meant shows) in
          c.parts.invariant.same beside meant shows
          ∙ asked_later c.args.world.now.planes.table meant c.in-Some.part (bytes_at meant.bytes c.parts.addr c.parts.left) (bytes_at meant.bytes (c.parts.addr + c.in-Some.len) (c.parts.left - c.in-Some.len)) c.parts.number c.number_after-number.result
          fits.2 begins c.number_after-number.ensures some;
    }

pub parts-preserved : goal.parts-preserved
parts-preserved c =
    let fits : (0 < c.in-Some.len) × (c.in-Some.len ≤ c.parts.left) × IsPart c.args.world.now.planes.table c.in-Some.part = subst (FitsRest c.args.world.now.planes.table c.parts.left) c.in-Some.is c.part_at.ensures.fits in
    let some : 0 < c.number_after-number.result = omega (arith, c.if-number-eq0.false) in
    record {
      rest = rest_after c.args.world.now.planes.table c.parts.addr c.parts.left c.in-Some.len c.parts.invariant.rest fits.1;
      some = some;
      same = λ beside meant shows.
          let begins : BeginsWith meant c.parts.addr c.parts.left (Some (c.in-Some.part, c.in-Some.len)) = subst (BeginsWith meant c.parts.addr c.parts.left) c.in-Some.is (c.part_at.ensures.value beside meant shows) in
          c.parts.invariant.same beside meant shows
          ∙ asked_later c.args.world.now.planes.table meant c.in-Some.part (bytes_at meant.bytes c.parts.addr c.parts.left) (bytes_at meant.bytes (c.parts.addr + c.in-Some.len) (c.parts.left - c.in-Some.len)) c.parts.number c.number_after-number.result
          fits.2 begins c.number_after-number.ensures some;
    }

pub returns : goal.returns
returns c beside meant shows =
    sym (c.parts.invariant.same beside meant shows ∙ none_left meant.bytes c.parts.addr c.parts.left c.parts.number (omega (arith, c.parts-test.false)))
