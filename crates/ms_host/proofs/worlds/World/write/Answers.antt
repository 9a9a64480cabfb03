use Rattle.std.proofs.Common.{◌∙◌, ◌+◌, ◌≤◌, arith, refl, sym, subst, length}
use Rattle.std.proofs.lemmas.Bool.{eq-eqb, ne_eqb}
use Rattle.ms_bits.specs.Maps.{bytes_at}
use Rattle.ms_runs.specs.World.{Gives}
use Rattle.ms_host.specs.declared.calls.Answer.{Answer}
use Rattle.ms_host.specs.Answers.{Answered, write_of}
use Rattle.ms_host.proofs.StringSteps.{length-bytes}
use Rattle.ms_host.proofs.Effects.{good-then, bad-then, on-yes, on-no, printed-then, printed-full, no-room}
use Rattle.ms_host.proofs.worlds.World.write.Goals as goal

pub returns-then-not-covers-clause-answered : goal.returns-then-not-covers-clause-answered
returns-then-not-covers-clause-answered c = λ beside world shows.
    subst (λ (a : Answer). Answered beside (write_of c.args.site c.args.to c.args.addr c.args.n world) a c.args.self.now) (sym c.trap.ensures)
    (bad-then beside world c.args.site c.args.addr c.args.n c.args.self.now _ (sym (c.covers.ensures.good beside world shows) ∙ c.if-not-covers.true) shows)

pub returns-then-to-ne1-clause-answered : goal.returns-then-to-ne1-clause-answered
returns-then-to-ne1-clause-answered c = λ beside world shows.
    good-then beside _ world c.args.site c.args.addr c.args.n c.args.self.now _ (sym (c.covers.ensures.good beside world shows) ∙ c.if-not-covers.false)
    (on-no beside _ c.args.self.now _ _ _ (ne_eqb c.args.to 1 c.if-to-ne1.true) (refl, shows))

pub print_range-requires : goal.print_range-requires
print_range-requires c = sym c.covers.ensures.table ∙ c.if-not-covers.false

pub returns-in_ok-print_range-clause-answered : goal.returns-in_ok-print_range-clause-answered
returns-in_ok-print_range-clause-answered c = λ beside world shows.
    let room : length world.output + c.args.n ≤ 1048576 = (c.has_room.ensures beside world shows).0 c.if-has_room.true in
    good-then beside _ world c.args.site c.args.addr c.args.n c.print_range.new.self _ (sym (c.covers.ensures.good beside world shows) ∙ c.if-not-covers.false)
    (on-yes beside _ c.print_range.new.self _ _ _ (eq-eqb c.args.to 1 c.if-to-ne1.false)
    (printed-then beside _ world c.args.site (bytes_at world.bytes c.args.addr c.args.n) (Gives c.args.n) c.print_range.new.self (omega (arith, room, length-bytes world.bytes c.args.addr c.args.n))
    (refl, c.in_ok-print_range.ensures.printed beside world shows)))

pub returns-else-has_room-clause-answered : goal.returns-else-has_room-clause-answered
returns-else-has_room-clause-answered c = λ beside world shows.
    let full : ¬ (length world.output + c.args.n ≤ 1048576) = no-room c.has_room.result _ c.if-has_room.false (c.has_room.ensures beside world shows).1 in
    subst (λ (a : Answer). Answered beside (write_of c.args.site c.args.to c.args.addr c.args.n world) a c.args.self.now) (sym c.trap-else-has_room.ensures)
    (good-then beside _ world c.args.site c.args.addr c.args.n c.args.self.now _ (sym (c.covers.ensures.good beside world shows) ∙ c.if-not-covers.false)
    (on-yes beside _ c.args.self.now _ _ _ (eq-eqb c.args.to 1 c.if-to-ne1.false)
    (printed-full beside world c.args.site (bytes_at world.bytes c.args.addr c.args.n) (Gives c.args.n) c.args.self.now (omega (arith, full, length-bytes world.bytes c.args.addr c.args.n)) shows)))
