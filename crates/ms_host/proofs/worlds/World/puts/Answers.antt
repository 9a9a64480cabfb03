use Rattle.std.proofs.Common.{arith, sym, subst}
use Rattle.ms_host.specs.declared.calls.Answer.{Answer}
use Rattle.ms_host.specs.Answers.{Answered, puts_of}
use Rattle.ms_host.proofs.Effects.{puts-bad, puts-full, puts-then, no-room}
use Rattle.ms_host.proofs.worlds.World.puts.Goals as goal

pub returns-in_default-clause-answered : goal.returns-in_default-clause-answered
returns-in_default-clause-answered c = λ beside world shows.
    subst (λ (a : Answer). Answered beside (puts_of c.args.site c.args.addr world) a c.args.self.now) (sym c.trap.ensures)
    (puts-bad beside world c.args.site c.args.addr c.args.self.now (c.in_default.ensures.string beside world shows) shows)

pub overflow_add-n : goal.overflow_add-n
overflow_add-n c = omega (arith, c.in-Some.ensures.short)

pub returns-in_ok-print_byte-clause-answered : goal.returns-in_ok-print_byte-clause-answered
returns-in_ok-print_byte-clause-answered c = λ beside world shows.
    puts-then beside world c.args.site c.args.addr c.in-Some.n c.print_byte.new.self (c.in-Some.ensures.string beside world shows) ((c.has_room.ensures beside world shows).0 c.if-has_room.true)
    (c.in_ok-print_byte.ensures.printed beside _ (c.in_ok-print_range.ensures.printed beside world shows))

pub returns-else-has_room-clause-answered : goal.returns-else-has_room-clause-answered
returns-else-has_room-clause-answered c = λ beside world shows.
    subst (λ (a : Answer). Answered beside (puts_of c.args.site c.args.addr world) a c.args.self.now) (sym c.trap-else-has_room.ensures)
    (puts-full beside world c.args.site c.args.addr c.in-Some.n c.args.self.now (c.in-Some.ensures.string beside world shows) (no-room c.has_room.result _ c.if-has_room.false (c.has_room.ensures beside world shows).1) shows)
