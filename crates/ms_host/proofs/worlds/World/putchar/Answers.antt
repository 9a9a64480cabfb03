use Rattle.std.proofs.Common.{◌+◌, ◌<◌, ◌≤◌, ◌∷◌, [], arith, sym, subst, length}
use Rattle.ms_runs.specs.World.{Gives}
use Rattle.ms_runs.specs.Externals.{printed}
use Rattle.ms_host.specs.declared.calls.Answer.{Answer}
use Rattle.ms_host.specs.Answers.{Answered}
use Rattle.ms_host.proofs.Effects.{printed-then, printed-full, no-room}
use Rattle.ms_host.proofs.worlds.World.putchar.Goals as goal

pub returns-in_ok-print_byte-clause-answered : goal.returns-in_ok-print_byte-clause-answered
returns-in_ok-print_byte-clause-answered c = λ beside world shows.
    printed-then beside _ world c.args.site (c.args.byte ∷ []) (Gives c.args.byte) c.print_byte.new.self ((c.has_room.ensures beside world shows).0 c.if-has_room.true)
    (c.from.ensures, c.in_ok-print_byte.ensures.printed beside world shows)

pub returns-else-has_room-clause-answered : goal.returns-else-has_room-clause-answered
returns-else-has_room-clause-answered c = λ beside world shows.
    let full : ¬ (length world.output + 1 ≤ 1048576) = no-room c.has_room.result _ c.if-has_room.false (c.has_room.ensures beside world shows).1 in
    subst (λ (a : Answer). Answered beside (printed c.args.site (c.args.byte ∷ []) (Gives c.args.byte) world) a c.args.self.now) (sym c.trap.ensures)
    (printed-full beside world c.args.site (c.args.byte ∷ []) (Gives c.args.byte) c.args.self.now (let e : 1048576 < length world.output + 1 = omega (arith, full) in e) shows)
