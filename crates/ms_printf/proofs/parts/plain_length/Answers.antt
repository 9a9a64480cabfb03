use Rattle.std.proofs.Common.{◌∙◌, sym, arith}
use Rattle.ms_host.proofs.Liveness.{part-live}
use Rattle.ms_printf.proofs.InMemory.{plain_begin, plain_next, plain_here, plain_end}
use Rattle.ms_printf.proofs.parts.plain_length.Goals as goal

pub byte-requires : goal.byte-requires
byte-requires c = part-live c.args.world.now.planes.table c.args.addr c.args.left c.loop-n.n c.requires.live c.loop-n-test.true

pub loop-n-init : goal.loop-n-init
loop-n-init c beside meant shows = plain_begin meant.bytes c.args.addr c.args.left

pub loop-n-preserved : goal.loop-n-preserved
loop-n-preserved c beside meant shows =
    plain_next meant.bytes c.args.addr c.loop-n.n c.args.left c.loop-n-test.true (λ e. c.if-byte-eq37.false (c.byte.ensures beside meant shows ∙ e)) (c.loop-n.invariant beside meant shows)

pub returns-then-byte-eq37-clause-value : goal.returns-then-byte-eq37-clause-value
returns-then-byte-eq37-clause-value c beside meant shows =
    plain_here meant.bytes c.args.addr c.loop-n.n c.args.left c.loop-n-test.true (sym (c.byte.ensures beside meant shows) ∙ c.if-byte-eq37.true) (c.loop-n.invariant beside meant shows)

pub returns-clause-value : goal.returns-clause-value
returns-clause-value c beside meant shows =
    plain_end meant.bytes c.args.addr c.loop-n.n c.args.left (omega (arith, c.loop-n-test.false, c.loop-n.auto.n-end)) (c.loop-n.invariant beside meant shows)
