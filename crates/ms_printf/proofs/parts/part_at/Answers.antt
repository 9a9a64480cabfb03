use Rattle.std.proofs.Common.{◌≡◌, ◌≤◌, ◌+◌, ◌-◌, ◌∙◌, sym, arith}
use Rattle.ms_host.proofs.Liveness.{part-live, range-live}
use Rattle.ms_host.proofs.Tables.{shorter-live}
use Rattle.ms_printf.proofs.InMemory.{at_plain}
use Rattle.ms_printf.proofs.parts.part_at.Goals as goal

pub byte-requires : goal.byte-requires
byte-requires c = shorter-live c.args.world.now.planes.table c.args.addr c.args.left 1 (omega (arith, c.requires.some)) c.requires.rest.live

pub returns-then-byte-eq37-clause-value : goal.returns-then-byte-eq37-clause-value
returns-then-byte-eq37-clause-value c beside meant shows = c.directive_at.ensures.value beside meant shows (sym (c.byte.ensures beside meant shows) ∙ c.if-byte-eq37.true)

pub plain_length-len-requires : goal.plain_length-len-requires
plain_length-len-requires c = record {
  live = range-live c.args.world.now.planes.table c.args.addr c.args.left 1 (c.args.left - 1) c.requires.rest.live (omega (arith, c.requires.some));
  low = omega (arith, c.requires.some, c.requires.rest.low);
}

pub returns-clause-value : goal.returns-clause-value
returns-clause-value c beside meant shows =
    at_plain meant.bytes c.args.addr c.args.left c.plain_length-len.result c.requires.some (λ e. c.if-byte-eq37.false (c.byte.ensures beside meant shows ∙ e)) (c.plain_length-len.ensures.value beside meant shows) (omega (arith, c.plain_length-len.ensures.within, c.requires.some))

pub returns-clause-fits : goal.returns-clause-fits
returns-clause-fits c =
    let within : 1 + c.plain_length-len.result ≤ c.args.left = omega (arith, c.plain_length-len.ensures.within, c.requires.some) in
    (omega arith, within, shorter-live c.args.world.now.planes.table c.args.addr c.args.left (1 + c.plain_length-len.result) within c.requires.rest.live)
