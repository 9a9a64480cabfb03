use Rattle.std.proofs.Common.{sym, ap}
use Rattle.ms_trail_moves.specs.declared.moves.Source.TheVariants.{Byte}
use Rattle.ms_trail_bytes.specs.Spans.{source_in}
use Rattle.ms_trail_bytes.proofs.spans.byte_source.Goals as goal

pub returns-then-copied : goal.returns-then-copied
returns-then-copied c = sym (ap (λ b. source_in (Byte c.args.addr) b c.args.k) c.if-copied.true)

pub returns-else-copied : goal.returns-else-copied
returns-else-copied c = sym (ap (λ b. source_in (Byte c.args.addr) b c.args.k) c.if-copied.false)
