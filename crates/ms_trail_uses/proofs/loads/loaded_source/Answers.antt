use Rattle.std.proofs.Common.{ap, ◌∙◌}
use Rattle.ms_trail_uses.specs.Used.{byte_used}
use Rattle.ms_trail_uses.proofs.Uses.{range_source}
use Rattle.ms_trail_uses.proofs.loads.loaded_source.Goals as goal

pub returns-then-mask-eq0 : goal.returns-then-mask-eq0
returns-then-mask-eq0 c = λ beside meant shows good some. absurd (some c.if-mask-eq0.true)

pub returns : goal.returns
returns c = λ beside meant shows good some. c.source_of_byte.ensures ∙ ap byte_used (c.range-found.ensures beside meant shows) ∙ range_source meant c.args.addr c.args.n good
