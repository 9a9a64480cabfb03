use Rattle.std.proofs.Common.{sym, ◌∙◌}
use Rattle.ms_ir.specs.Instructions.{operands}
use Rattle.ms_trail_bytes.proofs.Filling.{source_no_byte}
use Rattle.ms_trail_bytes.proofs.sources.stored_source.Goals as goal

pub returns-then-mask-eq0-clause-read : goal.returns-then-mask-eq0-clause-read
returns-then-mask-eq0-clause-read c = λ some. absurd (some c.if-mask-eq0.true)

pub returns-then-mask-eq0-clause-word : goal.returns-then-mask-eq0-clause-word
returns-then-mask-eq0-clause-word c = λ a e. absurd (cc)

pub returns-clause-read : goal.returns-clause-read
returns-clause-read c = λ some. c.in_ok-from.ensures

pub returns-clause-word : goal.returns-clause-word
returns-clause-word c = λ a e. source_no_byte 0 c.args.frame (operands c.args.op.now) c.args.before a (sym c.in_ok-from.ensures ∙ e)
