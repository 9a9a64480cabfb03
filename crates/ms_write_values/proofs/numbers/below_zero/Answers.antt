use Rattle.std.proofs.Common.{arith}
use Rattle.ms_write_values.proofs.SignedDigits.{plain_digits, wide_digits, minus_digits}
use Rattle.ms_write_values.proofs.numbers.below_zero.Goals as goal

pub returns-then-width-gt64 : goal.returns-then-width-gt64
returns-then-width-gt64 c = wide_digits c.args.width c.args.value (omega arith) (omega arith)

pub returns-then-value-limit : goal.returns-then-value-limit
returns-then-value-limit c = plain_digits c.args.width c.args.value (omega arith)

pub returns : goal.returns
returns c = minus_digits c.args.width c.args.value c.saturating_sub.result (omega arith) (omega arith)
