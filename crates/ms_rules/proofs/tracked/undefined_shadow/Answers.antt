use Rattle.std.proofs.Common.{arith}
use Rattle.ms_rules.proofs.Numbers.{ones_low}
use Rattle.ms_rules.proofs.tracked.undefined_shadow.Goals as goal

pub overflow_cast-ones : goal.overflow_cast-ones
overflow_cast-ones c = omega (arith, ones_low c.args.width c.limit.result c.requires c.limit.ensures)
