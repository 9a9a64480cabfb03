use Rattle.ms_text_laws.proofs.SmallLimits.{can_instrument}
use Rattle.ms_text_laws.proofs.limits.plain_modules_can_be_instrumented.Goals as goal

pub returns : goal.returns
returns c = can_instrument
