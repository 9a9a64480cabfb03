use Rattle.ms_text_laws.proofs.SmallLimits.{read_limits, read_fits}
use Rattle.ms_text_laws.proofs.limits.limits_are_kept.Goals as goal

pub returns-clause-limits : goal.returns-clause-limits
returns-clause-limits c = read_limits

pub returns-clause-fits : goal.returns-clause-fits
returns-clause-fits c = read_fits
