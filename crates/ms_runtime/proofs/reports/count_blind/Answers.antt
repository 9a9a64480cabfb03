use Rattle.ms_runtime.proofs.Reporting.{counted}
use Rattle.ms_runtime.proofs.reports.count_blind.Goals as goal

pub returns-then-mask-ne0-clause-counted : goal.returns-then-mask-ne0-clause-counted
returns-then-mask-ne0-clause-counted c = λ beside d w meant kept shows. counted d c.args.told.now c.saturating_add-told.result beside w meant c.args.mask c.if-mask-ne0.true c.saturating_add-told.ensures kept shows
