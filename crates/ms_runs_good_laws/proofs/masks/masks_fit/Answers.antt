use Rattle.ms_runs_good_laws.proofs.MaskRanges.{completions_keep, formulas_keep}
use Rattle.ms_runs_good_laws.proofs.masks.masks_fit.Goals as goal

pub returns-clause-completions : goal.returns-clause-completions
returns-clause-completions c = completions_keep

pub returns-clause-formulas : goal.returns-clause-formulas
returns-clause-formulas c = formulas_keep
