use Rattle.ms_runs_clean_laws.proofs.CleanRules.{completions_clean, formulas_clean}
use Rattle.ms_runs_clean_laws.proofs.clean.clean_rules.Goals as goal

pub returns-clause-completions : goal.returns-clause-completions
returns-clause-completions c = completions_clean

pub returns-clause-formulas : goal.returns-clause-formulas
returns-clause-formulas c = formulas_clean
