use Rattle.ms_runs_laws.proofs.SameRuns.{same_shadow}
use Rattle.ms_runs_laws.proofs.ExactRules.{formulas_exact}
use Rattle.ms_runs_laws.proofs.rules.same_rules.Goals as goal

pub returns-clause-formulas : goal.returns-clause-formulas
returns-clause-formulas c = formulas_exact

pub returns-clause-runs : goal.returns-clause-runs
returns-clause-runs c = λ d e same m setup. same_shadow same m setup
