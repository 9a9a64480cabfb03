use Rattle.std.proofs.Common.{true, refl, ap, ◌∙◌}
use Rattle.ms_bits.specs.Words.{words}
use Rattle.ms_runs.specs.declared.runs.RunResult.{RunResult}
use Rattle.ms_runs_laws.specs.Formulas.{formulas}
use Rattle.ms_runs_laws.proofs.ExactRules.{computed}
use Rattle.ms_runs_examples.specs.Setups.{defaults}
use Rattle.ms_runs_examples.specs.ToldPrograms.{uses_told, told_again}
use Rattle.ms_runs_examples.proofs.told_runs.each_use_once.Goals as goal

pub returns-clause-each_time : goal.returns-clause-each_time
unfolding words formulas
returns-clause-each_time c = ap uses_told (computed told_again (record defaults { reports = 5 })) ∙ refl

pub returns-clause-once : goal.returns-clause-once
unfolding words formulas
returns-clause-once c = ap uses_told (computed told_again (record defaults { reports = 5; once = true })) ∙ refl

pub returns-clause-goes_on : goal.returns-clause-goes_on
unfolding words formulas
returns-clause-goes_on c = ap (λ (r : RunResult). r.«end») (computed told_again (record defaults { reports = 5; once = true })) ∙ refl

pub returns-clause-full : goal.returns-clause-full
unfolding words formulas
returns-clause-full c = ap (λ (r : RunResult). r.«end») (computed told_again (record defaults { reports = 2; once = true })) ∙ refl

pub returns-clause-first : goal.returns-clause-first
unfolding words formulas
returns-clause-first c = ap uses_told (computed told_again (record defaults { once = true })) ∙ refl
