use Rattle.std.proofs.Common.{refl, ◌∙◌}
use Rattle.ms_bits.specs.Words.{words}
use Rattle.ms_runs_examples.specs.Programs.{two_edges, branch_on_unset, frozen, store_to_shadow, sum_wraps, three_branches}
use Rattle.ms_runs_examples.specs.Setups.{defaults, steps}
use Rattle.ms_runs_laws.specs.Formulas.{formulas}
use Rattle.ms_runs_laws.proofs.ExactRules.{computed}
use Rattle.ms_runs_examples.proofs.shadow_runs.ends.Goals as goal

pub returns-clause-sum_wraps : goal.returns-clause-sum_wraps
unfolding words formulas
returns-clause-sum_wraps c = computed sum_wraps defaults ∙ refl

pub returns-clause-store_to_shadow : goal.returns-clause-store_to_shadow
unfolding words formulas
returns-clause-store_to_shadow c = computed store_to_shadow defaults ∙ refl

pub returns-clause-three_steps : goal.returns-clause-three_steps
unfolding words formulas
returns-clause-three_steps c = computed branch_on_unset (steps 3) ∙ refl

pub returns-clause-four_steps : goal.returns-clause-four_steps
unfolding words formulas
returns-clause-four_steps c = computed branch_on_unset (steps 4) ∙ refl

pub returns-clause-two_reports : goal.returns-clause-two_reports
unfolding words formulas
returns-clause-two_reports c = computed three_branches (record defaults { reports = 2 }) ∙ refl

pub returns-clause-frozen : goal.returns-clause-frozen
unfolding words formulas
returns-clause-frozen c = computed frozen defaults ∙ refl

pub returns-clause-first_of_two_edges : goal.returns-clause-first_of_two_edges
unfolding words formulas
returns-clause-first_of_two_edges c = computed two_edges defaults ∙ refl
