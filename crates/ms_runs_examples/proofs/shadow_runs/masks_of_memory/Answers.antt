use Rattle.std.proofs.Common.{refl, ◌∙◌}
use Rattle.ms_bits.specs.Words.{words}
use Rattle.ms_runs_examples.specs.Programs.{clang_unoptimised, nested_call, recursion, write_with_gap}
use Rattle.ms_runs_examples.specs.Setups.{defaults}
use Rattle.ms_runs_laws.specs.Formulas.{formulas}
use Rattle.ms_runs_laws.proofs.ExactRules.{computed}
use Rattle.ms_runs_examples.proofs.shadow_runs.masks_of_memory.Goals as goal

pub returns-clause-recursion : goal.returns-clause-recursion
unfolding words formulas
returns-clause-recursion c = computed (recursion 10) defaults ∙ refl

pub returns-clause-nested_call : goal.returns-clause-nested_call
unfolding words formulas
returns-clause-nested_call c = computed nested_call defaults ∙ refl

pub returns-clause-write_with_gap : goal.returns-clause-write_with_gap
unfolding words formulas
returns-clause-write_with_gap c = computed write_with_gap defaults ∙ refl

pub returns-clause-clang_unoptimised : goal.returns-clause-clang_unoptimised
unfolding words formulas
returns-clause-clang_unoptimised c = computed clang_unoptimised defaults ∙ refl
