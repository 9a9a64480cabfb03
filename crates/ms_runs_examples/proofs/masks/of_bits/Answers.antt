use Rattle.std.proofs.Common.{refl, ◌∙◌, arith}
use Rattle.ms_bits.specs.Words.{words}
use Rattle.ms_bits.specs.declared.operations.Pred.TheVariants as predicate
use Rattle.ms_runs_laws.specs.Formulas.{formulas}
use Rattle.ms_runs_laws.proofs.ExactRules.{formulas_exact}
use Rattle.ms_runs_examples.specs.RunPrograms.{word}
use Rattle.ms_runs_examples.proofs.masks.of_bits.Goals as goal

pub returns-clause-and : goal.returns-clause-and
unfolding words formulas
returns-clause-and c = formulas_exact.both 8 (word 0 0x0f) (word 0x35 0) (record { value = omega arith; mask = omega arith }) (record { value = omega arith; mask = omega arith }) ∙ refl

pub returns-clause-or : goal.returns-clause-or
unfolding words formulas
returns-clause-or c = formulas_exact.either 8 (word 0 0x0f) (word 0x35 0) (record { value = omega arith; mask = omega arith }) (record { value = omega arith; mask = omega arith }) ∙ refl

pub returns-clause-xor : goal.returns-clause-xor
unfolding words formulas
returns-clause-xor c = formulas_exact.one 8 (word 0 0x0f) (word 0x35 0x30) (record { value = omega arith; mask = omega arith }) (record { value = omega arith; mask = omega arith }) ∙ refl
