use Rattle.std.proofs.Common.{refl, ◌∙◌, arith}
use Rattle.ms_bits.specs.Words.{words}
use Rattle.ms_bits.specs.declared.operations.Pred.TheVariants as predicate
use Rattle.ms_runs_laws.specs.Formulas.{formulas}
use Rattle.ms_runs_laws.proofs.ExactRules.{formulas_exact}
use Rattle.ms_runs_examples.specs.RunPrograms.{word}
use Rattle.ms_runs_examples.proofs.masks.of_comparisons.Goals as goal

pub returns-clause-between_32_and_47 : goal.returns-clause-between_32_and_47
unfolding words formulas
returns-clause-between_32_and_47 c = formulas_exact.compare predicate.Ult 8 (word 0x25 0x0f) (word 16 0) (record { value = omega arith; mask = omega arith }) (record { value = omega arith; mask = omega arith }) ∙ refl

pub returns-clause-around_40 : goal.returns-clause-around_40
unfolding words formulas
returns-clause-around_40 c = formulas_exact.compare predicate.Ult 8 (word 0x25 0x0f) (word 40 0) (record { value = omega arith; mask = omega arith }) (record { value = omega arith; mask = omega arith }) ∙ refl

pub returns-clause-one_bit_differs : goal.returns-clause-one_bit_differs
unfolding words formulas
returns-clause-one_bit_differs c = formulas_exact.compare predicate.Eq 8 (word 1 0xfe) (word 0 0) (record { value = omega arith; mask = omega arith }) (record { value = omega arith; mask = omega arith }) ∙ refl

pub returns-clause-sign_unknown : goal.returns-clause-sign_unknown
unfolding words formulas
returns-clause-sign_unknown c = formulas_exact.compare predicate.Slt 8 (word 0 0x80) (word 0 0) (record { value = omega arith; mask = omega arith }) (record { value = omega arith; mask = omega arith }) ∙ refl
