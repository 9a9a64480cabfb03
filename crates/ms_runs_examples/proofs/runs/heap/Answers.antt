use Rattle.std.proofs.Common.{refl, ◌∙◌, [], ◌∷◌}
use Rattle.ms_bits.specs.Words.{words}
use Rattle.ms_runs_examples.specs.Externals.{heap_filled, freed}
use Rattle.ms_ir.specs.Declarations as calls
use Rattle.ms_runs_examples.specs.Setups.{defaults}
use Rattle.ms_ir.specs.Builders.{does, call, local}
use Rattle.ms_runs_examples.specs.RunPrograms.{branch_on_zeroed}
use Rattle.ms_runs_laws.specs.Formulas.{formulas}
use Rattle.ms_runs_laws.proofs.ExactRules.{computed}
use Rattle.ms_runs_examples.proofs.runs.heap.Goals as goal

pub returns-clause-filled_heap : goal.returns-clause-filled_heap
unfolding words formulas
returns-clause-filled_heap c = computed heap_filled defaults ∙ refl

pub returns-clause-zeroed_byte : goal.returns-clause-zeroed_byte
unfolding words formulas
returns-clause-zeroed_byte c = computed branch_on_zeroed defaults ∙ refl

pub returns-clause-ended_twice : goal.returns-clause-ended_twice
unfolding words formulas
returns-clause-ended_twice c = computed (freed (does (call calls.free (local 1 ∷ [])) ∷ [])) defaults ∙ refl
