use Rattle.std.proofs.Common.{refl, ◌∙◌}
use Rattle.ms_bits.specs.Words.{words}
use Rattle.ms_runs_examples.specs.Traces.{grown_and_moved}
use Rattle.ms_runs_examples.specs.Setups.{defaults}
use Rattle.ms_runs_laws.specs.Formulas.{formulas}
use Rattle.ms_trail_laws.proofs.Exact.{computed}
use Rattle.ms_runs_examples.proofs.moves.grown.Goals as goal

pub returns : goal.returns
unfolding words formulas
returns c = computed grown_and_moved defaults ∙ refl
