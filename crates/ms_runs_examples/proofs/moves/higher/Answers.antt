use Rattle.std.proofs.Common.{refl, ◌∙◌}
use Rattle.ms_bits.specs.Words.{words}
use Rattle.ms_runs_examples.specs.Traces.{higher_byte}
use Rattle.ms_runs.specs.Origins.{depth_limit}
use Rattle.ms_runs_examples.specs.Setups.{defaults}
use Rattle.ms_runs_laws.specs.Formulas.{formulas}
use Rattle.ms_trail_laws.proofs.Exact.{computed}
use Rattle.ms_runs_examples.proofs.moves.higher.Goals as goal

pub returns : goal.returns
unfolding words formulas depth_limit
returns c = computed higher_byte defaults ∙ refl
