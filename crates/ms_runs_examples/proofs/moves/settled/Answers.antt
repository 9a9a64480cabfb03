use Rattle.std.proofs.Common.{refl, ◌∙◌}
use Rattle.ms_bits.specs.Words.{words}
use Rattle.ms_runs_examples.specs.Traces.{settled_bits}
use Rattle.ms_runs_examples.specs.Setups.{defaults}
use Rattle.ms_runs_laws.specs.Formulas.{formulas}
use Rattle.ms_trail_laws.proofs.Exact.{computed}
use Rattle.ms_runs_examples.proofs.moves.settled.Goals as goal

pub returns : goal.returns
unfolding words formulas
returns c = computed settled_bits defaults ∙ refl
