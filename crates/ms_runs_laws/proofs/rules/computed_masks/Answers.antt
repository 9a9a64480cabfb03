use Rattle.ms_runs_laws.proofs.ExactRules.{computed}
use Rattle.ms_runs_laws.proofs.rules.computed_masks.Goals as goal

pub returns : goal.returns
returns c = computed
