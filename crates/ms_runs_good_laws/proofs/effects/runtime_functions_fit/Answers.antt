use Rattle.ms_runs.specs.Plain.{setting_of}
use Rattle.ms_runs_good_laws.proofs.RuntimeEffects.{runtime_answers}
use Rattle.ms_runs_good_laws.proofs.Starting.{plain_setting}
use Rattle.ms_runs_good_laws.proofs.effects.runtime_functions_fit.Goals as goal

pub returns : goal.returns
returns c = λ m formed setup bytes f words have w g. runtime_answers (setting_of m setup) (plain_setting m formed setup bytes) f words w g have
