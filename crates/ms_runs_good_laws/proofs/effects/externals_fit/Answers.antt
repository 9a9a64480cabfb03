use Rattle.ms_runs.specs.Plain.{setting_of}
use Rattle.ms_runs_good_laws.specs.GoodWorlds.{FitsCell, AnyOrigin}
use Rattle.ms_runs_good_laws.proofs.ExternalEffects.{external_answers}
use Rattle.ms_runs_good_laws.proofs.Starting.{plain_setting, shadow_setting}
use Rattle.ms_runs_good_laws.proofs.effects.externals_fit.Goals as goal

pub returns-clause-plain_runs : goal.returns-clause-plain_runs
returns-clause-plain_runs c = λ m formed setup bytes site e types words have w g. external_answers FitsCell (setting_of m setup) (plain_setting m formed setup bytes) site w g e types words have

pub returns-clause-shadow_runs : goal.returns-clause-shadow_runs
returns-clause-shadow_runs c = λ m setup bytes site e types words have w g. external_answers AnyOrigin (setting_of m setup) (shadow_setting m setup bytes) site w g e types words have
