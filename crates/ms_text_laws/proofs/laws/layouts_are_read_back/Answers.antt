use Rattle.ms_text_laws.proofs.ReadBack.{runs_back, text_back}
use Rattle.ms_text_laws.proofs.laws.layouts_are_read_back.Goals as goal

pub returns-clause-tokens : goal.returns-clause-tokens
returns-clause-tokens c = runs_back

pub returns-clause-texts : goal.returns-clause-texts
returns-clause-texts c = text_back
