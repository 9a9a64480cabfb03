use Rattle.ms_text_laws.proofs.ReadBack.{same_module, same_text}
use Rattle.ms_text_laws.proofs.laws.layouts_are_injective.Goals as goal

pub returns-clause-tokens : goal.returns-clause-tokens
returns-clause-tokens c = same_module

pub returns-clause-texts : goal.returns-clause-texts
returns-clause-texts c = same_text
