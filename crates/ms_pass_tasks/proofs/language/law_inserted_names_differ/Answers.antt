use Rattle.ms_pass_tasks.proofs.InsertedNames.{msan_name_one, msan_reserved}
use Rattle.ms_pass_tasks.proofs.language.law_inserted_names_differ.Goals as goal

pub returns-clause-apart : goal.returns-clause-apart
returns-clause-apart c = msan_name_one

pub returns-clause-reserved : goal.returns-clause-reserved
returns-clause-reserved c = msan_reserved
