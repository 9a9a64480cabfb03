use Rattle.ms_pass_tasks.proofs.Flatten.{tasks_run}
use Rattle.ms_pass_tasks.proofs.language.law_code_does_its_tasks.Goals as goal

pub returns : goal.returns
returns c = record { runs = tasks_run }
