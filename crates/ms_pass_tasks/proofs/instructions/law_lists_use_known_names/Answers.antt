use Rattle.ms_pass_tasks.proofs.TaskNames.{before_low, after_low}
use Rattle.ms_pass_tasks.proofs.instructions.law_lists_use_known_names.Goals as goal

pub returns-clause-before : goal.returns-clause-before
returns-clause-before c = before_low

pub returns-clause-after : goal.returns-clause-after
returns-clause-after c = after_low
