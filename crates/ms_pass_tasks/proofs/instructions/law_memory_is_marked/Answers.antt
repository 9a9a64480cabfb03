use Rattle.ms_pass_tasks.proofs.After.{after_gives, after_does}
use Rattle.ms_pass_tasks.proofs.instructions.law_memory_is_marked.Goals as goal

pub returns-clause-given : goal.returns-clause-given
returns-clause-given c = after_gives

pub returns-clause-done : goal.returns-clause-done
returns-clause-done c = after_does
