use Rattle.ms_pass_tasks.proofs.SlotLists.{call_alone, return_alone}
use Rattle.ms_pass_tasks.proofs.instructions.law_slots_are_filled_alone.Goals as goal

pub returns-clause-calls : goal.returns-clause-calls
returns-clause-calls c = call_alone

pub returns-clause-returns : goal.returns-clause-returns
returns-clause-returns c = return_alone
