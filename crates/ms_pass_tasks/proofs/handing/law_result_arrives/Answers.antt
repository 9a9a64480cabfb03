use Rattle.ms_pass_tasks.proofs.Slots.{result_taken}
use Rattle.ms_pass_tasks.proofs.handing.law_result_arrives.Goals as goal

pub returns : goal.returns
returns c = result_taken
