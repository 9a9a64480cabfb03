use Rattle.ms_pass_tasks.proofs.Slots.{function_entered}
use Rattle.ms_pass_tasks.proofs.handing.law_arguments_arrive.Goals as goal

pub returns : goal.returns
returns c = λ s at h cells env size one. function_entered s at h cells env size one
