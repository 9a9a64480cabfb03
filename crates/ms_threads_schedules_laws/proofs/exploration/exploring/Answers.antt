use Rattle.ms_threads_schedules_laws.proofs.Branching.{at_last, in_order}
use Rattle.ms_threads_schedules_laws.proofs.Leading.{exploring_first, exploring_run, unseen}
use Rattle.ms_threads_schedules_laws.proofs.exploration.exploring.Goals as goal

pub returns-clause-first : goal.returns-clause-first
returns-clause-first c = λ picks tree. exploring_first picks tree

pub returns-clause-run : goal.returns-clause-run
returns-clause-run c = λ picks tree seen before told after all own reads. exploring_run picks tree seen before told after all own reads

pub returns-clause-reordered : goal.returns-clause-reordered
returns-clause-reordered c = λ picks seen other left more w v all. in_order picks seen other left more w v all

pub returns-clause-last : goal.returns-clause-last
returns-clause-last c = λ picks seen all. at_last picks seen all

pub returns-clause-more : goal.returns-clause-more
returns-clause-more c = λ picks tree seen told left all. unseen picks tree seen told left all
