use Rattle.ms_threads_laws.proofs.UnderFills.{first_threads, alone_threads, same_threads, same_threads_calls, shown_threads}
use Rattle.ms_threads_laws.proofs.FirstCalls.{first_calls}
use Rattle.ms_threads_laws.proofs.fills.threads_fills.Goals as goal

pub returns-clause-same : goal.returns-clause-same
returns-clause-same c = λ m formed valid can setup bytes schedule quiet fill is. same_threads m formed valid can setup bytes schedule quiet fill is

pub returns-clause-shown : goal.returns-clause-shown
returns-clause-shown c = λ m formed valid can setup bytes schedule quiet none fill is. shown_threads m formed valid can setup bytes schedule quiet none fill is

pub returns-clause-first : goal.returns-clause-first
returns-clause-first c = first_threads

pub returns-clause-alone : goal.returns-clause-alone
returns-clause-alone c = alone_threads

pub returns-clause-calls : goal.returns-clause-calls
returns-clause-calls c = λ m formed valid can setup bytes schedule quiet. same_threads_calls m formed valid can setup bytes schedule quiet

pub returns-clause-first_calls : goal.returns-clause-first_calls
returns-clause-first_calls c = first_calls
