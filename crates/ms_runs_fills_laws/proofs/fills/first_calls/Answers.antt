use Rattle.ms_runs_fills_laws.proofs.SameCalls.{low_calls, calls_hold}
use Rattle.ms_runs_fills_laws.proofs.fills.first_calls.Goals as goal

pub returns-clause-sites : goal.returns-clause-sites
returns-clause-sites c = λ m a b h. low_calls m a.frames b.frames h.frames

pub returns-clause-holds : goal.returns-clause-holds
returns-clause-holds c = calls_hold
