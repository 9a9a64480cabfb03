use Rattle.ms_top.proofs.WrittenRuns.{named, alike, fitting}
use Rattle.ms_top.proofs.laws.law_written_modules_run_alike.Goals as goal

pub returns-clause-named : goal.returns-clause-named
returns-clause-named c = named

pub returns-clause-alike : goal.returns-clause-alike
returns-clause-alike g = λ under file name inputs o m a b c answered read checked. alike under name inputs o m a b c answered read checked

pub returns-clause-fitting : goal.returns-clause-fitting
returns-clause-fitting g = λ under file name inputs o m i a b c answered elided fits read checked. fitting under name inputs o m a b c answered read checked i elided fits
