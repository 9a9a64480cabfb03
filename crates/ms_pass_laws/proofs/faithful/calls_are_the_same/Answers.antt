use Rattle.ms_pass_laws.proofs.SameCalls.{sites_follow, same_calls_of}
use Rattle.ms_pass_laws.proofs.faithful.calls_are_the_same.Goals as goal

pub returns-clause-sites : goal.returns-clause-sites
returns-clause-sites c = sites_follow

pub returns-clause-taken : goal.returns-clause-taken
returns-clause-taken c = same_calls_of
