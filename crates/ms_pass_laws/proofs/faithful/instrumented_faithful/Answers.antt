use Rattle.ms_pass_laws.proofs.Whole.{faithful_pass}
use Rattle.ms_pass_laws.proofs.Taken.{instrumented_faithful}
use Rattle.ms_pass_laws.proofs.faithful.instrumented_faithful.Goals as goal

pub returns-clause-taken : goal.returns-clause-taken
returns-clause-taken c = faithful_pass

pub returns-clause-valid : goal.returns-clause-valid
returns-clause-valid c = instrumented_faithful
