use Rattle.std.proofs.Common.{subst}
use Rattle.ms_host.specs.Poisonings.{IsFound}
use Rattle.ms_runtime.proofs.Reporting.{byte-found}
use Rattle.ms_runtime.proofs.reports.check_byte.Goals as goal

pub returns-clause-served : goal.returns-clause-served
returns-clause-served c = λ setting beside w meant start at for kept shows found.
    byte-found c.args.depot.now c.check.new.told setting w meant start at c.args.kind c.args.site c.in_ok-answer.answer c.in-Some.byte
    (subst (λ f. IsFound meant start at f) c.in-Some.is found) (c.in_ok-answer.ensures.served setting beside w meant for kept shows)
