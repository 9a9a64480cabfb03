use Rattle.std.proofs.Common.{IfOk, subst}
use Rattle.ms_runs.specs.Origins.{check}
use Rattle.ms_runs.specs.Runtime.{runtime}
use Rattle.ms_runtime.specs.declared.reports.ReportedUse.{ReportedUse}
use Rattle.ms_runtime.specs.Served.{Served}
use Rattle.ms_runtime.proofs.OnMemory.{from-kind}
use Rattle.ms_runtime.proofs.serving.report.Goals as goal

pub returns-in-CheckMemory-clause-served : goal.returns-in-CheckMemory-clause-served
returns-in-CheckMemory-clause-served c = λ setting beside meant for kept shows.
    from-kind (λ f. IfOk c.check_memory.result (λ a. Served (runtime setting f c.args.args.now meant) a c.args.world.now c.args.depot.now c.check_memory.new.told)) c.in-CheckMemory.is
    (c.check_memory.ensures.served setting beside meant for kept shows)

pub returns-in-CheckString-clause-served : goal.returns-in-CheckString-clause-served
returns-in-CheckString-clause-served c = λ setting beside meant for kept shows.
    from-kind (λ f. IfOk c.check_string.result (λ a. Served (runtime setting f c.args.args.now meant) a c.args.world.now c.args.depot.now c.check_string.new.told)) c.in-CheckString.is
    (c.check_string.ensures.served setting beside meant for kept shows)

pub returns-in-CheckFormat-clause-served : goal.returns-in-CheckFormat-clause-served
returns-in-CheckFormat-clause-served c = λ setting beside meant for kept shows.
    from-kind (λ f. IfOk c.check_format.result (λ a. Served (runtime setting f c.args.args.now meant) a c.args.world.now c.args.depot.now c.check_format.new.told)) c.in-CheckFormat.is
    (c.check_format.ensures.served setting beside meant for kept shows)

pub returns-in-Check-clause-served : goal.returns-in-Check-clause-served
returns-in-Check-clause-served c = λ setting beside meant for kept shows.
    from-kind (λ f. IfOk c.check.result (λ a. Served (runtime setting f c.args.args.now meant) a c.args.world.now c.args.depot.now c.check.new.told)) c.in-Check.is
    (subst (λ (u : ReportedUse). IfOk c.check.result (λ a. Served (check setting u.mask u.width u.origin u.kind u.part u.site meant) a c.args.world.now c.args.depot.now c.check.new.told)) c.use_of-used.ensures
    (c.check.ensures.served setting beside c.args.world.now meant for kept shows))
