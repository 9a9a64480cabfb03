use Rattle.std.proofs.Common.{◌≡◌, ◌∙◌, List, map, subst}
use Rattle.std.specs.Prelude.{OnOk}
use Rattle.ms_pass_tasks.specs.Tasks.{Task}
use Rattle.ms_rules_builder.specs.Made.{with_tasks}
use Rattle.ms_rules_builder.specs.Steps.{tracked_of}
use Rattle.ms_rules_tables.proofs.PlaneRows.{call_saved}
use Rattle.ms_rules_tables.proofs.planes.save.Goals as goal

pub returns-in-Some : goal.returns-in-Some
returns-in-Some c func called =
    let Made : List Task → Type 0 = λ l. OnOk c.save_for.result (c.save_for.new.builder ≡ with_tasks c.args.builder.now l) in
    subst Made (call_saved func c.args.number c.args.op.now (map tracked_of c.args.operands.now) c.in-Some.external (called ∙ c.in-Some.is)) c.save_for.ensures
