use Rattle.std.proofs.Common.{◌≡◌, List, map, subst, OnOk}
use Rattle.ms_pass_tasks.specs.Tasks.{Task}
use Rattle.ms_rules_builder.specs.Made.{with_tasks}
use Rattle.ms_rules_builder.specs.Steps.{tracked_of}
use Rattle.ms_rules_tables.proofs.Moves.{clean_answer}
use Rattle.ms_rules_tables.proofs.results.define_external.Goals as goal

pub returns-in_default : goal.returns-in_default
returns-in_default c =
    subst (λ (l : List Task). OnOk c.define_clean.result (c.define_clean.new.builder ≡ with_tasks c.args.builder.now l))
    (clean_answer c.args.value c.args.width c.args.external (map tracked_of c.args.operands.now) c.in_default.not-Word) c.define_clean.ensures
