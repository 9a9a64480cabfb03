use Rattle.std.proofs.Common.{◌≡◌, map, sym, subst, OnOk, Option}
use Rattle.ms_ir.specs.declared.calls.External.{External}
use Rattle.ms_pass_tasks.specs.ResultMasks.{answer_expr, answer_origin_expr}
use Rattle.ms_pass_tasks.specs.ResultTasks.{external_move}
use Rattle.ms_rules_builder.specs.Made.{with_tasks}
use Rattle.ms_rules_builder.specs.Steps.{tracked_of}
use Rattle.ms_rules_tables.specs.Rules.{answered}
use Rattle.ms_rules_tables.proofs.results.define_answer.Goals as goal

pub returns-in-None : goal.returns-in-None
returns-in-None c =
    let ts = map tracked_of c.args.operands.now in
    subst (λ (e : Option External). OnOk c.define_clean.result (c.define_clean.new.builder ≡ with_tasks c.args.builder.now (answered c.args.value c.args.width (external_move e) (answer_origin_expr e ts) (answer_expr e ts) ts)))
    (sym c.in-None.is) c.define_clean.ensures
