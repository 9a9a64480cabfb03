use Rattle.std.proofs.Common.{◌≡◌, ◌∙◌, ℕ, List, map, sym, ap, subst, OnOk}
use Rattle.std.specs.Prelude.{Option}
use Rattle.ms_ir.specs.declared.calls.External.{External}
use Rattle.ms_ir.specs.Names.{externals, lookup}
use Rattle.ms_ir.specs.declared.syntax.Op.TheVariants as operation
use Rattle.ms_pass_tasks.specs.Tasks.{Task}
use Rattle.ms_pass_tasks.specs.ResultMasks.{answer_expr, answer_origin_expr}
use Rattle.ms_pass_tasks.specs.ResultTasks.{external_move, called_tasks}
use Rattle.ms_rules_builder.specs.Made.{with_tasks}
use Rattle.ms_rules_builder.specs.Steps.{tracked_of}
use Rattle.ms_rules_tables.specs.Rules.{answered}
use Rattle.ms_rules_tables.proofs.Moves.{answer_is}
use Rattle.ms_rules_tables.proofs.Tasks.{no_tasks}
use Rattle.ms_rules_tables.proofs.results.define_call.Goals as goal

pub returns-then-own : goal.returns-then-own
returns-then-own c = λ args.
    no_tasks c.args.builder.now ∙ ap (λ own. with_tasks c.args.builder.now (called_tasks own c.args.value (operation.Call c.args.ret.now c.args.callee.now args) (map tracked_of c.args.operands.now))) (sym c.if-own.true)

pub returns : goal.returns
returns c = λ args.
    let r = c.define_answer in let v = c.args.value in let callee = c.args.callee.now in
    let ts = map tracked_of c.args.operands.now in
    let o = operation.Call c.args.ret.now callee args in
    subst (λ (l : List Task). OnOk r.result (r.new.builder ≡ with_tasks c.args.builder.now l))
    (ap (λ (e : Option External). answered v c.result_width.result (external_move e) (answer_origin_expr e ts) (answer_expr e ts) ts) c.named.ensures
    ∙ ap (λ (w : ℕ). answered v w (external_move (lookup externals callee)) (answer_origin_expr (lookup externals callee) ts) (answer_expr (lookup externals callee) ts) ts) (c.result_width.ensures callee args)
    ∙ answer_is v (external_move (lookup externals callee)) o ts
    ∙ ap (λ own. called_tasks own v o ts) (sym c.if-own.false))
    r.ensures
