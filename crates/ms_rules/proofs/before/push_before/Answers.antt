use Rattle.std.proofs.Common.{◌≡◌, ◌++◌, map, ap, subst, ◌∙◌}
use Rattle.std.specs.Prelude.{OnOk}
use Rattle.ms_ir.specs.Instructions.{operands}
use Rattle.ms_pass_tasks.specs.Environments.{tracked}
use Rattle.ms_runs.specs.Uses.{uses}
use Rattle.ms_pass_tasks.specs.CheckTasks.{check_tasks, blind_tasks, blinded_of}
use Rattle.ms_pass_tasks.specs.PlaneTasks.{save_tasks}
use Rattle.ms_pass_tasks.specs.ResultTasks.{result_tasks}
use Rattle.ms_pass_tasks.specs.Emit.{own_tasks}
use Rattle.ms_pass_tasks.specs.SlotTasks.{hand_tasks}
use Rattle.ms_rules_builder.specs.Made.{with_tasks}
use Rattle.ms_rules_builder.specs.Steps.{tracked_of}
use Rattle.ms_rules.specs.Around.{here_of}
use Rattle.ms_rules.specs.Scopes.{env_of, given_of}
use Rattle.ms_rules.proofs.Adding.{five_with}
use Rattle.ms_rules.proofs.before.push_before.Goals as goal

pub returns : goal.returns
returns c =
    let s = c.args.scope.now in
    let i = c.args.inst.now in
    let given = given_of s in
    let ts = map tracked_of c.as_slice-operands.result.now in
    let are : ts ≡ tracked (env_of s) c.args.tracking.now.before (operands i.op) = ap (map tracked_of) c.as_slice-operands.ensures.value ∙ c.requires.tracked.are in
    subst (λ ts. OnOk c.save.result (c.save.new.builder ≡ with_tasks c.args.builder.now (hand_tasks given.func s.main i.op ts ++ own_tasks given (env_of s) (here_of s c.args.site c.args.tracking.now) i.result i.op c.args.saved ts)))
    are
    (five_with c.save.result c.args.builder.now c.hand_over.new.builder c.check.new.builder c.count_blind.new.builder c.define_result.new.builder c.save.new.builder
    (hand_tasks given.func s.main i.op ts) (check_tasks c.args.site ts (uses given.func s.main i.op)) (blind_tasks (blinded_of given.func i.op ts)) (result_tasks given.func (env_of s) i.result i.op ts)
    (save_tasks given.func c.args.saved i.op ts)
    c.in_ok-hand_over.ensures (c.in_ok-check.ensures given.func c.requires.callee.external) (c.in_ok-count_blind.ensures given.func c.requires.callee.external) c.in_ok-define_result.ensures (c.save.ensures given.func c.requires.callee.external))
