use Rattle.std.proofs.Common.{◌≡◌, OnOk, subst, ap, ◌∙◌, Some}
use Rattle.ms_ir.specs.declared.syntax.Ty.{Int}
use Rattle.ms_pass_tasks.specs.Tasks.{InsertedCode}
use Rattle.ms_rules_builder.specs.Steps.{inputs_of}
use Rattle.ms_rules_builder.proofs.Tasks.{with_inserted, sets}
use Rattle.ms_rules_builder.proofs.builder.Builder.set.Goals as goal

pub returns : goal.returns
returns c = λ e is.
    subst (λ (d : InsertedCode). OnOk c.put.result (c.put.new.self ≡ d))
    (ap (with_inserted c.run.new.self (Some c.args.name)) c.operation_at.ensures.op
    ∙ sets (inputs_of c.args.inputs.now) c.args.steps.now c.args.last c.args.self.now c.run.new.self c.in_ok-stack.stack.items c.args.name (Int c.args.width) e c.requires is
    c.in_ok-stack.ensures) c.put.ensures
