use Rattle.std.proofs.Common.{◌≡◌, OnOk, subst, ap, ◌∙◌, List}
use Rattle.ms_ir.specs.Names.{runtime_name}
use Rattle.ms_ir.specs.Signatures.{runtime_signature}
use Rattle.ms_ir.specs.declared.syntax.Ty.{Ty}
use Rattle.ms_ir.specs.declared.syntax.Operand.{Operand}
use Rattle.ms_ir.specs.declared.syntax.Op.TheVariants as op
use Rattle.ms_pass_tasks.specs.Tasks.{InsertedCode}
use Rattle.ms_rules_builder.specs.Steps.{inputs_of}
use Rattle.ms_rules_builder.proofs.Tasks.{with_inserted, calls}
use Rattle.ms_rules_builder.proofs.builder.Builder.call.Goals as goal

pub returns : goal.returns
returns c = λ args types is.
    let f = c.args.function in
    subst (λ (d : InsertedCode). OnOk c.put_call.result (c.put_call.new.self ≡ d))
    (ap (λ (l : List (Ty × Operand)). with_inserted c.run.new.self c.args.name (op.Call (runtime_signature f).ret (runtime_name f) l)) c.in_ok-args.ensures
    ∙ calls (inputs_of c.args.inputs.now) c.args.steps.now c.args.self.now c.run.new.self c.in_ok-stack.stack.items c.args.name f args types is c.in_ok-stack.ensures)
    c.put_call.ensures
