use Rattle.std.proofs.Common.{◌≡◌, OnOk, subst, ap, ◌∙◌, Option}
use Rattle.ms_ir.specs.Signatures.{runtime_signature}
use Rattle.ms_ir.specs.declared.syntax.Name.{Name}
use Rattle.ms_ir.specs.declared.syntax.Ty.{Ty}
use Rattle.ms_ir.specs.declared.syntax.Op.TheVariants as op
use Rattle.ms_pass_tasks.specs.Tasks.{InsertedCode}
use Rattle.ms_rules_builder.proofs.Tasks.{with_inserted}
use Rattle.ms_rules_builder.proofs.builder.Builder.put_call.Goals as goal

pub returns : goal.returns
returns c =
    let with = with_inserted c.args.self.now c.args.name in
    subst (λ (d : InsertedCode). OnOk c.put.result (c.put.new.self ≡ d))
    (ap (λ (t : Option Ty). with (op.Call t c.in_ok-callee.callee c.args.args)) c.result_type.ensures
    ∙ ap (λ (x : Name). with (op.Call (runtime_signature c.args.function).ret x c.args.args)) c.in_ok-callee.ensures)
    c.put.ensures
