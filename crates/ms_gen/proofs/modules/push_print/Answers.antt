use Rattle.std.proofs.Common.{◌∙◌, ◌++◌, [], ◌∷◌, Some, ap}
use Rattle.std.proofs.lemmas.Result.{IfOk-weaker}
use Rattle.ms_ir.specs.declared.syntax.Op.TheVariants as op
use Rattle.ms_ir.specs.Builders.{i32, local, sets}
use Rattle.ms_gen.proofs.modules.push_print.Goals as goal

pub returns : goal.returns
returns c =
    IfOk-weaker c.push_call.result _ _ (λ r h. h ∙ ap (λ x. c.args.insts.now.items ++ sets 2 (op.Call (Some i32) x ((i32, local 1) ∷ [])) ∷ []) c.in_ok-callee.ensures)
    c.push_call.ensures
