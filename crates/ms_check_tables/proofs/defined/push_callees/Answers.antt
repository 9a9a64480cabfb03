use Rattle.std.proofs.Common.{◌++◌, ◌∙◌, ap, append_assoc}
use Rattle.std.proofs.Math.Path.{ap₂}
use Rattle.std.proofs.lemmas.Result.{IfOk-weaker}
use Rattle.ms_ir.specs.Locals.{declared_names, function_names}
use Rattle.ms_check_tables.proofs.Given.{given_is}
use Rattle.ms_check_tables.proofs.defined.push_callees.Goals as goal

pub returns : goal.returns
returns c =
    let m = c.args.m.now in
    IfOk-weaker c.push_all-2.result _ _ (λ _ last.
    last
    ∙ ap₂ (λ names more. names ++ more)
    (c.in_ok-push_all.ensures ∙ ap (λ more. c.args.names.now ++ more) (given_is (λ d. d.name) c.as_slice.result.now m.decls c.as_slice.ensures))
    (given_is (λ f. f.name) c.as_slice-2.result.now m.funcs c.as_slice-2.ensures)
    ∙ append_assoc c.args.names.now (declared_names m) (function_names m)
    ) c.push_all-2.ensures
