use Rattle.std.proofs.Common.{sym, ◌∙◌, ap}
use Rattle.std.specs.Option.{option_copied, option_or}
use Rattle.std.proofs.lemmas.Result.{IfOk-weaker}
use Rattle.ms_check_externals.proofs.Outsiders.{of_funcs, callees_are}
use Rattle.ms_check_externals.proofs.outside.first_bad_callee.Goals as goal

pub returns-in-Some : goal.returns-in-Some
returns-in-Some c =
    let m = c.args.m.now in
    sym (callees_are m ∙ ap (λ r. option_or r (of_funcs m)) (sym c.in_ok-name.ensures ∙ ap option_copied c.in-Some.is))

pub returns-in-None : goal.returns-in-None
returns-in-None c =
    let m = c.args.m.now in
    IfOk-weaker c.first_bad_func.result _ _ (λ r is. is ∙ sym (callees_are m ∙ ap (λ r. option_or r (of_funcs m)) (sym c.in_ok-name.ensures ∙ ap option_copied c.in-None.is))) c.first_bad_func.ensures
