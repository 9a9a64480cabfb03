use Rattle.std.proofs.Common.{◌≡◌, sym, ◌∙◌, ap}
use Rattle.std.specs.Prelude.{slice_get, flat_map}
use Rattle.std.specs.Option.{option_copied, option_or}
use Rattle.std.proofs.lemmas.Result.{IfOk-weaker}
use Rattle.ms_check_valid.specs.ExternalsFit.{name_unless, global_fits}
use Rattle.ms_check_externals.proofs.Outsiders.{outside_is, of_globals, of_decls, of_funcs, callees_are}
use Rattle.ms_check_externals.proofs.outside.first_bad_external.Goals as goal

pub returns-in-Some : goal.returns-in-Some
returns-in-Some c =
    let m = c.args.m.now in
    let globals : option_copied c.first_global.result ≡ of_globals m = c.first_global.ensures ∙ ap (λ gs. slice_get (flat_map (λ g. name_unless (global_fits g) g.name) gs) 0) c.as_slice.ensures in
    sym (outside_is m ∙ ap (λ r. option_or r (option_or (of_decls m) (of_funcs m))) (sym globals ∙ ap option_copied c.in-Some.is))

pub returns-in-None : goal.returns-in-None
returns-in-None c =
    let m = c.args.m.now in
    let globals : option_copied c.first_global.result ≡ of_globals m = c.first_global.ensures ∙ ap (λ gs. slice_get (flat_map (λ g. name_unless (global_fits g) g.name) gs) 0) c.as_slice.ensures in
    let none = sym globals ∙ ap option_copied c.in-None.is in
    IfOk-weaker c.first_bad_callee.result _ _ (λ r is. is ∙ callees_are m ∙ sym (outside_is m ∙ ap (λ r. option_or r (option_or (of_decls m) (of_funcs m))) none)) c.first_bad_callee.ensures
