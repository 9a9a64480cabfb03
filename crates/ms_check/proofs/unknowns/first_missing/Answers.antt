use Rattle.std.proofs.Common.{◌≡◌, [], sym, ◌∙◌, ap}
use Rattle.std.specs.Prelude.{slice_get}
use Rattle.std.specs.Option.{option_or}
use Rattle.std.proofs.Math.Path.{ap₂}
use Rattle.std.proofs.lemmas.Result.{IfOk-weaker}
use Rattle.ms_ir.specs.Locals.{type_names, symbols}
use Rattle.ms_ir.specs.Spots.{found_at_insts}
use Rattle.ms_check_tables.specs.Sought.{first_sought}
use Rattle.ms_check.specs.Known.{is_missing}
use Rattle.ms_check.proofs.Sited.{at_site, missing_look, written_outside, unknowns_is}
use Rattle.ms_check.proofs.unknowns.first_missing.Goals as goal

pub returns-in-Some : goal.returns-in-Some
returns-in-Some c =
    let m = c.args.m.now in
    let outside : c.missing_outside.result ≡ first_sought (is_missing (type_names m) (symbols m) []) (written_outside m) =
    c.missing_outside.ensures ∙ ap₂ (λ types names. first_sought (is_missing types names []) (written_outside m)) c.requires.types c.requires.defined in
    sym (unknowns_is m ∙ ap (λ r. option_or (at_site 0 r) (slice_get (found_at_insts (missing_look (type_names m) (symbols m)) m) 0)) (sym outside ∙ c.in-Some.is))

pub returns-in-None : goal.returns-in-None
returns-in-None c =
    let m = c.args.m.now in
    let outside : c.missing_outside.result ≡ first_sought (is_missing (type_names m) (symbols m) []) (written_outside m) =
    c.missing_outside.ensures ∙ ap₂ (λ types names. first_sought (is_missing types names []) (written_outside m)) c.requires.types c.requires.defined in
    IfOk-weaker c.missing_in_code.result _ _ (λ r p.
    p ∙ ap₂ (λ types names. slice_get (found_at_insts (missing_look types names) m) 0) c.requires.types c.requires.defined
    ∙ sym (unknowns_is m ∙ ap (λ r. option_or (at_site 0 r) (slice_get (found_at_insts (missing_look (type_names m) (symbols m)) m) 0)) (sym outside ∙ c.in-None.is))
    ) c.missing_in_code.ensures
