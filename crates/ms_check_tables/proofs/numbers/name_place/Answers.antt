use Rattle.std.proofs.Common.{sym, ap, length, ◌∙◌}
use Rattle.std.specs.Prelude.{unwrap_or}
use Rattle.ms_check_tables.proofs.Tied.{name_place_is}
use Rattle.ms_check_tables.proofs.numbers.name_place.Goals as goal

pub returns-in-Some : goal.returns-in-Some
returns-in-Some c =
    let names = c.args.names.now in
    sym (name_place_is names c.args.name.now ∙ ap (λ o. unwrap_or o (length names)) (sym c.in-Some.ensures))

pub returns-in-None : goal.returns-in-None
returns-in-None c =
    let names = c.args.names.now in
    c.len.ensures ∙ sym (name_place_is names c.args.name.now ∙ ap (λ o. unwrap_or o (length names)) (sym c.in-None.ensures))
