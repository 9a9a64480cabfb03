use Rattle.std.proofs.Common.{◌≡◌, ◌++◌, None, Some, ◌∙◌, ap, append_assoc, filter_map, sym}
use Rattle.std.specs.Prelude.{slice_get}
use Rattle.std.specs.Option.{option_copied}
use Rattle.std.proofs.lemmas.Result.{IfOk-weaker}
use Rattle.ms_ir.specs.Locals.{global_names, declared_names}
use Rattle.ms_check_valid.specs.NamesOnce.{repeats}
use Rattle.ms_check_tables.proofs.Items.{under_none, none_then}
use Rattle.ms_check_tables.proofs.Given.{given_is}
use Rattle.ms_check.proofs.Repeated.{first_answers, second_answers}
use Rattle.ms_check.proofs.duplicates.symbol_twice.Goals as goal

pub returns-in-Some-clause-first : goal.returns-in-Some-clause-first
returns-in-Some-clause-first c =
    let given = given_is (λ g. g.name) c.as_slice.result.now c.args.m.now.globals c.as_slice.ensures in
    sym (first_answers c.args.symbols.now (global_names c.args.m.now) (declared_names c.args.m.now) c.in-Some.name.now
    (ap (λ names. slice_get (repeats c.args.symbols.now names) 0) (sym given) ∙ sym c.in_ok-name.ensures.first ∙ ap option_copied c.in-Some.is))

pub returns-in-None-clause-first : goal.returns-in-None-clause-first
returns-in-None-clause-first c =
    let symbols = c.args.symbols.now in
    let seen = c.first_twice.new.seen in
    let given = given_is (λ g. g.name) c.as_slice.result.now c.args.m.now.globals c.as_slice.ensures in
    let declared = given_is (λ d. d.name) c.as_slice-in-None.result.now c.args.m.now.decls c.as_slice-in-None.ensures in
    let next : seen ≡ symbols ++ global_names c.args.m.now =
    none_then c.in_ok-name.field-0 (seen ≡ symbols ++ filter_map (λ g. Some g.name) c.as_slice.result.now) c.in-None.is c.in_ok-name.ensures.seen ∙ ap (λ names. symbols ++ names) given in
    let none : slice_get (repeats symbols (global_names c.args.m.now)) 0 ≡ None =
    ap (λ names. slice_get (repeats symbols names) 0) (sym given) ∙ sym c.in_ok-name.ensures.first ∙ ap option_copied c.in-None.is in
    IfOk-weaker c.first_twice-in-None.result _ _ (λ r p.
    p ∙ ap (λ names. slice_get (repeats seen names) 0) declared ∙ second_answers symbols seen (global_names c.args.m.now) (declared_names c.args.m.now) next none
    ) c.first_twice-in-None.ensures.first

pub returns-in-None-clause-symbols : goal.returns-in-None-clause-symbols
returns-in-None-clause-symbols c =
    let symbols = c.args.symbols.now in
    let seen = c.first_twice.new.seen in
    let given = given_is (λ g. g.name) c.as_slice.result.now c.args.m.now.globals c.as_slice.ensures in
    let declared = given_is (λ d. d.name) c.as_slice-in-None.result.now c.args.m.now.decls c.as_slice-in-None.ensures in
    let next : seen ≡ symbols ++ global_names c.args.m.now =
    none_then c.in_ok-name.field-0 (seen ≡ symbols ++ filter_map (λ g. Some g.name) c.as_slice.result.now) c.in-None.is c.in_ok-name.ensures.seen ∙ ap (λ names. symbols ++ names) given in
    IfOk-weaker c.first_twice-in-None.result _ _ (λ r p. under_none r _ _ (λ more.
    more ∙ ap (λ names. seen ++ names) declared ∙ ap (λ names. names ++ declared_names c.args.m.now) next ∙ append_assoc symbols (global_names c.args.m.now) (declared_names c.args.m.now)
    ) p
    ) c.first_twice-in-None.ensures.seen
