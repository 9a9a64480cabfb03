use Rattle.std.proofs.Common.{◌≡◌, ◌++◌, None, Some, ◌∙◌, ap, filter_map, sym}
use Rattle.std.specs.Prelude.{slice_get, flat_map}
use Rattle.std.specs.Option.{option_copied}
use Rattle.std.proofs.lemmas.Result.{IfOk-weaker}
use Rattle.ms_ir.specs.Locals.{parameter_names, block_locals}
use Rattle.ms_check_valid.specs.NamesOnce.{repeats}
use Rattle.ms_check_tables.proofs.Items.{none_then}
use Rattle.ms_check_tables.proofs.Given.{given_is}
use Rattle.ms_check.proofs.Repeated.{first_answers, second_answers}
use Rattle.ms_check.proofs.duplicates.locals_twice.Goals as goal

pub returns-in-Some : goal.returns-in-Some
returns-in-Some c =
    let f = c.args.func.now in
    let start = c.args.seen.now in
    let given = given_is (λ p. p.1) c.as_slice.result.now f.params c.as_slice.ensures in
    sym (first_answers start (parameter_names f) (flat_map block_locals f.blocks) c.in-Some.name.now
    (ap (λ names. slice_get (repeats start names) 0) (sym given) ∙ sym c.in_ok-name.ensures.first ∙ ap option_copied c.in-Some.is))

pub returns-in-None : goal.returns-in-None
returns-in-None c =
    let f = c.args.func.now in
    let start = c.args.seen.now in
    let seen = c.first_twice.new.seen in
    let given = given_is (λ p. p.1) c.as_slice.result.now f.params c.as_slice.ensures in
    let next : seen ≡ start ++ parameter_names f =
    none_then c.in_ok-name.field-0 (seen ≡ start ++ filter_map (λ p. Some p.1) c.as_slice.result.now) c.in-None.is c.in_ok-name.ensures.seen ∙ ap (λ names. start ++ names) given in
    let none : slice_get (repeats start (parameter_names f)) 0 ≡ None =
    ap (λ names. slice_get (repeats start names) 0) (sym given) ∙ sym c.in_ok-name.ensures.first ∙ ap option_copied c.in-None.is in
    IfOk-weaker c.blocks_twice.result _ _ (λ r p.
    p ∙ ap (λ blocks. slice_get (repeats seen (flat_map block_locals blocks)) 0) c.as_slice-in-None.ensures
    ∙ second_answers start seen (parameter_names f) (flat_map block_locals f.blocks) next none
    ) c.blocks_twice.ensures
