use Rattle.std.proofs.Common.{◌≡◌, ◌++◌, [], None, ◌∙◌, ap, sym}
use Rattle.std.specs.Prelude.{slice_get}
use Rattle.std.specs.Option.{option_copied}
use Rattle.std.proofs.lemmas.Result.{IfOk-weaker}
use Rattle.ms_ir.specs.Locals.{global_names, declared_names, type_names}
use Rattle.ms_check_valid.specs.NamesOnce.{repeats, function_duplicates}
use Rattle.ms_check_tables.proofs.Items.{none_then}
use Rattle.ms_check.proofs.Repeated.{symbol_fault, function_fault}
use Rattle.ms_check.proofs.duplicates.any_symbol_twice.Goals as goal

pub returns-in-Some : goal.returns-in-Some
returns-in-Some c =
    let m = c.args.m.now in
    let types : slice_get (repeats [] (type_names m)) 0 ≡ None = c.requires.types in
    sym (symbol_fault m c.in-Some.name.now types
    (ap (λ seen. slice_get (repeats seen (global_names m ++ declared_names m)) 0) (sym c.requires.empty) ∙ sym c.in_ok-name.ensures.first ∙ ap option_copied c.in-Some.is))

pub returns-in-None : goal.returns-in-None
returns-in-None c =
    let m = c.args.m.now in
    let names = global_names m ++ declared_names m in
    let types : slice_get (repeats [] (type_names m)) 0 ≡ None = c.requires.types in
    let once : slice_get (repeats [] names) 0 ≡ None =
    ap (λ seen. slice_get (repeats seen names) 0) (sym c.requires.empty) ∙ sym c.in_ok-name.ensures.first ∙ ap option_copied c.in-None.is in
    let symbols : c.symbol_twice.new.symbols ≡ names =
    none_then c.in_ok-name.field-0 (c.symbol_twice.new.symbols ≡ c.args.symbols.now ++ names) c.in-None.is c.in_ok-name.ensures.symbols ∙ ap (λ seen. seen ++ names) c.requires.empty in
    IfOk-weaker c.functions_twice.result _ _ (λ r p.
    p ∙ ap (λ funcs. slice_get (function_duplicates c.symbol_twice.new.symbols funcs) 0) c.as_slice.ensures ∙ function_fault m c.symbol_twice.new.symbols types once symbols
    ) c.functions_twice.ensures
