use Rattle.std.proofs.Common.{sym, ◌∙◌, ap}
use Rattle.std.specs.Prelude.{flat_map}
use Rattle.std.specs.Option.{option_or}
use Rattle.std.proofs.Math.Path.{ap₂}
use Rattle.ms_ir.specs.Written.{type_mentions}
use Rattle.ms_check_valid.specs.NamesKnown.{global_mentions}
use Rattle.ms_check_tables.specs.Sought.{first_sought}
use Rattle.ms_check_tables.proofs.Mentioned.{sought-append}
use Rattle.ms_check.specs.Known.{is_missing}
use Rattle.ms_check.proofs.Sited.{written_outside}
use Rattle.ms_check.proofs.unknowns.missing_outside.Goals as goal

pub returns : goal.returns
returns c =
    let missing = is_missing c.args.types.now c.args.symbols.now c.new-locals.result in
    let types = flat_map (λ t. type_mentions t.1) c.args.m.now.types in
    let globals = flat_map global_mentions c.args.m.now.globals in
    c.or.ensures
    ∙ ap₂ option_or
    (c.first_among-missing.ensures ∙ ap (λ parts. first_sought missing (flat_map (λ t. type_mentions t.1) parts)) c.as_slice.ensures)
    (c.first_among.ensures ∙ ap (λ parts. first_sought missing (flat_map global_mentions parts)) c.as_slice-2.ensures)
    ∙ sym (sought-append missing types globals)
    ∙ ap (λ names. first_sought (is_missing c.args.types.now c.args.symbols.now names) (written_outside c.args.m.now)) c.new-locals.ensures
