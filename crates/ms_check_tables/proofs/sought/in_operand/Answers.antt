use Rattle.std.proofs.Common.{[], ◌∷◌, sym, ◌∙◌, ap}
use Rattle.std.specs.Prelude.{flat_map}
use Rattle.std.specs.Option.{option_or}
use Rattle.std.proofs.Math.Path.{ap₂}
use Rattle.ms_ir.specs.Written.{OfGlobal, type_mentions, operand_mentions}
use Rattle.ms_check_tables.specs.Sought.{first_sought}
use Rattle.ms_check_tables.proofs.Mentioned.{sought-append}
use Rattle.ms_check_tables.proofs.sought.in_operand.Goals as goal

pub returns-in-Offset : goal.returns-in-Offset
returns-in-Offset g c =
    let sought = g.S.Search.sought c.args.search.now in
    c.or.ensures
    ∙ ap₂ option_or (c.in_steps.ensures ∙ ap (λ ss. first_sought sought (flat_map (λ s. type_mentions s.0) ss)) c.as_slice.ensures)
    (c.global_sought-in-Offset.ensures ∙ ap (λ n. first_sought sought (OfGlobal n ∷ [])) c.get.ensures)
    ∙ sym (sought-append sought (flat_map (λ s. type_mentions s.0) c.in-Offset.steps) (OfGlobal c.in-Offset.name ∷ []))
    ∙ ap (λ o. first_sought sought (operand_mentions o)) (sym c.in-Offset.is)
