use Rattle.std.proofs.Common.{◌≡◌, subst}
use Rattle.ms_lex.specs.Grammar.{loop}
use Rattle.ms_ir.specs.declared.syntax.Module.{Module}
use Rattle.ms_text_grammar.specs.declared.refusals.Cause.TheVariants.{NoMemory}
use Rattle.ms_text_grammar.specs.Modules.{entity, entity_begins, no_parts}
use Rattle.ms_text_grammar.specs.Texts.{HasTokens, Reads}
use Rattle.ms_where_places.specs.Failures.{OnlyMemory}
use Rattle.ms_where_places.proofs.Memory.{module_not_read, returned}
use Rattle.ms_where_places.proofs.entities.marks_in.Goals as goal

pub returns-in_err-all_entities-clause-only_memory : goal.returns-in_err-all_entities-clause-only_memory
returns-in_err-all_entities-clause-only_memory c =
    let form = c.args.form in
    let text = c.args.text.now in
    let tokens = c.args.tokens.now in
    let cause = c.in_err-all_entities.field-0.0 in
    let start = subst (λ p. OnlyMemory (loop (entity_begins form) (entity form) p) c.at-cursor.result cause) c.no_parts-parts.ensures c.in_err-all_entities.ensures.only_memory in
    let whole = subst (λ ts. OnlyMemory (loop (entity_begins form) (entity form) no_parts) ts cause) c.at-cursor.ensures start in
    returned c.from_residual.result cause (λ e. (m : Module) → Reads form text m → HasTokens form text tokens → e ≡ NoMemory) c.from_residual.ensures.1
    (module_not_read form text tokens cause whole)
