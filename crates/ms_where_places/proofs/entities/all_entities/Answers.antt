use Rattle.std.proofs.Common.{Bool, Ok, true, ◌≡◌, ap, arith, ◌∙◌}
use Rattle.ms_lex.specs.Grammar.{loop}
use Rattle.ms_text_grammar.specs.Modules.{entity, entity_begins}
use Rattle.ms_text_grammar.specs.Steps.{Verdict}
use Rattle.ms_where_places.specs.Failures.{OnlyMemory}
use Rattle.ms_where_places.proofs.Memory.{entity_not_begun, entity_not_read, returned}
use Rattle.ms_where_places.proofs.entities.all_entities.Goals as goal

said : Bool → Verdict Bool
said b = Ok b

pub returns-in_err-entity_begins-clause-only_memory : goal.returns-in_err-entity_begins-clause-only_memory
returns-in_err-entity_begins-clause-only_memory c =
    let form = c.args.form in
    let cause = c.in_err-entity_begins.field-0.0 in
    let only = entity_not_begun form c.args.total c.args.parts.now c.args.tokens.now c.entities.parts c.entities.tokens c.args.found.now.items c.entities.found.items cause c.entities.invariant.0
    (omega arith) c.in_err-entity_begins.ensures in
    returned c.from_residual.result cause (OnlyMemory (loop (entity_begins form) (entity form) c.args.parts.now) c.args.tokens.now) c.from_residual.ensures.1 only

pub returns-in_err-one_entity-clause-only_memory : goal.returns-in_err-one_entity-clause-only_memory
unfolding said
returns-in_err-one_entity-clause-only_memory c =
    let form = c.args.form in
    let cause = c.in_err-one_entity.field-0.0 in
    let is_true : c.in_ok-entity_begins.field-0 ≡ true = grind arith in
    let begins = c.in_ok-entity_begins.ensures ∙ ap said is_true in
    let only = entity_not_read form c.args.total c.args.parts.now c.args.tokens.now c.entities.parts c.entities.tokens c.args.found.now.items c.entities.found.items cause c.entities.invariant.0
    (omega arith) begins c.in_err-one_entity.ensures.only_memory in
    returned c.from_residual-in_err-one_entity.result cause (OnlyMemory (loop (entity_begins form) (entity form) c.args.parts.now) c.args.tokens.now) c.from_residual-in_err-one_entity.ensures.1 only
