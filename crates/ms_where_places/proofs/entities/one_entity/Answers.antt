use Rattle.ms_lex.specs.Grammar.{tail}
use Rattle.ms_text_grammar.specs.Modules.{entity}
use Rattle.ms_read_cursor.specs.Reading.{front}
use Rattle.ms_where_places.specs.Failures.{OnlyMemory}
use Rattle.ms_where_places.proofs.Memory.{gave, returned}
use Rattle.ms_where_places.proofs.entities.one_entity.Goals as goal

pub returns-in_err-entity-clause-only_memory : goal.returns-in_err-entity-clause-only_memory
returns-in_err-entity-clause-only_memory c =
    let form = c.args.form in
    let parts = c.args.parts.now in
    let cause = c.in_err-entity.field-0.0 in
    let whole = gave (entity form parts (front c.args.tokens.now)) (tail c.args.tokens.now) c.entity.new.tokens cause c.in_err-entity.ensures.exact in
    returned c.from_residual-in_err-entity.result cause (OnlyMemory (entity form parts (front c.args.tokens.now)) (tail c.args.tokens.now)) c.from_residual-in_err-entity.ensures.1 whole
