use Rattle.ms_lex.specs.Grammar.{tail}
use Rattle.ms_text_grammar.specs.Lines.{line}
use Rattle.ms_read_cursor.specs.Reading.{front}
use Rattle.ms_where_places.specs.Failures.{OnlyMemory}
use Rattle.ms_where_places.proofs.Memory.{gave, returned}
use Rattle.ms_where_places.proofs.inside.one_line.Goals as goal

pub returns-in_err-read_line-clause-only_memory : goal.returns-in_err-read_line-clause-only_memory
returns-in_err-read_line-clause-only_memory c =
    let form = c.args.form in
    let body = c.args.body.now in
    let cause = c.in_err-read_line.field-0.0 in
    let whole = gave (line form body (front c.args.tokens.now)) (tail c.args.tokens.now) _ cause c.in_err-read_line.ensures in
    returned c.from_residual.result cause (OnlyMemory (line form body (front c.args.tokens.now)) (tail c.args.tokens.now)) c.from_residual.ensures.1 whole
