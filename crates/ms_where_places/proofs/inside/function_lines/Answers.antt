use Rattle.ms_text_grammar.specs.Functions.{function}
use Rattle.ms_where_places.specs.Failures.{OnlyMemory}
use Rattle.ms_where_places.proofs.Memory.{heading_not_read, returned}
use Rattle.ms_where_places.proofs.inside.function_lines.Goals as goal

pub returns-in_err-body-clause-only_memory : goal.returns-in_err-body-clause-only_memory
returns-in_err-body-clause-only_memory c =
    let cause = c.in_err-body.field-0.0 in
    let only = heading_not_read c.args.form c.args.before c.args.tokens.now cause c.heading.new.tokens c.in_err-body.ensures in
    returned c.from_residual.result cause (OnlyMemory (function c.args.form c.args.before) c.args.tokens.now) c.from_residual.ensures.1 only
