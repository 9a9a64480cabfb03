use Rattle.std.proofs.Common.{Bool, Ok, true, ◌≡◌, ap, arith, ◌∙◌}
use Rattle.ms_lex.specs.Grammar.{loop}
use Rattle.ms_text_grammar.specs.Bodies.{line_begins}
use Rattle.ms_text_grammar.specs.Lines.{line}
use Rattle.ms_text_grammar.specs.Steps.{Verdict}
use Rattle.ms_where_places.specs.Failures.{OnlyMemory}
use Rattle.ms_where_places.proofs.Memory.{line_not_begun, line_not_read, returned}
use Rattle.ms_where_places.proofs.inside.all_lines.Goals as goal

said : Bool → Verdict Bool
said b = Ok b

pub returns-in_err-line_begins-clause-only_memory : goal.returns-in_err-line_begins-clause-only_memory
returns-in_err-line_begins-clause-only_memory c =
    let form = c.args.form in
    let cause = c.in_err-line_begins.field-0.0 in
    let only = line_not_begun form c.args.total c.args.body.now c.args.tokens.now c.lines.body c.lines.tokens c.args.found.now.items c.lines.found.items cause c.lines.invariant (omega arith)
    c.in_err-line_begins.ensures in
    returned c.from_residual.result cause (OnlyMemory (loop (line_begins form) (line form) c.args.body.now) c.args.tokens.now) c.from_residual.ensures.1 only

pub returns-in_err-one_line-clause-only_memory : goal.returns-in_err-one_line-clause-only_memory
unfolding said
returns-in_err-one_line-clause-only_memory c =
    let form = c.args.form in
    let cause = c.in_err-one_line.field-0.0 in
    let is_true : c.in_ok-line_begins.field-0 ≡ true = grind arith in
    let begins = c.in_ok-line_begins.ensures ∙ ap said is_true in
    let only = line_not_read form c.args.total c.args.body.now c.args.tokens.now c.lines.body c.lines.tokens c.args.found.now.items c.lines.found.items cause c.lines.invariant (omega arith)
    begins c.in_err-one_line.ensures.only_memory in
    returned c.from_residual-in_err-one_line.result cause (OnlyMemory (loop (line_begins form) (line form) c.args.body.now) c.args.tokens.now) c.from_residual-in_err-one_line.ensures.1 only
