use Rattle.ms_text_grammar.specs.Skipped.{attributes}
use Rattle.ms_read_body.specs.Calls.{ReadsExactly}
use Rattle.std.proofs.Common.{sym, subst}
use Rattle.ms_read_body.proofs.Answering.{answered}
use Rattle.ms_read_body.proofs.calls.skip_attributes.Goals as goal

pub returns : goal.returns
returns c =
    let answer = answered (attributes c.args.form) c.args.text.now c.args.tokens.now c.args.at c.attributes-read.result c.cursor_at-cursor.result c.attributes-read.new.tokens c.left.result c.answer.result c.cursor_at-cursor.ensures c.attributes-read.ensures c.left.ensures c.answer.ensures in
    subst (λ r. ReadsExactly (attributes c.args.form) c.args.text.now c.args.tokens.now c.args.at r) (sym c.next_token.ensures) answer
