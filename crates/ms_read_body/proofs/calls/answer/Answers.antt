use Rattle.std.proofs.Common.{◌<◌, ◌^◌, arith, rules}
use Rattle.ms_read_body.proofs.Answering.{few_tokens}
use Rattle.ms_read_body.proofs.calls.answer.Goals as goal

pub overflow_cast-result : goal.overflow_cast-result
overflow_cast-result g c =
    let few = few_tokens c.args.text.now c.args.tokens.now c.requires in
    let less : c.saturating_sub-token.result < 2 ^ 32 = omega (arith, few) in
    search rules

pub overflow_cast-token : goal.overflow_cast-token
overflow_cast-token g c =
    let few = few_tokens c.args.text.now c.args.tokens.now c.requires in
    let less : c.saturating_sub-token.result < 2 ^ 32 = omega (arith, few) in
    search rules
