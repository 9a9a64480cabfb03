use Rattle.std.proofs.Common.{arith}
use Rattle.ms_read_body.proofs.Answering.{are_tokens}
use Rattle.ms_text_tests.proofs.parts.all_tokens.Goals as goal

pub returns : goal.returns
returns c = are_tokens c.args.text.now 1000 c.tokens.result c.requires (omega arith) c.tokens.ensures.exact
