use Rattle.std.proofs.Common.{sym}
use Rattle.ms_read_body.proofs.Places.{begins}
use Rattle.ms_read_body.proofs.calls.place_of.Goals as goal

pub returns-then-token-tokens : goal.returns-then-token-tokens
returns-then-token-tokens c = sym (begins c.args.text.now c.args.tokens.now c.args.token _ c.if-token-tokens.true)
