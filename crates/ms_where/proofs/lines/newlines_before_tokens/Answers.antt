use Rattle.std.proofs.Common.{◌<◌, length, arith}
use Rattle.ms_where.proofs.Newlines.{counted_more}
use Rattle.ms_where.proofs.lines.newlines_before_tokens.Goals as goal

pub loop-token-preserved : goal.loop-token-preserved
loop-token-preserved c =
    let below : c.loop-token.token-index < length c.args.tokens.now = omega arith in
    counted_more _ _ _ _ _ _ c.loop-token.found.items _ _ c.requires c.loop-token.invariant below c.newlines-count.ensures.value c.in_ok-push.ensures.items
