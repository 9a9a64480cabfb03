use Rattle.std.proofs.Common.{refl}
use Rattle.ms_trail_bytes.specs.Logs.{move_limit}
use Rattle.ms_trail_bytes.proofs.LogLemmas.{counted_more, kept_more}
use Rattle.ms_trail_bytes.proofs.logs.Log.push.Goals as goal

pub returns-clause-told : goal.returns-clause-told
returns-clause-told c = λ moves log. record {
  count = counted_more moves c.args.told c.args.self.now.count _ log.count refl;
  kept = kept_more move_limit moves c.args.self.now.moves.items _ c.args.told c.args.self.now.count log.count c.requires.room log.kept c.in_ok-push.ensures.items;
}
