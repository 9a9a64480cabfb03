use Rattle.std.proofs.Common.{refl}
use Rattle.ms_trail_bytes.specs.Logs.{move_limit}
use Rattle.ms_trail_bytes.proofs.LogLemmas.{counted_more, kept_same}
use Rattle.ms_trail_bytes.proofs.logs.Log.skip.Goals as goal

pub returns-clause-told : goal.returns-clause-told
returns-clause-told c = λ moves told log. record {
  count = counted_more moves told c.args.self.now.count _ log.count refl;
  kept = kept_same move_limit moves c.args.self.now.moves.items told c.args.self.now.count log.count c.requires.full log.kept;
}
