use Rattle.std.proofs.Common.{true, refl, arith}
use Rattle.ms_threads.specs.Recording.{pick_of}
use Rattle.ms_threads.proofs.Recorded.{full_next, kept_next}
use Rattle.ms_threads.proofs.recorder.Recorder.record.Goals as goal

pub returns-then-len-ge-LIMIT : goal.returns-then-len-ge-LIMIT
returns-then-len-ge-LIMIT c = full_next (pick_of c.args.pick) c.args.self.now (record c.args.self.now { more = true }) refl refl (omega arith)

pub returns : goal.returns
returns c = kept_next c.args.pick c.args.self.now (record c.args.self.now { picks = c.push.new.self }) c.in_ok-push.ensures.items refl (omega arith)
