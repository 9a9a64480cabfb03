use Rattle.std.proofs.Common.{refl}
use Rattle.ms_threads.proofs.Picks.{stood_picks}
use Rattle.ms_threads.proofs.runs.ThreadedRun.park.Goals as goal

pub returns : goal.returns
returns c = record {
  picking = λ m u schedule is a. stood_picks m u schedule c.args.self.now _ c.args.call a is c.park.ensures refl refl refl refl (refl, refl, refl, refl);
  budget = refl;
  wanted = refl;
}
