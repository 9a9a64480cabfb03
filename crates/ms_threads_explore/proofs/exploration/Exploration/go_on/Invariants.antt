use Rattle.std.proofs.Common.{◌≡◌, ◌+◌, drop, map}
use Rattle.ms_runs_threads.specs.PlainFibers.{plain_threads}
use Rattle.ms_threads_schedules_laws.specs.Picks.{plain_picks}
use Rattle.ms_threads_explore.specs.Beginnings.{told_of}
use Rattle.ms_threads_explore.specs.Trials.{IsGoing, AreTrials}
use Rattle.ms_threads_explore.proofs.exploration.Exploration.go_on.Given as goal

abbrev pub invariant-loop-k : goal.invariant-loop-k
invariant-loop-k g l = record {
  going : IsGoing (plain_picks l.m l.setup) (plain_threads l.m l.setup) l.self;
  trials : AreTrials (plain_picks l.m l.setup) (plain_threads l.m l.setup) (drop l.k l.trials.items) (drop l.self.next (map told_of l.self.beginnings.items));
  most : l.self.most ≡ l.fn.self.most;
  next : l.self.next ≡ l.fn.self.next + l.k;
}
