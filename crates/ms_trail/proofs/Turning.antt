-- Turns of a follower.
use Rattle.ms_machine_code.specs.declared.code.Code.{Code}
use Rattle.ms_host.specs.State.{nothing_beside}
use Rattle.ms_machine.specs.Running.{Runs}
use Rattle.ms_trail.specs.declared.traced_run.TracedRun.{TracedRun}
use Rattle.ms_trail_uses.specs.Due.{IsDue}
use Rattle.ms_trail.specs.Following.{Passes}
use Rattle.ms_trail.specs.Ready.{FitsHere, IsGoing, IsReady}

-- it stands for a state of the machine's run
pub runs_going : (f : TracedRun) → IsGoing f → Runs f.m.now f.fiber f.world
runs_going f g = (g.0, nothing_beside, g.2.1.state, g.2.1.running)

-- where the checks of its instruction pass, it may take the step
pub ready_now : (f : TracedRun) (k : Code) (g : IsGoing f) → IsDue f.m.now f.fiber f.world k → FitsHere f.fiber k → Passes f.m.now g.0 g.1 → IsReady f k
ready_now f k g due fits passes = record {
  setup = g.0;
  run = g.1;
  one = g.2.0;
  is = g.2.1;
  passes = passes;
  due = due;
  fits = fits;
  room = g.2.2;
}
