-- Frames that stand for those of the definitions have the room that the module's code asks for, whatever program it is.
use Rattle.std.proofs.Common.{ℕ, List, [], ◌∷◌}
use Rattle.ms_ir.specs.declared.syntax.Module.{Module}
use Rattle.ms_runs.specs.declared.runs.Setup.{Setup}
use Rattle.ms_runs.specs.Control.{Frame}
use Rattle.ms_runs.specs.Plain.{PlainState}
use Rattle.ms_check_valid.specs.Formed.{Formed}
use Rattle.ms_check_valid.specs.Valid.{Valid}
use Rattle.ms_machine_code.specs.declared.code.Program.{Program}
use Rattle.ms_machine_code.specs.Compiled.{Compiled}
use Rattle.ms_host.specs.declared.calls.Asked.{Asked}
use Rattle.ms_host.specs.State.{WorldState, Beside}
use Rattle.ms_machine_frames.specs.declared.frames.Frame.{Frame as Kept}
use Rattle.ms_machine_frames.specs.declared.fibers.Fiber.{Fiber}
use Rattle.ms_machine_frames.specs.Standing.{Stands, FramesStand, frames_of, IsState, Standing}
use Rattle.ms_machine_steps.specs.Advances.{HasResumed}
use Rattle.ms_machine_steps.proofs.Callers as callers
use Rattle.ms_machine_steps.specs.Waiting.{IsWaiting}
use Rattle.ms_machine.specs.Running.{StandsFor, AllStandFor, IsRunning, Runs, WaitsFor}

module _ (m : Module) (p : Program) (compiled : Compiled m p) where
  frame_to : (k : Kept) (f : Frame ℕ) → StandsFor m k f → Stands m p k f
  frame_to k f s = let r = compiled.routines f.func s.func s.is in record {
    func = s.func;
    is = s.is;
    routine = r.0;
    routed = r.1.0;
    at = s.at;
    holds = s.holds;
    mark = s.mark;
  }

  pub frames_to : (ks : List Kept) (fs : List (Frame ℕ)) → AllStandFor m ks fs → FramesStand m p ks fs
  frames_to [] [] s = tt
  frames_to (k ∷ ks) (f ∷ fs) s = (frame_to k f s.0, frames_to ks fs s.1)
  frames_to [] (f ∷ fs) s = elim s [ ]
  frames_to (k ∷ ks) [] s = elim s [ ]

  pub frames_from : (ks : List Kept) (fs : List (Frame ℕ)) → FramesStand m p ks fs → AllStandFor m ks fs
  frames_from ks fs s = callers.frames_from m p ks fs s

  pub state_to : Formed m → Valid m → (u : Setup) (beside : Beside) (fiber : Fiber) (w : WorldState) (state : PlainState) → IsRunning m u beside fiber w state → IsState m p u beside fiber w state
  state_to formed valid u beside fiber w state r = record {
    ready = record { formed = formed; valid = valid; bytes = r.bytes; compiled = compiled };
    frames = frames_to (frames_of fiber) state.frames r.frames;
    shows = r.shows;
    slots = r.slots;
    fill = r.fill;
    sound = r.sound;
    owns = r.owns;
  }

  pub state_from : (u : Setup) (beside : Beside) (fiber : Fiber) (w : WorldState) (state : PlainState) → IsState m p u beside fiber w state → IsRunning m u beside fiber w state
  state_from u beside fiber w state s = record {
    bytes = s.ready.bytes;
    frames = frames_from (frames_of fiber) state.frames s.frames;
    shows = s.shows;
    slots = s.slots;
    fill = s.fill;
    sound = s.sound;
    owns = s.owns;
  }

  -- a run that goes on after an answer does so whatever program it is
  pub resumed_from : (u : Setup) (beside : Beside) (call : Asked) (within : PlainState) (fiber : Fiber) (w : WorldState) → HasResumed (IsState m p u beside) m u call within fiber w
      → HasResumed (IsRunning m u beside) m u call within fiber w
  resumed_from u beside call within fiber w h = record { next = h.next; goes = h.goes; stands = state_from u beside fiber w h.next h.stands; calls = h.calls }

  -- a fiber and a world that run stand for some state of the program
  pub standing_to : Formed m → Valid m → (fiber : Fiber) (w : WorldState) → Runs m fiber w → Standing p fiber w
  standing_to formed valid fiber w r = (m, r.0, r.1, r.2, state_to formed valid r.0 r.1 fiber w r.2 r.3)

  -- one that waits for an answer does so with the program
  pub waiting_to : (fiber : Fiber) → WaitsFor m fiber → IsWaiting p fiber
  waiting_to fiber q = record { whole = m; setup = q.0; compiled = compiled; frames = q.1; stands = frames_to (frames_of fiber) q.1 q.3.0; call = q.2; waits = q.3.1 }
