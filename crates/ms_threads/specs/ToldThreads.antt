-- What is told of a plain run with threads, and of the shadow run of a module.
use Rattle.std.specs.Prelude.{ℕ, Bool, List, [], None, if◌then◌else◌}
use Rattle.ms_ir.specs.declared.syntax.Module.{Module}
use Rattle.ms_runs.specs.declared.runs.Setup.{Setup}
use Rattle.ms_runs.specs.Calls.{places_of}
use Rattle.ms_runs_threads.specs.PlainFibers.{plain_threads}
use Rattle.ms_runs_threads.specs.ShadowFibers.{shadow_threads}
use Rattle.ms_runs_threads.specs.Calls.{plain_threads_calls, shadow_threads_calls}
use Rattle.ms_runs_threads.specs.Blind.{plain_threads_blind, shadow_threads_blind, plain_threads_end_calls, shadow_threads_end_calls}
use Rattle.ms_runtime.specs.declared.runs.ToldRun.{ToldRun}

-- what it returns, and the calls at its reports and where it ends, and the places of its blind uses, where they are wanted
abbrev pub plain_threads_told : (calls : Bool) → Module → Setup → (schedule : List ℕ) → ToldRun
plain_threads_told calls m setup schedule = record {
  result = plain_threads m setup schedule;
  calls = if calls then plain_threads_calls m setup schedule else [];
  end_calls = if calls then plain_threads_end_calls m setup schedule else None;
  places = if calls then places_of (plain_threads_blind m setup schedule) else [];
}

abbrev pub shadow_threads_told : (calls : Bool) → Module → Setup → (schedule : List ℕ) → ToldRun
shadow_threads_told calls m setup schedule = record {
  result = shadow_threads m setup schedule;
  calls = if calls then shadow_threads_calls m setup schedule else [];
  end_calls = if calls then shadow_threads_end_calls m setup schedule else None;
  places = if calls then places_of (shadow_threads_blind m setup schedule) else [];
}
