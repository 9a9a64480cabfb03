-- What is wanted of what is told of a run.
use Rattle.std.specs.Prelude.{Bool, ◌||◌, List, [], Option, None, if◌then◌else◌}
use Rattle.ms_ir.specs.declared.syntax.Module.{Module}
use Rattle.ms_runs.specs.declared.runs.BlindPlace.{BlindPlace}
use Rattle.ms_runs.specs.declared.runs.Calls.{Calls}
use Rattle.ms_runs.specs.declared.runs.RunResult.{RunResult}
use Rattle.ms_runs.specs.declared.runs.Setup.{Setup}
use Rattle.ms_runs.specs.Plain.{plain}
use Rattle.ms_runs.specs.Shadow.{shadow}
use Rattle.ms_runs.specs.Calls.{plain_calls, shadow_calls, plain_end_calls, shadow_end_calls, plain_blind, shadow_blind, places_of}
use Rattle.ms_runtime.specs.declared.runs.ToldRun.{ToldRun}
use Rattle.ms_corpus.specs.declared.wanted.Wanted.{Wanted}

-- something is wanted
abbrev pub is_any : Wanted → Bool
is_any w = w.calls || w.places

-- what is wanted of a run of which this can be told
abbrev pub told_as : Wanted → RunResult → List Calls → Option Calls → List BlindPlace → ToldRun
told_as w r calls last places = record {
  result = r;
  calls = if w.calls then calls else [];
  end_calls = if w.calls then last else None;
  places = if w.places then places else [];
}

abbrev pub of_told : Wanted → ToldRun → ToldRun
of_told w t = told_as w t.result t.calls t.end_calls t.places

-- a run of which nothing is told
abbrev pub silent : RunResult → ToldRun
silent r = record { result = r; calls = []; end_calls = None; places = [] }

-- what is told of a plain run, and of the shadow run of a module
abbrev pub plain_wanted : Wanted → Module → Setup → ToldRun
plain_wanted w m setup = told_as w (plain m setup) (plain_calls m setup) (plain_end_calls m setup) (places_of (plain_blind m setup))

abbrev pub shadow_wanted : Wanted → Module → Setup → ToldRun
shadow_wanted w m setup = told_as w (shadow m setup) (shadow_calls m setup) (shadow_end_calls m setup) (places_of (shadow_blind m setup))
