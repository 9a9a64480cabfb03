-- What is told of a plain run, and of the shadow run of a module.
use Rattle.std.specs.Prelude.{Bool, [], None, if◌then◌else◌}
use Rattle.ms_ir.specs.declared.syntax.Module.{Module}
use Rattle.ms_runs.specs.declared.runs.Setup.{Setup}
use Rattle.ms_runs.specs.Plain.{plain}
use Rattle.ms_runs.specs.Shadow.{shadow}
use Rattle.ms_runs.specs.Calls.{plain_calls, shadow_calls, plain_end_calls, shadow_end_calls, plain_blind, shadow_blind, places_of}
use Rattle.ms_runtime.specs.declared.runs.ToldRun.{ToldRun}

-- what it returns, and the calls at its reports and where it ends, and the places of its blind uses, where they are wanted
abbrev pub plain_told : (calls : Bool) → Module → Setup → ToldRun
plain_told calls m setup = record {
  result = plain m setup;
  calls = if calls then plain_calls m setup else [];
  end_calls = if calls then plain_end_calls m setup else None;
  places = if calls then places_of (plain_blind m setup) else [];
}

abbrev pub shadow_told : (calls : Bool) → Module → Setup → ToldRun
shadow_told calls m setup = record {
  result = shadow m setup;
  calls = if calls then shadow_calls m setup else [];
  end_calls = if calls then shadow_end_calls m setup else None;
  places = if calls then places_of (shadow_blind m setup) else [];
}
