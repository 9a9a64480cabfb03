-- A run that tells of itself where something is wanted tells what is wanted.
use Rattle.std.proofs.Common.{◌≡◌, ◌∙◌, ◌||◌, Bool, true, false, List, [], Option, None, if◌then◌else◌, refl, ap}
use Rattle.ms_ir.specs.declared.syntax.Module.{Module}
use Rattle.ms_runs.specs.declared.runs.BlindPlace.{BlindPlace}
use Rattle.ms_runs.specs.declared.runs.Calls.{Calls}
use Rattle.ms_runs.specs.declared.runs.RunResult.{RunResult}
use Rattle.ms_runs.specs.declared.runs.Setup.{Setup}
use Rattle.ms_runs.specs.Plain.{plain}
use Rattle.ms_runs.specs.Calls.{plain_calls, plain_end_calls, plain_blind, places_of}
use Rattle.ms_runtime.specs.declared.runs.ToldRun.{ToldRun}
use Rattle.ms_runtime.specs.ToldRuns.{plain_told}
use Rattle.ms_corpus.specs.declared.wanted.Wanted.{Wanted}
use Rattle.ms_corpus.specs.Wanted.{is_any, told_as, of_told, plain_wanted}

-- all that is told of a run, if it is
abbrev told_if : Bool → RunResult → List Calls → Option Calls → List BlindPlace → ToldRun
told_if asked r calls last places =
    record { result = r; calls = if asked then calls else []; end_calls = if asked then last else None; places = if asked then places else [] }

module _ (r : RunResult) (calls : List Calls) (last : Option Calls) (places : List BlindPlace) where
  abbrev made : (calls_wanted places_wanted : Bool) → ToldRun
  made c p = told_as (record { calls = c; places = p }) r calls last places

  by_flags : (c p : Bool) → of_told (record { calls = c; places = p }) (told_if (c || p) r calls last places) ≡ made c p
  by_flags true true = refl
  by_flags true false = refl
  by_flags false true = refl
  by_flags false false = refl

  pub wanted_told : (w : Wanted) → of_told w (told_if (is_any w) r calls last places) ≡ told_as w r calls last places
  wanted_told w = by_flags w.calls w.places

pub told_wanted : (w : Wanted) (m : Module) (s : Setup) (t : ToldRun) → t ≡ plain_told (is_any w) m s → of_told w t ≡ plain_wanted w m s
told_wanted w m s t is = ap (of_told w) is ∙ wanted_told (plain m s) (plain_calls m s) (plain_end_calls m s) (places_of (plain_blind m s)) w
