-- The run of a module's instrumented form picks as the shadow run of the module.
use Rattle.std.proofs.Common.{◌≡◌, ℕ, true, List, [], ◌∷◌, Some, None, refl, sym, ap, ◌∙◌, arith}
use Rattle.ms_ir.specs.declared.syntax.Name.{Name}
use Rattle.ms_ir.specs.declared.syntax.Func.{Func}
use Rattle.ms_ir.specs.declared.syntax.Module.{Module}
use Rattle.ms_ir.specs.Instructions.{func_at}
use Rattle.ms_runs.specs.declared.runs.Setup.{Setup}
use Rattle.ms_runs.specs.World.{World, Setting}
use Rattle.ms_runs.specs.Control.{Frame}
use Rattle.ms_runs.specs.Act.{plain_reading}
use Rattle.ms_runs.specs.Plain.{setting_of, start_world, start_frame}
use Rattle.ms_runs.specs.Poisoned.{Poisoned}
use Rattle.ms_runs.specs.Masks.{by_formulas}
use Rattle.ms_runs.specs.Shadow.{shadow_reading}
use Rattle.ms_runs.specs.Faithful.{Fair}
use Rattle.ms_runs_laws.proofs.ExactRules.{formulas_exact}
use Rattle.ms_runs_laws.proofs.Stripped.{setting_same, start_same, frame_same}
use Rattle.ms_runs_good_laws.specs.GoodWorlds.{GivesBytes}
use Rattle.ms_runs_good_laws.proofs.Sound.{shadow_sound}
use Rattle.ms_runs_clean_laws.proofs.CleanRuns.{start_clean}
use Rattle.ms_check_valid.specs.CleanValues.{IsClean}
use Rattle.ms_check_valid.specs.Formed.{Formed}
use Rattle.ms_check_valid.specs.Valid.{Valid}
use Rattle.ms_pass_laws.specs.Pass.{Numbering, pass}
use Rattle.ms_pass_laws.specs.Known.{KnownModule}
use Rattle.ms_pass_laws.proofs.KnownFunctions.{main_params}
use Rattle.ms_pass_laws.proofs.Placed.{start_placed}
use Rattle.ms_pass_laws.proofs.Whole.{starts}
use Rattle.ms_runs_threads.specs.Fibers.{Meaning, Fibers, Goes}
use Rattle.ms_runs_threads.specs.PlainFibers.{Shared, plain_fiber}
use Rattle.ms_runs_threads.specs.ShadowFibers.{shadow_fiber, shadow_threads_start}
use Rattle.ms_threads_laws.proofs.FollowedRuns.{same_fiber}
use Rattle.ms_threads_laws.proofs.Following.{Kept, relation, laws, late, counts}
use Rattle.ms_threads_laws.proofs.KeptRuns.{run_kept, start_begun}
use Rattle.ms_threads_schedules_laws.specs.Picks.{picks_in, plain_picks, shadow_picks, shadow_picks_by}
use Rattle.ms_threads_schedules_laws.proofs.PicksAlike.{picks_alike}

abbrev start_goes : {V S : Type 0} → List (Frame V) → S → Fibers (List (Frame V)) S
start_goes f s = Goes f s (record { stands = λ n. None; picks = 0 })

computed_picks : (m : Module) (setup : Setup) (schedule : List ℕ) → shadow_picks m setup schedule ≡ shadow_picks_by by_formulas m setup schedule
computed_picks m setup schedule = ap (λ (k : Meaning (List (Frame Poisoned)) World). picks_in k schedule setup.steps (shadow_threads_start m setup)) (same_fiber formulas_exact (setting_of m setup) m)

module _ (m : Module) (formed : Formed m) (valid : Valid m) (setup : Setup) (bytes : GivesBytes setup) (numbers : ℕ → Numbering) (known : KnownModule (setting_of m setup) numbers m)
    (says : (n : ℕ) (f : Func) → func_at m n ≡ Some f → (x : Name) → (numbers n).env.clean x ≡ true → IsClean m f x) (schedule : List ℕ) where
  abbrev s : Setting
  s = setting_of m setup

  abbrev kept : Kept (setting_of m setup) numbers m known
  kept = run_kept m formed valid setup bytes numbers known says

  picks_follow : plain_picks (pass numbers m) setup schedule ≡ shadow_picks_by by_formulas m setup schedule
  picks_follow =
      let sound = shadow_sound m formed valid setup bytes in
      let c = start_goes (start_frame shadow_reading m ∷ []) (start_world m setup) in
      let shared : Shared = record { slots = λ a. 0; world = start_world m setup } in
      let p = start_goes (start_frame plain_reading m ∷ []) shared in
      let same : plain_picks (pass numbers m) setup schedule ≡ picks_in (plain_fiber (setting_of m setup) (pass numbers m)) schedule setup.steps p = λ i.
      picks_in (plain_fiber (setting_same m (pass numbers m) known.strips setup i) (pass numbers m)) schedule setup.steps
      (start_goes (frame_same plain_reading m (pass numbers m) known.strips i ∷ []) (let k : Shared = record { slots = λ a. 0; world = start_same m (pass numbers m) known.strips setup i } in k)) in
      same
      ∙ sym (picks_alike (shadow_fiber by_formulas s m) (plain_fiber s (pass numbers m)) (relation s numbers m known kept) (laws s numbers m known kept) (counts s numbers m known kept) (late s numbers m known kept)
      (λ e w v h. h) schedule setup.steps c p (
        (starts numbers m setup known.strips (main_params m valid), ((λ y. omega arith), tt), start_placed m formed valid setup bytes, (sound.frames, start_clean m setup), (sound.world, start_begun m setup)),
        record { stands = λ n. tt; picks = refl },
      ) refl)

pub picks_followed : (m : Module) → Formed m → Valid m → (numbers : ℕ → Numbering)
    → ((n : ℕ) (f : Func) → func_at m n ≡ Some f → (x : Name) → (numbers n).env.clean x ≡ true → IsClean m f x)
    → (setup : Setup) → Fair setup → KnownModule (setting_of m setup) numbers m → (schedule : List ℕ) → plain_picks (pass numbers m) setup schedule ≡ shadow_picks m setup schedule
picks_followed m formed valid numbers says setup fair known schedule =
    picks_follow m formed valid setup (record { input = fair.bytes; fill = fair.fill }) numbers known says schedule ∙ sym (computed_picks m setup schedule)
