-- The sites of blind uses, and the calls at the end, of runs that go alike.
use Rattle.std.proofs.Common.{◌≡◌, ℕ, List, [], ◌∷◌, None, refl, sym, ap, ◌∙◌}
use Rattle.ms_ir.specs.declared.syntax.Module.{Module}
use Rattle.ms_ir.specs.Instructions.{strip}
use Rattle.ms_runs.specs.declared.runs.Setup.{Setup}
use Rattle.ms_runs.specs.Calls.{call_sites}
use Rattle.ms_runs.specs.World.{World}
use Rattle.ms_runs.specs.Act.{plain_reading}
use Rattle.ms_runs.specs.Control.{Frame}
use Rattle.ms_runs.specs.Plain.{setting_of, start_world, start_frame}
use Rattle.ms_runs.specs.Poisoned.{Poisoned}
use Rattle.ms_runs.specs.Masks.{Rules, by_formulas}
use Rattle.ms_runs.specs.Shadow.{shadow_reading}
use Rattle.ms_runs_threads.specs.Fibers.{Meaning, Fibers, Goes}
use Rattle.ms_runs_threads.specs.Alike.{Relation}
use Rattle.ms_runs_threads.specs.PlainFibers.{Shared, plain_fiber}
use Rattle.ms_runs_threads.specs.ShadowFibers.{shadow_fiber, shadow_threads_start}
use Rattle.ms_runs_threads.specs.Calls.{none_told}
use Rattle.ms_runs_threads.specs.Blind.{fibers_blind, plain_threads_blind, shadow_threads_blind, shadow_threads_blind_by, fibers_end, plain_threads_end_calls, shadow_threads_end_calls, shadow_threads_end_calls_by}
use Rattle.ms_runs_threads.proofs.BlindAlike.{SaysBlind, blind_alike}
use Rattle.ms_runs_threads.proofs.CallsAlike.{SaysSame}
use Rattle.ms_runs_threads.proofs.EndsAlike.{ends_alike}
use Rattle.ms_runs_laws.proofs.ExactRules.{formulas_exact}
use Rattle.ms_runs_laws.proofs.Stripped.{setting_same, start_same, frame_same}
use Rattle.ms_threads_laws.proofs.FollowedRuns.{Followed, same_fiber}

pub computed_blind : (m : Module) (setup : Setup) (schedule : List ℕ) → shadow_threads_blind m setup schedule ≡ shadow_threads_blind_by by_formulas m setup schedule
computed_blind m setup schedule =
    ap (λ (k : Meaning (List (Frame Poisoned)) World). fibers_blind k schedule setup.steps (shadow_threads_start m setup) []) (same_fiber formulas_exact (setting_of m setup) m)

abbrev start_goes : {V S : Type 0} → List (Frame V) → S → Fibers (List (Frame V)) S
start_goes f s = Goes f s (record { stands = λ n. None; picks = 0 })

pub followed_blind : (d : Rules) (m j : Module) → strip j ≡ m → (setup : Setup) (schedule : List ℕ)
    → (r : Relation (shadow_fiber d (setting_of m setup) m) (plain_fiber (setting_of m setup) j)) → (h : Followed d m j setup r)
    → SaysBlind (shadow_fiber d (setting_of m setup) m) (plain_fiber (setting_of m setup) j) r
    → plain_threads_blind j setup schedule ≡ shadow_threads_blind_by d m setup schedule
followed_blind d m j strips setup schedule r h says =
    let s = setting_of m setup in
    let c = start_goes (start_frame shadow_reading m ∷ []) (start_world m setup) in
    let shared : Shared = record { slots = λ a. 0; world = start_world m setup } in
    let p = start_goes (start_frame plain_reading m ∷ []) shared in
    let same : plain_threads_blind j setup schedule ≡ fibers_blind (plain_fiber (setting_of m setup) j) schedule setup.steps p [] = λ i.
    fibers_blind (plain_fiber (setting_same m j strips setup i) j) schedule setup.steps
    (start_goes (frame_same plain_reading m j strips i ∷ []) (let k : Shared = record { slots = λ a. 0; world = start_same m j strips setup i } in k)) [] in
    same
    ∙ sym (blind_alike (shadow_fiber d s m) (plain_fiber s j) r h.laws h.counts h.late h.none says schedule setup.steps c p (h.starts, record { stands = λ n. tt; picks = refl }) [])

-- ---- the end

pub computed_end : (m : Module) (setup : Setup) (schedule : List ℕ) → shadow_threads_end_calls m setup schedule ≡ shadow_threads_end_calls_by by_formulas m setup schedule
computed_end m setup schedule =
    ap (λ (k : Meaning (List (Frame Poisoned)) World). fibers_end k (call_sites m) schedule setup.steps (shadow_threads_start m setup) none_told) (same_fiber formulas_exact (setting_of m setup) m)

pub followed_end : (d : Rules) (m j : Module) → strip j ≡ m → (setup : Setup) (schedule : List ℕ)
    → (r : Relation (shadow_fiber d (setting_of m setup) m) (plain_fiber (setting_of m setup) j)) → (h : Followed d m j setup r)
    → SaysSame (shadow_fiber d (setting_of m setup) m) (plain_fiber (setting_of m setup) j) r h.laws h.counts h.late (call_sites m) (call_sites j)
    → plain_threads_end_calls j setup schedule ≡ shadow_threads_end_calls_by d m setup schedule
followed_end d m j strips setup schedule r h says =
    let s = setting_of m setup in
    let c = start_goes (start_frame shadow_reading m ∷ []) (start_world m setup) in
    let shared : Shared = record { slots = λ a. 0; world = start_world m setup } in
    let p = start_goes (start_frame plain_reading m ∷ []) shared in
    let same : plain_threads_end_calls j setup schedule ≡ fibers_end (plain_fiber (setting_of m setup) j) (call_sites j) schedule setup.steps p none_told = λ i.
    fibers_end (plain_fiber (setting_same m j strips setup i) j) (call_sites j) schedule setup.steps
    (start_goes (frame_same plain_reading m j strips i ∷ []) (let k : Shared = record { slots = λ a. 0; world = start_same m j strips setup i } in k)) none_told in
    same
    ∙ sym (ends_alike (shadow_fiber d s m) (plain_fiber s j) r h.laws h.counts h.late (call_sites m) (call_sites j) h.none says schedule setup.steps c p (h.starts, record { stands = λ n. tt; picks = refl }) none_told)
