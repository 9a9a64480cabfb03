-- Runs of fibers of a module and of its instrumented form, by the laws of one fiber; and rules that give the same masks.
use Rattle.std.proofs.Common.{◌≡◌, ℕ, List, [], ◌∷◌, None, refl, sym, ap, ◌∙◌}
use Rattle.ms_ir.specs.declared.syntax.Inst.{Inst}
use Rattle.ms_ir.specs.declared.syntax.Module.{Module}
use Rattle.ms_ir.specs.Instructions.{strip}
use Rattle.ms_runs.specs.declared.runs.Setup.{Setup}
use Rattle.ms_runs.specs.declared.runs.End.{End}
use Rattle.ms_runs.specs.World.{World, Setting, Does, result}
use Rattle.ms_runs.specs.Control.{Frame, here, rest_of}
use Rattle.ms_runs.specs.Act.{plain_reading}
use Rattle.ms_runs.specs.Plain.{setting_of, start_world, start_frame}
use Rattle.ms_runs.specs.Poisoned.{Poisoned}
use Rattle.ms_runs.specs.Masks.{Rules, SameRules, by_completions, by_formulas}
use Rattle.ms_runs.specs.Shadow.{shadow_moved, shadow_reading}
use Rattle.ms_runs_laws.proofs.SameRuns.{same_after, same_step}
use Rattle.ms_runs_laws.proofs.ExactRules.{formulas_exact}
use Rattle.ms_runs_laws.proofs.Stripped.{setting_same, start_same, frame_same}
use Rattle.ms_runs_threads.specs.Fibers.{Meaning, Fibers, Goes, ends_in}
use Rattle.ms_runs_threads.specs.Alike.{Relation, Laws, LateLaws, Counts}
use Rattle.ms_runs_threads.specs.PlainFibers.{Shared, plain_fiber, plain_threads}
use Rattle.ms_runs_threads.specs.ShadowFibers.{shadow_state, shadow_going, shadow_fiber, perform_first, shadow_perform, shadow_threads_by}
use Rattle.ms_runs_threads.proofs.Follow.{runs_alike}
use Rattle.ms_runs.specs.Calls.{call_sites}
use Rattle.ms_runs_threads.specs.Calls.{fibers_told, none_told, plain_threads_calls, shadow_threads_calls_by, shadow_threads_calls}
use Rattle.ms_runs_threads.proofs.CallsAlike.{SaysSame, calls_alike}

-- ---- rules that give the same masks

same_perform : {d e : Rules} → SameRules d e → (s : Setting) (m : Module) (f : List (Frame Poisoned)) (w : World) → shadow_perform d s m f w ≡ shadow_perform e s m f w
same_perform same s m [] w = refl
same_perform {d} {e} same s m (f ∷ below) w = by_list (rest_of m f)
  where
    by_list : (is : List Inst) → perform_first d s m is f below w ≡ perform_first e s m is f below w
    by_list [] = refl
    by_list (i ∷ is) = ap shadow_moved (same_after same s m i (here s m f) f below (Does w))

pub same_fiber : {d e : Rules} → SameRules d e → (s : Setting) (m : Module) → shadow_fiber d s m ≡ shadow_fiber e s m
same_fiber {d} {e} same s m = λ i. record (shadow_fiber d s m) {
  step = λ f w. shadow_going (same_step same s m (shadow_state f w) i);
  perform = λ f w. shadow_going (same_perform same s m f w i);
}

pub same_threads : {d e : Rules} → SameRules d e → (m : Module) (setup : Setup) (schedule : List ℕ) → shadow_threads_by d m setup schedule ≡ shadow_threads_by e m setup schedule
same_threads same m setup schedule =
    ap (λ (k : Meaning (List (Frame Poisoned)) World). let at = ends_in k schedule setup.steps (Goes (start_frame shadow_reading m ∷ []) (start_world m setup) (record { stands = λ n. None; picks = 0 })) in result at.0 at.1)
    (same_fiber same (setting_of m setup) m)

pub computed_threads : (m : Module) (setup : Setup) (schedule : List ℕ) → shadow_threads_by by_completions m setup schedule ≡ shadow_threads_by by_formulas m setup schedule
computed_threads m setup schedule = same_threads formulas_exact m setup schedule

-- ---- runs of the instrumented form

abbrev start_goes : {V S : Type 0} → List (Frame V) → S → Fibers (List (Frame V)) S
start_goes f s = Goes f s (record { stands = λ n. None; picks = 0 })

-- what one fiber's steps must keep, so that runs of a form j of a module m answer as the shadow runs of m
pub record Followed (d : Rules) (m j : Module) (setup : Setup) (r : Relation (shadow_fiber d (setting_of m setup) m) (plain_fiber (setting_of m setup) j)) : Type 0 where
  pub laws : Laws (shadow_fiber d (setting_of m setup) m) (plain_fiber (setting_of m setup) j) r
  pub late : LateLaws (shadow_fiber d (setting_of m setup) m) (plain_fiber (setting_of m setup) j) r
  pub counts : Counts (shadow_fiber d (setting_of m setup) m) (plain_fiber (setting_of m setup) j) r
  pub none : (w v : World) → r.count w ≡ r.count v
  pub ends : (e : End) (w : World) (x : End) (v : World) → r.Ends e w x v → result x v ≡ result e w
  pub starts : r.Go (start_frame shadow_reading m ∷ []) (start_world m setup) (start_frame plain_reading m ∷ []) (record { slots = λ a. 0; world = start_world m setup })

pub followed_runs : (d : Rules) (m j : Module) → strip j ≡ m → (setup : Setup) (schedule : List ℕ)
    → (r : Relation (shadow_fiber d (setting_of m setup) m) (plain_fiber (setting_of m setup) j)) → Followed d m j setup r
    → plain_threads j setup schedule ≡ shadow_threads_by d m setup schedule
followed_runs d m j strips setup schedule r h =
    let s = setting_of m setup in
    let c = start_goes (start_frame shadow_reading m ∷ []) (start_world m setup) in
    let shared : Shared = record { slots = λ a. 0; world = start_world m setup } in
    let p = start_goes (start_frame plain_reading m ∷ []) shared in
    let e = ends_in (shadow_fiber d s m) schedule setup.steps c in
    let q = ends_in (plain_fiber s j) schedule setup.steps p in
    let same : plain_threads j setup schedule ≡ result q.0 q.1 = λ i.
    let at = ends_in (plain_fiber (setting_same m j strips setup i) j) schedule setup.steps
    (start_goes (frame_same plain_reading m j strips i ∷ []) (let k : Shared = record { slots = λ a. 0; world = start_same m j strips setup i } in k)) in result at.0 at.1 in
    same
    ∙ h.ends e.0 e.1 q.0 q.1
    (runs_alike (shadow_fiber d s m) (plain_fiber s j) r h.laws h.counts h.late schedule setup.steps c p (h.starts, record { stands = λ n. tt; picks = refl }) (h.none _ _))

-- ---- the calls at their reports

pub same_threads_calls : {d e : Rules} → SameRules d e → (m : Module) (setup : Setup) (schedule : List ℕ) → shadow_threads_calls_by d m setup schedule ≡ shadow_threads_calls_by e m setup schedule
same_threads_calls same m setup schedule =
    ap (λ (k : Meaning (List (Frame Poisoned)) World). fibers_told k (call_sites m) schedule setup.steps (start_goes (start_frame shadow_reading m ∷ []) (start_world m setup)) none_told)
    (same_fiber same (setting_of m setup) m)

pub computed_calls : (m : Module) (setup : Setup) (schedule : List ℕ) → shadow_threads_calls m setup schedule ≡ shadow_threads_calls_by by_formulas m setup schedule
computed_calls m setup schedule = same_threads_calls formulas_exact m setup schedule

pub followed_calls : (d : Rules) (m j : Module) → strip j ≡ m → (setup : Setup) (schedule : List ℕ)
    → (r : Relation (shadow_fiber d (setting_of m setup) m) (plain_fiber (setting_of m setup) j)) → (h : Followed d m j setup r)
    → SaysSame (shadow_fiber d (setting_of m setup) m) (plain_fiber (setting_of m setup) j) r h.laws h.counts h.late (call_sites m) (call_sites j)
    → plain_threads_calls j setup schedule ≡ shadow_threads_calls_by d m setup schedule
followed_calls d m j strips setup schedule r h says =
    let s = setting_of m setup in
    let c = start_goes (start_frame shadow_reading m ∷ []) (start_world m setup) in
    let shared : Shared = record { slots = λ a. 0; world = start_world m setup } in
    let p = start_goes (start_frame plain_reading m ∷ []) shared in
    let same : plain_threads_calls j setup schedule ≡ fibers_told (plain_fiber (setting_of m setup) j) (call_sites j) schedule setup.steps p none_told = λ i.
    fibers_told (plain_fiber (setting_same m j strips setup i) j) (call_sites j) schedule setup.steps
    (start_goes (frame_same plain_reading m j strips i ∷ []) (let k : Shared = record { slots = λ a. 0; world = start_same m j strips setup i } in k)) none_told in
    same
    ∙ sym (calls_alike (shadow_fiber d s m) (plain_fiber s j) r h.laws h.counts h.late (call_sites m) (call_sites j) says schedule setup.steps c p (h.starts, record { stands = λ n. tt; picks = refl }) (h.none _ _) none_told)
