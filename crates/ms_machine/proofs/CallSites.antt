-- The calls of a fiber stand at the sites of those of the state for which it stands.
use Rattle.std.proofs.Common.{◌≡◌, ◌<◌, ℕ, List, [], ◌∷◌, ◌++◌, map, reverse, length, Option, Some, refl, sym, ap, subst, ◌∙◌}
use Rattle.std.specs.Prelude.{slice_get, option_map, unwrap_or, All}
use Rattle.std.proofs.Math.Path.{ap₂}
use Rattle.std.proofs.lemmas.List.{reverse-append, reverse-reverse, map-append}
use Rattle.std.proofs.lemmas.List.Elements.{All-nil, All-cons, All-head, All-tail, All-append}
use Rattle.ms_ir.specs.declared.syntax.Module.{Module}
use Rattle.ms_ir.specs.Instructions.{site_at}
use Rattle.ms_runs.specs.declared.runs.Setup.{Setup}
use Rattle.ms_runs.specs.Control.{Frame}
use Rattle.ms_runs.specs.Plain.{PlainState}
use Rattle.ms_runs.specs.Calls.{call_sites}
use Rattle.ms_check_valid.specs.Formed.{Formed}
use Rattle.ms_check_valid.specs.Valid.{Valid}
use Rattle.ms_runs_good_laws.specs.GoodStates.{GoodFrames, IsBelow}
use Rattle.ms_runs_good_laws.proofs.Frames.{top_good}
use Rattle.ms_machine_code.specs.declared.code.Program.{Program}
use Rattle.ms_machine_code.specs.declared.code.Site.{Site}
use Rattle.ms_machine_code.specs.Compiled.{Compiled}
use Rattle.ms_host.specs.State.{WorldState, Beside}
use Rattle.ms_machine_frames.specs.declared.frames.Frame.{Frame as Kept}
use Rattle.ms_machine_frames.specs.declared.fibers.Fiber.{Fiber}
use Rattle.ms_machine_frames.specs.Standing.{FramesStand, frames_of}
use Rattle.ms_machine_steps.specs.Callers.{CallersStand, CallersOf}
use Rattle.ms_machine_steps.proofs.Due.{due_good, site_stands, site_within}
use Rattle.ms_machine.specs.Running.{AllStandFor, IsRunning}
use Rattle.ms_machine.specs.Calls.{number_in, sites_of}
use Rattle.ms_machine.proofs.Programs.{frames_to}

-- ---- lists in the other order

pub reversed_sites : (sites : List Site) (ks : List Kept) → reverse (sites_of sites ks) ≡ sites_of sites (reverse ks)
reversed_sites sites [] = refl
reversed_sites sites (k ∷ ks) =
    reverse-append (number_in sites k.at ∷ []) (sites_of sites ks)
    ∙ ap (λ (l : List ℕ). l ++ number_in sites k.at ∷ []) (reversed_sites sites ks)
    ∙ sym (map-append (λ (f : Kept). number_in sites f.at) (reverse ks) (k ∷ []))
    ∙ ap (sites_of sites) (sym (reverse-append (k ∷ []) ks))

all_reversed : (P : Kept → Type 0) (ks : List Kept) → All P ks → All P (reverse ks)
all_reversed P [] h = h
all_reversed P (k ∷ ks) h =
    subst (All P) (sym (reverse-append (k ∷ []) ks)) (All-append P (reverse ks) (k ∷ []) (all_reversed P ks (All-tail P k ks h)) (All-cons P k [] (All-head P k ks h) (All-nil P)))

-- ---- frames below another one

module _ (m : Module) (p : Program) (compiled : Compiled m p) where
  -- they stand within the code, at the sites of the instructions that are due
  lower_within : (top : Frame ℕ) (ks : List Kept) (fs : List (Frame ℕ)) → FramesStand m p ks fs → GoodFrames IsBelow m (top ∷ fs) → All (λ (k : Kept). k.at < length p.sites) ks
  lower_within top [] [] s g = All-nil (λ (k : Kept). k.at < length p.sites)
  lower_within top (k ∷ ks) (f ∷ fs) s g =
      All-cons (λ (k : Kept). k.at < length p.sites) k ks (site_within m p compiled f k s.0 (due_good m p compiled f k s.0 (top_good IsBelow m f fs g.2))) (lower_within f ks fs s.1 g.2)
  lower_within top [] (f ∷ fs) s g = absurd s
  lower_within top (k ∷ ks) [] s g = absurd s

  lower_sites : (top : Frame ℕ) (ks : List Kept) (fs : List (Frame ℕ)) → FramesStand m p ks fs → GoodFrames IsBelow m (top ∷ fs)
      → sites_of p.sites ks ≡ map (λ (f : Frame ℕ). site_at m f.func f.block f.place) fs
  lower_sites top [] [] s g = refl
  lower_sites top (k ∷ ks) (f ∷ fs) s g =
      let d = due_good m p compiled f k s.0 (top_good IsBelow m f fs g.2) in
      ap₂ (λ (n : ℕ) (l : List ℕ). n ∷ l)
      (ap (λ (o : Option Site). unwrap_or (option_map (λ (x : Site). x.number) o) 0) (site_stands m p compiled f k s.0 d) ∙ d.encoded.number)
      (lower_sites f ks fs s.1 g.2)
  lower_sites top [] (f ∷ fs) s g = absurd s
  lower_sites top (k ∷ ks) [] s g = absurd s

  pub within_callers : (fiber : Fiber) (fs : List (Frame ℕ)) → CallersOf m fiber fs → All (λ (k : Kept). k.at < length p.sites) fiber.below.items
  within_callers fiber [] c = absurd c.stand
  within_callers fiber (f ∷ fs) c =
      subst (All (λ (k : Kept). k.at < length p.sites)) (reverse-reverse fiber.below.items)
      (all_reversed (λ (k : Kept). k.at < length p.sites) (reverse fiber.below.items)
      (lower_within f (reverse fiber.below.items) fs (frames_to m p compiled (reverse fiber.below.items) fs c.stand) c.good))

  -- the calls that stand
  pub calls_are : (fiber : Fiber) (fs : List (Frame ℕ)) → CallersOf m fiber fs → reverse (sites_of p.sites fiber.below.items) ≡ call_sites m fs
  calls_are fiber [] c = absurd c.stand
  calls_are fiber (f ∷ fs) c =
      reversed_sites p.sites fiber.below.items ∙ lower_sites f (reverse fiber.below.items) fs (frames_to m p compiled (reverse fiber.below.items) fs c.stand) c.good

-- the callers of a fiber that runs
pub callers_run : (m : Module) (fiber : Fiber) (u : Setup) (beside : Beside) (w : WorldState) (state : PlainState) → IsRunning m u beside fiber w state → CallersOf m fiber state.frames
callers_run m fiber u beside w state runs = record { stand = by_frames state.frames runs.frames; good = runs.sound.frames }
  where
    by_frames : (fs : List (Frame ℕ)) → AllStandFor m (frames_of fiber) fs → CallersStand m fiber fs
    by_frames [] s = absurd s
    by_frames (f ∷ fs) s = s.1
