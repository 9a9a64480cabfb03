-- What a fiber's steps in a shadow run of a module without marks keep: good frames, a good world, and fibers that begin with
-- functions that may.
use Rattle.std.proofs.Common.{◌≡◌, ℕ, false, List, [], ◌∷◌, Some, refl, sym, ap, subst, arith}
use Rattle.ms_ir.specs.declared.syntax.Inst.{Inst}
use Rattle.ms_ir.specs.declared.syntax.Module.{Module}
use Rattle.ms_ir.specs.Instructions.{NoMarks, HeadUnmarked, operands, func_index}
use Rattle.ms_runs.specs.declared.runs.Report.{Report}
use Rattle.ms_runs.specs.declared.runs.Setup.{Setup}
use Rattle.ms_runs.specs.World.{World, Thread, Does}
use Rattle.ms_runs.specs.Threads.{Fibers, thread_at, with_answer}
use Rattle.ms_runs.specs.Control.{Frame, Outcome, On, Over, here, rest_of, entered}
use Rattle.ms_runs.specs.Plain.{More, setting_of}
use Rattle.ms_runs.specs.Poisoned.{Poisoned}
use Rattle.ms_runs.specs.Masks.{Rules}
use Rattle.ms_runs.specs.Uses.{uses}
use Rattle.ms_runs.specs.Shadow.{ShadowState, shadow_reading, shadow_moved, shadow_act, shadow_step}
use Rattle.ms_check_valid.specs.Formed.{Formed}
use Rattle.ms_check_valid.specs.Valid.{Valid}
use Rattle.ms_runs_good_laws.specs.GoodStates.{PoisonedBelow, GoodFrames, Bottom}
use Rattle.ms_runs_good_laws.specs.GoodRules.{KeepWidths}
use Rattle.ms_runs_good_laws.specs.GoodRuns.{SoundShadow, LeadsTo}
use Rattle.ms_runs_good_laws.specs.GoodWorlds.{GoodWorld, GivesBytes, AnyOrigin}
use Rattle.ms_runs_good_laws.proofs.Sound.{shadow_keeps}
use Rattle.ms_runs_good_laws.proofs.WorldChanges.{with_reports, given_back_good}
use Rattle.ms_pass_tasks.specs.InstructionLaw.{words_at, checked_at}
use Rattle.ms_threads_laws.specs.Due.{argument_word}
use Rattle.ms_threads_laws.proofs.OwnSteps.{more_is, uses_pass, Passes, back_keeps, own_keeps}
use Rattle.ms_threads_laws.proofs.ShadowCalls.{Performed, acted}
use Rattle.ms_threads_laws.proofs.StartedFibers.{AllStart, thread_starts, answered_start, first_good}
use Rattle.ms_threads_laws.proofs.ThreadCalls.{ThreadCall}
use Rattle.ms_runs_threads.specs.Fibers.{Own, turned}
use Rattle.ms_runs_threads.specs.PlainFibers.{frames_due, frames_left}
use Rattle.ms_runs_threads.specs.ShadowFibers.{shadow_state, shadow_answer}

-- ---- worlds

-- what all fibers share
abbrev pub WorldKept : Module → World → Type 0
WorldKept m w = GoodWorld AnyOrigin w × AllStart m w.threads

pub left_kept : (m : Module) (fs : List (Frame Poisoned)) (w : World) → WorldKept m w → WorldKept m (frames_left fs w)
left_kept m [] w g = g
left_kept m (f ∷ fs) w g = (given_back_good AnyOrigin f w g.0, subst (AllStart m) (sym (ap (λ (k : Fibers). k.threads) (back_keeps f w))) g.1)

pub answered_kept : (m : Module) (p : Poisoned) (w : World) → WorldKept m w → WorldKept m (with_answer p w)
answered_kept m p w g = (
  record {
    bytes = g.0.bytes;
    shadow = g.0.shadow;
    origins = g.0.origins;
    pairs = g.0.pairs;
    input = g.0.input;
    output = g.0.output;
    sizes = g.0.sizes;
    answers = λ k. tt;
  },
  answered_start m p w g.1,
)

pub turned_kept : (m : Module) (k : ℕ) (w : World) → WorldKept m w → WorldKept m (turned k w)
turned_kept m k w g = (
  record {
    bytes = g.0.bytes;
    shadow = g.0.shadow;
    origins = g.0.origins;
    pairs = g.0.pairs;
    input = g.0.input;
    output = g.0.output;
    sizes = g.0.sizes;
    answers = λ n. tt;
  },
  g.1,
)

told_kept : (m : Module) (w : World) (rs : List Report) → WorldKept m w → WorldKept m (record w { reports = rs })
told_kept m w rs g = (with_reports AnyOrigin w g.0 rs, g.1)

pub checks_kept : (m : Module) (setup : Setup) (f : Frame Poisoned) (i : Inst) (w u : World) → WorldKept m w → checked_at (setting_of m setup) f.values (here (setting_of m setup) m f) i w ≡ Does u → WorldKept m u
checks_kept m setup f i w u g e =
    let h = here (setting_of m setup) m f in
    subst (Passes (λ z. GoodWorld AnyOrigin z × AllStart m z.threads) (told_kept m)) e
    (uses_pass (λ z. GoodWorld AnyOrigin z × AllStart m z.threads) (told_kept m) (setting_of m setup) h.site (operands i.op) (words_at (setting_of m setup) f.values h i) (uses (func_index m.funcs) h.main i.op) w g)

pub ended_kept : (m : Module) (setup : Setup) (fs : List (Frame Poisoned)) (w : World) → WorldKept m w → WorldKept m (with_answer (shadow_answer (setting_of m setup) m fs w) (frames_left fs w))
ended_kept m setup fs w g = answered_kept m (shadow_answer (setting_of m setup) m fs w) (frames_left fs w) (left_kept m fs w g)

-- nothing is asked of the last frame
pub any_bottom : {V : Type 0} (fs : List (Frame V)) → Bottom (λ n. Unit {0}) fs
any_bottom [] = tt
any_bottom (f ∷ []) = tt
any_bottom (f ∷ g ∷ fs) = any_bottom (g ∷ fs)

-- ---- steps

module _ (d : Rules) (keep : KeepWidths d) (m : Module) (formed : Formed m) (valid : Valid m) (bare : NoMarks m) (setup : Setup) (bytes : GivesBytes setup) where
  unmarked : (f : Frame Poisoned) (i : Inst) (is : List Inst) → rest_of m f ≡ i ∷ is → i.marked ≡ false
  unmarked f i is e = subst HeadUnmarked e (bare f.func f.block f.place)

  pub step_kept : (fs : List (Frame Poisoned)) (w : World) → GoodFrames PoisonedBelow m fs → WorldKept m w → frames_due (setting_of m setup) m fs ≡ Own → (c : ShadowState)
      → shadow_step d (setting_of m setup) m (shadow_state fs w) ≡ More c → GoodFrames PoisonedBelow m c.frames × WorldKept m c.world
  step_kept fs w h g own c e =
      let sound : SoundShadow m (shadow_state fs w) = record { frames = h; world = g.0 } in
      let a : SoundShadow m c = subst (LeadsTo (SoundShadow m) (GoodWorld AnyOrigin)) e (shadow_keeps d keep m formed valid setup bytes (shadow_state fs w) sound) in
      let same = own_keeps d (setting_of m setup) m unmarked fs w c own e in
      (a.frames, (a.world, subst (AllStart m) (sym (ap (λ (k : Fibers). k.threads) same)) g.1))

  pub perform_kept : (f : Frame Poisoned) (fs : List (Frame Poisoned)) (w : World) (i : Inst) (is : List Inst) → rest_of m f ≡ i ∷ is → ThreadCall (func_index m.funcs) i.op → GoodFrames PoisonedBelow m (f ∷ fs) → WorldKept m w
      → (c : ShadowState) → shadow_moved (shadow_act d (setting_of m setup) m i (here (setting_of m setup) m f) (words_at (setting_of m setup) f.values (here (setting_of m setup) m f) i) f fs w) ≡ More c
      → GoodFrames PoisonedBelow m c.frames × WorldKept m c.world
  perform_kept f fs w i is rest call h g c e =
      by_moved (shadow_act d (setting_of m setup) m i (here (setting_of m setup) m f) (words_at (setting_of m setup) f.values (here (setting_of m setup) m f) i) f fs w)
      (acted d keep m formed valid setup bytes w.turn (λ n. Unit {0}) f fs i is rest call h w g.0 (record { turn = refl; threads = g.1 }) (any_bottom (f ∷ fs))) e
    where
      by_moved : (o : Outcome Poisoned) → Performed d keep m formed valid setup bytes w.turn (λ n. Unit {0}) f fs i is rest call h o → shadow_moved o ≡ More c → GoodFrames PoisonedBelow m c.frames × WorldKept m c.world
      by_moved (On gs z) p q = subst (λ (x : ShadowState). GoodFrames PoisonedBelow m x.frames × WorldKept m x.world) (more_is (record { frames = gs; world = z }) c q) (p.frames_good, (p.world, p.beside.threads))
      by_moved (Over x z) p q = absurd (grind arith)

  -- a fiber begins
  pub begun_kept : (w : World) → WorldKept m w → (k : ℕ) (x : Thread) → thread_at k w.threads ≡ Some x → GoodFrames PoisonedBelow m (entered shadow_reading m x.func (argument_word x.argument ∷ []) (turned k w) ∷ [])
  begun_kept w g k x is = first_good m x (thread_starts m k w.threads x g.1 is) formed valid (turned k w)
