-- A shadow run and the program itself with a fill for each step, as long as nothing is reported and no use is blind.
use Rattle.std.proofs.Common.{◌≡◌, ℕ, zero, suc, ◌≤◌, List, [], ◌∷◌, map, length, refl, sym, ap, ◌∙◌, subst, arith, inl, inr, false}
use Rattle.ms_ir.specs.ThreadCalls.{is_threaded}
use Rattle.ms_ir.specs.declared.syntax.Module.{Module}
use Rattle.ms_ir.specs.Instructions.{NoMarks}
use Rattle.ms_runs.specs.declared.runs.Report.{Report}
use Rattle.ms_runs.specs.declared.runs.Setup.{Setup}
use Rattle.ms_runs.specs.World.{World, Setting}
use Rattle.ms_runs.specs.Control.{Frame, Outcome, On, Over}
use Rattle.ms_runs.specs.Plain.{PlainState, Stepped, More, Stop, and_then, go_on, run, steps, plain_step, setting_of, plain_start}
use Rattle.ms_runs.specs.Poisoned.{Poisoned}
use Rattle.ms_runs.specs.Masks.{by_formulas, by_completions}
use Rattle.ms_runs.specs.Shadow.{ShadowState, shadow_moved, shadow_frames, shadow_step, shadow_start}
use Rattle.ms_runs.specs.LowEqual.{LowEqual, LowWorld, LowFrames}
use Rattle.ms_runs_good_laws.specs.Fills.{IsFill, refilled, to_first_report}
use Rattle.ms_runs_good_laws.specs.GoodWorlds.{GivesBytes}
use Rattle.ms_check_valid.specs.Formed.{Formed}
use Rattle.ms_check_valid.specs.Valid.{Valid}
use Rattle.ms_runs_laws.proofs.ExactRules.{formulas_exact}
use Rattle.ms_runs_laws.proofs.PlainPart.{bare}
use Rattle.ms_runs_laws.proofs.SameRuns.{same_step}
use Rattle.ms_runs_laws.specs.Follows.{bare_frame}
use Rattle.ms_runs_laws.proofs.SameOutput.{Mirrors, Steps, step_mirrors}
use Rattle.ms_runs_fills_laws.specs.Alike.{StepsAlike, CountsNone}
use Rattle.ms_runs_fills_laws.specs.Certain.{CertainFrames, CertainWorld, CertainSteps, Untold, UntoldSteps}
use Rattle.ms_runs_fills_laws.specs.Chosen.{steps_by, chosen_step}
use Rattle.ms_runs_fills_laws.specs.Placed.{SoundPlaced}
use Rattle.ms_runs_fills_laws.proofs.Kept.{StartsWith}
use Rattle.ms_runs_fills_laws.proofs.Reading.{refill}
use Rattle.ms_runs_fills_laws.proofs.FirstReport.{first_only, MovedFirst, frames_first}
use Rattle.ms_bits.specs.Completion.{Agrees}
use Rattle.ms_runs_fills_laws.proofs.LimitFree.{step_free}
use Rattle.ms_runs_fills_laws.proofs.Reported.{run_told}
use Rattle.ms_runs_fills_laws.proofs.Runs.{GrownOutcome, frames_grown, step_quiet}
use Rattle.ms_runs_fills_laws.proofs.Steps.{step_alike}
use Rattle.ms_runs_fills_laws.proofs.Sure.{good_sure, good_kept, good_start}
use Rattle.ms_runs_fills_laws.proofs.Whole.{start_alike}

-- ---- nothing is told before a state where nothing is told

nothing_before : (w u : World) → w.blind ≤ u.blind → ((l : List Report) → StartsWith l w → StartsWith l u) → Untold u → Untold w
nothing_before w u l leads h = record { reports = by_reports w.reports refl; blind = omega (arith, l, h.blind) }
  where
    by_reports : (rs : List Report) → w.reports ≡ rs → w.reports ≡ []
    by_reports [] e = e
    by_reports (r ∷ rest) e = let f = leads (r ∷ []) (rest, e) in absurd (omega (arith, ap length (sym f.1 ∙ h.reports)))

grown_before : (w : World) (x : Outcome Poisoned) → GrownOutcome w x → UntoldSteps (shadow_moved x) → Untold w
grown_before w (On fs u) g h = nothing_before w u g.blind g.leads h
grown_before w (Over e u) g h = nothing_before w u g.blind g.leads h

module _ (s : Setting) (m : Module) where
  before_step : (c : ShadowState) → UntoldSteps (shadow_step by_formulas s m c) → Untold c.world
  before_step c h = grown_before c.world (shadow_frames by_formulas s m c.frames c.world) (frames_grown s m c.frames c.world) h

  pub before_steps : (n : ℕ) (c : ShadowState) → UntoldSteps (steps (shadow_step by_formulas s m) n c) → Untold c.world
  before_steps zero c h = h
  before_steps (suc n) c h = before_step c (after (shadow_step by_formulas s m c) (λ d k. before_steps n d k) h)
    where
      after : (x : Stepped ShadowState) → ((d : ShadowState) → UntoldSteps (steps (shadow_step by_formulas s m) n d) → Untold d.world)
          → UntoldSteps (and_then x (steps (shadow_step by_formulas s m) n)) → UntoldSteps x
      after (More d) rest h = rest d h
      after (Stop e w) rest h = h

  -- where a step tells nothing, it is that of a run that ends at its first report
  untold_first : (c : ShadowState) → UntoldSteps (shadow_step by_formulas s m c) → shadow_step by_formulas (first_only s) m c ≡ shadow_step by_formulas s m c
  untold_first c h = by_moved (shadow_frames by_formulas (first_only s) m c.frames c.world) (shadow_frames by_formulas s m c.frames c.world) (frames_first s m c.frames c.world (before_step c h).reports) h
    where
      by_moved : (x y : Outcome Poisoned) → MovedFirst s m c.world x y → UntoldSteps (shadow_moved y) → shadow_moved x ≡ shadow_moved y
      by_moved x y (inl k) h = ap shadow_moved k.0
      by_moved x (On fs u) (inr k) h = absurd (omega (arith, ap length (sym k.2.leads.1 ∙ h.reports)))
      by_moved x (Over e u) (inr k) h = absurd (omega (arith, ap length (sym k.2.leads.1 ∙ h.reports)))

-- ---- three runs

-- a shadow state, one under other fills, and the program's state under these fills
pub record Aligned (m : Module) (c d : ShadowState) (p : PlainState) : Type 0 where
  pub low : LowEqual c d
  pub mirrors : Mirrors d p
  pub good : SoundPlaced m c
  pub good_too : SoundPlaced m d

-- worlds at the end of the three
pub record AlignedEnds (w : World) (v : World) : Type 0 where
  pub between : World
  pub low : LowWorld w between
  pub mirrors : bare v ≡ bare between

abbrev pub AlignedSteps : Module → Stepped ShadowState → Stepped PlainState → Type 0
AlignedSteps m (More c) (More p) = (d : ShadowState) × Aligned m c d p
AlignedSteps m (Stop e w) (Stop x v) = (e ≡ x) × AlignedEnds w v
AlignedSteps m _ _ = ⊥

counts_none : (c : ShadowState) → c.world.blind ≡ 0 → (x : Stepped ShadowState) → UntoldSteps x → CountsNone c x
counts_none c z (More d) h = h.blind ∙ sym z
counts_none c z (Stop e w) h = h.blind ∙ sym z

-- all three begin alike
pub start_aligned : (m : Module) → Formed m → Valid m → is_threaded m ≡ false → (setup : Setup) → GivesBytes setup → Aligned m (shadow_start m setup) (shadow_start m setup) (plain_start m setup)
start_aligned m formed valid calm setup bytes = record {
  low = start_alike m setup setup.fill;
  mirrors = record { frames = refl; world = refl };
  good = good_start m formed valid calm setup bytes;
  good_too = good_start m formed valid calm setup bytes;
}

module _ (m : Module) (formed : Formed m) (valid : Valid m) (calm : is_threaded m ≡ false) (unmarked : NoMarks m) (setup : Setup) (bytes : GivesBytes setup) (fills : ℕ → List ℕ) (are : (k : ℕ) → IsFill (fills k)) where
  -- the setting of the run up to its first report
  abbrev one : Setting
  one = first_only (setting_of m setup)

  pub one_step : (k : ℕ) (c d : ShadowState) (p : PlainState) → Aligned m c d p → UntoldSteps (shadow_step by_formulas (setting_of m setup) m c)
      → AlignedSteps m (shadow_step by_formulas (setting_of m setup) m c) (chosen_step m setup fills k p)
  one_step k c d p a told =
      let same = untold_first (setting_of m setup) m c told in
      let told_one = subst UntoldSteps (sym same) told in
      let sure = good_sure m formed valid calm (first_only (setting_of m setup)) refl refl in
      let before = before_step (setting_of m setup) m c told in
      let alike = step_alike (first_only (setting_of m setup)) (fills k) refl m c d a.low (sure.stands c a.good) (sure.fit c a.good) (sure.fit d a.good_too).bytes
      (step_quiet (first_only (setting_of m setup)) m c (counts_none c before.blind (shadow_step by_formulas (first_only (setting_of m setup)) m c) told_one)) in
      let shown = step_mirrors by_formulas (refill (first_only (setting_of m setup)) (fills k)) m unmarked d p a.mirrors in
      subst (λ x. AlignedSteps m x (chosen_step m setup fills k p)) same
      (subst (λ z. AlignedSteps m (shadow_step by_formulas (first_only (setting_of m setup)) m c) z) (step_free (setting_of m (refilled setup (fills k))) 1 setup.once m unmarked p)
      (combine (shadow_step by_formulas (first_only (setting_of m setup)) m c) (shadow_step by_formulas (refill (first_only (setting_of m setup)) (fills k)) m d)
      (plain_step (refill (first_only (setting_of m setup)) (fills k)) m p) refl refl told_one alike p.world.output shown))
    where
      bytes_one : GivesBytes (to_first_report setup)
      bytes_one = record { input = bytes.input; fill = bytes.fill }

      bytes_too : GivesBytes (refilled (to_first_report setup) (fills k))
      bytes_too = record { input = bytes.input; fill = (are k).bytes }

      combine : (x y : Stepped ShadowState) (z : Stepped PlainState) → shadow_step by_formulas (first_only (setting_of m setup)) m c ≡ x → shadow_step by_formulas (refill (first_only (setting_of m setup)) (fills k)) m d ≡ y
          → UntoldSteps x → StepsAlike x y → (o : List ℕ) → Steps o y z → AlignedSteps m x z
      combine (More c') (More d') (More p') e f t h o r = (
        d',
        record {
          low = h;
          mirrors = r;
          good = (good_kept m formed valid calm (to_first_report setup) bytes_one).more c c' a.good e;
          good_too = (good_kept m formed valid calm (refilled (to_first_report setup) (fills k)) bytes_too).more d d' a.good_too f;
        },
      )
      combine (Stop x w) (Stop y v) (Stop z u) e f t h o (inr r) = (h.0 ∙ sym r.0, record { between = v; low = h.1; mirrors = r.1 })
      combine (Stop x w) (Stop y v) z e f t h o (inl r) =
          absurd (run_told by_formulas (first_only (setting_of m setup)) m 1 c
          (ap (λ q. (go_on (run (λ c. c.world) (shadow_step by_formulas (first_only (setting_of m setup)) m) 0) q).«end») e ∙ h.0 ∙ r.0)
          (ap (λ q. (go_on (run (λ c. c.world) (shadow_step by_formulas (first_only (setting_of m setup)) m) 0) q).reports) e ∙ t.reports))
      combine (Stop x w) (Stop y v) (More p') e f t h o (inr r) = absurd r
      combine (More c') (More d') (Stop z u) e f t h o r = absurd r
      combine (More c') (Stop y v) z e f t h o r = absurd h
      combine (Stop x w) (More d') z e f t h o r = absurd h

  walk : (n k : ℕ) (c d : ShadowState) (p : PlainState) → Aligned m c d p → UntoldSteps (steps (shadow_step by_formulas (setting_of m setup) m) n c)
      → AlignedSteps m (steps (shadow_step by_formulas (setting_of m setup) m) n c) (steps_by (chosen_step m setup fills) n k p)
  walk zero k c d p a told = (d, a)
  walk (suc n) k c d p a told =
      after (shadow_step by_formulas (setting_of m setup) m c) (chosen_step m setup fills k p) (λ t. one_step k c d p a t) (λ c' d' p' a' t. walk n (suc k) c' d' p' a' t) told
    where
      after : (x : Stepped ShadowState) (z : Stepped PlainState) → (UntoldSteps x → AlignedSteps m x z)
          → ((c' d' : ShadowState) (p' : PlainState) → Aligned m c' d' p' → UntoldSteps (steps (shadow_step by_formulas (setting_of m setup) m) n c')
          → AlignedSteps m (steps (shadow_step by_formulas (setting_of m setup) m) n c') (steps_by (chosen_step m setup fills) n (suc k) p'))
          → UntoldSteps (and_then x (steps (shadow_step by_formulas (setting_of m setup) m) n))
          → AlignedSteps m (and_then x (steps (shadow_step by_formulas (setting_of m setup) m) n)) (and_then z (steps_by (chosen_step m setup fills) n (suc k)))
      after (More c') (More p') now rest t = let b = now (before_steps (setting_of m setup) m n c' t) in rest c' b.0 p' b.1 t
      after (Stop e w) (Stop x v) now rest t = now t
      after (More c') (Stop x v) now rest t = absurd (now (before_steps (setting_of m setup) m n c' t))
      after (Stop e w) (More p') now rest t = absurd (now t)

  pub aligned_steps : (n : ℕ) → UntoldSteps (steps (shadow_step by_formulas (setting_of m setup) m) n (shadow_start m setup))
      → AlignedSteps m (steps (shadow_step by_formulas (setting_of m setup) m) n (shadow_start m setup)) (steps_by (chosen_step m setup fills) n 0 (plain_start m setup))
  aligned_steps n told = walk n 0 (shadow_start m setup) (shadow_start m setup) (plain_start m setup) (start_aligned m formed valid calm setup bytes) told

-- ---- what is certain

certain_frames : (fs gs : List (Frame Poisoned)) → LowFrames fs gs → CertainFrames fs (map bare_frame gs)
certain_frames [] [] h = tt
certain_frames (f ∷ fs) (g ∷ gs) h =
    (record { func = h.0.func; block = h.0.block; place = h.0.place; mark = h.0.mark; values = λ x. (h.0.values x).value }, certain_frames fs gs h.1)
certain_frames [] (g ∷ gs) h = absurd h
certain_frames (f ∷ fs) [] h = absurd h

certain_world : (w u v : World) → LowWorld w u → bare v ≡ bare u → CertainWorld w v
certain_world w u v h e = record {
  allocs = h.allocs ∙ sym (ap (λ k. k.allocs) e);
  made = h.made ∙ sym (ap (λ k. k.made) e);
  input = h.input ∙ sym (ap (λ k. k.input) e);
  output = h.output ∙ sym (ap (λ k. k.output) e);
  bytes = λ a. subst (λ b. Agrees 8 (w.shadow a) (w.bytes a) (b a)) (sym (ap (λ k. k.bytes) e)) (h.bytes a);
}

pub certain_steps : (m : Module) (x : Stepped ShadowState) (z : Stepped PlainState) → AlignedSteps m x z → CertainSteps x z
certain_steps m (More c) (More p) h =
    (subst (λ fs. CertainFrames c.frames fs) (sym h.1.mirrors.frames) (certain_frames c.frames h.0.frames h.1.low.frames), certain_world c.world h.0.world p.world h.1.low.world h.1.mirrors.world)
certain_steps m (Stop e w) (Stop x v) h = (h.0, certain_world w h.1.between v h.1.low h.1.mirrors)
certain_steps m (More c) (Stop x v) h = absurd h
certain_steps m (Stop e w) (More p) h = absurd h

pub certain : (m : Module) → Formed m → Valid m → is_threaded m ≡ false → NoMarks m → (setup : Setup) → GivesBytes setup → (n : ℕ)
    → UntoldSteps (steps (shadow_step by_completions (setting_of m setup) m) n (shadow_start m setup))
    → (fills : ℕ → List ℕ) → ((k : ℕ) → IsFill (fills k))
    → CertainSteps (steps (shadow_step by_completions (setting_of m setup) m) n (shadow_start m setup)) (steps_by (chosen_step m setup fills) n 0 (plain_start m setup))
certain m formed valid calm unmarked setup bytes n told fills are =
    subst (λ x. CertainSteps x (steps_by (chosen_step m setup fills) n 0 (plain_start m setup))) (sym computed)
    (certain_steps m _ _ (aligned_steps m formed valid calm unmarked setup bytes fills are n (subst UntoldSteps computed told)))
  where
    computed : steps (shadow_step by_completions (setting_of m setup) m) n (shadow_start m setup) ≡ steps (shadow_step by_formulas (setting_of m setup) m) n (shadow_start m setup)
    computed = ap (λ step. steps step n (shadow_start m setup)) (λ i c. same_step formulas_exact (setting_of m setup) m c i)
