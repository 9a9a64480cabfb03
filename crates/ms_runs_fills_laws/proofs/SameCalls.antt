-- The calls at the reports of runs under two fills, and of runs that go on after a report.
use Rattle.std.proofs.Common.{◌≡◌, ◌⊎◌, inl, inr, ◌<◌, ◌≤◌, ◌^◌, ◌-◌, ◌++◌, ℕ, zero, suc, List, [], ◌∷◌, length, map, replicate, All, refl, sym, ap, ◌∙◌, subst, arith, false}
use Rattle.std.specs.Prelude.{take}
use Rattle.std.proofs.Math.Path.{ap₂}
use Rattle.std.proofs.lemmas.List.{append-nil, append_assoc}
use Rattle.ms_ir.specs.ThreadCalls.{is_threaded}
use Rattle.ms_ir.specs.declared.syntax.Module.{Module}
use Rattle.ms_ir.specs.Instructions.{NoMarks, site_at}
use Rattle.ms_runs.specs.declared.runs.Calls.{Calls}
use Rattle.ms_runs.specs.declared.runs.End.TheVariants as «end»
use Rattle.ms_runs.specs.declared.runs.Report.{Report}
use Rattle.ms_runs.specs.declared.runs.Setup.{Setup}
use Rattle.ms_runs.specs.World.{World, Setting}
use Rattle.ms_runs.specs.Globals.{address_of}
use Rattle.ms_runs.specs.Control.{Frame, Outcome, On, Over}
use Rattle.ms_runs.specs.Plain.{Stepped, More, Stop, go_on, run, setting_of}
use Rattle.ms_runs.specs.Poisoned.{Poisoned}
use Rattle.ms_runs.specs.Masks.{by_formulas}
use Rattle.ms_runs.specs.Shadow.{ShadowState, shadow_moved, shadow_frames, shadow_step, shadow_start, shadow, shadow_by}
use Rattle.ms_runs.specs.LowEqual.{LowFrames, LowEqual}
use Rattle.ms_runs.specs.Calls.{call_sites, main_calls, reports_made, tell, told_after, told_in, shadow_calls, shadow_calls_by}
use Rattle.ms_runs.proofs.ToldCalls.{BothSay, said_alike}
use Rattle.ms_runs_laws.proofs.ExactRules.{computed}
use Rattle.ms_runs_laws.proofs.SameCalls.{computed_calls}
use Rattle.ms_check_valid.specs.Formed.{Formed}
use Rattle.ms_check_valid.specs.Valid.{Valid}
use Rattle.ms_runs_good_laws.specs.Fills.{IsFill, refilled, to_first_report, NoBlindUse}
use Rattle.ms_runs_good_laws.specs.GoodWorlds.{GivesBytes}
use Rattle.ms_runs_fills_laws.specs.Alike.{StepsAlike, CountsNone}
use Rattle.ms_runs_fills_laws.specs.CallsAlike.{CallsUnderFills}
use Rattle.ms_runs_fills_laws.specs.Placed.{SoundPlaced}
use Rattle.ms_runs_fills_laws.proofs.Kept.{globals_kept}
use Rattle.ms_runs_fills_laws.proofs.Reading.{refill}
use Rattle.ms_runs_fills_laws.proofs.Steps.{step_alike}
use Rattle.ms_runs_fills_laws.proofs.Runs.{Kept, Sure, step_quiet, stepped_blind, step_blind, run_blind}
use Rattle.ms_runs_fills_laws.proofs.Sure.{good_sure, good_kept, good_start}
use Rattle.ms_runs_fills_laws.proofs.FirstReport.{first_only, frames_first, MovedFirst, outcome_world, Found}
use Rattle.ms_runs_fills_laws.proofs.Whole.{start_alike, quiet_one}

-- ---- low equal states

low_sites : (m : Module) (fs gs : List (Frame Poisoned)) → LowFrames fs gs
    → map (λ (f : Frame Poisoned). site_at m f.func f.block f.place) fs ≡ map (λ (f : Frame Poisoned). site_at m f.func f.block f.place) gs
low_sites m [] [] h = refl
low_sites m (f ∷ fs) (g ∷ gs) h = ap₂ (λ (k : ℕ) (l : List ℕ). k ∷ l) (λ i. site_at m (h.0.func i) (h.0.block i) (h.0.place i)) (low_sites m fs gs h.1)
low_sites m [] (g ∷ gs) h = absurd h
low_sites m (f ∷ fs) [] h = absurd h

-- the calls of low equal frames have the same sites
pub low_calls : (m : Module) (fs gs : List (Frame Poisoned)) → LowFrames fs gs → call_sites m fs ≡ call_sites m gs
low_calls m [] [] h = refl
low_calls m (f ∷ fs) (g ∷ gs) h = low_sites m fs gs h.1
low_calls m [] (g ∷ gs) h = absurd h
low_calls m (f ∷ fs) [] h = absurd h

-- ---- two fills

module _ (Good : ShadowState → Type 0) (s : Setting) (fill : List ℕ) (one : s.limit ≡ 1) (m : Module) (sure : Sure Good s m) (kept : Kept Good s m) (kept_too : Kept Good (refill s fill) m) where
  -- low equal states from which so many steps count no blind use
  abbrev LowBoth : ℕ → ShadowState → ShadowState → Type 0
  LowBoth n c d = Good c × Good d × LowEqual c d × ((run (λ (c : ShadowState). c.world) (shadow_step by_formulas s m) n c).blind ≡ 0)

  none : (c : ShadowState) (n : ℕ) (r : Stepped ShadowState) → c.world.blind ≤ stepped_blind s m r → stepped_blind s m r ≤ (go_on (run (λ c. c.world) (shadow_step by_formulas s m) n) r).blind
      → (go_on (run (λ c. c.world) (shadow_step by_formulas s m) n) r).blind ≡ 0 → CountsNone c r
  none c n (More x) g l e = omega (arith, g, l, e)
  none c n (Stop x w) g l e = omega (arith, g, l, e)

  low_tells : (n : ℕ) (c d : ShadowState) → LowBoth (suc n) c d → BothSay reports_made (LowBoth n) (shadow_step by_formulas s m c) (shadow_step by_formulas (refill s fill) m d)
  low_tells n c d r =
      by_steps (shadow_step by_formulas s m c) (shadow_step by_formulas (refill s fill) m d) refl refl
      (step_alike s fill one m c d r.2 (sure.stands c r.0) (sure.fit c r.0) (sure.fit d r.1).bytes
      (step_quiet s m c (none c n (shadow_step by_formulas s m c) (step_blind s m c) (run_blind s m n (shadow_step by_formulas s m c)) r.3)))
      r.3
    where
      by_steps : (x y : Stepped ShadowState) → shadow_step by_formulas s m c ≡ x → shadow_step by_formulas (refill s fill) m d ≡ y → StepsAlike x y
          → (go_on (run (λ (c : ShadowState). c.world) (shadow_step by_formulas s m) n) x).blind ≡ 0 → BothSay reports_made (LowBoth n) x y
      by_steps (More c') (More d') e f a q = (kept.more c c' r.0 e, kept_too.more d d' r.1 f, a, q)
      by_steps (Stop x w) (Stop y v) e f a q = ap length a.1.reports
      by_steps (More c') (Stop y v) e f a q = absurd a
      by_steps (Stop x w) (More d') e f a q = absurd a

  pub calls_alike : (n : ℕ) (c d : ShadowState) → Good c → Good d → LowEqual c d → (run (λ (c : ShadowState). c.world) (shadow_step by_formulas s m) n c).blind ≡ 0 → (told : List Calls)
      → told_in (λ (c : ShadowState). c.world) (λ (c : ShadowState). main_calls m c.frames) (shadow_step by_formulas s m) n c told
      ≡ told_in (λ (c : ShadowState). c.world) (λ (c : ShadowState). main_calls m c.frames) (shadow_step by_formulas (refill s fill) m) n d told
  calls_alike n c d g k h z told =
      said_alike reports_made (λ (c : ShadowState). c.world) (λ (c : ShadowState). main_calls m c.frames) (shadow_step by_formulas s m)
      (λ (c : ShadowState). c.world) (λ (c : ShadowState). main_calls m c.frames) (shadow_step by_formulas (refill s fill) m) LowBoth
      (record {
        same = λ n c d r. ap (λ (l : List ℕ). let x : Calls = record { sites = l; started = 0 } in x) (low_calls m c.frames d.frames r.2.frames);
        counts = λ n c d r. ap length r.2.world.reports;
        steps = low_tells;
      })
      n c d (g, k, h, z) told

-- ---- the first report

-- nothing is told in either, or one in one, which the other begins with
abbrev pub FirstTold : {B : Type 0} → List B → List B → Type 0
FirstTold {B} one all = ((one ≡ []) × (all ≡ [])) ⊎ ((k : B) × (rest : List B) × (one ≡ k ∷ []) × (all ≡ k ∷ rest))

module _ {S B : Type 0} (world : S → World) (calls : S → B) (step : S → Stepped S) where
  -- what is told is told further on
  told_more : (n : ℕ) (c : S) (told : List B) → (more : List B) × (told_in world calls step n c told ≡ told ++ more)
  told_more zero c told = ([], sym (append-nil told))
  told_more (suc n) c told = by_step (λ d l. told_more n d l) (step c)
    where
      by_step : ((d : S) (l : List B) → (more : List B) × (told_in world calls step n d l ≡ l ++ more)) → (x : Stepped S)
          → (more : List B) × (told_after world (calls c) (told_in world calls step n) told x ≡ told ++ more)
      by_step rest (More d) =
          let added = replicate (length (world d).reports - length told) (calls c) in
          let r = rest d (tell (calls c) (world d).reports told) in
          (added ++ r.0, r.1 ∙ append_assoc told added r.0)
      by_step rest (Stop e w) = (replicate (length w.reports - length told) (calls c), refl)

-- of the first of some reports
first_tell : {B : Type 0} (k : B) (reports : List Report) (r : Report) (rest : List Report) → reports ≡ r ∷ rest → tell k reports [] ≡ k ∷ replicate (length rest) k
first_tell k reports r rest e =
    let n : length (r ∷ rest) - 0 ≡ suc (length rest) = omega arith in
    ap (λ (l : List Report). tell k l []) e ∙ ap (λ (j : ℕ). replicate j k) n

module _ (s : Setting) (m : Module) where
  abbrev told_by : Setting → ℕ → ShadowState → List Calls → List Calls
  told_by t = told_in (λ (c : ShadowState). c.world) (λ (c : ShadowState). main_calls m c.frames) (shadow_step by_formulas t m)

  abbrev after_by : Setting → ℕ → Calls → Stepped ShadowState → List Calls
  after_by t n k x = told_after (λ (c : ShadowState). c.world) k (told_by t n) [] x

  none_told : (k : Calls) (w : World) → w.reports ≡ [] → tell k w.reports [] ≡ []
  none_told k w e = ap (λ (l : List Report). tell k l []) e

  pub calls_first : (n : ℕ) (c : ShadowState) → c.world.reports ≡ [] → FirstTold (told_by (first_only s) n c []) (told_by s n c [])
  calls_first zero c nothing = inl (refl, refl)
  calls_first (suc n) c nothing =
      after (shadow_frames by_formulas (first_only s) m c.frames c.world) (shadow_frames by_formulas s m c.frames c.world) (frames_first s m c.frames c.world nothing) (λ d e. calls_first n d e)
    where
      same : (y : Outcome Poisoned) → (outcome_world s m y).reports ≡ [] → ((d : ShadowState) → d.world.reports ≡ [] → FirstTold (told_by (first_only s) n d []) (told_by s n d []))
          → FirstTold (after_by (first_only s) n (main_calls m c.frames) (shadow_moved y)) (after_by s n (main_calls m c.frames) (shadow_moved y))
      same (On fs z) e rest =
          let d : ShadowState = record { frames = fs; world = z } in
          subst (λ (l : List Calls). FirstTold (told_by (first_only s) n d l) (told_by s n d l)) (sym (none_told (main_calls m c.frames) z e)) (rest d e)
      same (Over q z) e rest = inl (none_told (main_calls m c.frames) z e, none_told (main_calls m c.frames) z e)

      begins : (y : Outcome Poisoned) (r : Report) (rest : List Report) → (outcome_world s m y).reports ≡ r ∷ rest
          → (more : List Calls) × (after_by s n (main_calls m c.frames) (shadow_moved y) ≡ main_calls m c.frames ∷ more)
      begins (On fs z) r rest e =
          let d : ShadowState = record { frames = fs; world = z } in
          let g = told_more (λ (c : ShadowState). c.world) (λ (c : ShadowState). main_calls m c.frames) (shadow_step by_formulas s m) n d (tell (main_calls m c.frames) z.reports []) in
          (replicate (length rest) (main_calls m c.frames) ++ g.0, g.1 ∙ ap (λ (l : List Calls). l ++ g.0) (first_tell (main_calls m c.frames) z.reports r rest e))
      begins (Over q z) r rest e = (replicate (length rest) (main_calls m c.frames), first_tell (main_calls m c.frames) z.reports r rest e)

      after : (x y : Outcome Poisoned) → MovedFirst s m c.world x y → ((d : ShadowState) → d.world.reports ≡ [] → FirstTold (told_by (first_only s) n d []) (told_by s n d []))
          → FirstTold (after_by (first_only s) n (main_calls m c.frames) (shadow_moved x)) (after_by s n (main_calls m c.frames) (shadow_moved y))
      after x y (inl h) rest =
          subst (λ (q : Outcome Poisoned). FirstTold (after_by (first_only s) n (main_calls m c.frames) (shadow_moved q)) (after_by s n (main_calls m c.frames) (shadow_moved y))) (sym h.0) (same y h.1 rest)
      after x y (inr h) rest =
          let b = begins y h.2.report h.2.leads.0 h.2.leads.1 in
          inr (
            main_calls m c.frames,
            b.0,
            ap (λ (q : Outcome Poisoned). after_by (first_only s) n (main_calls m c.frames) (shadow_moved q)) h.1 ∙ first_tell (main_calls m c.frames) (h.0).reports h.2.report [] h.2.alone,
            b.1,
          )

-- ---- whole runs

module _ (m : Module) (formed : Formed m) (valid : Valid m) (calm : is_threaded m ≡ false) where
  -- where one report ends the run and no blind use occurs, the calls at it are the same under every other fill
  pub same_calls : (setup : Setup) (fill : List ℕ) → setup.reports ≡ 1 → GivesBytes setup → All (λ b. b < 2 ^ 8) fill → (shadow m setup).blind ≡ 0 → shadow_calls m (refilled setup fill) ≡ shadow_calls m setup
  same_calls setup fill one bytes others quiet =
      let bytes_too : GivesBytes (refilled setup fill) = record { input = bytes.input; fill = others } in
      computed_calls m (refilled setup fill)
      ∙ sym (calls_alike (SoundPlaced m) (setting_of m setup) fill one m (good_sure m formed valid calm (setting_of m setup) refl refl) (good_kept m formed valid calm setup bytes) (good_kept m formed valid calm (refilled setup fill) bytes_too)
      setup.steps (shadow_start m setup) (shadow_start m (refilled setup fill)) (good_start m formed valid calm setup bytes) (good_start m formed valid calm (refilled setup fill) bytes_too)
      (start_alike m setup fill) (ap (λ r. r.blind) (sym (computed m setup)) ∙ quiet) [])
      ∙ sym (computed_calls m setup)

-- the calls of the run up to the first report are the first of each run
pub first_calls : (m : Module) (setup : Setup) → FirstTold (shadow_calls m (to_first_report setup)) (shadow_calls m setup)
first_calls m setup =
    subst (λ (l : List Calls). FirstTold l (shadow_calls m setup)) (sym (computed_calls m (to_first_report setup)))
    (subst (λ (l : List Calls). FirstTold (shadow_calls_by by_formulas m (to_first_report setup)) l) (sym (computed_calls m setup))
    (calls_first (setting_of m setup) m setup.steps (shadow_start m setup) (globals_kept m.types (address_of m) m.globals _).reports))

-- what the calls of a run promise of other fills
pub calls_hold : (m : Module) → Formed m → Valid m → is_threaded m ≡ false → NoMarks m → (setup : Setup) → GivesBytes setup → CallsUnderFills m setup (shadow m setup).blind (shadow_calls m setup)
calls_hold m formed valid calm bare setup bytes = record {
  first = λ quiet one rest some. by_first one rest some (first_calls m setup);
  same = λ quiet fill is. same_calls m formed valid calm (to_first_report setup) fill refl (record { input = bytes.input; fill = bytes.fill }) is.bytes (quiet_one m formed valid calm bare setup bytes quiet);
}
  where
    by_first : (one : Calls) (rest : List Calls) → shadow_calls m setup ≡ one ∷ rest → FirstTold (shadow_calls m (to_first_report setup)) (shadow_calls m setup) → shadow_calls m (to_first_report setup) ≡ one ∷ []
    by_first one rest some (inl h) = absurd (omega (arith, ap length (sym h.1 ∙ some)))
    by_first one rest some (inr h) = h.2 ∙ ap (λ (l : List Calls). take 1 l) (sym h.3 ∙ some)
