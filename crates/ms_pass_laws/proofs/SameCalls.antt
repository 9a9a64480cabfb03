-- At each report of a plain run of the instrumented module, and at its end, the calls stand that stand there in the shadow
-- run, and its blind uses have the same sites.
use Rattle.std.proofs.Common.{◌≡◌, ℕ, List, [], ◌∷◌, length, refl, sym, ap, ◌∙◌, arith}
use Rattle.std.specs.Prelude.{map}
use Rattle.std.proofs.Math.Path.{ap₂}
use Rattle.ms_ir.specs.declared.syntax.Module.{Module}
use Rattle.ms_ir.specs.Instructions.{site_at, strip}
use Rattle.ms_runs.specs.declared.runs.Calls.{Calls}
use Rattle.ms_runs.specs.declared.runs.End.{End}
use Rattle.ms_runs.specs.declared.runs.End.TheVariants as «end»
use Rattle.ms_runs.specs.declared.runs.RunResult.{RunResult}
use Rattle.ms_runs.specs.declared.runs.Setup.{Setup}
use Rattle.ms_runs.specs.World.{World, Setting, Here, result}
use Rattle.ms_runs.specs.Control.{Frame}
use Rattle.ms_runs.specs.Act.{plain_reading}
use Rattle.ms_runs.specs.Plain.{PlainState, Stepped, More, Stop, plain_step, setting_of, plain_start}
use Rattle.ms_runs.specs.Poisoned.{Poisoned}
use Rattle.ms_runs.specs.Masks.{by_formulas}
use Rattle.ms_runs.specs.Shadow.{ShadowState, shadow_step, shadow_start}
use Rattle.ms_runs.specs.Faithful.{Fair}
use Rattle.ms_runs.specs.Calls.{call_sites, main_calls, innermost_site, said_in, told_in, ends_in, reports_made, plain_calls, plain_end_calls, plain_blind, shadow_calls, shadow_end_calls, shadow_blind, SameCalls}
use Rattle.ms_runs.proofs.ToldCalls.{BothSay, said_alike, ends_alike}
use Rattle.ms_runs_laws.proofs.Stripped.{setting_same, start_same, frame_same}
use Rattle.ms_runs_laws.proofs.SameCalls.{computed_calls, computed_ends, computed_blind}
use Rattle.ms_pass_laws.specs.Pass.{Numbering, pass}
use Rattle.ms_pass_laws.specs.Law.{AtCall, FramesFollow, FollowsBy, Follows, Steps, Ranged}
use Rattle.ms_pass_laws.specs.Known.{KnownModule, CleanRun, IsTaken}
use Rattle.ms_pass_laws.proofs.RangedKept.{ranged_kept}
use Rattle.ms_pass_laws.proofs.Step.{Kept, clean_kept, step_law}
use Rattle.ms_pass_laws.proofs.Whole.{strip_pass, starts}

module _ (s : Setting) (numbers : ℕ → Numbering) (m : Module) where
  -- lower frames stand at calls with the same sites
  pub lower_sites : (called : ℕ) (fs : List (Frame Poisoned)) (gs : List (Frame ℕ)) → FramesFollow s numbers m called fs gs
      → map (λ (f : Frame Poisoned). site_at m f.func f.block f.place) fs ≡ map (λ (g : Frame ℕ). site_at (pass numbers m) g.func g.block g.place) gs
  lower_sites called [] [] h = refl
  lower_sites called (f ∷ fs) (g ∷ gs) h = ap₂ (λ (k : ℕ) (l : List ℕ). k ∷ l) (ap (λ (k : Here). k.site) (sym h.0.stands)) (lower_sites f.func fs gs h.1)
  lower_sites called [] (g ∷ gs) h = absurd h
  lower_sites called (f ∷ fs) [] h = absurd h

  pub frames_sites : (fs : List (Frame Poisoned)) (w : World) (gs : List (Frame ℕ)) (cells : ℕ → ℕ) (z : World) → FollowsBy s numbers m fs w gs cells z → call_sites m fs ≡ call_sites (pass numbers m) gs
  frames_sites [] w gs cells z h = absurd h
  frames_sites (f ∷ fs) w [] cells z h = absurd h
  frames_sites (f ∷ fs) w (g ∷ gs) cells z h = lower_sites f.func fs gs h.1

  -- of states that follow each other the calls have the same sites
  pub sites_follow : (c : ShadowState) (d : PlainState) → Follows s numbers m c d → call_sites m c.frames ≡ call_sites (pass numbers m) d.frames
  sites_follow c d h = frames_sites c.frames c.world d.frames d.slots d.world h

  inner_sites : (fs : List (Frame Poisoned)) (w : World) (gs : List (Frame ℕ)) (cells : ℕ → ℕ) (z : World) → FollowsBy s numbers m fs w gs cells z → innermost_site m fs ≡ innermost_site (pass numbers m) gs
  inner_sites [] w gs cells z h = absurd h
  inner_sites (f ∷ fs) w [] cells z h = absurd h
  inner_sites (f ∷ fs) w (g ∷ gs) cells z h = ap (λ (k : Here). k.site) (sym h.0.stands)

  -- and the innermost frames stand at the same site
  pub innermost_follow : (c : ShadowState) (d : PlainState) → Follows s numbers m c d → innermost_site m c.frames ≡ innermost_site (pass numbers m) d.frames
  innermost_follow c d h = inner_sites c.frames c.world d.frames d.slots d.world h

  pub frames_reports : (fs : List (Frame Poisoned)) (w : World) (gs : List (Frame ℕ)) (cells : ℕ → ℕ) (z : World) → FollowsBy s numbers m fs w gs cells z → w.reports ≡ z.reports
  frames_reports [] w gs cells z h = absurd h
  frames_reports (f ∷ fs) w [] cells z h = absurd h
  frames_reports (f ∷ fs) w (g ∷ gs) cells z h = ap (λ (r : RunResult). r.reports) (sym (h.0.sees «end».Spent))

  -- and both have the same reports, and as many blind uses
  pub reports_follow : (c : ShadowState) (d : PlainState) → Follows s numbers m c d → c.world.reports ≡ d.world.reports
  reports_follow c d h = frames_reports c.frames c.world d.frames d.slots d.world h

  pub frames_blind : (fs : List (Frame Poisoned)) (w : World) (gs : List (Frame ℕ)) (cells : ℕ → ℕ) (z : World) → FollowsBy s numbers m fs w gs cells z → w.blind ≡ z.blind
  frames_blind [] w gs cells z h = absurd h
  frames_blind (f ∷ fs) w [] cells z h = absurd h
  frames_blind (f ∷ fs) w (g ∷ gs) cells z h = ap (λ (r : RunResult). r.blind) (sym (h.0.sees «end».Spent))

  pub blind_follow : (c : ShadowState) (d : PlainState) → Follows s numbers m c d → c.world.blind ≡ d.world.blind
  blind_follow c d h = frames_blind c.frames c.world d.frames d.slots d.world h

  module _ (known : KnownModule s numbers m) (inv : ShadowState → Type 0) (kept : Kept s numbers m inv) where
    -- the two states of a run, however many steps are left
    abbrev RunsBoth : ℕ → ShadowState → PlainState → Type 0
    RunsBoth n c d = inv c × Ranged c × Follows s numbers m c d

    step_says : (count : World → ℕ) (n : ℕ) (c : ShadowState) (d : PlainState) → RunsBoth n c d → BothSay count (RunsBoth n) (shadow_step by_formulas s m c) (plain_step s (pass numbers m) d)
    step_says count n c d r =
        by_steps (shadow_step by_formulas s m c) (plain_step s (pass numbers m) d) refl
        (step_law s numbers m known c d r.2 r.1 (kept.apart c r.0) (record { masks = λ c' e. kept.clean c' (kept.step c c' r.0 e) }))
      where
        by_steps : (x : Stepped ShadowState) (y : Stepped PlainState) → shadow_step by_formulas s m c ≡ x → Steps s numbers m x y → BothSay count (RunsBoth n) x y
        by_steps (More c') (More d') e h = (kept.step c c' r.0 e, ranged_kept s numbers m known c c' r.1 e, h)
        by_steps (Stop q w) (Stop q' w') e h = ap count (sym h.1)
        by_steps (More c') (Stop q w) e h = absurd h
        by_steps (Stop q w) (More d') e h = absurd h

    -- the same calls stand in both
    says_calls : (n : ℕ) (c : ShadowState) (d : PlainState) → RunsBoth n c d → main_calls m c.frames ≡ main_calls (pass numbers m) d.frames
    says_calls n c d r = ap (λ (l : List ℕ). let k : Calls = record { sites = l; started = 0 } in k) (sites_follow c d r.2)

    -- runs from states that follow each other tell the same calls of each report
    pub calls_agree : (n : ℕ) (c : ShadowState) (d : PlainState) → inv c → Ranged c → Follows s numbers m c d → (told : List Calls)
        → told_in (λ (c : ShadowState). c.world) (λ (c : ShadowState). main_calls m c.frames) (shadow_step by_formulas s m) n c told
        ≡ told_in (λ (d : PlainState). d.world) (λ (d : PlainState). main_calls (pass numbers m) d.frames) (plain_step s (pass numbers m)) n d told
    calls_agree n c d i r f told =
        said_alike reports_made (λ (c : ShadowState). c.world) (λ (c : ShadowState). main_calls m c.frames) (shadow_step by_formulas s m)
        (λ (d : PlainState). d.world) (λ (d : PlainState). main_calls (pass numbers m) d.frames) (plain_step s (pass numbers m)) RunsBoth
        (record { same = says_calls; counts = λ n c d h. ap length (reports_follow c d h.2); steps = step_says reports_made })
        n c d (i, r, f) told

    -- and of their ends
    pub ends_agree : (n : ℕ) (c : ShadowState) (d : PlainState) → inv c → Ranged c → Follows s numbers m c d
        → ends_in (λ (c : ShadowState). main_calls m c.frames) (shadow_step by_formulas s m) n c ≡ ends_in (λ (d : PlainState). main_calls (pass numbers m) d.frames) (plain_step s (pass numbers m)) n d
    ends_agree n c d i r f =
        ends_alike reports_made (λ (c : ShadowState). c.world) (λ (c : ShadowState). main_calls m c.frames) (shadow_step by_formulas s m)
        (λ (d : PlainState). d.world) (λ (d : PlainState). main_calls (pass numbers m) d.frames) (plain_step s (pass numbers m)) RunsBoth
        (record { same = says_calls; counts = λ n c d h. ap length (reports_follow c d h.2); steps = step_says reports_made })
        n c d (i, r, f)

    -- their blind uses have the same sites
    pub blind_agree : (n : ℕ) (c : ShadowState) (d : PlainState) → inv c → Ranged c → Follows s numbers m c d → (told : List ℕ)
        → said_in (λ w. w.blind) (λ (c : ShadowState). c.world) (λ (c : ShadowState). innermost_site m c.frames) (shadow_step by_formulas s m) n c told
        ≡ said_in (λ w. w.blind) (λ (d : PlainState). d.world) (λ (d : PlainState). innermost_site (pass numbers m) d.frames) (plain_step s (pass numbers m)) n d told
    blind_agree n c d i r f told =
        said_alike (λ (w : World). w.blind) (λ (c : ShadowState). c.world) (λ (c : ShadowState). innermost_site m c.frames) (shadow_step by_formulas s m)
        (λ (d : PlainState). d.world) (λ (d : PlainState). innermost_site (pass numbers m) d.frames) (plain_step s (pass numbers m)) RunsBoth
        (record { same = λ n c d h. innermost_follow c d h.2; counts = λ n c d h. blind_follow c d h.2; steps = step_says (λ (w : World). w.blind) })
        n c d (i, r, f) told

module _ (numbers : ℕ → Numbering) (m : Module) (taken : IsTaken numbers m) where
  strips : strip (pass numbers m) ≡ m
  strips = strip_pass numbers m taken.strips

  -- what is said of a run of the instrumented module, by its steps and its start, is said with the module's own setting and start
  module _ {B : Type 0} (said : (PlainState → Stepped PlainState) → PlainState → B) (setup : Setup) where
    as_own : said (plain_step (setting_of (pass numbers m) setup) (pass numbers m)) (plain_start (pass numbers m) setup)
        ≡ said (plain_step (setting_of m setup) (pass numbers m)) (plain_start m setup)
    as_own = λ i. said (plain_step (setting_same m (pass numbers m) strips setup i) (pass numbers m))
        (let d : PlainState = record { frames = frame_same plain_reading m (pass numbers m) strips i ∷ []; slots = λ a. 0; world = start_same m (pass numbers m) strips setup i } in d)

  module _ (setup : Setup) (fair : Fair setup) where
    placed : Ranged (shadow_start m setup)
    placed = record { frames = ((λ x. omega arith), tt); world = taken.placed setup fair }

    same : plain_calls (pass numbers m) setup ≡ shadow_calls m setup
    same =
        as_own (λ step d. told_in (λ (d : PlainState). d.world) (λ (d : PlainState). main_calls (pass numbers m) d.frames) step setup.steps d []) setup
        ∙ sym (calls_agree (setting_of m setup) numbers m (taken.known setup fair) (CleanRun (setting_of m setup) numbers m) (clean_kept (setting_of m setup) numbers m) setup.steps (shadow_start m setup) (plain_start m setup)
        (taken.clean setup fair) placed (starts numbers m setup strips taken.starts) [])
        ∙ sym (computed_calls m setup)

    ends : plain_end_calls (pass numbers m) setup ≡ shadow_end_calls m setup
    ends =
        as_own (λ step d. ends_in (λ (d : PlainState). main_calls (pass numbers m) d.frames) step setup.steps d) setup
        ∙ sym (ends_agree (setting_of m setup) numbers m (taken.known setup fair) (CleanRun (setting_of m setup) numbers m) (clean_kept (setting_of m setup) numbers m) setup.steps (shadow_start m setup) (plain_start m setup)
        (taken.clean setup fair) placed (starts numbers m setup strips taken.starts))
        ∙ sym (computed_ends m setup)

    blind : plain_blind (pass numbers m) setup ≡ shadow_blind m setup
    blind =
        as_own (λ step d. said_in (λ w. w.blind) (λ (d : PlainState). d.world) (λ (d : PlainState). innermost_site (pass numbers m) d.frames) step setup.steps d []) setup
        ∙ sym (blind_agree (setting_of m setup) numbers m (taken.known setup fair) (CleanRun (setting_of m setup) numbers m) (clean_kept (setting_of m setup) numbers m) setup.steps (shadow_start m setup) (plain_start m setup)
        (taken.clean setup fair) placed (starts numbers m setup strips taken.starts) [])
        ∙ sym (computed_blind m setup)

-- the instrumented module's plain runs tell what the module's shadow runs tell
pub same_calls_of : (numbers : ℕ → Numbering) (m : Module) → IsTaken numbers m → SameCalls m (pass numbers m)
same_calls_of numbers m taken = record { same = λ setup fair. same numbers m taken setup fair; ends = λ setup fair. ends numbers m taken setup fair; blind = λ setup fair. blind numbers m taken setup fair }
