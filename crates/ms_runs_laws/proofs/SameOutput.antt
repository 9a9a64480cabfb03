-- A shadow run that does not end as reported has the output and the end of the plain run of the same module.
use Rattle.std.proofs.Common.{◌≡◌, ℕ, zero, suc, ◌+◌, List, [], ◌∷◌, Bool, true, false, Option, refl, sym, ap, ◌∙◌, subst, arith, ◌⊎◌, inl, inr}
use Rattle.std.specs.Prelude.{if◌then◌else◌, map, leb, length, get_or, ◌++◌}
use Rattle.ms_bits.specs.declared.traps.Trap.TheVariants.{Depth}
use Rattle.ms_ir.specs.declared.syntax.Op.{Op}
use Rattle.ms_ir.specs.declared.syntax.Name.{Name}
use Rattle.ms_ir.specs.declared.syntax.Inst.{Inst}
use Rattle.ms_ir.specs.declared.syntax.Module.{Module}
use Rattle.ms_runs.specs.declared.runs.Setup.{Setup}
use Rattle.ms_runs.specs.declared.runs.RunResult.{RunResult}
use Rattle.ms_runs.specs.declared.runs.End.{End}
use Rattle.ms_runs.specs.declared.runs.End.TheVariants as «end»
use Rattle.ms_runs.specs.World.{World, Setting, Here, Effect, Gives, Does, Goes, Enters, Leaves, Ends}
use Rattle.ms_ir.specs.Instructions.{operands, count_undefs, HeadUnmarked, NoMarks}
use Rattle.ms_runs.specs.Control.{Frame, Outcome, On, Over, here, rest_of, read_all, put, result_at, entered, left, blocks_made, keeping, after_effect}
use Rattle.ms_runs.specs.Act.{act, plain_reading}
use Rattle.ms_runs.specs.Plain.{act_marked, slots_after, PlainState, Stepped, More, Stop, and_then, plain_state, through, plain_step, go_on, run, plain, setting_of, start_world, start_frame}
use Rattle.ms_runs.specs.Poisoned.{Poisoned}
use Rattle.ms_runs.specs.Masks.{Rules, by_completions, union}
use Rattle.ms_runs.specs.Uses.{uses, blinded}
use Rattle.ms_runs.specs.Origins.{count_blind}
use Rattle.ms_runs.specs.Shadow.{read_poisoned, shadow_reading, planes, ShadowState, poisoned_result, shadow_moved, shadow_act, after_checks, shadow_inst, shadow_first, shadow_frames, shadow_step, shadow_by}
use Rattle.ms_runs.specs.Faithful.{Fair, Faithful, Prefix, Undisturbed}
use Rattle.ms_runs_laws.proofs.Numbering.{no_marks}
use Rattle.ms_runs_laws.proofs.PlainPart.{bare, bare_effect, bare_act}
use Rattle.ms_runs_laws.proofs.ShownSteps.{bare_moved, shown, words_shown, given_bare, moves_shown}
use Rattle.ms_runs_laws.specs.Follows.{bare_frame, words}
use Rattle.ms_runs_laws.proofs.OutputGrows.{nothing_more, run_adds}
use Rattle.ms_runs_laws.proofs.PlanesApart.{Passes, planes_show, uses_pass, blind_shows}

-- ---- one effect, seen barely

left_bare : (m : Module) (vs : List ℕ) (fr : Frame ℕ) (below : List (Frame ℕ)) (w : World) → bare_moved (left plain_reading m vs fr below w) ≡ bare_moved (left plain_reading m vs fr below (bare w))
left_bare m vs fr [] w = refl
left_bare m vs fr (caller ∷ below) w =
    ap (λ u. On (put caller (result_at m caller) (get_or vs 0 plain_reading.unset) ∷ below) u) (given_bare fr w ∙ sym (given_bare fr (bare w)))

moves_bare : (s : Setting) (m : Module) (site : ℕ) (x : Option Name) (vs : List ℕ) (fr : Frame ℕ) (below : List (Frame ℕ)) (e : Effect)
    → bare_moved (after_effect plain_reading s m site x vs (λ v w. v) (λ v w. w) fr below e) ≡ bare_moved (after_effect plain_reading s m site x vs (λ v w. v) (λ v w. w) fr below (bare_effect e))
moves_bare s m site x vs fr below (Gives v w) = refl
moves_bare s m site x vs fr below (Does w) = refl
moves_bare s m site x vs fr below (Goes to w) = refl
moves_bare s m site x vs fr below (Enters f w) = deep (leb 1024 (length below + 1))
  where
    deep : (t : Bool) → bare_moved (if t then Over («end».Trap Depth site) w else On (entered plain_reading m f vs w ∷ fr ∷ below) w)
        ≡ bare_moved (if t then Over («end».Trap Depth site) (bare w) else On (entered plain_reading m f vs (bare w) ∷ fr ∷ below) (bare w))
    deep true = refl
    deep false = refl
moves_bare s m site x vs fr below (Leaves w) = left_bare m vs fr below w
moves_bare s m site x vs fr below (Ends e w) = refl

made_bare : (o : Op) (e : Effect) → blocks_made o e ≡ blocks_made o (bare_effect e)
made_bare o (Gives v w) = refl
made_bare o (Does w) = refl
made_bare o (Goes to w) = refl
made_bare o (Enters f w) = refl
made_bare o (Leaves w) = refl
made_bare o (Ends e w) = refl

keeps_bare : (o : Op) (e : Effect) (fr : Frame ℕ) → keeping o e fr ≡ keeping o (bare_effect e) fr
keeps_bare o e fr = ap (λ l. record fr { heap = l ++ fr.heap }) (made_bare o e)

same_effect : (s : Setting) (h : Here) (o : Op) (vs : List ℕ) (w v : World) → bare w ≡ bare v → bare_effect (act s h o vs w) ≡ bare_effect (act s h o vs v)
same_effect s h o vs w v e = (bare_act s h o vs w).same ∙ ap (λ u. bare_effect (act s h o vs u)) e ∙ sym (bare_act s h o vs v).same

-- ---- one step

alike : {r q : RunResult} → q.«end» ≡ r.«end» → q.output ≡ r.output → Undisturbed r q
alike {r} {q} e o = record { output = record { rest = []; is = o ∙ nothing_more r.output }; same = inr (e, o) }

pub record Mirrors (c : ShadowState) (d : PlainState) : Type 0 where
  pub frames : d.frames ≡ map bare_frame c.frames
  pub world : bare d.world ≡ bare c.world

abbrev pub StopsAlike : End → World → Stepped PlainState → Type 0
StopsAlike e w (More d) = ⊥
StopsAlike e w (Stop x v) = (x ≡ e) × (bare v ≡ bare w)

-- o is the output before
abbrev pub Steps : List ℕ → Stepped ShadowState → Stepped PlainState → Type 0
Steps o (More c) (More d) = Mirrors c d
Steps o (More c) (Stop x v) = ⊥
Steps o (Stop e w) r = ((e ≡ «end».Reported) × (o ≡ w.output)) ⊎ StopsAlike e w r

moved_frames : Outcome ℕ → List (Frame ℕ)
moved_frames (On fs w) = fs
moved_frames (Over e w) = []

moved_world : Outcome ℕ → World → World
moved_world (On fs w) v = w
moved_world (Over e w) v = w

moved_end : Outcome ℕ → End → End
moved_end (On fs w) x = x
moved_end (Over e w) x = e

moved_on : Outcome ℕ → Bool
moved_on (On fs w) = true
moved_on (Over e w) = false

steps_from : (cells : ℕ → ℕ) (p : Outcome Poisoned) (q : Outcome ℕ) → shown p ≡ bare_moved q → (o : List ℕ) → Steps o (shadow_moved p) (and_then (plain_state cells q) More)
unfolding moved_frames moved_world moved_end moved_on
steps_from cells (On fs w) (On gs v) e o = record { frames = sym (ap moved_frames e); world = sym (ap (λ k. moved_world k w) e) }
steps_from cells (On fs w) (Over x v) e o = grind (arith, ap moved_on e)
steps_from cells (Over x w) (On gs v) e o = grind (arith, ap moved_on e)
steps_from cells (Over x w) (Over y v) e o = inr (sym (ap (λ k. moved_end k x) e), sym (ap (λ k. moved_world k w) e))

-- the instruction, where the checks let it run
act_steps : (d : Rules) (s : Setting) (m : Module) (i : Inst) (fr : Frame Poisoned) (below : List (Frame Poisoned)) (cells : ℕ → ℕ) (w v u : World)
    → bare u ≡ bare w → bare v ≡ bare w
    → Steps v.output
    (shadow_moved (shadow_act d s m i (here s m fr) (read_all (read_poisoned s fr.values) (operands i.op) (here s m fr).root) fr below u))
    (and_then (plain_state cells (after_effect plain_reading s m (here s m fr).site i.result (read_all (plain_reading.read s (words fr.values)) (operands i.op) (here s m fr).root)
    (λ x y. x) (λ x y. y) (keeping i.op (act s (here s m fr) i.op (read_all (plain_reading.read s (words fr.values)) (operands i.op) (here s m fr).root) v) (bare_frame fr)) (map bare_frame below)
    (act s (here s m fr) i.op (read_all (plain_reading.read s (words fr.values)) (operands i.op) (here s m fr).root) v))) More)
act_steps d s m i fr below cells w v u p q =
    steps_from cells
    (shadow_act d s m i h ps fr below u)
    (after_effect plain_reading s m h.site i.result vs (λ x y. x) (λ x y. y) (keeping i.op (act s h i.op vs v) (bare_frame fr)) (map bare_frame below) (act s h i.op vs v))
    (moves_shown s m h.site i.result ps (poisoned_result d i.op ps) (planes s h.site (h.root + count_undefs (operands i.op) + 1) i.op ps u) (keeping i.op (act s h i.op (map (λ k. k.value) ps) u) fr) below
    (act s h i.op (map (λ k. k.value) ps) u) (λ x y. refl) (λ x y. (planes_show s h.site (h.root + count_undefs (operands i.op) + 1) i.op ps u x y).same)
    ∙ ap (λ g. bare_moved (after_effect plain_reading s m h.site i.result (map (λ k. k.value) ps) (λ x y. x) (λ x y. y) g (map bare_frame below) (bare_effect (act s h i.op (map (λ k. k.value) ps) u)))) (keeps_bare i.op (act s h i.op (map (λ k. k.value) ps) u) (bare_frame fr))
    ∙ ap (λ k. bare_moved (after_effect plain_reading s m h.site i.result k (λ x y. x) (λ x y. y) (keeping i.op (bare_effect (act s h i.op k u)) (bare_frame fr)) (map bare_frame below) (bare_effect (act s h i.op k u)))) (words_shown s fr.values (operands i.op) h.root)
    ∙ ap (λ k. bare_moved (after_effect plain_reading s m h.site i.result vs (λ x y. x) (λ x y. y) (keeping i.op k (bare_frame fr)) (map bare_frame below) k)) (same_effect s h i.op vs u v (p ∙ sym q))
    ∙ ap (λ g. bare_moved (after_effect plain_reading s m h.site i.result vs (λ x y. x) (λ x y. y) g (map bare_frame below) (bare_effect (act s h i.op vs v)))) (sym (keeps_bare i.op (act s h i.op vs v) (bare_frame fr)))
    ∙ sym (moves_bare s m h.site i.result vs (keeping i.op (act s h i.op vs v) (bare_frame fr)) (map bare_frame below) (act s h i.op vs v)))
    v.output
  where
    h : Here
    h = here s m fr

    ps : List Poisoned
    ps = read_all (read_poisoned s fr.values) (operands i.op) (here s m fr).root

    vs : List ℕ
    vs = read_all (plain_reading.read s (words fr.values)) (operands i.op) (here s m fr).root

pub checked_steps : (d : Rules) (s : Setting) (m : Module) (i : Inst) (fr : Frame Poisoned) (below : List (Frame Poisoned)) (cells : ℕ → ℕ) (w v : World) (e : Effect)
    → bare v ≡ bare w → Passes w e
    → Steps v.output
    (shadow_moved (after_checks d s m i (here s m fr) (read_all (read_poisoned s fr.values) (operands i.op) (here s m fr).root) fr below e))
    (and_then (plain_state cells (after_effect plain_reading s m (here s m fr).site i.result (read_all (plain_reading.read s (words fr.values)) (operands i.op) (here s m fr).root)
    (λ x y. x) (λ x y. y) (keeping i.op (act s (here s m fr) i.op (read_all (plain_reading.read s (words fr.values)) (operands i.op) (here s m fr).root) v) (bare_frame fr)) (map bare_frame below)
    (act s (here s m fr) i.op (read_all (plain_reading.read s (words fr.values)) (operands i.op) (here s m fr).root) v))) More)
checked_steps d s m i fr below cells w v (Does x) q p =
    act_steps d s m i fr below cells w v (count_blind mask x) ((blind_shows mask x).same ∙ p.same) q
  where
    mask : ℕ
    mask = union (map (λ k. k.mask) (blinded s.func i.op (read_all (read_poisoned s fr.values) (operands i.op) (here s m fr).root)))
checked_steps d s m i fr below cells w v (Ends e x) q p = inl (p.0, ap (λ u. u.output) (q ∙ sym p.1.same))
checked_steps d s m i fr below cells w v (Gives n x) q p = absurd p
checked_steps d s m i fr below cells w v (Goes n x) q p = absurd p
checked_steps d s m i fr below cells w v (Enters f x) q p = absurd p
checked_steps d s m i fr below cells w v (Leaves x) q p = absurd p

first_steps : (d : Rules) (s : Setting) (m : Module) (is : List Inst) (fr : Frame Poisoned) (below : List (Frame Poisoned)) (cells : ℕ → ℕ) (w v : World)
    → HeadUnmarked is → bare v ≡ bare w
    → Steps v.output (shadow_moved (shadow_first d s m is fr below w)) (through s m is (record { frames = bare_frame fr ∷ map bare_frame below; slots = cells; world = v }))
first_steps d s m [] fr below cells w v k q = inr (refl, q)
first_steps d s m (i ∷ is) fr below cells w v k q =
    subst (λ b. Steps v.output
    (shadow_moved (shadow_inst d s m i fr below w))
    (and_then (plain_state (if b then slots_after i.op vs cells else cells)
    (after_effect plain_reading s m h.site i.result vs (λ x y. x) (λ x y. y) (keeping i.op (if b then act_marked s h i.op vs cells v else act s h i.op vs v) (bare_frame fr)) (map bare_frame below) (if b then act_marked s h i.op vs cells v else act s h i.op vs v)))
    (if b then through s m is else More)))
    (sym k)
    (checked_steps d s m i fr below cells w v _ q (uses_pass s h.site (operands i.op) ps (uses s.func h.main i.op) w))
  where
    h : Here
    h = here s m fr

    ps : List Poisoned
    ps = read_all (read_poisoned s fr.values) (operands i.op) (here s m fr).root

    vs : List ℕ
    vs = read_all (plain_reading.read s (words fr.values)) (operands i.op) (here s m fr).root

frames_step : (d : Rules) (s : Setting) (m : Module) → NoMarks m → (fs : List (Frame Poisoned)) (cells : ℕ → ℕ) (w v : World) → bare v ≡ bare w
    → Steps v.output (shadow_moved (shadow_frames d s m fs w)) (plain_step s m (record { frames = map bare_frame fs; slots = cells; world = v }))
frames_step d s m k [] cells w v q = inr (refl, q)
frames_step d s m k (fr ∷ below) cells w v q = first_steps d s m (rest_of m fr) fr below cells w v (k fr.func fr.block fr.place) q

pub step_mirrors : (d : Rules) (s : Setting) (m : Module) → NoMarks m → (c : ShadowState) (p : PlainState) → Mirrors c p → Steps p.world.output (shadow_step d s m c) (plain_step s m p)
step_mirrors d s m k c p h =
    subst (λ fs. Steps p.world.output (shadow_step d s m c) (plain_step s m (record { frames = fs; slots = p.slots; world = p.world }))) (sym h.frames)
    (frames_step d s m k c.frames p.slots c.world p.world h.world)

-- ---- the run

-- a run that does not end as reported ends alike; and what it has put out by then, the plain run has too
pub runs_undisturbed : (d : Rules) (s : Setting) (m : Module) → NoMarks m → (n : ℕ) (c : ShadowState) (p : PlainState) → Mirrors c p
    → Undisturbed (run (λ k. k.world) (shadow_step d s m) n c) (run (λ k. k.world) (plain_step s m) n p)
runs_undisturbed d s m k zero c p h = alike refl (ap (λ w. w.output) h.world)
runs_undisturbed d s m k (suc n) c p h =
    after (shadow_step d s m c) (plain_step s m p) (run_adds s m k (suc n) p) (step_mirrors d s m k c p h) (λ x y. runs_undisturbed d s m k n x y)
  where
    after : (x : Stepped ShadowState) (y : Stepped PlainState) → Prefix p.world.output (go_on (run (λ k. k.world) (plain_step s m) n) y).output → Steps p.world.output x y
        → ((c' : ShadowState) (p' : PlainState) → Mirrors c' p' → Undisturbed (run (λ k. k.world) (shadow_step d s m) n c') (run (λ k. k.world) (plain_step s m) n p'))
        → Undisturbed (go_on (run (λ k. k.world) (shadow_step d s m) n) x) (go_on (run (λ k. k.world) (plain_step s m) n) y)
    after (More c') (More p') more f rest = rest c' p' f
    after (More c') (Stop e w) more f rest = absurd f
    after (Stop e w) y more (inl r) rest = record { output = subst (λ o. Prefix o (go_on (run (λ k. k.world) (plain_step s m) n) y).output) r.1 more; same = inl r.0 }
    after (Stop e w) (More p') more (inr r) rest = absurd r
    after (Stop e w) (Stop x v) more (inr r) rest = alike r.0 (ap (λ u. u.output) r.1)

pub shadow_undisturbed : (d : Rules) (m : Module) → NoMarks m → (s : Setup) → Undisturbed (shadow_by d m s) (plain m s)
shadow_undisturbed d m k s =
    runs_undisturbed d (setting_of m s) m k s.steps
    (record { frames = start_frame shadow_reading m ∷ []; world = start_world m s })
    (record { frames = start_frame plain_reading m ∷ []; slots = λ a. 0; world = start_world m s })
    (record { frames = refl; world = refl })

-- inserted code that is faithful leaves the output as it is
pub faithful_undisturbed : (m j : Module) → Faithful m j → (s : Setup) → Fair s → Undisturbed (plain j s) (plain m s)
faithful_undisturbed m j f s fair = subst (λ r. Undisturbed r (plain m s)) (sym (f.runs s fair)) (shadow_undisturbed by_completions m (no_marks j m f.strips) s)
