-- The plain run takes the steps of the shadow run, with memory's shadow beside it.
use Rattle.std.proofs.Common.{◌≡◌, ℕ, ◌+◌, List, [], ◌∷◌, ◌++◌, Bool, true, false, Option, refl, sym, ap, ◌∙◌, subst, arith}
use Rattle.std.specs.Prelude.{if◌then◌else◌, map, eqb, leb, length, get_or}
use Rattle.ms_runs.specs.Memory.{end_block, end_blocks}
use Rattle.ms_bits.specs.declared.traps.Trap.TheVariants.{Depth}
use Rattle.ms_ir.specs.declared.syntax.Op.{Op}
use Rattle.ms_ir.specs.declared.syntax.Name.{Name}
use Rattle.ms_ir.specs.declared.syntax.Inst.{Inst}
use Rattle.ms_ir.specs.declared.syntax.Module.{Module}
use Rattle.ms_runs.specs.declared.runs.Setup.{Setup}
use Rattle.ms_runs.specs.declared.runs.End.{End}
use Rattle.ms_runs.specs.declared.runs.End.TheVariants as «end»
use Rattle.ms_runs.specs.World.{World, Setting, Here, Effect, Gives, Does, Goes, Enters, Leaves, Ends}
use Rattle.ms_ir.specs.Instructions.{operands, count_undefs, HeadUnmarked, NoMarks}
use Rattle.ms_runs.specs.Control.{Frame, Outcome, On, Over, here, rest_of, read_all, put, result_at, release, given_back, blocks_made, keeping, entered, left, after_effect}
use Rattle.ms_runs.specs.Act.{act, plain_reading}
use Rattle.ms_runs.specs.Plain.{act_marked, slots_after, PlainState, More, Stop, and_then, plain_state, through, plain_step, plain_start}
use Rattle.ms_runs.specs.Poisoned.{Poisoned}
use Rattle.ms_runs.specs.Masks.{Rules, union}
use Rattle.ms_runs.specs.Uses.{uses, blinded}
use Rattle.ms_runs.specs.Origins.{count_blind}
use Rattle.ms_runs.specs.Shadow.{read_poisoned, planes, ShadowState, poisoned_result, shadow_moved, shadow_act, after_checks, shadow_inst, shadow_first, shadow_frames, shadow_step, shadow_start}
use Rattle.ms_runs_laws.specs.Follows.{light, words, bare_frame, shadow_left, leave_shadow, first_shadow, step_shadow, Follows, StepFollows}
use Rattle.ms_runs_laws.proofs.FollowedParts.{light_effect, light_act}
use Rattle.ms_runs_laws.proofs.FollowedFrames.{light_moved, shown, shaded, moves_shown}
use Rattle.ms_runs_laws.proofs.FollowedPlanes.{Passes, planes_light, left_same, uses_pass, blind_shows}
use Rattle.ms_runs_laws.proofs.ShownSteps.{words_shown}

-- ---- one effect in two worlds

ends_light : (l : List ℕ) (w : World) → light (end_blocks l w) ≡ end_blocks l (light w)
ends_light [] w = refl
ends_light (a ∷ l) w = ends_light l (end_block a w)

given_light : (fr : Frame ℕ) (w : World) → light (given_back fr w) ≡ given_back fr (light w)
given_light fr w = ends_light fr.heap (if eqb fr.mark 0 then w else release fr.mark w) ∙ ap (end_blocks fr.heap) (by_mark (eqb fr.mark 0))
  where
    by_mark : (b : Bool) → light (if b then w else release fr.mark w) ≡ (if b then light w else release fr.mark (light w))
    by_mark true = refl
    by_mark false = refl

left_light : (m : Module) (vs : List ℕ) (fr : Frame ℕ) (below : List (Frame ℕ)) (w : World) → light_moved (left plain_reading m vs fr below w) ≡ light_moved (left plain_reading m vs fr below (light w))
left_light m vs fr [] w = refl
left_light m vs fr (caller ∷ below) w =
    ap (On (put caller (result_at m caller) (get_or vs 0 plain_reading.unset) ∷ below)) (given_light fr w ∙ sym (given_light fr (light w)))

moves_light : (s : Setting) (m : Module) (site : ℕ) (x : Option Name) (vs : List ℕ) (fr : Frame ℕ) (below : List (Frame ℕ)) (e : Effect)
    → light_moved (after_effect plain_reading s m site x vs (λ v w. v) (λ v w. w) fr below e) ≡ light_moved (after_effect plain_reading s m site x vs (λ v w. v) (λ v w. w) fr below (light_effect e))
moves_light s m site x vs fr below (Gives v w) = refl
moves_light s m site x vs fr below (Does w) = refl
moves_light s m site x vs fr below (Goes to w) = refl
moves_light s m site x vs fr below (Enters f w) = deep (leb 1024 (length below + 1))
  where
    deep : (t : Bool) → light_moved (if t then Over («end».Trap Depth site) w else On (entered plain_reading m f vs w ∷ fr ∷ below) w)
        ≡ light_moved (if t then Over («end».Trap Depth site) (light w) else On (entered plain_reading m f vs (light w) ∷ fr ∷ below) (light w))
    deep true = refl
    deep false = refl
moves_light s m site x vs fr below (Leaves w) = left_light m vs fr below w
moves_light s m site x vs fr below (Ends e w) = refl

same_effect : (s : Setting) (h : Here) (o : Op) (vs : List ℕ) (w v : World) → light w ≡ light v → light_effect (act s h o vs w) ≡ light_effect (act s h o vs v)
same_effect s h o vs w v e = (light_act s h o vs w).same ∙ ap (λ u. light_effect (act s h o vs u)) e ∙ sym (light_act s h o vs v).same

made_light : (o : Op) (e : Effect) → blocks_made o e ≡ blocks_made o (light_effect e)
made_light o (Gives v w) = refl
made_light o (Does w) = refl
made_light o (Goes to w) = refl
made_light o (Enters f w) = refl
made_light o (Leaves w) = refl
made_light o (Ends e w) = refl

keeps_light : (o : Op) (e : Effect) (fr : Frame ℕ) → keeping o e fr ≡ keeping o (light_effect e) fr
keeps_light o e fr = ap (λ l. record fr { heap = l ++ fr.heap }) (made_light o e)

-- ---- outcomes

-- the frames are those of the shadow run, and the world is so, once memory has the shadow that an effect leaves
abbrev pub Alike : (World → World) → Outcome Poisoned → Outcome ℕ → Type 0
Alike shade (On fs w) (On gs v) = (gs ≡ map bare_frame fs) × (light (shade v) ≡ light w)
Alike shade (On fs w) (Over e v) = ⊥
Alike shade (Over e w) (On gs v) = ⊥
Alike shade (Over e w) (Over e' v) = (e' ≡ e) × (light v ≡ light w)

moved_frames : Outcome ℕ → List (Frame ℕ)
moved_frames (On fs w) = fs
moved_frames (Over e w) = []

moved_world : Outcome ℕ → World → World
moved_world (On fs w) v = w
moved_world (Over e w) v = w

moved_end : Outcome ℕ → End → End
moved_end (On fs w) x = x
moved_end (Over e w) x = e

moved_on : Outcome ℕ → Bool
moved_on (On fs w) = true
moved_on (Over e w) = false

-- e is the effect of the shadow run, and q the outcome of it in the plain reading; r is that of the same effect in the plain run's world
alike_from : (e : Effect) (after : ℕ → World → World) (p : Outcome Poisoned) (q r : Outcome ℕ) → shown p ≡ light_moved (shaded e after q) → light_moved q ≡ light_moved r
    → ((u v : World) → light u ≡ light v → light (leave_shadow e after u) ≡ light (leave_shadow e after v)) → Alike (leave_shadow e after) p r
unfolding moved_frames moved_world moved_end moved_on
alike_from e after (On fs w) (On gs v) (On hs u) h k same =
    (sym (ap moved_frames k) ∙ sym (ap moved_frames h), sym (same v u (ap (λ o. moved_world o w) k)) ∙ sym (ap (λ o. moved_world o w) h))
alike_from e after (On fs w) (On gs v) (Over x u) h k same = grind (arith, ap moved_on k)
alike_from e after (On fs w) (Over x v) r h k same = grind (arith, ap moved_on h)
alike_from e after (Over x w) (On gs v) r h k same = grind (arith, ap moved_on h)
alike_from e after (Over x w) (Over y v) (On hs u) h k same = grind (arith, ap moved_on k)
alike_from e after (Over x w) (Over y v) (Over z u) h k same =
    (sym (ap (λ o. moved_end o x) k) ∙ sym (ap (λ o. moved_end o x) h), sym (ap (λ o. moved_world o w) k) ∙ sym (ap (λ o. moved_world o w) h))

-- the same shadow is left in worlds that are alike
leaves_same : (s : Setting) (o : Op) (ps : List Poisoned) (e e' : Effect) (before other : World) (u v : World) → light_effect e ≡ light_effect e' → light before ≡ light other → light u ≡ light v
    → light (leave_shadow e (shadow_left s o ps before) u) ≡ light (leave_shadow e' (shadow_left s o ps other) v)
leaves_same s o ps e e' before other u v same p q = by_light e ∙ ap (λ k. light (leave_shadow k (shadow_left s o ps other) v)) same ∙ sym (lit e')
  where
    lit : (k : Effect) → light (leave_shadow k (shadow_left s o ps other) v) ≡ light (leave_shadow (light_effect k) (shadow_left s o ps other) v)
    lit (Gives x w) = refl
    lit (Does w) = refl
    lit (Goes to w) = refl
    lit (Enters f w) = refl
    lit (Leaves w) = refl
    lit (Ends x w) = refl

    by_light : (k : Effect) → light (leave_shadow k (shadow_left s o ps before) u) ≡ light (leave_shadow (light_effect k) (shadow_left s o ps other) v)
    by_light (Gives x w) = left_same s o ps before other x u v p q
    by_light (Does w) = left_same s o ps before other 0 u v p q
    by_light (Goes to w) = q
    by_light (Enters f w) = q
    by_light (Leaves w) = q
    by_light (Ends x w) = q

-- ---- one step

-- a step of outcomes that are alike
step_from : (s : Setting) (m : Module) (c : ShadowState) (cells : ℕ → ℕ) (p : Outcome Poisoned) (q : Outcome ℕ) → Alike (step_shadow s m c) p q
    → StepFollows s m c (shadow_moved p) (and_then (plain_state cells q) More)
step_from s m c cells (On fs w) (On gs v) h = h
step_from s m c cells (On fs w) (Over e v) h = h
step_from s m c cells (Over e w) (On gs v) h = absurd h
step_from s m c cells (Over (x) w) (Over y v) h = by_end x h
  where
    by_end : (k : End) → (y ≡ k) × (light v ≡ light w) → StepFollows s m c (Stop k w) (Stop y v)
    by_end «end».Reported g = tt
    by_end («end».Exit n) g = g
    by_end («end».Trap t n) g = g
    by_end «end».Spent g = g

module _ (d : Rules) (s : Setting) (m : Module) (i : Inst) (is : List Inst) (fr : Frame Poisoned) (below : List (Frame Poisoned)) (cells : ℕ → ℕ) (w v : World) (alike : light v ≡ light w) where
  abbrev ps : List Poisoned
  ps = read_all (read_poisoned s fr.values) (operands i.op) (here s m fr).root

  abbrev vs : List ℕ
  vs = read_all (plain_reading.read s (words fr.values)) (operands i.op) (here s m fr).root

  -- the plain run's outcome
  abbrev plainly : Outcome ℕ
  plainly = after_effect plain_reading s m (here s m fr).site i.result (read_all (plain_reading.read s (words fr.values)) (operands i.op) (here s m fr).root)
      (λ x y. x) (λ x y. y) (keeping i.op (act s (here s m fr) i.op (read_all (plain_reading.read s (words fr.values)) (operands i.op) (here s m fr).root) v) (bare_frame fr)) (map bare_frame below) (act s (here s m fr) i.op (read_all (plain_reading.read s (words fr.values)) (operands i.op) (here s m fr).root) v)

  -- the instruction, where the checks let it run
  act_follows : (u : World) → light u ≡ light w → Alike (first_shadow s m (i ∷ is) fr w) (shadow_act d s m i (here s m fr) (read_all (read_poisoned s fr.values) (operands i.op) (here s m fr).root) fr below u) plainly
  act_follows u p =
      re_shade (shadow_act d s m i (here s m fr) ps fr below u) plainly
      (alike_from (act s (here s m fr) i.op (map (λ k. k.value) ps) u) (shadow_left s i.op ps u)
      (shadow_act d s m i (here s m fr) ps fr below u)
      (after_effect plain_reading s m (here s m fr).site i.result (map (λ k. k.value) ps) (λ x y. x) (λ x y. y) (keeping i.op (act s (here s m fr) i.op (map (λ k. k.value) ps) u) (bare_frame fr)) (map bare_frame below) (act s (here s m fr) i.op (map (λ k. k.value) ps) u))
      plainly
      (moves_shown s m (here s m fr).site i.result ps (poisoned_result d i.op ps) (planes s (here s m fr).site ((here s m fr).root + count_undefs (operands i.op) + 1) i.op ps u) (shadow_left s i.op ps u)
      (keeping i.op (act s (here s m fr) i.op (map (λ k. k.value) ps) u) fr) below
      (act s (here s m fr) i.op (map (λ k. k.value) ps) u) (λ x y. refl) (λ x y. planes_light s (here s m fr).site ((here s m fr).root + count_undefs (operands i.op) + 1) i.op ps u x y))
      (ap (λ k. light_moved (after_effect plain_reading s m (here s m fr).site i.result k (λ x y. x) (λ x y. y) (keeping i.op (act s (here s m fr) i.op k u) (bare_frame fr)) (map bare_frame below) (act s (here s m fr) i.op k u))) (words_shown s fr.values (operands i.op) (here s m fr).root)
      ∙ moves_light s m (here s m fr).site i.result vs (keeping i.op (act s (here s m fr) i.op vs u) (bare_frame fr)) (map bare_frame below) (act s (here s m fr) i.op vs u)
      ∙ ap (λ g. light_moved (after_effect plain_reading s m (here s m fr).site i.result vs (λ x y. x) (λ x y. y) g (map bare_frame below) (light_effect (act s (here s m fr) i.op vs u)))) (keeps_light i.op (act s (here s m fr) i.op vs u) (bare_frame fr))
      ∙ ap (λ k. light_moved (after_effect plain_reading s m (here s m fr).site i.result vs (λ x y. x) (λ x y. y) (keeping i.op k (bare_frame fr)) (map bare_frame below) k)) (same_effect s (here s m fr) i.op vs u v (p ∙ sym alike))
      ∙ ap (λ g. light_moved (after_effect plain_reading s m (here s m fr).site i.result vs (λ x y. x) (λ x y. y) g (map bare_frame below) (light_effect (act s (here s m fr) i.op vs v)))) (sym (keeps_light i.op (act s (here s m fr) i.op vs v) (bare_frame fr)))
      ∙ sym (moves_light s m (here s m fr).site i.result vs (keeping i.op (act s (here s m fr) i.op vs v) (bare_frame fr)) (map bare_frame below) (act s (here s m fr) i.op vs v)))
      (λ a b e. leaves_same s i.op ps (act s (here s m fr) i.op (map (λ k. k.value) ps) u) (act s (here s m fr) i.op (map (λ k. k.value) ps) u) u u a b refl refl e))
    where
      same_shade : (a : World) → light (leave_shadow (act s (here s m fr) i.op (map (λ k. k.value) ps) w) (shadow_left s i.op ps w) a) ≡ light (leave_shadow (act s (here s m fr) i.op (map (λ k. k.value) ps) u) (shadow_left s i.op ps u) a)
      same_shade a =
          leaves_same s i.op ps (act s (here s m fr) i.op (map (λ k. k.value) ps) w) (act s (here s m fr) i.op (map (λ k. k.value) ps) u) w u a a
          (same_effect s (here s m fr) i.op (map (λ k. k.value) ps) w u (sym p)) (sym p) refl

      re_shade : (x : Outcome Poisoned) (y : Outcome ℕ) → Alike (leave_shadow (act s (here s m fr) i.op (map (λ k. k.value) ps) u) (shadow_left s i.op ps u)) x y → Alike (first_shadow s m (i ∷ is) fr w) x y
      re_shade (On fs a) (On gs b) g = (g.0, same_shade b ∙ g.1)
      re_shade (On fs a) (Over e b) g = g
      re_shade (Over e a) (On gs b) g = g
      re_shade (Over e a) (Over e' b) g = g

  -- a report that ends the run is no step that the plain run follows
  abbrev Followed : Outcome Poisoned → Outcome ℕ → Type 0
  Followed x y = StepFollows s m (record { frames = fr ∷ below; world = w }) (shadow_moved x) (and_then (plain_state cells y) More)

  checked_follows : rest_of m fr ≡ i ∷ is → (e : Effect) → Passes w e → Followed (after_checks d s m i (here s m fr) (read_all (read_poisoned s fr.values) (operands i.op) (here s m fr).root) fr below e) plainly
  checked_follows due (Does x) p =
      step_from s m (record { frames = fr ∷ below; world = w }) cells _ plainly
      (subst (λ k. Alike (first_shadow s m k fr w) (shadow_act d s m i (here s m fr) ps fr below (count_blind (union (map (λ k. k.mask) (blinded s.func i.op ps))) x)) plainly) (sym due)
      (act_follows (count_blind (union (map (λ k. k.mask) (blinded s.func i.op ps))) x) ((blind_shows (union (map (λ k. k.mask) (blinded s.func i.op ps))) x).same ∙ p.same)))
  checked_follows due (Ends e x) p = subst (λ k. StepFollows s m (record { frames = fr ∷ below; world = w }) (Stop k x) (and_then (plain_state cells plainly) More)) (sym p.0) tt
  checked_follows due (Gives n x) p = absurd p
  checked_follows due (Goes n x) p = absurd p
  checked_follows due (Enters f x) p = absurd p
  checked_follows due (Leaves x) p = absurd p

first_follows : (d : Rules) (s : Setting) (m : Module) (is : List Inst) (fr : Frame Poisoned) (below : List (Frame Poisoned)) (cells : ℕ → ℕ) (w v : World)
    → HeadUnmarked is → light v ≡ light w → rest_of m fr ≡ is
    → StepFollows s m (record { frames = fr ∷ below; world = w }) (shadow_moved (shadow_first d s m is fr below w)) (through s m is (record { frames = bare_frame fr ∷ map bare_frame below; slots = cells; world = v }))
first_follows d s m [] fr below cells w v k q due = (refl, q)
first_follows d s m (i ∷ is) fr below cells w v k q due =
    subst (λ b. StepFollows s m (record { frames = fr ∷ below; world = w })
    (shadow_moved (shadow_inst d s m i fr below w))
    (and_then (plain_state (if b then slots_after i.op vs cells else cells)
    (after_effect plain_reading s m h.site i.result vs (λ x y. x) (λ x y. y) (keeping i.op (if b then act_marked s h i.op vs cells v else act s h i.op vs v) (bare_frame fr)) (map bare_frame below) (if b then act_marked s h i.op vs cells v else act s h i.op vs v)))
    (if b then through s m is else More)))
    (sym k)
    (checked_follows d s m i is fr below cells w v q due _ (uses_pass s h.site (operands i.op) ps (uses s.func h.main i.op) w))
  where
    h : Here
    h = here s m fr

    ps : List Poisoned
    ps = read_all (read_poisoned s fr.values) (operands i.op) (here s m fr).root

    vs : List ℕ
    vs = read_all (plain_reading.read s (words fr.values)) (operands i.op) (here s m fr).root

frames_follow : (d : Rules) (s : Setting) (m : Module) → NoMarks m → (fs : List (Frame Poisoned)) (cells : ℕ → ℕ) (w v : World) → light v ≡ light w
    → StepFollows s m (record { frames = fs; world = w }) (shadow_moved (shadow_frames d s m fs w)) (plain_step s m (record { frames = map bare_frame fs; slots = cells; world = v }))
frames_follow d s m k [] cells w v q = (refl, q)
frames_follow d s m k (fr ∷ below) cells w v q = first_follows d s m (rest_of m fr) fr below cells w v (k fr.func fr.block fr.place) q refl

pub step_follows : (d : Rules) (s : Setting) (m : Module) → NoMarks m → (c : ShadowState) (p : PlainState) → Follows c p → StepFollows s m c (shadow_step d s m c) (plain_step s m p)
step_follows d s m k c p h =
    subst (λ fs. StepFollows s m c (shadow_step d s m c) (plain_step s m (record { frames = fs; slots = p.slots; world = p.world }))) (sym h.frames)
    (frames_follow d s m k c.frames p.slots c.world p.world h.world)

pub start_follows : (m : Module) (setup : Setup) → Follows (shadow_start m setup) (plain_start m setup)
start_follows m setup = record { frames = refl; world = refl }
