-- A shadow run of fibers that does not end as reported has the output and the end of the plain run.
use Rattle.std.proofs.Common.{◌≡◌, ◌≤◌, ℕ, ◌+◌, List, [], ◌∷◌, true, Option, Some, None, refl, sym, ap, ◌∙◌, subst, arith, ◌⊎◌, inl, inr}
use Rattle.std.specs.Prelude.{if◌then◌else◌, map, eqb, get_or}
use Rattle.ms_ir.specs.declared.syntax.Inst.{Inst}
use Rattle.ms_ir.specs.declared.syntax.Module.{Module}
use Rattle.ms_ir.specs.Instructions.{operands, HeadUnmarked, NoMarks}
use Rattle.ms_runs.specs.declared.runs.Setup.{Setup}
use Rattle.ms_runs.specs.declared.runs.End.{End}
use Rattle.ms_runs.specs.declared.runs.End.TheVariants as «end»
use Rattle.ms_runs.specs.World.{World, Setting, Effect, Gives, Does, Goes as Jumps, Enters, Leaves, Ends as Over, result}
use Rattle.ms_runs.specs.Control.{Frame, here, rest_of, read_all, entered, given_back, after_effect, keeping}
use Rattle.ms_runs.specs.Act.{act, plain_reading}
use Rattle.ms_runs.specs.Plain.{PlainState, Stepped, More, Stop, and_then, plain_inst, plain_state, through, plain_step, act_marked, slots_after, setting_of, start_world, start_frame}
use Rattle.ms_runs.specs.Poisoned.{Poisoned}
use Rattle.ms_runs.specs.Masks.{Rules}
use Rattle.ms_runs.specs.Uses.{uses, check_uses}
use Rattle.ms_runs.specs.Shadow.{ShadowState, read_poisoned, shadow_reading, shadow_step}
use Rattle.ms_runs.specs.Threads.{changed_thread, set_at}
use Rattle.ms_runs.specs.Faithful.{Prefix, Undisturbed}
use Rattle.ms_runs_laws.proofs.PlainPart.{bare}
use Rattle.ms_runs_laws.proofs.ShownSteps.{words_shown, frames_length, bind_shown, first_shown, given_bare}
use Rattle.ms_runs_laws.specs.Follows.{bare_frame}
use Rattle.ms_runs_laws.proofs.PlanesApart.{Passes, uses_pass, here as the_same}
use Rattle.ms_runs_laws.proofs.OutputGrows.{nothing_more, whole, joined, step_world, step_adds, given_output}
use Rattle.ms_runs_laws.proofs.SameOutput.{Steps, checked_steps, step_mirrors}
use Rattle.ms_runs_threads.specs.Fibers.{Going, Meaning, Fibers, Goes, turned, ended, ends_in}
use Rattle.ms_runs_threads.specs.Alike.{SteppedAlike, count_of, Relation, GoBoth, AtBoth, EndBoth, EarlyGoing, Later, Laws, LateLaws, Counts, of_going}
use Rattle.ms_runs_threads.specs.PlainFibers.{Shared, state_of, plain_going, plain_fiber, plain_threads, plain_answer, through_marked, due_inst, due_at, frames_due, frames_joins, frames_site, frames_left, inst_joins, words_due}
use Rattle.ms_runs_threads.specs.ShadowFibers.{shadow_state, shadow_going, shadow_fiber, shadow_threads_by, checked, reach_first, perform_first, shadow_answer}
use Rattle.ms_runs_threads.proofs.Follow.{runs_alike}

-- ---- the relation

-- the left run ended as reported, with a beginning of the output
abbrev pub Early : End → World → World → Type 0
Early e w v = (e ≡ «end».Reported) × Prefix w.output v.output

abbrev pub EndsSo : End → World → End → World → Type 0
EndsSo e w x v = Early e w v ⊎ ((x ≡ e) × (bare v ≡ bare w))

module _ (d : Rules) (s : Setting) (m : Module) (unmarked : NoMarks m) where
  abbrev left : Meaning (List (Frame Poisoned)) World
  left = shadow_fiber d s m

  abbrev right : Meaning (List (Frame ℕ)) Shared
  right = plain_fiber s m

  abbrev pub relation : Relation (shadow_fiber d s m) (plain_fiber s m)
  relation = record {
    Go = λ f w g t. (g ≡ map bare_frame f) × (bare t.world ≡ bare w);
    At = λ f g. g ≡ map bare_frame f;
    Shared = λ w t. bare t.world ≡ bare w;
    Ends = EndsSo;
    Early = Early;
    count = λ w. 0;
  }

  -- ---- what is due

  due_same : (f : List (Frame Poisoned)) → frames_due s m f ≡ frames_due s m (map bare_frame f)
  due_same [] = refl
  due_same (f ∷ below) = ap (λ n. due_at s.func (here s m f).main (eqb n 0) (due_inst (rest_of m f))) (sym (frames_length below))

  site_same : (f : List (Frame Poisoned)) → frames_site s m f ≡ frames_site s m (map bare_frame f)
  site_same [] = refl
  site_same (f ∷ below) = refl

  map_same : (l : List ℕ) → map (λ v. v) l ≡ l
  map_same [] = refl
  map_same (v ∷ l) = ap (λ k. v ∷ k) (map_same l)

  words_same : (f : Frame Poisoned) (i : Option Inst) → map (λ p. p.value) (words_due shadow_reading s m f i) ≡ words_due plain_reading s m (bare_frame f) i
  words_same f None = refl
  words_same f (Some i) = words_shown s f.values (operands i.op) (here s m f).root

  joins_same : (f : List (Frame Poisoned)) → frames_joins shadow_reading (λ p. p.value) s m f ≡ frames_joins plain_reading (λ v. v) s m (map bare_frame f)
  joins_same [] = refl
  joins_same (f ∷ below) = ap (inst_joins s.func (due_inst (rest_of m f))) (words_same f (due_inst (rest_of m f)) ∙ sym (map_same _))

  -- ---- steps

  stepped : (o : List ℕ) (x : Stepped ShadowState) (y : Stepped PlainState) → Prefix o (step_world y).output → Steps o x y
      → SteppedAlike (GoBoth left right relation) EndsSo (EarlyGoing left right relation) (shadow_going x) (plain_going y)
  stepped o (More c) (More p) more h = (h.frames, h.world)
  stepped o (More c) (Stop e w) more h = absurd h
  stepped o (Stop e w) (More p) more (inl h) = (h.0, subst (λ k. Prefix k p.world.output) h.1 more)
  stepped o (Stop e w) (More p) more (inr h) = absurd h
  stepped o (Stop e w) (Stop x v) more (inl h) = inl (h.0, subst (λ k. Prefix k v.output) h.1 more)
  stepped o (Stop e w) (Stop x v) more (inr h) = inr h

  step_alike : (f : List (Frame Poisoned)) (w : World) (g : List (Frame ℕ)) (t : Shared) → g ≡ map bare_frame f → bare t.world ≡ bare w
      → SteppedAlike (GoBoth left right relation) EndsSo (EarlyGoing left right relation) (left.step f w) (right.step g t)
  step_alike f w g t frames world =
      stepped t.world.output (shadow_step d s m (shadow_state f w)) (plain_step s m (state_of g t)) (step_adds s m unmarked g t.slots t.world)
      (step_mirrors d s m unmarked (shadow_state f w) (state_of g t) (record { frames = frames; world = world }))

  -- up to what is due nothing happens in a plain run, and checks leave what is shown, or end the shadow run
  module _ (alike : Going (List (Frame Poisoned)) World → Going (List (Frame ℕ)) Shared → Type 0) (f : Frame Poisoned) (below : List (Frame Poisoned)) (w : World) (t : Shared) (world : bare t.world ≡ bare w)
      (go : (u : World) → bare t.world ≡ bare u → alike (record { fiber = f ∷ below; shared = u }) (record { fiber = bare_frame f ∷ map bare_frame below; shared = t })) where
    by_checks : (e : Effect) → Passes w e
        → SteppedAlike alike EndsSo (EarlyGoing left right relation) (shadow_going (checked (f ∷ below) e)) (More (record { fiber = bare_frame f ∷ map bare_frame below; shared = t }))
    by_checks (Does u) p = go u (world ∙ sym p.same)
    by_checks (Over e u) p = (p.0, subst (λ o. Prefix o t.world.output) (ap (λ k. k.output) (world ∙ sym p.1.same)) (whole t.world.output))
    by_checks (Gives v u) p = absurd p
    by_checks (Jumps to u) p = absurd p
    by_checks (Enters n u) p = absurd p
    by_checks (Leaves u) p = absurd p

    by_list : (is : List Inst) → HeadUnmarked is
        → SteppedAlike alike EndsSo (EarlyGoing left right relation) (shadow_going (reach_first s m is f below w)) (plain_going (through_marked s m is (state_of (bare_frame f ∷ map bare_frame below) t)))
    by_list [] k = inr (refl, world)
    by_list (i ∷ is) k =
        subst (λ b. SteppedAlike alike EndsSo (EarlyGoing left right relation) (shadow_going (reach_first s m (i ∷ is) f below w))
        (plain_going (if b then and_then (plain_inst s m i (state_of (bare_frame f ∷ map bare_frame below) t) (bare_frame f ∷ map bare_frame below)) (through_marked s m is) else More (state_of (bare_frame f ∷ map bare_frame below) t))))
        (sym k)
        (by_checks (check_uses s (here s m f).site (operands i.op) (read_all (read_poisoned s f.values) (operands i.op) (here s m f).root) (uses s.func (here s m f).main i.op) w)
        (uses_pass s (here s m f).site (operands i.op) (read_all (read_poisoned s f.values) (operands i.op) (here s m f).root) (uses s.func (here s m f).main i.op) w))

  reach_alike : (alike : Going (List (Frame Poisoned)) World → Going (List (Frame ℕ)) Shared → Type 0) (f : List (Frame Poisoned)) (w : World) (g : List (Frame ℕ)) (t : Shared) → g ≡ map bare_frame f → bare t.world ≡ bare w
      → ((u : World) → bare t.world ≡ bare u → alike (record { fiber = f; shared = u }) (record { fiber = map bare_frame f; shared = t }))
      → SteppedAlike alike EndsSo (EarlyGoing left right relation) (left.reach f w) (right.reach g t)
  reach_alike alike f w g t frames world go =
      subst (λ g. SteppedAlike alike EndsSo (EarlyGoing left right relation) (left.reach f w) (right.reach g t)) (sym frames) (by_frames f go)
    where
      by_frames : (f : List (Frame Poisoned)) → ((u : World) → bare t.world ≡ bare u → alike (record { fiber = f; shared = u }) (record { fiber = map bare_frame f; shared = t }))
          → SteppedAlike alike EndsSo (EarlyGoing left right relation) (left.reach f w) (right.reach (map bare_frame f) t)
      by_frames [] go = inr (refl, world)
      by_frames (f ∷ below) go = by_list alike f below w t world go (rest_of m f) (unmarked f.func f.block f.place)

  -- ---- what is due, without its checks

  perform_steps : (is : List Inst) (f : Frame Poisoned) (below : List (Frame Poisoned)) (w : World) (t : Shared) → HeadUnmarked is → bare t.world ≡ bare w
      → Steps t.world.output (perform_first d s m is f below w) (through s m is (state_of (bare_frame f ∷ map bare_frame below) t))
  perform_steps [] f below w t k world = inr (refl, world)
  perform_steps (i ∷ is) f below w t k world =
      subst (λ b. Steps t.world.output (perform_first d s m (i ∷ is) f below w)
      (and_then (plain_state (if b then slots_after i.op vs t.slots else t.slots)
      (after_effect plain_reading s m (here s m f).site i.result vs (λ x y. x) (λ x y. y)
      (keeping i.op (if b then act_marked s (here s m f) i.op vs t.slots t.world else act s (here s m f) i.op vs t.world) (bare_frame f)) (map bare_frame below)
      (if b then act_marked s (here s m f) i.op vs t.slots t.world else act s (here s m f) i.op vs t.world)))
      (if b then through s m is else More)))
      (sym k) (checked_steps d s m i f below t.slots w t.world (Does w) world (the_same w))
    where
      vs : List ℕ
      vs = read_all (plain_reading.read s (λ x. (f.values x).value)) (operands i.op) (here s m f).root

  perform_alike : (f : List (Frame Poisoned)) (w : World) (g : List (Frame ℕ)) (t : Shared) → g ≡ map bare_frame f → bare t.world ≡ bare w
      → SteppedAlike (GoBoth left right relation) EndsSo (EarlyGoing left right relation) (left.perform f w) (right.perform g t)
  perform_alike f w g t frames world =
      subst (λ g. SteppedAlike (GoBoth left right relation) EndsSo (EarlyGoing left right relation) (left.perform f w) (right.perform g t)) (sym frames) (by_frames f)
    where
      by_frames : (f : List (Frame Poisoned)) → SteppedAlike (GoBoth left right relation) EndsSo (EarlyGoing left right relation) (left.perform f w) (right.perform (map bare_frame f) t)
      by_frames [] = inr (refl, world)
      by_frames (f ∷ below) =
          stepped t.world.output (perform_first d s m (rest_of m f) f below w) (through s m (rest_of m f) (state_of (bare_frame f ∷ map bare_frame below) t))
          (step_adds s m unmarked (bare_frame f ∷ map bare_frame below) t.slots t.world)
          (perform_steps (rest_of m f) f below w t (unmarked f.func f.block f.place) world)

  -- ---- a fiber ends

  -- what a world shows after a fiber has ended with a word
  abbrev answered : ℕ → World → World
  answered v u = record u { threads = changed_thread u.turn (λ t. record t { ended = true }) u.threads; answers = set_at u.answers u.turn v }

  answer_shown : (f : List (Frame Poisoned)) (w : World) (t : Shared) → (plain_answer s m (map bare_frame f) t).value ≡ (shadow_answer s m f w).value
  answer_shown [] w t = refl
  answer_shown (f ∷ below) w t =
      let i = due_inst (rest_of m f) in
      sym (first_shown (words_due shadow_reading s m f i) ∙ ap (λ l. get_or l 0 0) (words_same f i))

  left_bare : (f : List (Frame Poisoned)) (w v : World) → bare v ≡ bare w → bare (frames_left (map bare_frame f) v) ≡ bare (frames_left f w)
  left_bare [] w v e = e
  left_bare (f ∷ below) w v e = given_bare (bare_frame f) v ∙ ap (given_back (bare_frame f)) e ∙ sym (given_bare f w)

  ended_bare : (f : List (Frame Poisoned)) (w : World) (t : Shared) → bare t.world ≡ bare w → bare (right.world (ended right (map bare_frame f) t)) ≡ bare (ended left f w)
  ended_bare f w t e =
      ap (λ v. answered v (bare (frames_left (map bare_frame f) t.world))) (answer_shown f w t)
      ∙ ap (answered (shadow_answer s m f w).value) (left_bare f w t.world e)

  -- ---- a fiber begins

  begun_bare : (n a : ℕ) (w v : World) → bare v ≡ bare w
      → entered plain_reading m n (a ∷ []) v ∷ [] ≡ map bare_frame (entered shadow_reading m n (record { value = a; mask = 0; origin = 0 } ∷ []) w ∷ [])
  begun_bare n a w v e =
      ap (λ u. entered plain_reading m n (a ∷ []) u ∷ []) e
      ∙ ap (λ g. record { func = n; block = 0; place = 0; values = g; mark = (entered plain_reading m n [] (bare w)).mark; heap = [] } ∷ []) (sym (bind_shown _ (record { value = a; mask = 0; origin = 0 } ∷ [])))

  pub laws : Laws left right relation
  laws = record {
    due = λ f w g t h. due_same f ∙ ap (frames_due s m) (sym h.0);
    turn = λ f w g t h. sym (ap (λ u. u.turn) h.1);
    step = λ f w g t h own quiet. step_alike f w g t h.0 h.1;
    reach = λ f w g t h asks quiet. reach_alike (AtBoth left right relation) f w g t h.0 h.1 (λ u e. (refl, e));
    returns = λ f w g t h due quiet. reach_alike (EndBoth left right relation) f w g t h.0 h.1 (λ u e. ended_bare f u t e);
    shared_turn = λ w t h. sym (ap (λ u. u.turn) h);
    joins = λ f g h. joins_same f ∙ ap (frames_joins plain_reading (λ v. v) s m) (sym h);
    site = λ f g h. site_same f ∙ ap (frames_site s m) (sym h);
    perform = λ f w g t at h quiet. perform_alike f w g t at h;
    begun = λ w t h k x is. (begun_bare x.func x.argument (turned k w) (turned k t.world) (ap (turned k) h), ap (turned k) h);
    shared_turned = λ w t h k. ap (turned k) h;
    threads = λ w t h. sym (ap (λ u. u.threads) h);
    ends = λ w t h e. inr (refl, h);
    spent = λ f w g t h. inr (refl, h.1);
  }

  -- ---- the plain run goes on alone

  plain_later : (e : End) (w : World) (y : Stepped PlainState) → e ≡ «end».Reported → Prefix w.output (step_world y).output → Later left right relation (EarlyGoing left right relation) e w (plain_going y)
  plain_later e w (More p) r more = (r, more)
  plain_later e w (Stop x v) r more = inl (r, more)

  step_later : (e : End) (w : World) (g : List (Frame ℕ)) (t : Shared) → Early e w t.world → Later left right relation (EarlyGoing left right relation) e w (right.step g t)
  step_later e w g t h = plain_later e w (plain_step s m (state_of g t)) h.0 (joined h.1 (step_adds s m unmarked g t.slots t.world))

  reach_later : (e : End) (w : World) (g : List (Frame ℕ)) (t : Shared) → Early e w t.world → Later left right relation (EarlyGoing left right relation) e w (right.reach g t)
  reach_later e w [] t h = inl h
  reach_later e w (f ∷ below) t h = by_list' (rest_of m f) (unmarked f.func f.block f.place)
    where
      by_list' : (is : List Inst) → HeadUnmarked is → Later left right relation (EarlyGoing left right relation) e w (plain_going (through_marked s m is (state_of (f ∷ below) t)))
      by_list' [] k = inl h
      by_list' (i ∷ is) k =
          subst (λ b. Later left right relation (EarlyGoing left right relation) e w
          (plain_going (if b then and_then (plain_inst s m i (state_of (f ∷ below) t) (f ∷ below)) (through_marked s m is) else More (state_of (f ∷ below) t)))) (sym k) h

  left_output : (g : List (Frame ℕ)) (v : World) → (frames_left g v).output ≡ v.output
  left_output [] v = refl
  left_output (f ∷ below) v = given_output f v

  pub late : LateLaws left right relation
  late = record {
    step = step_later;
    reach = reach_later;
    perform = step_later;
    ended = λ e w g t h. (h.0, subst (Prefix w.output) (sym (left_output g t.world)) h.1);
    begun = λ e w t n a h. h;
    turned = λ e w t k h. h;
    ends = λ e w v h x. inl h;
  }

  none_counted : {A : Type 0} (world : A → World) (x : Stepped A) → 0 ≤ count_of (λ w. 0) world x
  none_counted world (More a) = omega arith
  none_counted world (Stop e w) = omega arith

  pub counts : Counts left right relation
  counts = record {
    step = λ f w. none_counted (of_going left right relation) (left.step f w);
    reach = λ f w. none_counted (of_going left right relation) (left.reach f w);
    perform = λ f w. none_counted (of_going left right relation) (left.perform f w);
    ended = λ f w. refl;
    begun = λ w n a. refl;
    turned = λ w k. refl;
  }

-- ---- the run

answers : (e : End) (w : World) (x : End) (v : World) → EndsSo e w x v → Undisturbed (result e w) (result x v)
answers e w x v (inl h) = record { output = h.1; same = inl h.0 }
answers e w x v (inr h) = record { output = record { rest = []; is = ap (λ u. u.output) h.1 ∙ nothing_more w.output }; same = inr (h.0, ap (λ u. u.output) h.1) }

pub threads_undisturbed : (d : Rules) (m : Module) → NoMarks m → (setup : Setup) (schedule : List ℕ) → Undisturbed (shadow_threads_by d m setup schedule) (plain_threads m setup schedule)
threads_undisturbed d m k setup schedule =
    let s = setting_of m setup in
    let c : Fibers (List (Frame Poisoned)) World = Goes (start_frame shadow_reading m ∷ []) (start_world m setup) (record { stands = λ n. None; picks = 0 }) in
    let p : Fibers (List (Frame ℕ)) Shared = Goes (start_frame plain_reading m ∷ []) (record { slots = λ a. 0; world = start_world m setup }) (record { stands = λ n. None; picks = 0 }) in
    let e = ends_in (shadow_fiber d s m) schedule setup.steps c in
    let q = ends_in (plain_fiber s m) schedule setup.steps p in
    answers e.0 e.1 q.0 q.1
    (runs_alike (shadow_fiber d s m) (plain_fiber s m) (relation d s m k) (laws d s m k) (counts d s m k) (late d s m k) schedule setup.steps c p
    ((refl, refl), record { stands = λ n. tt; picks = refl }) refl)
