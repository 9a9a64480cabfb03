-- A run of fibers that ends at its first report is the beginning of the run that goes on.
use Rattle.std.proofs.Common.{◌≡◌, ◌≤◌, ◌+◌, ◌⊎◌, inl, inr, ℕ, Bool, true, false, List, [], ◌∷◌, map, eqb, get_or, None, Some, Option, if◌then◌else◌, refl, sym, ap, ◌∙◌, subst, arith}
use Rattle.ms_ir.specs.declared.syntax.Inst.{Inst}
use Rattle.ms_ir.specs.declared.syntax.Module.{Module}
use Rattle.ms_ir.specs.Instructions.{operands}
use Rattle.ms_runs.specs.declared.runs.End.{End}
use Rattle.ms_runs.specs.declared.runs.End.TheVariants as «end»
use Rattle.ms_runs.specs.declared.runs.Report.{Report}
use Rattle.ms_runs.specs.declared.runs.Setup.{Setup}
use Rattle.ms_runs.specs.World.{World, Setting, Effect, Gives, Does, Goes, Enters, Leaves, Ends as Over, result}
use Rattle.ms_runs.specs.Threads.{with_answer}
use Rattle.ms_runs.specs.Globals.{address_of}
use Rattle.ms_runs.specs.Origins.{count_blind}
use Rattle.ms_runs.specs.Control.{Frame, Outcome, On, Over as Stops, here, rest_of, read_all, entered}
use Rattle.ms_runs.specs.Plain.{Stepped, More, Stop, setting_of, start_world, start_frame}
use Rattle.ms_runs.specs.Poisoned.{Poisoned, clean}
use Rattle.ms_runs.specs.Masks.{by_formulas, union}
use Rattle.ms_runs.specs.Uses.{uses, check_uses, blinded}
use Rattle.ms_runs.specs.Shadow.{read_poisoned, shadow_reading, shadow_moved, shadow_act, after_checks, shadow_frames}
use Rattle.ms_runs_good_laws.specs.Fills.{to_first_report}
use Rattle.ms_runs_threads.specs.Fibers.{Going, Meaning, Fibers, Goes as GoesOn, turned, ended, ends_in}
use Rattle.ms_runs_threads.specs.Alike.{SteppedAlike, count_of, Relation, GoBoth, AtBoth, EndBoth, EarlyGoing, Later, of_going, Laws, LateLaws, Counts}
use Rattle.ms_runs_threads.specs.PlainFibers.{due_inst, frames_due, frames_joins, frames_site, frames_left, words_due, inst_joins}
use Rattle.ms_runs_threads.specs.ShadowFibers.{shadow_going, checked, reach_first, perform_first, shadow_answer, shadow_fiber, shadow_threads_by}
use Rattle.ms_runs_threads.proofs.Follow.{runs_alike}
use Rattle.ms_runs_fills_laws.specs.First.{FirstOf}
use Rattle.ms_runs_fills_laws.proofs.Kept.{StartsWith, FirstIs, Checks, ChecksAfter, uses_kept, given_back_kept, globals_kept}
use Rattle.ms_runs_fills_laws.proofs.Runs.{KeptOutcome, GrownOutcome, after_grown, frames_grown, act_moves_kept}
use Rattle.ms_runs_fills_laws.proofs.FirstReport.{Found, CheckedFirst, effect_world, first_only, uses_first, read_free, act_same, outcome_world, MovedFirst, frames_first}

-- a run has ended with one report, which is the first of a world that counts no fewer blind uses
pub record Reports (w v : World) : Type 0 where
  pub report : Report
  pub alone : w.reports ≡ report ∷ []
  pub leads : FirstIs report v
  pub more : w.blind ≤ v.blind

abbrev pub Before : End → World → World → Type 0
Before e w v = (e ≡ «end».Reported) × Reports w v

reports_of : (w u z : World) → Found w u z → Reports u z
reports_of w u z f = record { report = f.report; alone = f.alone; leads = f.leads; more = omega (arith, f.blind, f.more) }

further : (w v z : World) → v.blind ≤ z.blind → ((l : List Report) → StartsWith l v → StartsWith l z) → Reports w v → Reports w z
further w v z more leads h = record { report = h.report; alone = h.alone; leads = leads (h.report ∷ []) h.leads; more = omega (arith, more, h.more) }

module _ (s : Setting) (m : Module) where
  abbrev left : Meaning (List (Frame Poisoned)) World
  left = shadow_fiber by_formulas (first_only s) m

  abbrev right : Meaning (List (Frame Poisoned)) World
  right = shadow_fiber by_formulas s m

  abbrev pub relation : Relation (shadow_fiber by_formulas (first_only s) m) (shadow_fiber by_formulas s m)
  relation = record {
    Go = λ f w g v. (f ≡ g) × (w ≡ v) × (w.reports ≡ []);
    At = λ f g. f ≡ g;
    Shared = λ w v. (w ≡ v) × (w.reports ≡ []);
    Ends = λ e w x v. ((e ≡ x) × (w ≡ v) × (w.reports ≡ [])) ⊎ Before e w v;
    Early = λ e w v. Before e w v;
    count = λ w. 0;
  }

  abbrev Alike : (Going (List (Frame Poisoned)) World → Going (List (Frame Poisoned)) World → Type 0) → Stepped (Going (List (Frame Poisoned)) World) → Stepped (Going (List (Frame Poisoned)) World) → Type 0
  Alike alike x y = SteppedAlike alike relation.Ends (EarlyGoing left right relation) x y

  -- ---- steps

  same_outcome : (x : Outcome Poisoned) → (outcome_world s m x).reports ≡ [] → Alike (GoBoth left right relation) (shadow_going (shadow_moved x)) (shadow_going (shadow_moved x))
  same_outcome (On fs z) e = (refl, refl, e)
  same_outcome (Stops x z) e = inl (refl, refl, e)

  ended_first : (w u : World) (y : Outcome Poisoned) → Found w u (outcome_world s m y) → Alike (GoBoth left right relation) (Stop «end».Reported u) (shadow_going (shadow_moved y))
  ended_first w u (On fs z) f = (refl, reports_of w u z f)
  ended_first w u (Stops x z) f = inr (refl, reports_of w u z f)

  by_moved : (w : World) (x y : Outcome Poisoned) → MovedFirst s m w x y → Alike (GoBoth left right relation) (shadow_going (shadow_moved x)) (shadow_going (shadow_moved y))
  by_moved w x y (inl h) = subst (λ k. Alike (GoBoth left right relation) (shadow_going (shadow_moved k)) (shadow_going (shadow_moved y))) (sym h.0) (same_outcome y h.1)
  by_moved w x y (inr h) = subst (λ k. Alike (GoBoth left right relation) (shadow_going (shadow_moved k)) (shadow_going (shadow_moved y))) (sym h.1) (ended_first w h.0 y h.2)

  step_first : (f : List (Frame Poisoned)) (w : World) → w.reports ≡ [] → Alike (GoBoth left right relation) (left.step f w) (right.step f w)
  step_first f w none = by_moved w (shadow_frames by_formulas (first_only s) m f w) (shadow_frames by_formulas s m f w) (frames_first s m f w none)

  -- ---- up to what is due

  module _ (alike : Going (List (Frame Poisoned)) World → Going (List (Frame Poisoned)) World → Type 0) (f : Frame Poisoned) (fs : List (Frame Poisoned)) (w : World) (none : w.reports ≡ [])
      (go : alike (record { fiber = f ∷ fs; shared = w }) (record { fiber = f ∷ fs; shared = w })) where
    found_alike : (u : World) (e : End) (x : Effect) → e ≡ «end».Reported → Found w u (effect_world x) → Alike alike (Stop e u) (shadow_going (checked (f ∷ fs) x))
    found_alike u e (Does z) r f = (r, reports_of w u z f)
    found_alike u e (Over y z) r f = inr (r, reports_of w u z f)
    found_alike u e (Gives y z) r f = inr (r, reports_of w u z f)
    found_alike u e (Goes y z) r f = inr (r, reports_of w u z f)
    found_alike u e (Enters y z) r f = inr (r, reports_of w u z f)
    found_alike u e (Leaves z) r f = inr (r, reports_of w u z f)

    by_checks : (e x : Effect) → CheckedFirst w e x → Alike alike (shadow_going (checked (f ∷ fs) e)) (shadow_going (checked (f ∷ fs) x))
    by_checks (Does u) (Does z) c =
        subst (λ k. Alike alike (More (record { fiber = f ∷ fs; shared = k })) (More (record { fiber = f ∷ fs; shared = z }))) (sym c.0)
        (subst (λ k. Alike alike (More (record { fiber = f ∷ fs; shared = w })) (More (record { fiber = f ∷ fs; shared = k }))) (sym c.1) go)
    by_checks (Over e u) x c = found_alike u e x c.0 c.1
    by_checks (Does u) (Gives v z) c = absurd c
    by_checks (Does u) (Goes v z) c = absurd c
    by_checks (Does u) (Enters v z) c = absurd c
    by_checks (Does u) (Leaves z) c = absurd c
    by_checks (Does u) (Over v z) c = absurd c
    by_checks (Gives v u) x c = absurd c
    by_checks (Goes v u) x c = absurd c
    by_checks (Enters v u) x c = absurd c
    by_checks (Leaves u) x c = absurd c

    by_list : (l : List Inst) → Alike alike (shadow_going (reach_first (first_only s) m l f fs w)) (shadow_going (reach_first s m l f fs w))
    by_list [] = inl (refl, refl, none)
    by_list (i ∷ is) =
        let at = here s m f in
        let us = uses s.func at.main i.op in
        subst (λ read. Alike alike (shadow_going (checked (f ∷ fs) (check_uses (first_only s) at.site (operands i.op) (read_all read (operands i.op) at.root) us w))) (shadow_going (reach_first s m (i ∷ is) f fs w)))
        (sym (read_free s f.values))
        (by_checks _ _ (uses_first s w none at.site (operands i.op) (read_all (read_poisoned s f.values) (operands i.op) at.root) us))

  reach_alike : (alike : Going (List (Frame Poisoned)) World → Going (List (Frame Poisoned)) World → Type 0) (f : List (Frame Poisoned)) (w : World) → w.reports ≡ []
      → alike (record { fiber = f; shared = w }) (record { fiber = f; shared = w }) → Alike alike (left.reach f w) (right.reach f w)
  reach_alike alike [] w none go = inl (refl, refl, none)
  reach_alike alike (f ∷ fs) w none go = by_list alike f fs w none go (rest_of m f)

  -- ---- what is read doesn't depend on the limit

  words_free : (f : Frame Poisoned) (o : Option Inst) → words_due shadow_reading (first_only s) m f o ≡ words_due shadow_reading s m f o
  words_free f None = refl
  words_free f (Some i) = ap (λ read. read_all read (operands i.op) (here s m f).root) (read_free s f.values)

  answer_free : (f : List (Frame Poisoned)) (w : World) → shadow_answer (first_only s) m f w ≡ shadow_answer s m f w
  answer_free [] w = refl
  answer_free (f ∷ fs) w = ap (λ l. get_or l 0 clean) (words_free f (due_inst (rest_of m f)))

  due_free : (f : List (Frame Poisoned)) → frames_due (first_only s) m f ≡ frames_due s m f
  due_free [] = refl
  due_free (f ∷ fs) = refl

  pub site_free : (f : List (Frame Poisoned)) → frames_site (first_only s) m f ≡ frames_site s m f
  site_free [] = refl
  site_free (f ∷ fs) = refl

  joins_free : (f : List (Frame Poisoned)) → left.joins f ≡ right.joins f
  joins_free [] = refl
  joins_free (f ∷ fs) = ap (λ l. inst_joins s.func (due_inst (rest_of m f)) (map (λ p. p.value) l)) (words_free f (due_inst (rest_of m f)))

  left_reports : (f : List (Frame Poisoned)) (w : World) → (frames_left f w).reports ≡ w.reports
  left_reports [] w = refl
  left_reports (f ∷ fs) w = (given_back_kept f w).reports

  left_blind : (f : List (Frame Poisoned)) (w : World) → (frames_left f w).blind ≡ w.blind
  left_blind [] w = refl
  left_blind (f ∷ fs) w = (given_back_kept f w).blind

  -- ---- what is due, without its checks

  kept_reports : (w : World) (x : Outcome Poisoned) → KeptOutcome w x → (outcome_world s m x).reports ≡ w.reports
  kept_reports w (On fs u) h = h.reports
  kept_reports w (Stops e u) h = h.reports

  count_reports : (k : ℕ) (w : World) → (count_blind k w).reports ≡ w.reports
  count_reports k w = by_test (eqb k 0)
    where
      by_test : (b : Bool) → (if b then w else record w { blind = w.blind + 1 }).reports ≡ w.reports
      by_test true = refl
      by_test false = refl

  perform_list : (f : Frame Poisoned) (fs : List (Frame Poisoned)) (w : World) → w.reports ≡ [] → (l : List Inst)
      → Alike (GoBoth left right relation) (shadow_going (perform_first by_formulas (first_only s) m l f fs w)) (shadow_going (perform_first by_formulas s m l f fs w))
  perform_list f fs w none [] = inl (refl, refl, none)
  perform_list f fs w none (i ∷ is) =
      let at = here s m f in
      let ps = read_all (read_poisoned s f.values) (operands i.op) at.root in
      let u = count_blind (union (map (λ p. p.mask) (blinded s.func i.op ps))) w in
      let same : perform_first by_formulas (first_only s) m (i ∷ is) f fs w ≡ shadow_moved (shadow_act by_formulas s m i at ps f fs u) =
      ap (λ read. shadow_moved (after_checks by_formulas (first_only s) m i at (read_all read (operands i.op) at.root) f fs (Does w))) (read_free s f.values) ∙ ap shadow_moved (act_same s m i at ps f fs u) in
      subst (λ x. Alike (GoBoth left right relation) (shadow_going x) (shadow_going (shadow_moved (shadow_act by_formulas s m i at ps f fs u)))) (sym same)
      (same_outcome (shadow_act by_formulas s m i at ps f fs u)
      (kept_reports u (shadow_act by_formulas s m i at ps f fs u) (act_moves_kept s m i at ps f fs u) ∙ count_reports (union (map (λ p. p.mask) (blinded s.func i.op ps))) w ∙ none))

  perform_free : (f : List (Frame Poisoned)) (w : World) → w.reports ≡ [] → Alike (GoBoth left right relation) (left.perform f w) (right.perform f w)
  perform_free [] w none = inl (refl, refl, none)
  perform_free (f ∷ fs) w none = perform_list f fs w none (rest_of m f)

  -- ---- laws

  -- of states alike one is the other
  from_same : (P : List (Frame Poisoned) → World → Type 0) (f g : List (Frame Poisoned)) (w v : World) → f ≡ g → w ≡ v → P f w → P g v
  from_same P f g w v e d h = subst (λ x. P x v) e (subst (P f) d h)

  pub laws : Laws left right relation
  laws = record {
    due = λ f w g v h. due_free f ∙ ap (frames_due s m) h.0;
    turn = λ f w g v h. ap (λ (u : World). u.turn) h.1;
    step = λ f w g v h own quiet. from_same (λ x u. Alike (GoBoth left right relation) (left.step f w) (right.step x u)) f g w v h.0 h.1 (step_first f w h.2);
    reach = λ f w g v h asks quiet.
        from_same (λ x u. Alike (AtBoth left right relation) (left.reach f w) (right.reach x u)) f g w v h.0 h.1 (reach_alike (AtBoth left right relation) f w h.2 (refl, (refl, h.2)));
    returns = λ f w g v h due quiet.
        from_same (λ x u. Alike (EndBoth left right relation) (left.reach f w) (right.reach x u)) f g w v h.0 h.1
        (reach_alike (EndBoth left right relation) f w h.2 (ap (λ p. with_answer p (frames_left f w)) (answer_free f w), left_reports f w ∙ h.2));
    shared_turn = λ w v h. ap (λ (u : World). u.turn) h.0;
    joins = λ f g h. joins_free f ∙ ap (frames_joins shadow_reading (λ p. p.value) s m) h;
    site = λ f g h. site_free f ∙ ap (frames_site s m) h;
    perform = λ f w g v h sh quiet. from_same (λ x u. Alike (GoBoth left right relation) (left.perform f w) (right.perform x u)) f g w v h sh.0 (perform_free f w sh.1);
    begun = λ w v h k x is. (
      ap (λ (u : World). entered shadow_reading m x.func (record { value = x.argument; mask = 0; origin = 0 } ∷ []) (turned k u) ∷ []) h.0,
      ap (turned k) h.0,
      h.1,
    );
    shared_turned = λ w v h k. (ap (turned k) h.0, h.1);
    threads = λ w v h. ap (λ (u : World). u.threads) h.0;
    ends = λ w v h e. inl (refl, h.0, h.1);
    spent = λ f w g v h. inl (refl, h.1, h.2);
  }

  -- ---- the run that goes on alone

  abbrev LaterOn : End → World → Stepped (Going (List (Frame Poisoned)) World) → Type 0
  LaterOn e w y = Later left right relation (EarlyGoing left right relation) e w y

  later_moved : (e : End) (w v : World) → Before e w v → (x : Outcome Poisoned) → GrownOutcome v x → LaterOn e w (shadow_going (shadow_moved x))
  later_moved e w v h (On fs z) g = (h.0, further w v z g.blind g.leads h.1)
  later_moved e w v h (Stops y z) g = inr (h.0, further w v z g.blind g.leads h.1)

  later_checked : (e : End) (w v : World) → Before e w v → (fs : List (Frame Poisoned)) (x : Effect) → ChecksAfter v x → LaterOn e w (shadow_going (checked fs x))
  later_checked e w v h fs (Does z) c = (h.0, further w v z (omega (arith, c.blind)) c.leads h.1)
  later_checked e w v h fs (Over y z) c = inr (h.0, further w v z (omega (arith, c.blind)) c.leads h.1)
  later_checked e w v h fs (Gives y z) c = inr (h.0, further w v z (omega (arith, c.blind)) c.leads h.1)
  later_checked e w v h fs (Goes y z) c = inr (h.0, further w v z (omega (arith, c.blind)) c.leads h.1)
  later_checked e w v h fs (Enters y z) c = inr (h.0, further w v z (omega (arith, c.blind)) c.leads h.1)
  later_checked e w v h fs (Leaves z) c = inr (h.0, further w v z (omega (arith, c.blind)) c.leads h.1)

  reach_later : (e : End) (w : World) (g : List (Frame Poisoned)) (v : World) → Before e w v → LaterOn e w (right.reach g v)
  reach_later e w [] v h = inr h
  reach_later e w (f ∷ fs) v h = by_rest (rest_of m f)
    where
      by_rest : (l : List Inst) → LaterOn e w (shadow_going (reach_first s m l f fs v))
      by_rest [] = inr h
      by_rest (i ∷ is) =
          let at = here s m f in
          later_checked e w v h (f ∷ fs) _ (uses_kept s at.site (operands i.op) (read_all (read_poisoned s f.values) (operands i.op) at.root) (uses s.func at.main i.op) v)

  itself : (w : World) → Checks w w
  itself w = record { blind = refl; leads = λ r h. h; placed = λ h. h }

  perform_later : (e : End) (w : World) (g : List (Frame Poisoned)) (v : World) → Before e w v → LaterOn e w (right.perform g v)
  perform_later e w [] v h = inr h
  perform_later e w (f ∷ fs) v h = by_rest (rest_of m f)
    where
      by_rest : (l : List Inst) → LaterOn e w (shadow_going (perform_first by_formulas s m l f fs v))
      by_rest [] = inr h
      by_rest (i ∷ is) =
          let at = here s m f in
          let ps = read_all (read_poisoned s f.values) (operands i.op) at.root in
          later_moved e w v h (after_checks by_formulas s m i at ps f fs (Does v)) (after_grown s m i at ps f fs v (Does v) (itself v))

  ended_later : (e : End) (w : World) (g : List (Frame Poisoned)) (v : World) → Before e w v → Before e w (ended right g v)
  ended_later e w g v h =
      (h.0, further w v (with_answer (shadow_answer s m g v) (frames_left g v)) (omega (arith, left_blind g v)) (λ r k. (k.0, left_reports g v ∙ k.1)) h.1)

  pub late : LateLaws left right relation
  late = record {
    step = λ e w g v h. later_moved e w v h (shadow_frames by_formulas s m g v) (frames_grown s m g v);
    reach = reach_later;
    perform = perform_later;
    ended = ended_later;
    begun = λ e w v n a h. h;
    turned = λ e w v k h. (h.0, further w v (turned k v) (omega arith) (λ r x. x) h.1);
    ends = λ e w v h x. inr h;
  }

  none_counted : {A : Type 0} (world : A → World) (x : Stepped A) → 0 ≤ count_of (λ w. 0) world x
  none_counted world (More a) = omega arith
  none_counted world (Stop e w) = omega arith

  pub counts : Counts left right relation
  counts = record {
    step = λ f w. none_counted (of_going left right relation) (left.step f w);
    reach = λ f w. none_counted (of_going left right relation) (left.reach f w);
    perform = λ f w. none_counted (of_going left right relation) (left.perform f w);
    ended = λ f w. refl;
    begun = λ w n a. refl;
    turned = λ w k. refl;
  }

  told_so : (e : End) (w : World) (x : End) (v : World) → relation.Ends e w x v → FirstOf (result e w) (result x v)
  told_so e w x v (inl h) = inl ((λ i. result (h.0 i) (h.1 i)), ap (λ (u : World). u.reports) (sym h.1) ∙ h.2)
  told_so e w x v (inr h) = inr (record {
    report = h.1.report;
    rest = h.1.leads.0;
    one = h.1.alone;
    more = h.1.leads.1;
    blind = h.1.more;
    ends = h.0;
  })

-- a run up to its first report is the beginning of each run
pub first_of : (m : Module) (setup : Setup) (schedule : List ℕ) → FirstOf (shadow_threads_by by_formulas m (to_first_report setup) schedule) (shadow_threads_by by_formulas m setup schedule)
first_of m setup schedule =
    let s = setting_of m setup in
    let c : Fibers (List (Frame Poisoned)) World = GoesOn (start_frame shadow_reading m ∷ []) (start_world m setup) (record { stands = λ n. None; picks = 0 }) in
    let a = ends_in (left s m) schedule setup.steps c in
    let d = ends_in (right s m) schedule setup.steps c in
    told_so s m a.0 a.1 d.0 d.1
    (runs_alike (left s m) (right s m) (relation s m) (laws s m) (counts s m) (late s m) schedule setup.steps c c
    ((refl, refl, (globals_kept m.types (address_of m) m.globals _).reports), record { stands = λ n. tt; picks = refl }) refl)
