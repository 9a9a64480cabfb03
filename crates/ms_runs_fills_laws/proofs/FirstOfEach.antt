-- A run that reports each use once beside one that reports each time.
use Rattle.std.proofs.Common.{◌≡◌, ◌≢◌, ◌⊎◌, inl, inr, ◌<◌, ◌≤◌, ◌+◌, ◌-◌, ◌/◌, ◌++◌, ◌&&◌, ℕ, zero, suc, List, [], ◌∷◌, length, map, Bool, true, false, true≢false, eqb, leb, ltb, Option, Some, None, refl, sym, ap, ◌∙◌, subst, arith, append-nil, length-append, if◌then◌else◌}
use Rattle.std.specs.Prelude.{take}
use Rattle.std.specs.List.{list_any}
use Rattle.std.proofs.lemmas.Bool.{leb-true, leb-false, ltb-false}
use Rattle.std.proofs.lemmas.List.{take_all, take-append-le}
use Rattle.ms_bits.specs.Maps.{first_nonzero}
use Rattle.ms_ir.specs.declared.syntax.Ty.{Ty}
use Rattle.ms_ir.specs.declared.syntax.Operand.{Operand}
use Rattle.ms_ir.specs.declared.syntax.Inst.{Inst}
use Rattle.ms_ir.specs.declared.syntax.Module.{Module}
use Rattle.ms_ir.specs.Layout.{width_of}
use Rattle.ms_ir.specs.Instructions.{operands}
use Rattle.ms_runs.specs.declared.runs.End.TheVariants as «end»
use Rattle.ms_runs.specs.declared.runs.Report.{Report}
use Rattle.ms_runs.specs.declared.runs.RunResult.{RunResult}
use Rattle.ms_runs.specs.declared.runs.Setup.{Setup}
use Rattle.ms_runs.specs.World.{World, Setting, Here, Effect, Gives, Does, Goes, Enters, Leaves, Ends, then_does}
use Rattle.ms_runs.specs.Memory.{is_good, bytes_left}
use Rattle.ms_runs.specs.Globals.{address_of}
use Rattle.ms_runs.specs.Control.{Frame, Outcome, On, Over, here, rest_of, read_all}
use Rattle.ms_runs.specs.Plain.{run, go_on, setting_of, plain}
use Rattle.ms_runs.specs.Origins.{same_use, is_hidden, trail, add_report, check, check_byte, first_in_string, asks_string_at, count_blind}
use Rattle.ms_runs.specs.Poisoned.{Poisoned}
use Rattle.ms_runs.specs.Masks.{by_formulas, union, word_at}
use Rattle.ms_runs.specs.Uses.{CheckedUse, Word, Bytes, Line, Asked, type_at, uses, check_use, check_uses, blinded}
use Rattle.ms_runs.specs.Shadow.{ShadowState, read_poisoned, shadow_act, after_checks, shadow_inst, shadow_first, shadow_frames, shadow_moved, shadow_step, shadow_start, shadow, shadow_by}
use Rattle.ms_runs.specs.Faithful.{Fair, Faithful}
use Rattle.ms_runs.specs.Once.{with_new, firsts}
use Rattle.ms_runs.proofs.NoneHidden.{each_is_told}
use Rattle.ms_runs_laws.proofs.ExactRules.{computed}
use Rattle.ms_runs_fills_laws.specs.Once.{each_time}
use Rattle.ms_runs_fills_laws.proofs.Firsts.{firsts_push, firsts_begin}
use Rattle.ms_runs_fills_laws.proofs.Kept.{uses_kept, ChecksAfter, StartsWith, globals_kept}
use Rattle.ms_runs_fills_laws.proofs.Runs.{GrownOutcome, act_moves_kept, after_grown}
use Rattle.ms_runs_fills_laws.proofs.LimitFree.{relimited}
use Rattle.ms_runs_fills_laws.proofs.LimitFreeSteps.{read_free, act_same}
use Rattle.ms_runs_fills_laws.proofs.FirstReport.{effect_world, checks_world, outcome_world, kept_reports, count_reports, by_itself, stepped_world, run_leads}
use Rattle.ms_runs_fills_laws.proofs.Retold.{told, told_outcome, blind_told, shadow_act_told}

-- the setting s has each use reported once; the other one has each reported each time, up to n reports
module _ (s : Setting) (every : s.once ≡ true) (some : 1 ≤ s.limit) (n : ℕ) where
  abbrev other : Setting
  other = relimited s n false

  -- the second run has as many reports as may be
  abbrev IsFull : World → Type 0
  IsFull z = n ≤ length z.reports

  -- the first run has ended with these reports, and the second one has at least those that they are the first of
  abbrev HasEnded : World → World → Type 0
  HasEnded u z = (l : List Report) × ((u.reports ≡ firsts l) × (length u.reports ≡ s.limit) × StartsWith l z)

  -- the reports of a world are the first of some, and fewer than the limit
  abbrev IsBelow : World → List Report → Type 0
  IsBelow w l = (w.reports ≡ firsts l) × (length w.reports < s.limit)

  full_further : (z v : World) → IsFull z → StartsWith z.reports v → IsFull v
  full_further z v full h = omega (arith, full, ap length h.1, length-append z.reports h.0)

  -- ---- checks

  -- two checks of the same: the second run is full, or both go on, or the first one ends
  data CheckedOnce (e x : Effect) : Type 0 where
    Full : IsFull (effect_world x) → CheckedOnce e x
    Both : (u : World) (l : List Report) → e ≡ Does u → x ≡ Does (told l u) → IsBelow u l → CheckedOnce e x
    Last : (u : World) → e ≡ Ends «end».Reported u → HasEnded u (effect_world x) → CheckedOnce e x

  hidden_by : (r : Report) (w : World) → length w.reports < s.limit → is_hidden s r w ≡ list_any (same_use r) w.reports
  hidden_by r w few = by_limit (ltb 1 s.limit) refl w.reports refl
    where
      by_limit : (b : Bool) → ltb 1 s.limit ≡ b → (l : List Report) → w.reports ≡ l → (b && s.once && list_any (same_use r) l) ≡ list_any (same_use r) l
      by_limit true e l same = ap (λ (o : Bool). o && list_any (same_use r) l) every
      by_limit false e [] same = refl
      by_limit false e (q ∷ rest) same = absurd (omega (arith, ltb-false 1 s.limit e, few, ap length same))

  module _ (w : World) (rs : List Report) (below : IsBelow w rs) where
    report_once : (r : Report) → CheckedOnce (add_report s r w) (add_report other r (told rs w))
    report_once r =
        by_tests (is_hidden s r w) (leb s.limit (length (w.reports ++ r ∷ []))) (is_hidden other r (told rs w)) (leb n (length (rs ++ r ∷ [])))
        (hidden_by r w below.1) refl (each_is_told other r (told rs w) refl) refl
      where
        added : World
        added = record w { reports = w.reports ++ r ∷ [] }

        firsts_are : (h : Bool) → h ≡ list_any (same_use r) w.reports → (if h then w.reports else w.reports ++ r ∷ []) ≡ firsts (rs ++ r ∷ [])
        firsts_are h e =
            ap (λ (b : Bool). if b then w.reports else w.reports ++ r ∷ []) e
            ∙ ap (λ (l : List Report). with_new l r) below.0
            ∙ sym (firsts_push rs r)

        by_tests : (h a g b : Bool) → h ≡ list_any (same_use r) w.reports → leb s.limit (length (w.reports ++ r ∷ [])) ≡ a → g ≡ false → leb n (length (rs ++ r ∷ [])) ≡ b
            → CheckedOnce
            (if h then Does w else if a then Ends «end».Reported added else Does added)
            (if g then Does (told rs w) else if b then Ends «end».Reported (told (rs ++ r ∷ []) w) else Does (told (rs ++ r ∷ []) w))
        by_tests h a true b any last shown full = absurd (true≢false shown)
        by_tests h a false true any last shown full = Full (leb-true n (length (rs ++ r ∷ [])) full)
        by_tests true a false false any last shown full = Both w (rs ++ r ∷ []) refl refl (firsts_are true any, below.1)
        by_tests false true false false any last shown full =
            Last added refl (
              rs ++ r ∷ [],
              (
                firsts_are false any,
                (omega (arith, leb-true s.limit (length (w.reports ++ r ∷ [])) last, below.1, length-append w.reports (r ∷ []))),
                ([], sym (append-nil (rs ++ r ∷ []))),
              ),
            )
        by_tests false false false false any last shown full =
            Both added (rs ++ r ∷ []) refl refl (firsts_are false any, leb-false s.limit (length (w.reports ++ r ∷ [])) last)

    passes : CheckedOnce (Does w) (Does (told rs w))
    passes = Both w rs refl refl below

    check_once : (mask width origin kind part site : ℕ) → CheckedOnce (check s mask width origin kind part site w) (check other mask width origin kind part site (told rs w))
    check_once mask width origin kind part site = by_test (eqb mask 0)
      where
        by_test : (t : Bool)
            → CheckedOnce
            (if t then Does w else add_report s (record { site = site; kind = kind; part = part; width = width; mask = mask; origin = origin; chain = trail s w origin }) w)
            (if t then Does (told rs w) else add_report other (record { site = site; kind = kind; part = part; width = width; mask = mask; origin = origin; chain = trail s w origin }) (told rs w))
        by_test true = passes
        by_test false = let r : Report = record { site = site; kind = kind; part = part; width = width; mask = mask; origin = origin; chain = trail s w origin } in report_once r

    byte_once : (kind site start : ℕ) (o : Option ℕ) → CheckedOnce (check_byte s kind site start o w) (check_byte other kind site start o (told rs w))
    byte_once kind site start None = passes
    byte_once kind site start (Some x) = check_once (w.shadow x) 8 (w.origins (x / 4)) kind (x - start) site

    if_once : (t : Bool) (e x f y : Effect) → CheckedOnce e x → CheckedOnce f y → CheckedOnce (if t then e else f) (if t then x else y)
    if_once true e x f y h g = h
    if_once false e x f y h g = g

    use_once : (site : ℕ) (os : List (Ty × Operand)) (ps : List Poisoned) (u : CheckedUse) → CheckedOnce (check_use s site os ps u w) (check_use other site os ps u (told rs w))
    use_once site os ps (Word kind k) = check_once (word_at k ps).mask (width_of (type_at k os)) (word_at k ps).origin kind k site
    use_once site os ps (Bytes kind a m) =
        if_once (is_good w (word_at a ps).value (word_at m ps).value) _ _ _ _ (byte_once kind site (word_at a ps).value (first_nonzero w.shadow (word_at a ps).value (word_at m ps).value)) passes
    use_once site os ps (Line a) = byte_once 10 site (word_at a ps).value (first_in_string w (word_at a ps).value (bytes_left w (word_at a ps).value))
    use_once site os ps (Asked a) =
        if_once (asks_string_at w (word_at 0 ps).value a) _ _ _ _ (byte_once 10 site (word_at a ps).value (first_in_string w (word_at a ps).value (bytes_left w (word_at a ps).value))) passes

  then_leads : (l : List Report) (x : Effect) (more : World → Effect) → ((z : World) → ChecksAfter z (more z)) → StartsWith l (effect_world x) → StartsWith l (effect_world (then_does x more))
  then_leads l (Does z) more keep h = (checks_world z (more z) (keep z)).leads l h
  then_leads l (Gives v z) more keep h = h
  then_leads l (Goes v z) more keep h = h
  then_leads l (Enters v z) more keep h = h
  then_leads l (Leaves z) more keep h = h
  then_leads l (Ends v z) more keep h = h

  itself : (w : World) → StartsWith w.reports w
  itself w = ([], sym (append-nil w.reports))

  then_once : (e x : Effect) (go more : World → Effect) → CheckedOnce e x → ((u : World) (l : List Report) → IsBelow u l → CheckedOnce (go u) (more (told l u))) → ((z : World) → ChecksAfter z (more z))
      → CheckedOnce (then_does e go) (then_does x more)
  then_once e x go more (Full full) f keep =
      Full (full_further (effect_world x) (effect_world (then_does x more)) full (then_leads (effect_world x).reports x more keep (itself (effect_world x))))
  then_once e x go more (Both u l does same h) f keep =
      subst (λ (k : Effect). CheckedOnce (then_does k go) (then_does x more)) (sym does) (subst (λ (k : Effect). CheckedOnce (go u) (then_does k more)) (sym same) (f u l h))
  then_once e x go more (Last u ends h) f keep =
      Last u (ap (λ (k : Effect). then_does k go) ends) (h.0, (h.1.0, h.1.1, then_leads h.0 x more keep h.1.2))

  uses_once : (site : ℕ) (os : List (Ty × Operand)) (ps : List Poisoned) (us : List CheckedUse) (w : World) (rs : List Report) → IsBelow w rs → CheckedOnce (check_uses s site os ps us w) (check_uses other site os ps us (told rs w))
  uses_once site os ps [] w rs below = passes w rs below
  uses_once site os ps (u ∷ us) w rs below =
      then_once (check_use s site os ps u w) (check_use other site os ps u (told rs w)) (check_uses s site os ps us) (check_uses other site os ps us) (use_once w rs below site os ps u)
      (λ v l h. uses_once site os ps us v l h) (λ z. uses_kept other site os ps us z)

  -- ---- instructions

  module _ (m : Module) where
    -- two moves: the second run is full, or both go on or end alike, or the first one ends by its reports
    data MovedOnce (x y : Outcome Poisoned) : Type 0 where
      Fills : IsFull (outcome_world s m y) → MovedOnce x y
      Alike : (l : List Report) → y ≡ told_outcome l x → IsBelow (outcome_world s m x) l → MovedOnce x y
      Ended : (u : World) → x ≡ Over «end».Reported u → HasEnded u (outcome_world s m y) → MovedOnce x y

    grown_starts : (l : List Report) (w : World) (x : Outcome Poisoned) → GrownOutcome w x → StartsWith l w → StartsWith l (outcome_world s m x)
    grown_starts l w (On fs u) g h = g.leads l h
    grown_starts l w (Over e u) g h = g.leads l h

    module _ (i : Inst) (h : Here) (ps : List Poisoned) (fr : Frame Poisoned) (below : List (Frame Poisoned)) where
      abbrev act_of : World → Outcome Poisoned
      act_of w = shadow_act by_formulas s m i h ps fr below w

      abbrev blind_of : World → World
      blind_of w = count_blind (union (map (λ p. p.mask) (blinded s.func i.op ps))) w

      retold : (l : List Report) (u : World) → shadow_act by_formulas other m i h ps fr below (blind_of (told l u)) ≡ told_outcome l (act_of (blind_of u))
      retold l u =
          ap (shadow_act by_formulas other m i h ps fr below) (blind_told l (union (map (λ p. p.mask) (blinded s.func i.op ps))) u)
          ∙ act_same s n false m i h ps fr below (told l (blind_of u))
          ∙ shadow_act_told l by_formulas s m i h ps fr below (blind_of u)

      reports_kept : (u : World) → (outcome_world s m (act_of (blind_of u))).reports ≡ u.reports
      reports_kept u =
          kept_reports s m (blind_of u) (act_of (blind_of u)) (act_moves_kept s m i h ps fr below (blind_of u))
          ∙ count_reports s m (union (map (λ p. p.mask) (blinded s.func i.op ps))) u

      after_once : (e x : Effect) → CheckedOnce e x → MovedOnce (after_checks by_formulas s m i h ps fr below e) (after_checks by_formulas other m i h ps fr below x)
      after_once e x (Full full) =
          Fills (full_further (effect_world x) (outcome_world s m (after_checks by_formulas other m i h ps fr below x)) full
          (grown_starts (effect_world x).reports (effect_world x) (after_checks by_formulas other m i h ps fr below x)
          (after_grown other m i h ps fr below (effect_world x) x (by_itself s m x)) (itself (effect_world x))))
      after_once e x (Both u l does same k) =
          subst (λ (q : Effect). MovedOnce (after_checks by_formulas s m i h ps fr below q) (after_checks by_formulas other m i h ps fr below x)) (sym does)
          (subst (λ (q : Effect). MovedOnce (act_of (blind_of u)) (after_checks by_formulas other m i h ps fr below q)) (sym same)
          (Alike l (retold l u) (reports_kept u ∙ k.0, subst (λ (rs : List Report). length rs < s.limit) (sym (reports_kept u)) k.1)))
      after_once e x (Last u ends k) =
          Ended u (ap (after_checks by_formulas s m i h ps fr below) ends) (
            k.0,
            (
              k.1.0,
              k.1.1,
              grown_starts k.0 (effect_world x) (after_checks by_formulas other m i h ps fr below x) (after_grown other m i h ps fr below (effect_world x) x (by_itself s m x)) k.1.2,
            ),
          )

    rest_once : (is : List Inst) (fr : Frame Poisoned) (below : List (Frame Poisoned)) (w : World) (rs : List Report) → IsBelow w rs
        → MovedOnce (shadow_first by_formulas s m is fr below w) (shadow_first by_formulas other m is fr below (told rs w))
    rest_once [] fr below w rs h = Alike rs refl h
    rest_once (i ∷ is) fr below w rs h =
        subst (λ ps. MovedOnce (shadow_inst by_formulas s m i fr below w)
        (after_checks by_formulas other m i (here s m fr) ps fr below (check_uses other (here s m fr).site (operands i.op) ps (uses s.func (here s m fr).main i.op) (told rs w))))
        (sym (ap (λ read. read_all read (operands i.op) (here s m fr).root) (read_free s n false fr.values)))
        (after_once i (here s m fr) (read_all (read_poisoned s fr.values) (operands i.op) (here s m fr).root) fr below _ _
        (uses_once (here s m fr).site (operands i.op) (read_all (read_poisoned s fr.values) (operands i.op) (here s m fr).root) (uses s.func (here s m fr).main i.op) w rs h))

    frames_once : (fs : List (Frame Poisoned)) (w : World) (rs : List Report) → IsBelow w rs → MovedOnce (shadow_frames by_formulas s m fs w) (shadow_frames by_formulas other m fs (told rs w))
    frames_once [] w rs h = Alike rs refl h
    frames_once (fr ∷ below) w rs h = rest_once (rest_of m fr) fr below w rs h

    -- ---- runs

    abbrev run_once : ℕ → ShadowState → RunResult
    run_once k c = run (λ (c : ShadowState). c.world) (shadow_step by_formulas s m) k c

    abbrev run_each : ℕ → ShadowState → RunResult
    run_each k c = run (λ (c : ShadowState). c.world) (shadow_step by_formulas other m) k c

    abbrev OnceOf : RunResult → RunResult → Type 0
    OnceOf r q = (n ≤ length q.reports) ⊎ (r.reports ≡ take s.limit (firsts q.reports))

    all_of : (w : World) (l : List Report) → IsBelow w l → w.reports ≡ take s.limit (firsts l)
    all_of w l h = h.0 ∙ sym (take_all s.limit (firsts l) (let e : length w.reports ≡ length (firsts l) = ap length h.0 in omega (arith, e, h.1)))

    moved_starts : (l : List Report) (y : Outcome Poisoned) → StartsWith l (outcome_world s m y) → StartsWith l (stepped_world other m (shadow_moved y))
    moved_starts l (On fs u) h = h
    moved_starts l (Over e u) h = h

    at_end : (u : World) (l q : List Report) → u.reports ≡ firsts l → length u.reports ≡ s.limit → (rest : List Report) → q ≡ l ++ rest → u.reports ≡ take s.limit (firsts q)
    at_end u l q first last rest e =
        let more = firsts_begin l rest in
        let long : length (firsts l) ≡ s.limit = sym (ap length first) ∙ last in
        first
        ∙ sym (take_all s.limit (firsts l) (omega (arith, long)))
        ∙ sym (take-append-le s.limit (firsts l) more.0 (omega (arith, long)))
        ∙ sym (ap (take s.limit) (ap firsts e ∙ more.1))

    runs_once : (k : ℕ) (c : ShadowState) (rs : List Report) → IsBelow c.world rs → OnceOf (run_once k c) (run_each k (record { frames = c.frames; world = told rs c.world }))
    runs_once zero c rs h = inr (all_of c.world rs h)
    runs_once (suc k) c rs h =
        after (shadow_frames by_formulas s m c.frames c.world) (shadow_frames by_formulas other m c.frames (told rs c.world)) (frames_once c.frames c.world rs h) (λ d l g. runs_once k d l g)
      where
        alike : (x : Outcome Poisoned) (l : List Report) → IsBelow (outcome_world s m x) l
            → ((d : ShadowState) (l : List Report) → IsBelow d.world l → OnceOf (run_once k d) (run_each k (record { frames = d.frames; world = told l d.world })))
            → OnceOf (go_on (run_once k) (shadow_moved x)) (go_on (run_each k) (shadow_moved (told_outcome l x)))
        alike (On fs u) l g rest = rest (record { frames = fs; world = u }) l g
        alike (Over e u) l g rest = inr (all_of u l g)

        after : (x y : Outcome Poisoned) → MovedOnce x y
            → ((d : ShadowState) (l : List Report) → IsBelow d.world l → OnceOf (run_once k d) (run_each k (record { frames = d.frames; world = told l d.world })))
            → OnceOf (go_on (run_once k) (shadow_moved x)) (go_on (run_each k) (shadow_moved y))
        after x y (Fills full) rest =
            let l = (outcome_world s m y).reports in
            let q = run_leads other m l k (shadow_moved y) (moved_starts l y (itself (outcome_world s m y))) in
            inl (omega (arith, full, ap length q.1, length-append l q.0))
        after x y (Alike l same g) rest =
            subst (λ (z : Outcome Poisoned). OnceOf (go_on (run_once k) (shadow_moved x)) (go_on (run_each k) (shadow_moved z))) (sym same) (alike x l g rest)
        after x y (Ended u ends g) rest =
            let q = run_leads other m g.0 k (shadow_moved y) (moved_starts g.0 y g.1.2) in
            inr (ap (λ (z : Outcome Poisoned). (go_on (run_once k) (shadow_moved z)).reports) ends ∙ at_end u g.0 (go_on (run_each k) (shadow_moved y)).reports g.1.0 g.1.1 q.0 q.1)

module _ (m : Module) (setup : Setup) (n : ℕ) where
  -- the run that reports each time, from a world
  abbrev run_from : World → RunResult
  run_from w = run (λ (c : ShadowState). c.world) (shadow_step by_formulas (setting_of m (each_time setup n)) m) setup.steps (record { frames = (shadow_start m setup).frames; world = w })

  none : (shadow_start m setup).world.reports ≡ []
  none = (globals_kept m.types (address_of m) m.globals _).reports

  same : shadow m (each_time setup n) ≡ run_from (told [] (shadow_start m setup).world)
  same = computed m (each_time setup n) ∙ ap run_from (λ i. record (shadow_start m setup).world { reports = none i })

  -- a shadow run
  pub first_of_each : setup.once ≡ true → 1 ≤ setup.reports → length (shadow m (each_time setup n)).reports < n → (shadow m setup).reports ≡ take setup.reports (firsts (shadow m (each_time setup n)).reports)
  first_of_each every some few = by_runs (runs_once (setting_of m setup) every some n m setup.steps (shadow_start m setup) [] (none, omega (arith, ap length none, some)))
    where
      by_runs : (n ≤ length (run_from (told [] (shadow_start m setup).world)).reports)
          ⊎ ((shadow_by by_formulas m setup).reports ≡ take setup.reports (firsts (run_from (told [] (shadow_start m setup).world)).reports))
          → (shadow m setup).reports ≡ take setup.reports (firsts (shadow m (each_time setup n)).reports)
      by_runs (inl full) = absurd (omega (arith, few, full, ap (λ (r : RunResult). length r.reports) same))
      by_runs (inr e) = ap (λ (r : RunResult). r.reports) (computed m setup) ∙ e ∙ ap (λ (r : RunResult). take setup.reports (firsts r.reports)) (sym same)

-- the plain run of a faithful form
pub plain_first_of_each : (m j : Module) → Faithful m j → (setup : Setup) → Fair setup → setup.once ≡ true → (n : ℕ) → length (shadow m (each_time setup n)).reports < n
    → (plain j setup).reports ≡ take setup.reports (firsts (shadow m (each_time setup n)).reports)
plain_first_of_each m j faithful setup fair every n few = ap (λ (r : RunResult). r.reports) (faithful.runs setup fair) ∙ first_of_each m setup n every fair.some_reports few
