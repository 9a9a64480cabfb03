-- A shadow run that ends at its first report is the beginning of the run that goes on.
use Rattle.std.proofs.Common.{◌≡◌, ℕ, zero, suc, ◌+◌, ◌-◌, ◌/◌, ◌≤◌, List, [], ◌∷◌, ◌++◌, map, length, leb, Bool, true, false, eqb, Option, Some, None, refl, sym, ap, ◌∙◌, subst, arith, length-append, ◌⊎◌, inl, inr, if◌then◌else◌, true≢false}
use Rattle.std.proofs.lemmas.Bool.{le-leb}
use Rattle.ms_bits.specs.Maps.{first_nonzero}
use Rattle.ms_ir.specs.declared.syntax.Name.{Name}
use Rattle.ms_ir.specs.declared.syntax.Ty.{Ty}
use Rattle.ms_ir.specs.declared.syntax.Operand.{Operand}
use Rattle.ms_ir.specs.declared.syntax.Inst.{Inst}
use Rattle.ms_ir.specs.declared.syntax.Module.{Module}
use Rattle.ms_runs.specs.declared.runs.End.TheVariants as «end»
use Rattle.ms_runs.specs.declared.runs.Report.{Report}
use Rattle.ms_ir.specs.Layout.{width_of}
use Rattle.ms_runs.specs.World.{World, Setting, Here, Effect, Gives, Does, Goes, Enters, Leaves, Ends, then_does, result}
use Rattle.ms_runs.specs.Memory.{is_good}
use Rattle.ms_ir.specs.Instructions.{operands}
use Rattle.ms_runs.specs.Control.{Frame, Outcome, On, Over, here, rest_of, read_all}
use Rattle.ms_runs.specs.Origins.{trail, is_hidden, add_report, check, check_byte, first_in_string, count_blind, asks_string_at}
use Rattle.ms_runs.specs.Memory.{bytes_left}
use Rattle.ms_runs.specs.Plain.{Stepped, More, Stop, go_on, run}
use Rattle.ms_runs.specs.Poisoned.{Poisoned}
use Rattle.ms_runs.specs.Masks.{by_formulas, union, word_at}
use Rattle.ms_runs.specs.Uses.{CheckedUse, Word, Bytes, Line, type_at, uses, check_use, check_uses, blinded, Asked}
use Rattle.ms_runs.specs.Shadow.{read_poisoned, ShadowState, shadow_moved, shadow_act, after_checks, shadow_inst, shadow_first, shadow_frames, shadow_step}
use Rattle.ms_runs.proofs.NoneHidden.{none_before}
use Rattle.ms_runs_fills_laws.specs.First.{FirstOf}
use Rattle.ms_runs_fills_laws.proofs.Kept.{uses_kept, ChecksAfter, StartsWith, FirstIs, Checks}
use Rattle.ms_runs_fills_laws.proofs.LimitFreeSteps.{read_free as reads_free, act_same as acts_same}
use Rattle.ms_runs_fills_laws.proofs.Runs.{KeptOutcome, GrownOutcome, act_moves_kept, after_grown, frames_grown, run_blind}

-- the world of an effect
abbrev pub effect_world : Effect → World
effect_world (Gives v w) = w
effect_world (Does w) = w
effect_world (Goes to w) = w
effect_world (Enters f w) = w
effect_world (Leaves w) = w
effect_world (Ends e w) = w

-- the world u has one report, and z goes on from there
pub record Found (w u z : World) : Type 0 where
  pub report : Report
  pub alone : u.reports ≡ report ∷ []
  pub blind : u.blind ≡ w.blind
  pub leads : FirstIs report z
  pub more : w.blind ≤ z.blind

-- two checks of the same: nothing is found, or the first run ends
abbrev pub CheckedFirst : World → Effect → Effect → Type 0
CheckedFirst w (Does u) (Does z) = (u ≡ w) × (z ≡ w)
CheckedFirst w (Ends e u) x = (e ≡ «end».Reported) × Found w u (effect_world x)
CheckedFirst w _ _ = ⊥

pub checks_world : (z : World) (x : Effect) → ChecksAfter z x → Checks z (effect_world x)
checks_world z (Gives v u) h = h
checks_world z (Does u) h = h
checks_world z (Goes v u) h = h
checks_world z (Enters v u) h = h
checks_world z (Leaves u) h = h
checks_world z (Ends v u) h = h

further : (w u z v : World) → Found w u z → Checks z v → Found w u v
further w u z v f c = record { report = f.report; alone = f.alone; blind = f.blind; leads = c.leads (f.report ∷ []) f.leads; more = omega (arith, f.more, c.blind) }

then_first : (w : World) (e x : Effect) (go one : World → Effect) → CheckedFirst w e x → CheckedFirst w (one w) (go w) → ((z : World) → ChecksAfter z (go z)) → CheckedFirst w (then_does e one) (then_does x go)
then_first w (Does u) (Does z) go one h f keep = subst (λ k. CheckedFirst w (one k) (go z)) (sym h.0) (subst (λ k. CheckedFirst w (one w) (go k)) (sym h.1) f)
then_first w (Ends e u) (Does z) go one h f keep = (h.0, further w u z (effect_world (go z)) h.1 (checks_world z (go z) (keep z)))
then_first w (Ends e u) (Gives v z) go one h f keep = h
then_first w (Ends e u) (Goes v z) go one h f keep = h
then_first w (Ends e u) (Enters v z) go one h f keep = h
then_first w (Ends e u) (Leaves z) go one h f keep = h
then_first w (Ends e u) (Ends v z) go one h f keep = h
then_first w (Does u) (Gives v z) go one h f keep = absurd h
then_first w (Does u) (Goes v z) go one h f keep = absurd h
then_first w (Does u) (Enters v z) go one h f keep = absurd h
then_first w (Does u) (Leaves z) go one h f keep = absurd h
then_first w (Does u) (Ends v z) go one h f keep = absurd h
then_first w (Gives v u) x go one h f keep = absurd h
then_first w (Goes v u) x go one h f keep = absurd h
then_first w (Enters v u) x go one h f keep = absurd h
then_first w (Leaves u) x go one h f keep = absurd h

module _ (s : Setting) where
  -- the setting whose run ends at its first report
  abbrev pub first_only : Setting
  first_only = record s { limit = 1 }

  -- ---- checks

  module _ (w : World) (none : w.reports ≡ []) where
    report_first : (r : Report) → CheckedFirst w (add_report first_only r w) (add_report s r w)
    report_first r = by_test (is_hidden s r w) (leb 1 (length (w.reports ++ r ∷ []))) (leb s.limit (length (w.reports ++ r ∷ []))) (none_before s r w none) (le-leb 1 (length (w.reports ++ r ∷ [])) (omega (arith, length-append w.reports (r ∷ []))))
      where
        found : Found w (record w { reports = w.reports ++ r ∷ [] }) (record w { reports = w.reports ++ r ∷ [] })
        found = record { report = r; alone = ap (λ l. l ++ r ∷ []) none; blind = refl; leads = ([], ap (λ l. l ++ r ∷ []) none); more = omega arith }

        by_test : (h t u : Bool) → h ≡ false → t ≡ true
            → CheckedFirst w
            (if t then Ends «end».Reported (record w { reports = w.reports ++ r ∷ [] }) else Does (record w { reports = w.reports ++ r ∷ [] }))
            (if h then Does w else if u then Ends «end».Reported (record w { reports = w.reports ++ r ∷ [] }) else Does (record w { reports = w.reports ++ r ∷ [] }))
        by_test false true true f e = (refl, found)
        by_test false true false f e = (refl, found)
        by_test false false u f e = grind arith
        by_test true t u f e = absurd (true≢false f)

    check_first : (mask width origin kind part site : ℕ) → CheckedFirst w (check first_only mask width origin kind part site w) (check s mask width origin kind part site w)
    check_first mask width origin kind part site = by_test (eqb mask 0)
      where
        by_test : (t : Bool)
            → CheckedFirst w
            (if t then Does w else add_report first_only (record { site = site; kind = kind; part = part; width = width; mask = mask; origin = origin; chain = trail s w origin }) w)
            (if t then Does w else add_report s (record { site = site; kind = kind; part = part; width = width; mask = mask; origin = origin; chain = trail s w origin }) w)
        by_test true = (refl, refl)
        by_test false = report_first _

    byte_first : (kind site start : ℕ) (o : Option ℕ) → CheckedFirst w (check_byte first_only kind site start o w) (check_byte s kind site start o w)
    byte_first kind site start None = (refl, refl)
    byte_first kind site start (Some x) = check_first (w.shadow x) 8 (w.origins (x / 4)) kind (x - start) site

    if_first : (t : Bool) (e x f y : Effect) → CheckedFirst w e x → CheckedFirst w f y → CheckedFirst w (if t then e else f) (if t then x else y)
    if_first true e x f y h g = h
    if_first false e x f y h g = g

    use_first : (site : ℕ) (os : List (Ty × Operand)) (ps : List Poisoned) (u : CheckedUse) → CheckedFirst w (check_use first_only site os ps u w) (check_use s site os ps u w)
    use_first site os ps (Word kind k) = check_first (word_at k ps).mask (width_of (type_at k os)) (word_at k ps).origin kind k site
    use_first site os ps (Bytes kind a n) =
        if_first (is_good w (word_at a ps).value (word_at n ps).value) _ _ _ _ (byte_first kind site (word_at a ps).value (first_nonzero w.shadow (word_at a ps).value (word_at n ps).value)) (refl, refl)
    use_first site os ps (Line a) = byte_first 10 site (word_at a ps).value (first_in_string w (word_at a ps).value (bytes_left w (word_at a ps).value))
    use_first site os ps (Asked a) =
        if_first (asks_string_at w (word_at 0 ps).value a) _ _ _ _ (byte_first 10 site (word_at a ps).value (first_in_string w (word_at a ps).value (bytes_left w (word_at a ps).value))) (refl, refl)

    pub uses_first : (site : ℕ) (os : List (Ty × Operand)) (ps : List Poisoned) (us : List CheckedUse) → CheckedFirst w (check_uses first_only site os ps us w) (check_uses s site os ps us w)
    uses_first site os ps [] = (refl, refl)
    uses_first site os ps (u ∷ us) =
        then_first w (check_use first_only site os ps u w) (check_use s site os ps u w) (check_uses s site os ps us) (check_uses first_only site os ps us) (use_first site os ps u) (uses_first site os ps us)
        (λ z. uses_kept s site os ps us z)

  -- ---- instructions don't look at the limit

  pub read_free : (values : Name → Poisoned) → read_poisoned first_only values ≡ read_poisoned s values
  read_free values = reads_free s 1 s.once values

  module _ (m : Module) where
    pub act_same : (i : Inst) (h : Here) (ps : List Poisoned) (fr : Frame Poisoned) (below : List (Frame Poisoned)) (w : World) → shadow_act by_formulas first_only m i h ps fr below w ≡ shadow_act by_formulas s m i h ps fr below w
    act_same i h ps fr below w = acts_same s 1 s.once m i h ps fr below w

    -- the world of an outcome
    abbrev pub outcome_world : Outcome Poisoned → World
    outcome_world (On fs w) = w
    outcome_world (Over e w) = w

    -- two after_effect are one and have no report, or the first run ends
    abbrev pub MovedFirst : World → Outcome Poisoned → Outcome Poisoned → Type 0
    MovedFirst w x y = ((x ≡ y) × ((outcome_world y).reports ≡ [])) ⊎ ((u : World) × (x ≡ Over «end».Reported u) × Found w u (outcome_world y))

    pub kept_reports : (w : World) (x : Outcome Poisoned) → KeptOutcome w x → (outcome_world x).reports ≡ w.reports
    kept_reports w (On fs u) h = h.reports
    kept_reports w (Over e u) h = h.reports

    pub count_reports : (k : ℕ) (w : World) → (count_blind k w).reports ≡ w.reports
    count_reports k w = by_test (eqb k 0)
      where
        by_test : (t : Bool) → (if t then w else record w { blind = w.blind + 1 }).reports ≡ w.reports
        by_test true = refl
        by_test false = refl

    grown_found : (w u z : World) (x : Outcome Poisoned) → Found w u z → GrownOutcome z x → Found w u (outcome_world x)
    grown_found w u z (On fs v) f g = record { report = f.report; alone = f.alone; blind = f.blind; leads = g.leads (f.report ∷ []) f.leads; more = omega (arith, f.more, g.blind) }
    grown_found w u z (Over e v) f g = record { report = f.report; alone = f.alone; blind = f.blind; leads = g.leads (f.report ∷ []) f.leads; more = omega (arith, f.more, g.blind) }

    unchanged : (w : World) → Checks w w
    unchanged w = record { blind = refl; leads = λ r h. h; placed = λ h. h }

    pub by_itself : (x : Effect) → ChecksAfter (effect_world x) x
    by_itself (Gives v w) = unchanged w
    by_itself (Does w) = unchanged w
    by_itself (Goes to w) = unchanged w
    by_itself (Enters f w) = unchanged w
    by_itself (Leaves w) = unchanged w
    by_itself (Ends e w) = unchanged w

    after_first : (i : Inst) (h : Here) (ps : List Poisoned) (fr : Frame Poisoned) (below : List (Frame Poisoned)) (w : World) → w.reports ≡ [] → (e x : Effect) → CheckedFirst w e x
        → MovedFirst w (after_checks by_formulas first_only m i h ps fr below e) (after_checks by_formulas s m i h ps fr below x)
    after_first i h ps fr below w none (Does u) (Does z) c =
        let k = union (map (λ p. p.mask) (blinded s.func i.op ps)) in
        inl (
          ap (λ v. shadow_act by_formulas first_only m i h ps fr below (count_blind k v)) (c.0 ∙ sym c.1) ∙ act_same i h ps fr below (count_blind k z),
          kept_reports (count_blind k z) (shadow_act by_formulas s m i h ps fr below (count_blind k z)) (act_moves_kept s m i h ps fr below (count_blind k z)) ∙ count_reports k z ∙ ap (λ v. v.reports) c.1 ∙ none,
        )
    after_first i h ps fr below w none (Ends e u) x c =
        inr (u, ap (λ k. Over k u) c.0, grown_found w u (effect_world x) (after_checks by_formulas s m i h ps fr below x) c.1 (after_grown s m i h ps fr below (effect_world x) x (by_itself x)))
    after_first i h ps fr below w none (Does u) (Gives v z) c = absurd c
    after_first i h ps fr below w none (Does u) (Goes v z) c = absurd c
    after_first i h ps fr below w none (Does u) (Enters v z) c = absurd c
    after_first i h ps fr below w none (Does u) (Leaves z) c = absurd c
    after_first i h ps fr below w none (Does u) (Ends v z) c = absurd c
    after_first i h ps fr below w none (Gives v u) x c = absurd c
    after_first i h ps fr below w none (Goes v u) x c = absurd c
    after_first i h ps fr below w none (Enters v u) x c = absurd c
    after_first i h ps fr below w none (Leaves u) x c = absurd c

    rest_first : (is : List Inst) (fr : Frame Poisoned) (below : List (Frame Poisoned)) (w : World) → w.reports ≡ []
        → MovedFirst w (shadow_first by_formulas first_only m is fr below w) (shadow_first by_formulas s m is fr below w)
    rest_first [] fr below w none = inl (refl, none)
    rest_first (i ∷ is) fr below w none =
        subst (λ ps. MovedFirst w (after_checks by_formulas first_only m i (here s m fr) ps fr below (check_uses first_only (here s m fr).site (operands i.op) ps (uses s.func (here s m fr).main i.op) w))
        (shadow_inst by_formulas s m i fr below w))
        (sym (ap (λ read. read_all read (operands i.op) (here s m fr).root) (read_free fr.values)))
        (after_first i (here s m fr) (read_all (read_poisoned s fr.values) (operands i.op) (here s m fr).root) fr below w none _ _
        (uses_first w none (here s m fr).site (operands i.op) (read_all (read_poisoned s fr.values) (operands i.op) (here s m fr).root) (uses s.func (here s m fr).main i.op)))

    pub frames_first : (fs : List (Frame Poisoned)) (w : World) → w.reports ≡ [] → MovedFirst w (shadow_frames by_formulas first_only m fs w) (shadow_frames by_formulas s m fs w)
    frames_first [] w none = inl (refl, none)
    frames_first (fr ∷ below) w none = rest_first (rest_of m fr) fr below w none

    -- ---- runs

    -- the world that a step leads to
    abbrev pub stepped_world : Stepped ShadowState → World
    stepped_world (More c) = c.world
    stepped_world (Stop e w) = w

    pub grown_leads : (l : List Report) (w : World) (x : Outcome Poisoned) → GrownOutcome w x → StartsWith l w → StartsWith l (stepped_world (shadow_moved x))
    grown_leads l w (On fs u) g h = g.leads l h
    grown_leads l w (Over e u) g h = g.leads l h

    pub run_leads : (l : List Report) (n : ℕ) (x : Stepped ShadowState) → StartsWith l (stepped_world x) → (rest : List Report) × ((go_on (run (λ c. c.world) (shadow_step by_formulas s m) n) x).reports ≡ l ++ rest)
    run_leads l n (Stop e w) h = h
    run_leads l zero (More c) h = h
    run_leads l (suc n) (More c) h = run_leads l n (shadow_step by_formulas s m c) (grown_leads l c.world (shadow_frames by_formulas s m c.frames c.world) (frames_grown s m c.frames c.world) h)

    run_from : (n : ℕ) (w u : World) (x : Outcome Poisoned) → Found w u (outcome_world x) → FirstOf (result «end».Reported u) (go_on (run (λ c. c.world) (shadow_step by_formulas s m) n) (shadow_moved x))
    run_from n w u (On fs z) f = inr (record {
      report = f.report;
      rest = (run_leads (f.report ∷ []) n (More (record { frames = fs; world = z })) f.leads).0;
      one = f.alone;
      more = (run_leads (f.report ∷ []) n (More (record { frames = fs; world = z })) f.leads).1;
      blind = omega (arith, f.blind, f.more, run_blind s m n (More (record { frames = fs; world = z })));
      ends = refl;
    })
    run_from n w u (Over e z) f = inr (record { report = f.report; rest = f.leads.0; one = f.alone; more = f.leads.1; blind = omega (arith, f.blind, f.more); ends = refl })

    pub runs_first : (n : ℕ) (c : ShadowState) → c.world.reports ≡ []
        → FirstOf (run (λ c. c.world) (shadow_step by_formulas first_only m) n c) (run (λ c. c.world) (shadow_step by_formulas s m) n c)
    runs_first zero c none = inl (refl, none)
    runs_first (suc n) c none = after (shadow_frames by_formulas first_only m c.frames c.world) (shadow_frames by_formulas s m c.frames c.world) (frames_first c.frames c.world none) (λ d e. runs_first n d e)
      where
        same : (y : Outcome Poisoned) → (outcome_world y).reports ≡ []
            → ((d : ShadowState) → d.world.reports ≡ [] → FirstOf (run (λ c. c.world) (shadow_step by_formulas first_only m) n d) (run (λ c. c.world) (shadow_step by_formulas s m) n d))
            → FirstOf (go_on (run (λ c. c.world) (shadow_step by_formulas first_only m) n) (shadow_moved y)) (go_on (run (λ c. c.world) (shadow_step by_formulas s m) n) (shadow_moved y))
        same (On fs z) e rest = rest (record { frames = fs; world = z }) e
        same (Over e z) f rest = inl (refl, f)

        after : (x y : Outcome Poisoned) → MovedFirst c.world x y
            → ((d : ShadowState) → d.world.reports ≡ [] → FirstOf (run (λ c. c.world) (shadow_step by_formulas first_only m) n d) (run (λ c. c.world) (shadow_step by_formulas s m) n d))
            → FirstOf (go_on (run (λ c. c.world) (shadow_step by_formulas first_only m) n) (shadow_moved x)) (go_on (run (λ c. c.world) (shadow_step by_formulas s m) n) (shadow_moved y))
        after x y (inl h) rest =
            subst (λ k. FirstOf (go_on (run (λ c. c.world) (shadow_step by_formulas first_only m) n) (shadow_moved k)) (go_on (run (λ c. c.world) (shadow_step by_formulas s m) n) (shadow_moved y))) (sym h.0) (same y h.1 rest)
        after x y (inr h) rest =
            subst (λ k. FirstOf (go_on (run (λ c. c.world) (shadow_step by_formulas first_only m) n) (shadow_moved k)) (go_on (run (λ c. c.world) (shadow_step by_formulas s m) n) (shadow_moved y))) (sym h.1) (run_from n c.world h.0 y h.2)
