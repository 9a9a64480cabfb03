-- Over a way each place keeps its poisoned bits until it is read.
use Rattle.std.proofs.Common.{◌≡◌, ◌≢◌, ℕ, zero, suc, ◌+◌, ◌-◌, ◌<◌, ◌≤◌, List, [], ◌∷◌, ◌++◌, length, reverse, Bool, true, false, eqb, Option, Some, None, slice_get, refl, sym, ap, ◌∙◌, subst, arith, ◌⊎◌, inl, inr}
use Rattle.std.proofs.lemmas.Bool.{eqb-true, eqb-false}
use Rattle.std.proofs.lemmas.Option.{same_Some, none-some}
use Rattle.std.specs.Prelude.{option_and_then}
use Rattle.ms_ir.specs.declared.syntax.Name.{Name}
use Rattle.ms_ir.specs.declared.syntax.Module.{Module}
use Rattle.ms_ir.specs.ThreadCalls.{is_threaded}
use Rattle.ms_runs.specs.declared.runs.End.{End}
use Rattle.ms_runs.specs.declared.runs.End.TheVariants as «end»
use Rattle.ms_runs.specs.declared.runs.Setup.{Setup}
use Rattle.ms_runs.specs.World.{World, Setting}
use Rattle.ms_runs.specs.Control.{Frame, Outcome, On, Over}
use Rattle.ms_runs.specs.Plain.{Stepped, More, Stop, setting_of}
use Rattle.ms_runs.specs.Poisoned.{Poisoned}
use Rattle.ms_runs.specs.Masks.{by_completions, by_formulas}
use Rattle.ms_runs.specs.Shadow.{ShadowState, shadow_moved, shadow_frames, shadow_step}
use Rattle.ms_runs_laws.proofs.ExactRules.{formulas_exact}
use Rattle.ms_runs_laws.proofs.SameRuns.{same_step}
use Rattle.ms_runs_laws.proofs.UnreportedEnds.{is_reported}
use Rattle.ms_runs_good_laws.specs.Fills.{to_first_report}
use Rattle.ms_trail_moves.specs.declared.moves.Source.{Source}
use Rattle.ms_trail_moves.specs.declared.moves.Source.TheVariants.{Root, Value, Byte}
use Rattle.ms_trail_moves.specs.declared.moves.Move.{Move}
use Rattle.ms_trail_moves.specs.declared.moves.Hop.{Hop}
use Rattle.ms_trail_moves.specs.Leads.{reached, came_from, IsBefore, IsLast, LeadsBack, Leads}
use Rattle.ms_trail_moves.specs.Scanned.{Ascending}
use Rattle.ms_trail_moves.specs.Events.{renumbered, event_moves}
use Rattle.ms_trail_moves.specs.Moving.{IsPoisonedIn, IsPoisoned, Writes}
use Rattle.ms_trail_moves.specs.Traces.{Traced, traced_start, traced_on, use_of, NoReport, Found, ended, stepped, trace_from, trace}
use Rattle.ms_trail_moves.proofs.Chains.{no_root}
use Rattle.ms_trail_laws.specs.Complete.{HasMask, HasBits}
use Rattle.ms_trail_laws.specs.Staying.{IsRootOrPoisoned, followed_on, followed, StaysPoisoned, ReadsToReport}
use Rattle.ms_trail_laws.proofs.EndsAtUse.{ReadMoved}
use Rattle.ms_trail_laws.proofs.Whole.{K, use_read, ordered}
use Rattle.ms_trail_laws.proofs.AllMoves.{step_moves}

-- ---- lists of moves

before_or_new : (old new : List Move) (j : ℕ) (move : Move) → slice_get (old ++ new) j ≡ Some move → (slice_get old j ≡ Some move) ⊎ ((i : ℕ) × (slice_get new i ≡ Some move))
before_or_new [] new j move e = inr (j, e)
before_or_new (x ∷ old) new zero move e = inl e
before_or_new (x ∷ old) new (suc j) move e = before_or_new old new j move e

left_of : (old new : List Move) (j : ℕ) (move : Move) → slice_get old j ≡ Some move → slice_get (old ++ new) j ≡ Some move
left_of [] new j move e = absurd (none-some move e)
left_of (x ∷ old) new zero move e = e
left_of (x ∷ old) new (suc j) move e = left_of old new j move e

right_of : (old new : List Move) (j : ℕ) (move : Move) → slice_get new j ≡ Some move → (i : ℕ) × (slice_get (old ++ new) i ≡ Some move)
right_of [] new j move e = (j, e)
right_of (x ∷ old) new j move e = let r = right_of old new j move e in (suc r.0, r.1)

-- ---- poisoned places have bits

bits_of : (ns : List ℕ) (fs : List (Frame Poisoned)) (f : ℕ) (x : Name) → IsPoisonedIn ns fs f x → (bits : ℕ) × (bits ≢ 0) × HasMask bits ns fs f x
bits_of (n ∷ ns) (fr ∷ fs) f x (inl h) = ((fr.values x).mask, h.1, inl (h.0, refl))
bits_of (n ∷ ns) (fr ∷ fs) f x (inr h) = let r = bits_of ns fs f x h in (r.0, r.1, inr r.2)
bits_of (n ∷ ns) [] f x h = absurd h
bits_of [] fs f x h = absurd h

-- a place that a move writes is no root, so where it is poisoned it has bits
place_bits : (ns : List ℕ) (c : ShadowState) (move : Move) (byte : ℕ) (place : Source) → reached move.to byte ≡ Some place → IsRootOrPoisoned ns c place → (bits : ℕ) × (bits ≢ 0) × HasBits bits ns c place
place_bits ns c move byte (Root n) e h = absurd (no_root move.to byte n e)
place_bits ns c move byte (Value f x) e h = bits_of ns c.frames f x h
place_bits ns c move byte (Byte a) e h = (c.world.shadow a, h, refl)

-- any root is one
any_root : (kind : ℕ → Type 0) (ns : List ℕ) (c : ShadowState) (place : Source) → IsPoisoned kind ns c place → IsRootOrPoisoned ns c place
any_root kind ns c (Root n) h = tt
any_root kind ns c (Value f x) h = h
any_root kind ns c (Byte a) h = h

-- ---- a run with its moves

module _ (m : Module) (calm : is_threaded m ≡ false) (setup : Setup) where
  abbrev s : Setting
  s = setting_of m setup

  abbrev step_of : ShadowState → Stepped ShadowState
  step_of = shadow_step by_completions s m

  -- a move of a step writes to a place
  abbrev WritesAt : List Move → (event : ℕ) → Source → Type 0
  WritesAt moves event place = (index byte : ℕ) × (move : Move) × (slice_get moves index ≡ Some move) × (move.event ≡ event) × (reached move.to byte ≡ Some place)

  pub record Holds (n : ℕ) (t : Traced) : Type 0 where
    pub came : followed m setup n ≡ Some t
    pub events : t.events ≡ n
    pub deep : length t.numbers.standing ≡ length t.state.frames
    pub reads : (index byte : ℕ) (move : Move) (place : Source) → slice_get t.moves index ≡ Some move → reached move.to byte ≡ Some place
        → (move.event < n) × ((u : Traced) → followed m setup move.event ≡ Some u → IsRootOrPoisoned u.numbers.standing u.state (came_from move.from move.to byte))
    pub keeps : (k : ℕ) (u v : Traced) → k < n → followed m setup k ≡ Some u → followed m setup (suc k) ≡ Some v → (place : Source) (bits : ℕ) → bits ≢ 0 → HasBits bits v.numbers.standing v.state place
        → HasBits bits u.numbers.standing u.state place ⊎ WritesAt t.moves k place

  holds_start : Holds 0 (traced_start m setup)
  holds_start = record {
    came = refl;
    events = refl;
    deep = refl;
    reads = λ index byte move place e r. absurd (none-some move e);
    keeps = λ k u v l e f place bits some has. absurd (omega (arith, l));
  }

  next_of : (n : ℕ) (t : Traced) → followed m setup n ≡ Some t → followed m setup (suc n) ≡ followed_on m setup t (step_of t.state)
  next_of n t e = ap (option_and_then (λ u. followed_on m setup u (step_of u.state))) e

  holds_on : (n : ℕ) (t : Traced) → Holds n t → (c : ShadowState) → step_of t.state ≡ More c → Holds (suc n) (traced_on s m t c)
  holds_on n t h c e =
      let a = step_moves s m refl calm t.events t.numbers t.state c h.deep e in
      record { came = next_of n t h.came ∙ ap (followed_on m setup t) e; events = omega (arith, h.events); deep = a.deep; reads = reads; keeps = keeps }
    where
      new : List Move
      new = event_moves s m t.events t.numbers (renumbered (length c.frames) t.numbers) t.state c

      by_place : (index byte : ℕ) (move : Move) (place : Source) → (slice_get t.moves index ≡ Some move) ⊎ ((i : ℕ) × (slice_get new i ≡ Some move)) → reached move.to byte ≡ Some place
          → (move.event < suc n) × ((u : Traced) → followed m setup move.event ≡ Some u → IsRootOrPoisoned u.numbers.standing u.state (came_from move.from move.to byte))
      by_place index byte move place (inl g) r = let old = h.reads index byte move place g r in (omega (arith, old.0), old.1)
      by_place index byte move place (inr g) r =
          let a = (step_moves s m refl calm t.events t.numbers t.state c h.deep e).reads g.0 byte move place g.1 r in (
            omega (arith, a.0, h.events),
            λ u f.
                let same : t ≡ u = same_Some t u (sym h.came ∙ ap (followed m setup) (sym (a.0 ∙ h.events)) ∙ f) in
                subst (λ z. IsRootOrPoisoned z.numbers.standing z.state (came_from move.from move.to byte)) same a.1,
          )

      reads : (index byte : ℕ) (move : Move) (place : Source) → slice_get (t.moves ++ new) index ≡ Some move → reached move.to byte ≡ Some place
          → (move.event < suc n) × ((u : Traced) → followed m setup move.event ≡ Some u → IsRootOrPoisoned u.numbers.standing u.state (came_from move.from move.to byte))
      reads index byte move place g r = by_place index byte move place (before_or_new t.moves new index move g) r

      earlier : (k : ℕ) (u v : Traced) → (k < n) ⊎ (k ≡ n) → followed m setup k ≡ Some u → followed m setup (suc k) ≡ Some v → (place : Source) (bits : ℕ) → bits ≢ 0 → HasBits bits v.numbers.standing v.state place
          → HasBits bits u.numbers.standing u.state place ⊎ WritesAt (t.moves ++ new) k place
      earlier k u v (inl l) f g place bits some has = on (h.keeps k u v l f g place bits some has)
        where
          on : HasBits bits u.numbers.standing u.state place ⊎ WritesAt t.moves k place → HasBits bits u.numbers.standing u.state place ⊎ WritesAt (t.moves ++ new) k place
          on (inl x) = inl x
          on (inr (index, byte, move, stands, is, reaches)) = inr (index, byte, move, left_of t.moves new index move stands, is, reaches)
      earlier k u v (inr l) f g place bits some has =
          let same : t ≡ u = same_Some t u (sym h.came ∙ ap (followed m setup) (sym l) ∙ f) in
          let next : traced_on s m t c ≡ v = same_Some (traced_on s m t c) v (sym (ap (followed_on m setup t) e) ∙ sym (next_of n t h.came) ∙ ap (λ j. followed m setup (suc j)) (sym l) ∙ g) in
          subst (λ z. HasBits bits z.numbers.standing z.state place ⊎ WritesAt (t.moves ++ new) k place) same
          (on ((step_moves s m refl calm t.events t.numbers t.state c h.deep e).complete place bits some (subst (λ z. HasBits bits z.numbers.standing z.state place) (sym next) has)))
        where
          on : HasBits bits t.numbers.standing t.state place ⊎ Writes new place → HasBits bits t.numbers.standing t.state place ⊎ WritesAt (t.moves ++ new) k place
          on (inl x) = inl x
          on (inr w) =
              let at = right_of t.moves new w.index w.move w.stands in
              let is = ((step_moves s m refl calm t.events t.numbers t.state c h.deep e).reads w.index w.byte w.move place w.stands w.reaches).0 in
              inr (at.0, w.byte, w.move, at.1, is ∙ h.events ∙ sym l, w.reaches)

      either : (k : ℕ) → k < suc n → (t : Bool) → eqb k n ≡ t → (k < n) ⊎ (k ≡ n)
      either k l true e = inr (eqb-true k n e)
      either k l false e = inl (omega (arith, l, eqb-false k n e))

      keeps : (k : ℕ) (u v : Traced) → k < suc n → followed m setup k ≡ Some u → followed m setup (suc k) ≡ Some v → (place : Source) (bits : ℕ) → bits ≢ 0 → HasBits bits v.numbers.standing v.state place
          → HasBits bits u.numbers.standing u.state place ⊎ WritesAt (t.moves ++ new) k place
      keeps k u v l f g place bits some has = earlier k u v (either k l (eqb k n) refl) f g place bits some has

  -- ---- back from where a place is read

  module _ (steps : ℕ) (run : Traced) (all : Holds steps run) (in_order : Ascending run.moves) where
    -- a run that took so many steps took fewer
    came_before : (k : ℕ) (t : Traced) → followed m setup k ≡ Some t → (i n : ℕ) → n + i ≡ k → (u : Traced) × (followed m setup n ≡ Some u)
    came_before k t e zero n f =
        let z : n ≡ k = omega (arith, f) in (t, ap (followed m setup) z ∙ e)
    came_before k t e (suc i) n f = let after = came_before k t e i (suc n) (omega (arith, f)) in by_last after.0 (followed m setup n) after.1
      where
        by_last : (v : Traced) (x : Option Traced) → option_and_then (λ u. followed_on m setup u (step_of u.state)) x ≡ Some v → (u : Traced) × (x ≡ Some u)
        by_last v None g = absurd (none-some v g)
        by_last v (Some u) g = (u, refl)

    -- as long as no move counts that was made in between, the place has the same bits
    kept_back : (before : Option ℕ) (read : ℕ) → read ≤ steps → ((move : Move) → move.event < read → IsBefore before move) → (place : Source) (hop : Hop) (move : Move) → IsLast run.moves before place hop move
        → (bits : ℕ) → bits ≢ 0 → ((u : Traced) → followed m setup read ≡ Some u → HasBits bits u.numbers.standing u.state place)
        → (i n : ℕ) → n + i ≡ read → move.event < n → (t : Traced) → followed m setup n ≡ Some t → HasBits bits t.numbers.standing t.state place
    kept_back before read within counts place hop move last bits some has zero n e l t f =
        let z : n ≡ read = omega (arith, e) in has t (ap (followed m setup) (sym z) ∙ f)
    kept_back before read within counts place hop move last bits some has (suc i) n e l t f =
        let u = came_before steps run all.came (steps - suc n) (suc n) (omega (arith, e, within)) in
        on (all.keeps n t u.0 (omega (arith, e, within)) f u.1 place bits some (kept_back before read within counts place hop move last bits some has i (suc n) (omega (arith, e)) (omega (arith, l)) u.0 u.1))
      where
        on : HasBits bits t.numbers.standing t.state place ⊎ WritesAt run.moves n place → HasBits bits t.numbers.standing t.state place
        on (inl x) = x
        on (inr (index, byte, other, stands, is, reaches)) =
            let later = last.last index byte other stands (counts other (omega (arith, is, e))) reaches in
            absurd (omega (arith, is, l, in_order index hop.index other move later stands last.stands))

    stays_back : (hops : List Hop) (before : Option ℕ) (read : ℕ) → read ≤ steps → ((move : Move) → move.event < read → IsBefore before move) → ((move : Move) → move.event < steps → IsBefore before move → move.event < read)
        → (place : Source) → LeadsBack (λ n. Unit {0}) run.moves before place hops → (t : Traced) → followed m setup read ≡ Some t → IsRootOrPoisoned t.numbers.standing t.state place
        → StaysPoisoned m setup run.moves read place hops
    stays_back [] before read within counts earlier place h t e poisoned = tt
    stays_back (hop ∷ rest) before read within counts earlier place h t e poisoned =
        let bits = place_bits t.numbers.standing t.state h.0 hop.byte place h.1.reaches poisoned in
        let reads = all.reads hop.index hop.byte h.0 place h.1.stands h.1.reaches in
        let there = came_before steps run all.came (steps - h.0.event) h.0.event (omega (arith, reads.0)) in (
          h.0,
          h.1.stands,
          h.1.reaches,
          earlier h.0 reads.0 h.1.counts,
          bits.0,
          bits.1,
          (λ n u l g f.
              kept_back before read within counts place hop h.0 h.1 bits.0 bits.1 (λ v is. subst (λ z. HasBits bits.0 z.numbers.standing z.state place) (same_Some t v (sym e ∙ is)) bits.2) (read - n) n (omega (arith, g)) l u f),
          stays_back rest (Some h.0.event) h.0.event (omega (arith, reads.0)) (λ move l. l) (λ move l b. b) (came_from h.0.from h.0.to hop.byte) h.2 there.0 there.1 (reads.1 there.0 there.1),
        )

  -- ---- up to the report

  -- a run that comes to a report, with its moves and what its use reads
  pub record Reaches (moves : List Move) (at : Source) : Type 0 where
    pub steps : ℕ
    pub left : steps < setup.steps
    pub run : Traced
    pub holds : Holds steps run
    pub world : World
    pub ends : shadow_step by_completions s m run.state ≡ Stop «end».Reported world
    pub all : run.moves ≡ moves
    pub reads_at : use_of s m run.numbers run.state ≡ at

  none_found : (moves : List Move) (at : Source) → NoReport ≡ Found moves at → ⊥
  none_found moves at e = grind arith

  found_same : (ms ns : List Move) (at to : Source) → Found ms at ≡ Found ns to → (ms ≡ ns) × (at ≡ to)
  found_same ms ns at to e = (cc, cc)

  reaches_from : (n k : ℕ) (t : Traced) → Holds k t → k + n ≡ setup.steps → (moves : List Move) (at : Source) → trace_from by_completions s m n t ≡ Found moves at → Reaches moves at
  reaches_from zero k t h left moves at e = absurd (none_found moves at e)
  reaches_from (suc n) k t h left moves at e =
      by_step (shadow_step by_completions s m t.state) refl e (λ c f g. reaches_from n (suc k) (traced_on s m t c) (holds_on k t h c f) (omega (arith, left)) moves at g)
    where
      by_end : (x : End) (w : World) → shadow_step by_completions s m t.state ≡ Stop x w → ended x (Found t.moves (use_of s m t.numbers t.state)) ≡ Found moves at → Reaches moves at
      by_end «end».Reported w f g =
          let same = found_same t.moves moves (use_of s m t.numbers t.state) at g in
          record { steps = k; left = omega (arith, left); run = t; holds = h; world = w; ends = f; all = same.0; reads_at = same.1 }
      by_end («end».Exit v) w f g = absurd (none_found moves at g)
      by_end («end».Trap kind v) w f g = absurd (none_found moves at g)
      by_end «end».Spent w f g = absurd (none_found moves at g)

      by_step : (x : Stepped ShadowState) → shadow_step by_completions s m t.state ≡ x → stepped x (λ c. trace_from by_completions s m n (traced_on s m t c)) (Found t.moves (use_of s m t.numbers t.state)) ≡ Found moves at
          → ((c : ShadowState) → shadow_step by_completions s m t.state ≡ More c → trace_from by_completions s m n (traced_on s m t c) ≡ Found moves at → Reaches moves at) → Reaches moves at
      by_step (More c) f g go = go c f g
      by_step (Stop x w) f g go = by_end x w f g

  -- what the report's use reads is poisoned
  use_poisoned : s.limit ≡ 1 → (t : Traced) → length t.numbers.standing ≡ length t.state.frames → (w : World) → shadow_step by_completions s m t.state ≡ Stop «end».Reported w
      → IsRootOrPoisoned t.numbers.standing t.state (use_of s m t.numbers t.state)
  use_poisoned one t deep w stops =
      any_root (K m calm setup one t.state []) t.numbers.standing t.state (use_of s m t.numbers t.state)
      (by_moved (shadow_frames by_formulas s m t.state.frames t.state.world) (use_read m calm setup one t.state.frames t.state.world t.numbers.standing t.numbers.made [] deep) (sym (same_step formulas_exact s m t.state) ∙ stops))
    where
      stop_same : (e x : End) (v u : World) → ◌≡◌ {A = Stepped ShadowState} (Stop e v) (Stop x u) → e ≡ x
      stop_same e x v u h = cc

      more_stop : (c : ShadowState) (e : End) (v : World) → ◌≡◌ {A = Stepped ShadowState} (More c) (Stop e v) → ⊥
      more_stop c e v h = grind arith

      by_moved : (x : Outcome Poisoned) → ReadMoved (IsPoisoned (K m calm setup one t.state []) t.numbers.standing t.state (use_of s m t.numbers t.state)) x → shadow_moved x ≡ Stop «end».Reported w
          → IsPoisoned (K m calm setup one t.state []) t.numbers.standing t.state (use_of s m t.numbers t.state)
      by_moved (On fs v) h f = absurd (more_stop _ «end».Reported w f)
      by_moved (Over x v) h f = h (ap is_reported (stop_same x «end».Reported v w f))

  read_back : s.limit ≡ 1 → (moves : List Move) (at : Source) → Ascending moves → Reaches moves at → (hops : List Hop) → Leads moves at hops → ReadsToReport m setup moves at hops
  read_back one moves at in_order r hops leads =
      let poisoned = subst (IsRootOrPoisoned r.run.numbers.standing r.run.state) r.reads_at (use_poisoned one r.run r.holds.deep r.world r.ends) in
      record {
        steps = r.steps;
        left = r.left;
        run = r.run;
        came = r.holds.came;
        world = r.world;
        ends = r.ends;
        all = r.all;
        reads_at = r.reads_at;
        poisoned = poisoned;
        stays = subst (λ ms. StaysPoisoned m setup ms r.steps at (reverse hops)) r.all
            (stays_back r.steps r.run r.holds (subst Ascending (sym r.all) in_order) (reverse hops) None r.steps (omega arith) (λ move l. tt) (λ move l b. l) at
            (subst (λ ms. LeadsBack (λ n. Unit {0}) ms None at (reverse hops)) (sym r.all) leads) r.run r.holds.came poisoned);
      }

pub read_to_report : (m : Module) → is_threaded m ≡ false → (setup : Setup) (moves : List Move) (at : Source) → trace m setup ≡ Found moves at → (hops : List Hop) → Leads moves at hops
    → ReadsToReport m (to_first_report setup) moves at hops
read_to_report m calm setup moves at e hops leads =
    read_back m calm (to_first_report setup) refl moves at (ordered m calm setup moves at e)
    (reaches_from m calm (to_first_report setup) setup.steps 0 (traced_start m (to_first_report setup)) (holds_start m calm (to_first_report setup)) (omega arith) moves at e) hops leads
