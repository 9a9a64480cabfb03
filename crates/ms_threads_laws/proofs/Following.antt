-- The steps of one fiber in the shadow run of a module and in the run of its instrumented form, where some invariants of the
-- shadow run are kept.
use Rattle.std.proofs.Common.{◌≡◌, Bool, true, false, Option, Some, ℕ, ◌≤◌, List, [], ◌∷◌, length, refl, sym, ap, ◌∙◌, subst, arith}
use Rattle.std.specs.Prelude.{if◌then◌else◌, eqb, map, get_or, ◌^◌, ◌<◌, unwrap_or}
use Rattle.std.proofs.Math.Path.{ap₂}
use Rattle.std.proofs.lemmas.Bool.{eqb-true}
use Rattle.ms_ir.specs.declared.syntax.Name.{Name}
use Rattle.ms_ir.specs.declared.syntax.Ty.{Ty, Ptr}
use Rattle.ms_ir.specs.declared.syntax.Operand.{Operand}
use Rattle.ms_ir.specs.declared.syntax.Operand.TheVariants as operand
use Rattle.ms_ir.specs.declared.syntax.Op.{Op}
use Rattle.ms_ir.specs.declared.syntax.Op.TheVariants as op
use Rattle.ms_ir.specs.declared.syntax.Inst.{Inst}
use Rattle.ms_ir.specs.declared.syntax.Module.{Module}
use Rattle.ms_ir.specs.Names.{name_eq, main_name}
use Rattle.ms_ir.specs.Instructions.{operands, func_index}
use Rattle.ms_runs.specs.declared.runs.End.{End}
use Rattle.ms_runs.specs.declared.runs.End.TheVariants as «end»
use Rattle.ms_runs.specs.World.{World, Thread, Setting, Here, Gives, Does, Leaves, Ends as Over, word, result}
use Rattle.ms_runs.specs.Control.{Frame, here, rest_of, bind, entered, given_back, params_at}
use Rattle.ms_runs.specs.Act.{plain_reading}
use Rattle.ms_runs.specs.Plain.{PlainState, Stepped, More, Stop, plain_step, setting_of, start_world, start_frame}
use Rattle.ms_runs.specs.Poisoned.{Poisoned, clean}
use Rattle.ms_runs.specs.Masks.{by_formulas}
use Rattle.ms_runs.specs.Uses.{Word, uses, check_uses}
use Rattle.ms_runs.specs.Threads.{thread_at, changed_thread, set_at, with_answer, first_clean}
use Rattle.ms_runs.specs.Shadow.{ShadowState, read_poisoned, shadow_reading, shadow_moved, shadow_act, poisoned_result, shadow_step}
use Rattle.ms_runs.proofs.HeapBlocks.{gives_same}
use Rattle.ms_runs.specs.declared.runs.Setup.{Setup}
use Rattle.ms_pass_tasks.specs.Known.{ArgsFit, AllApart}
use Rattle.ms_pass_tasks.specs.Match.{RangedWorld}
use Rattle.ms_pass_tasks.specs.InstructionLaw.{words_at, checked_at, counted_at, acted_at}
use Rattle.ms_pass_tasks.proofs.OriginRanges.{words_ranged}
use Rattle.ms_pass_laws.specs.Pass.{Numbering, pass}
use Rattle.ms_pass_laws.specs.Law.{FollowsBy, Steps, CleanFrames, RangedFrames, Ranged}
use Rattle.ms_pass_laws.specs.Known.{KnownModule, ApartFrames}
use Rattle.ms_pass_laws.proofs.Marked.{read_words}
use Rattle.ms_pass_laws.proofs.Step.{step_law, unmarked_of}
use Rattle.ms_pass_laws.proofs.RangedKept.{checks_ranged, ranged_kept, undefs_fit, performed_ranged, given_back_ranged}
use Rattle.ms_pass_laws.proofs.Whole.{starts}
use Rattle.ms_threads_laws.specs.Due.{DueBoth, Reaching, Reported, Tried, Both, argument_word}
use Rattle.ms_threads_laws.proofs.Reaching.{top_due}
use Rattle.ms_threads_laws.proofs.Returning.{returns_both, kept_same}
use Rattle.ms_threads_laws.proofs.Beginning.{begins_both}
use Rattle.ms_threads_laws.proofs.Performing.{performs_both}
use Rattle.ms_runs_threads.specs.Fibers.{Own, Asks, Returns, Going, Meaning, turned, ended}
use Rattle.ms_runs_threads.specs.Alike.{SteppedAlike, count_of, Relation, GoBoth, AtBoth, EndBoth, EarlyGoing, Laws, LateLaws, Counts, of_going}
use Rattle.ms_runs_threads.specs.PlainFibers.{Shared, state_of, plain_going, plain_fiber, plain_answer, through_marked, due_inst, due_at, frames_due, frames_left, inst_joins, words_due, plain_threads}
use Rattle.ms_runs_threads.specs.ShadowFibers.{shadow_state, shadow_going, shadow_fiber, checked, reach_first, perform_first, shadow_perform, shadow_answer, shadow_threads_by}
use Rattle.ms_threads_laws.proofs.ThreadCalls.{ThreadCall, ReturnsAlone, asks_call, returns_alone, call_outside, counts_none, hands_none, saves_none, never_goes_on, no_phi, call_clean}
use Rattle.ms_threads_laws.proofs.DueSame.{due_head, due_first, due_same, turn_same, threads_same}
use Rattle.ms_threads_laws.proofs.FollowedRuns.{Followed, followed_runs, followed_calls}
use Rattle.ms_runs.specs.declared.runs.RunResult.{RunResult}
use Rattle.ms_runs.specs.Calls.{call_sites}
use Rattle.ms_runs_threads.specs.Calls.{plain_threads_calls, shadow_threads_calls_by}
use Rattle.ms_runs_threads.proofs.CallsAlike.{SaysSame}
use Rattle.ms_pass_laws.proofs.SameCalls.{lower_sites, frames_sites, frames_reports, frames_blind}
use Rattle.ms_runs_threads.specs.Blind.{plain_threads_blind, shadow_threads_blind_by, plain_threads_end_calls, shadow_threads_end_calls_by}
use Rattle.ms_runs_threads.proofs.BlindAlike.{SaysBlind}
use Rattle.ms_threads_laws.proofs.FollowedBlind.{followed_blind, followed_end}

module _ (s : Setting) (numbers : ℕ → Numbering) (m : Module) (known : KnownModule s numbers m) where
  abbrev form : Module
  form = pass numbers m

  abbrev left : Meaning (List (Frame Poisoned)) World
  left = shadow_fiber by_formulas s m

  abbrev right : Meaning (List (Frame ℕ)) Shared
  right = plain_fiber s (pass numbers m)

  -- what is kept in the shadow run, of the frames of each fiber and of the world: what is due doesn't use its own result, known
  -- clean values have the mask 0, a fiber's function has one parameter and returns a pointer
  pub record Kept : Type 1 where
    pub Of : List (Frame Poisoned) → Type 0
    pub In : World → Type 0
    pub apart : (f : List (Frame Poisoned)) → Of f → ApartFrames m f
    pub step : (f : List (Frame Poisoned)) (w : World) → Of f → In w → frames_due s m f ≡ Own → (c : ShadowState) → shadow_step by_formulas s m (shadow_state f w) ≡ More c
        → Of c.frames × In c.world × CleanFrames s numbers m c.frames
    pub perform : (f : Frame Poisoned) (fs : List (Frame Poisoned)) (w : World) (i : Inst) (is : List Inst) → rest_of m f ≡ i ∷ is → ThreadCall s.func i.op → Of (f ∷ fs) → In w
        → (c : ShadowState) → shadow_moved (shadow_act by_formulas s m i (here s m f) (words_at s f.values (here s m f) i) f fs w) ≡ More c
        → Of c.frames × In c.world × CleanFrames s numbers m c.frames
    pub checks : (f : Frame Poisoned) (i : Inst) (w u : World) → In w → checked_at s f.values (here s m f) i w ≡ Does u → In u
    pub begun : (w : World) → In w → (k : ℕ) (x : Thread) → thread_at k w.threads ≡ Some x
        → Of (entered shadow_reading m x.func (argument_word x.argument ∷ []) (turned k w) ∷ []) × ArgsFit (params_at m x.func) ((Ptr, operand.Int x.argument) ∷ [])
    pub turned_too : (w : World) → In w → (k : ℕ) → In (turned k w)
    pub ended_too : (f : List (Frame Poisoned)) (w : World) → Of f → In w → In (with_answer (shadow_answer s m f w) (frames_left f w))
    pub returned : (f : Frame Poisoned) (i : Inst) (is : List Inst) (v : Option (Ty × Operand)) → Of (f ∷ []) → rest_of m f ≡ i ∷ is → (here s m f).main ≡ false → i.op ≡ op.Ret v
        → (a : Operand) × (v ≡ Some (Ptr, a))

  module _ (kept : Kept) where
    -- two that stand at one thread call
    pub record Standing (f : Frame Poisoned) (fs : List (Frame Poisoned)) (g : Frame ℕ) (gs : List (Frame ℕ)) : Type 0 where
      pub cells : ℕ → ℕ
      pub inst : Inst
      pub after : List Inst
      pub next : ℕ
      pub due : DueBoth s numbers m f fs g gs cells inst after next
      pub call : ThreadCall s.func inst.op

    abbrev pub StandBoth : List (Frame Poisoned) → List (Frame ℕ) → Type 0
    StandBoth (f ∷ fs) (g ∷ gs) = Standing f fs g gs
    StandBoth [] g = ⊥
    StandBoth (f ∷ fs) [] = ⊥

    abbrev pub relation : Relation (shadow_fiber by_formulas s m) (plain_fiber s (pass numbers m))
    relation = record {
      Go = λ f w g t. FollowsBy s numbers m f w g t.slots t.world × RangedFrames f × RangedWorld w × kept.Of f × kept.In w;
      At = λ f g. StandBoth f g × RangedFrames f × kept.Of f;
      Shared = λ w t. (t.world ≡ w) × RangedWorld w × kept.In w;
      Ends = λ e w x v. result x v ≡ result e w;
      Early = λ e w v. ⊥;
      count = λ w. 0;
    }

    -- ---- steps

    -- a step of both, where the states after it are as is kept
    stepped : (x : Stepped ShadowState) (y : Stepped PlainState) → Steps s numbers m x y
        → ((c : ShadowState) → x ≡ More c → Ranged c × kept.Of c.frames × kept.In c.world)
        → SteppedAlike (GoBoth left right relation) relation.Ends (EarlyGoing left right relation) (shadow_going x) (plain_going y)
    stepped (More c) (More d) h k = let q = k c refl in (h, q.0.frames, q.0.world, q.1, q.2)
    stepped (Stop e w) (Stop x v) h k = ap₂ result h.0 h.1
    stepped (More c) (Stop x v) h k = absurd h
    stepped (Stop e w) (More d) h k = absurd h

    step_alike : (f : List (Frame Poisoned)) (w : World) (g : List (Frame ℕ)) (t : Shared) → relation.Go f w g t → left.due f ≡ Own
        → SteppedAlike (GoBoth left right relation) relation.Ends (EarlyGoing left right relation) (left.step f w) (right.step g t)
    step_alike f w g t h own =
        let r : Ranged (shadow_state f w) = record { frames = h.1; world = h.2 } in
        stepped (shadow_step by_formulas s m (shadow_state f w)) (plain_step s (pass numbers m) (state_of g t))
        (step_law s numbers m known (shadow_state f w) (state_of g t) h.0 r (kept.apart f h.3) (record { masks = λ c e. (kept.step f w h.3 h.4 own c e).2 }))
        (λ c e. let k = kept.step f w h.3 h.4 own c e in (ranged_kept s numbers m known (shadow_state f w) c r e, k.0, k.1))

    -- ---- up to what is due

    -- what the frames of the shadow run come to, whose next instruction is known
    reached_at : (f : Frame Poisoned) (fs : List (Frame Poisoned)) (w : World) (i : Inst) (is : List Inst) → rest_of m f ≡ i ∷ is
        → left.reach (f ∷ fs) w ≡ shadow_going (checked (f ∷ fs) (checked_at s f.values (here s m f) i w))
    reached_at f fs w i is e = ap (λ l. shadow_going (reach_first s m l f fs w)) e

    -- the instruction that is due where a thread call is
    abbrev DueAt : Frame Poisoned → (Op → Type 0) → Type 0
    DueAt f P = (i : Inst) × (is : List Inst) × (rest_of m f ≡ i ∷ is) × P i.op

    due_call : (f : Frame Poisoned) (main only : Bool) (l : List Inst) → rest_of m f ≡ l → due_at s.func main only (due_inst l) ≡ Asks → DueAt f (ThreadCall s.func)
    due_call f main only [] e q = grind arith
    due_call f main only (i ∷ is) e q =
        (i, is, e, asks_call s.func main only i.op (ap (due_at s.func main only) (sym (due_head i is (unmarked_of s numbers m known f i is e))) ∙ q))

    due_return : (f : Frame Poisoned) (main only : Bool) (l : List Inst) → rest_of m f ≡ l → due_at s.func main only (due_inst l) ≡ Returns → DueAt f (ReturnsAlone main only)
    due_return f main only [] e q = grind arith
    due_return f main only (i ∷ is) e q =
        (i, is, e, returns_alone s.func main only i.op (ap (due_at s.func main only) (sym (due_head i is (unmarked_of s numbers m known f i is e))) ∙ q))

    -- a clean result is clean: of a thread call there is none but a clean one
    reach_alike : (f : List (Frame Poisoned)) (w : World) (g : List (Frame ℕ)) (t : Shared) → relation.Go f w g t → left.due f ≡ Asks
        → SteppedAlike (AtBoth left right relation) relation.Ends (EarlyGoing left right relation) (left.reach f w) (right.reach g t)
    reach_alike [] w g t h asks = absurd h.0
    reach_alike (f ∷ fs) w [] t h asks = absurd h.0
    reach_alike (f ∷ fs) w (g ∷ gs) t h asks =
        let d = due_call f (here s m f).main (eqb (length fs) 0) (rest_of m f) refl asks in
        subst (λ x. SteppedAlike (AtBoth left right relation) relation.Ends (EarlyGoing left right relation) x (right.reach (g ∷ gs) t)) (sym (reached_at f fs w d.0 d.1 d.2))
        (by_reaching d.0 d.1 d.2 d.3 (through_marked s (pass numbers m) (rest_of (pass numbers m) g) (state_of (g ∷ gs) t))
        (top_due s numbers m known f fs w g gs t.slots t.world d.0 d.1 h.0.0 h.0.1 h.2 h.1.0 d.2 (no_phi s.func d.0.op d.3) (cleans d.0 d.1 d.2 d.3)))
      where
        cleans : (i : Inst) (is : List Inst) → rest_of m f ≡ i ∷ is → ThreadCall s.func i.op → (r : Name) (x : ℕ) (w1 w2 : World) → i.result ≡ Some r → (numbers f.func).env.clean r ≡ true
            → checked_at s f.values (here s m f) i w ≡ Does w1 → acted_at s f.values (here s m f) i (counted_at s f.values (here s m f) i w1) ≡ Gives x w2
            → (poisoned_result by_formulas i.op (words_at s f.values (here s m f) i) x w2).mask ≡ 0
        cleans i is e call r x w1 w2 named cl checks acts = call_clean s.func i.op call (words_at s f.values (here s m f) i) x w2

        by_reaching : (i : Inst) (is : List Inst) → rest_of m f ≡ i ∷ is → ThreadCall s.func i.op → (y : Stepped PlainState) → Reaching s numbers m f fs w i is y
            → SteppedAlike (AtBoth left right relation) relation.Ends (EarlyGoing left right relation) (shadow_going (checked (f ∷ fs) (checked_at s f.values (here s m f) i w))) (plain_going y)
        by_reaching i is e call _ (Reported x u c) =
            subst (λ k. SteppedAlike (AtBoth left right relation) relation.Ends (EarlyGoing left right relation) (shadow_going (checked (f ∷ fs) k)) (Stop x u)) (sym c) refl
        by_reaching i is e call _ (Tried x u v inside c a) = absurd (inside (call_outside s.func i.op call))
        by_reaching i is e call _ (Both u g' gs' cells next c due saved gives does) =
            let same = counts_none s.func i.op call (words_at s f.values (here s m f) i) u in
            subst (λ k. SteppedAlike (AtBoth left right relation) relation.Ends (EarlyGoing left right relation) (shadow_going (checked (f ∷ fs) k))
            (plain_going (More (state_of (g' ∷ gs') (record { slots = cells; world = counted_at s f.values (here s m f) i u })))))
            (sym c) (
              (record { cells = cells; inst = i; after = is; next = next; due = due; call = call }, h.1, h.3),
              (
                same,
                subst RangedWorld same (checks_ranged s (here s m f).site (operands i.op) (words_at s f.values (here s m f) i) (uses s.func (here s m f).main i.op) _ w u c h.2),
                kept.checks f i w u h.4 c,
              ),
            )

    -- ---- what is due, without its checks

    perform_at : (f : Frame Poisoned) (fs : List (Frame Poisoned)) (w : World) (i : Inst) (is : List Inst) → rest_of m f ≡ i ∷ is → ThreadCall s.func i.op
        → shadow_perform by_formulas s m (f ∷ fs) w ≡ shadow_moved (shadow_act by_formulas s m i (here s m f) (words_at s f.values (here s m f) i) f fs w)
    perform_at f fs w i is e call =
        ap (λ l. perform_first by_formulas s m l f fs w) e
        ∙ ap (λ z. shadow_moved (shadow_act by_formulas s m i (here s m f) (words_at s f.values (here s m f) i) f fs z)) (counts_none s.func i.op call (words_at s f.values (here s m f) i) w)

    perform_alike : (f : List (Frame Poisoned)) (w : World) (g : List (Frame ℕ)) (t : Shared) → relation.At f g → relation.Shared w t
        → SteppedAlike (GoBoth left right relation) relation.Ends (EarlyGoing left right relation) (left.perform f w) (right.perform g t)
    perform_alike [] w g t a sh = absurd a.0
    perform_alike (f ∷ fs) w [] t a sh = absurd a.0
    perform_alike (f ∷ fs) w (g ∷ gs) t a sh =
        let d = a.0 in
        let i = d.inst in
        let h = here s m f in
        let is_at = perform_at f fs w i d.after d.due.rest_m d.call in
        let apart : AllApart i.result (operands i.op) = kept.apart (f ∷ fs) a.2 i d.after d.due.rest_m (no_phi s.func i.op d.call) in
        let after : (c : ShadowState) → shadow_perform by_formulas s m (f ∷ fs) w ≡ More c → Ranged c × kept.Of c.frames × kept.In c.world =
        λ c e. let k = kept.perform f fs w i d.after d.due.rest_m d.call a.2 sh.2 c (sym is_at ∙ e) in (
          performed_ranged s m (numbers f.func).env (numbers f.func).size i f fs w known.many (known.known f i d.after d.due.rest_m (no_phi s.func i.op d.call)) (known.ranged f i d.after d.due.rest_m)
              (known.roots f.func) a.1.0 a.1.1 sh.1 c (ap (λ l. perform_first by_formulas s m l f fs w) (sym d.due.rest_m) ∙ e),
          k.0,
          k.1,
        ) in
        let both = performs_both s numbers m known f fs g gs d.cells i d.after d.next w d.due t.slots sh.1 a.1.0 apart (no_phi s.func i.op d.call) (call_outside s.func i.op d.call)
        (hands_none s.func h.main i.op d.call (words_at s f.values h i) t.slots) (saves_none s.func d.next i.op d.call (words_at s f.values h i) w g.values)
        (λ on. absurd (never_goes_on s h i.op d.call (map (λ p. p.value) (words_at s f.values h i)) w on))
        (record { masks = λ c e. (kept.perform f fs w i d.after d.due.rest_m d.call a.2 sh.2 c e).2 }) in
        stepped (shadow_perform by_formulas s m (f ∷ fs) w) (plain_step s (pass numbers m) (state_of (g ∷ gs) t))
        (subst (λ x. Steps s numbers m x (plain_step s (pass numbers m) (state_of (g ∷ gs) t))) (sym is_at)
        (subst (λ z. Steps s numbers m (shadow_moved (shadow_act by_formulas s m i h (words_at s f.values h i) f fs w))
        (plain_step s (pass numbers m) (let p : PlainState = record { frames = g ∷ gs; slots = t.slots; world = z } in p))) (sym sh.0) both)) after

    -- ---- a fiber ends

    -- what a world is after a fiber has ended with a word, a mask and an origin
    abbrev put_answer : (v p o : ℕ) → World → World
    put_answer v p o u = record u {
      threads = changed_thread u.turn (λ x. record x { ended = true }) u.threads;
      answers = set_at u.answers u.turn v;
      answer_masks = set_at u.answer_masks u.turn p;
      answer_origins = set_at u.answer_origins u.turn o;
    }

    answered_same : (p q : Poisoned) (u v : World) → p.value ≡ q.value → p.mask ≡ q.mask → (if eqb p.mask 0 then 0 else p.origin) ≡ (if eqb q.mask 0 then 0 else q.origin) → u ≡ v
        → with_answer p u ≡ with_answer q v
    answered_same p q u v value mask origin same = λ i. put_answer (value i) (mask i) (origin i) (same i)

    answered_ranged : (p : Poisoned) (u : World) → p.origin < 2 ^ 32 → RangedWorld u → RangedWorld (with_answer p u)
    answered_ranged p u l r = record { placed = r.placed; origins = r.origins; pairs = r.pairs; answers = λ k. by_number k (eqb k u.turn) }
      where
        by_mask : (b : Bool) → (if b then 0 else p.origin) < 2 ^ 32
        by_mask true = omega arith
        by_mask false = l

        by_number : (k : ℕ) (b : Bool) → (if b then (if eqb p.mask 0 then 0 else p.origin) else u.answer_origins k) < 2 ^ 32
        by_number k true = by_mask (eqb p.mask 0)
        by_number k false = r.answers k

    -- a return outside `main` gives nothing
    ret_gives : (b : Bool) (e : End) (u z : World) (k : ℕ) → (if b then Over e u else Leaves u) ≡ Gives k z → ⊥
    ret_gives true e u z k q = grind arith
    ret_gives false e u z k q = grind arith

    module _ (f : Frame Poisoned) (w : World) (g : Frame ℕ) (gs : List (Frame ℕ)) (t : Shared) (h : relation.Go (f ∷ []) w (g ∷ gs) t) where
      abbrev EndsAlike : Stepped (Going (List (Frame Poisoned)) World) → Stepped (Going (List (Frame ℕ)) Shared) → Type 0
      EndsAlike x y = SteppedAlike (EndBoth left right relation) relation.Ends (EarlyGoing left right relation) x y

      at_return : (x : Option Name) (b : Bool) (is : List Inst) (a : Operand) → rest_of m f ≡ record { op = op.Ret (Some (Ptr, a)); result = x; marked = b } ∷ is → (here s m f).main ≡ false
          → EndsAlike (left.reach (f ∷ []) w) (right.reach (g ∷ gs) t)
      at_return x b is a e outside =
          let i : Inst = record { op = op.Ret (Some (Ptr, a)); result = x; marked = b } in
          let ps = words_at s f.values (here s m f) i in
          let p = read_poisoned s f.values (here s m f).root Ptr a in
          let none : checked_at s f.values (here s m f) i w ≡ Does w =
          ap (λ k. check_uses s (here s m f).site ((Ptr, a) ∷ []) ps (if k then Word 8 0 ∷ [] else []) w) outside in
          let y = through_marked s (pass numbers m) (rest_of (pass numbers m) g) (state_of (g ∷ gs) t) in
          let r = returns_both s numbers m f [] w x b is (Ptr, a) y outside
          (top_due s numbers m known f [] w g gs t.slots t.world i is h.0.0 h.0.1 h.2 h.1.0 e refl
          (λ n k w1 w2 named cl checks acts. absurd (ret_gives (here s m f).main _ _ _ k acts))) in
          let u = unmarked_of s numbers m known f i is e in
          let m_is : due_inst (rest_of m f) ≡ Some i = due_first i e u in
          let j_is : due_inst (rest_of (pass numbers m) r.g) ≡ Some i = due_first i r.due.rest_j u in
          let shadow_is : shadow_answer s m (f ∷ []) w ≡ p = ap (λ l. get_or (words_due shadow_reading s m f l) 0 clean) m_is in
          let plain_is : (plain_answer s (pass numbers m) (r.g ∷ r.gs) (record { slots = r.cells; world = w })).value ≡ p.value =
          ap (λ l. word 0 (words_due plain_reading s (pass numbers m) r.g l)) j_is
          ∙ ap (word 0) (read_words s r.g.values ((Ptr, a) ∷ []) (here s (pass numbers m) r.g).root ∙ r.due.words) in
          let slots = r.held p [] refl in
          let same : with_answer (plain_answer s (pass numbers m) (r.g ∷ r.gs) (record { slots = r.cells; world = w })) (given_back r.g w)
          ≡ with_answer (shadow_answer s m (f ∷ []) w) (given_back f w) =
          answered_same (plain_answer s (pass numbers m) (r.g ∷ r.gs) (record { slots = r.cells; world = w })) p (given_back r.g w) (given_back f w) plain_is slots.mask
          (kept_same _ p.mask _ p.origin slots.mask slots.origin) (gives_same f r.g r.due.same_mark r.due.same_heap w)
          ∙ ap (λ q. with_answer q (given_back f w)) (sym shadow_is) in
          subst (λ k. EndsAlike k (right.reach (g ∷ gs) t)) (sym (reached_at f [] w i is e ∙ ap (λ k. shadow_going (checked (f ∷ []) k)) none))
          (subst (λ z. EndsAlike (More (record { fiber = f ∷ []; shared = w })) (plain_going z)) (sym r.more) (
            same,
            subst (λ q. RangedWorld (with_answer q (given_back f w))) (sym shadow_is)
                (answered_ranged p (given_back f w) (words_ranged s f.values ((Ptr, a) ∷ []) (here s m f).root h.1.0 (undefs_fit s.func i (here s m f).root u (known.ranged f i is e).root)).0 (given_back_ranged f w h.2)),
            kept.ended_too (f ∷ []) w h.3 h.4,
          ))

      by_op : (o : Op) (x : Option Name) (b : Bool) (is : List Inst) → rest_of m f ≡ record { op = o; result = x; marked = b } ∷ is → ReturnsAlone (here s m f).main true o
          → EndsAlike (left.reach (f ∷ []) w) (right.reach (g ∷ gs) t)
      by_op (op.Ret v) x b is e r =
          let k = kept.returned f (record { op = op.Ret v; result = x; marked = b }) is v h.3 e r.1 refl in
          at_return x b is k.0 (e ∙ ap (λ v. record { op = op.Ret v; result = x; marked = b } ∷ is) k.1) r.1
      by_op _ x b is e r = absurd r

    returns_alike : (f : List (Frame Poisoned)) (w : World) (g : List (Frame ℕ)) (t : Shared) → relation.Go f w g t → left.due f ≡ Returns
        → SteppedAlike (EndBoth left right relation) relation.Ends (EarlyGoing left right relation) (left.reach f w) (right.reach g t)
    returns_alike [] w g t h due = absurd h.0
    returns_alike (f ∷ fs) w [] t h due = absurd h.0
    returns_alike (f ∷ []) w (g ∷ gs) t h due =
        let d = due_return f (here s m f).main true (rest_of m f) refl due in
        by_op f w g gs t h d.0.op d.0.result d.0.marked d.1 d.2 d.3
    returns_alike (f ∷ below ∷ fs) w (g ∷ gs) t h due =
        let d = due_return f (here s m f).main (eqb (length (below ∷ fs)) 0) (rest_of m f) refl due in absurd (alone (eqb (length (below ∷ fs)) 0) refl d.0.op d.3)
      where
        alone : (only : Bool) → eqb (length (below ∷ fs)) 0 ≡ only → (o : Op) → ReturnsAlone (here s m f).main only o → ⊥
        alone only e (op.Ret v) r = let l = eqb-true (length (below ∷ fs)) 0 (e ∙ r.0) in omega (arith, l)
        alone only e _ r = r

    -- ---- a fiber begins

    bound_ranged : (ps : List (Ty × Name)) (a : ℕ) (x : Name) → (bind clean ps (argument_word a ∷ []) x).origin < 2 ^ 32
    bound_ranged [] a x = omega arith
    bound_ranged (p ∷ ps) a x = by_name (name_eq x p.1) (none ps)
      where
        none : (ps : List (Ty × Name)) → (bind clean ps [] x).origin < 2 ^ 32
        none [] = omega arith
        none (p ∷ ps) = omega arith

        by_name : (b : Bool) → (bind clean ps [] x).origin < 2 ^ 32 → (if b then argument_word a else bind clean ps [] x).origin < 2 ^ 32
        by_name true l = omega arith
        by_name false l = l

    turned_ranged : (k : ℕ) (w : World) → RangedWorld w → RangedWorld (turned k w)
    turned_ranged k w r = record { placed = r.placed; origins = r.origins; pairs = r.pairs; answers = r.answers }

    begun_alike : (w : World) (t : Shared) → relation.Shared w t → (k : ℕ) (x : Thread) → thread_at k w.threads ≡ Some x
        → GoBoth left right relation (left.begun x.func x.argument (turned k w)) (right.begun x.func x.argument (record t { world = turned k t.world }))
    begun_alike w t sh k x is =
        let b = kept.begun w sh.2 k x is in (
          subst (λ z. FollowsBy s numbers m (entered shadow_reading m x.func (argument_word x.argument ∷ []) (turned k w) ∷ []) (turned k w)
              (entered plain_reading (pass numbers m) x.func (x.argument ∷ []) z ∷ []) (first_clean t.slots) z) (ap (turned k) (sym sh.0))
              (begins_both s numbers m known x.func x.argument t.slots (turned k w) b.1, tt),
          ((λ y. bound_ranged (params_at m x.func) x.argument y), tt),
          turned_ranged k w sh.1,
          b.0,
          kept.turned_too w sh.2 k,
        )

    -- ---- what stands

    map_same : (l : List ℕ) → map (λ v. v) l ≡ l
    map_same [] = refl
    map_same (v ∷ l) = ap (λ k. v ∷ k) (map_same l)

    joins_same : (f : List (Frame Poisoned)) (g : List (Frame ℕ)) → relation.At f g → left.joins f ≡ right.joins g
    joins_same [] g a = absurd a.0
    joins_same (f ∷ fs) [] a = absurd a.0
    joins_same (f ∷ fs) (g ∷ gs) a =
        let d = a.0 in
        let i = d.inst in
        let u = unmarked_of s numbers m known f i d.after d.due.rest_m in
        let m_is : due_inst (rest_of m f) ≡ Some i = due_first i d.due.rest_m u in
        let j_is : due_inst (rest_of (pass numbers m) g) ≡ Some i = due_first i d.due.rest_j u in
        ap (λ l. inst_joins s.func l (map (λ p. p.value) (words_due shadow_reading s m f l))) m_is
        ∙ ap (inst_joins s.func (Some i)) (sym d.due.words ∙ sym (read_words s g.values (operands i.op) (here s (pass numbers m) g).root) ∙ sym (map_same _))
        ∙ sym (ap (λ l. inst_joins s.func l (map (λ v. v) (words_due plain_reading s (pass numbers m) g l))) j_is)

    site_same : (f : List (Frame Poisoned)) (g : List (Frame ℕ)) → relation.At f g → left.site f ≡ right.site g
    site_same [] g a = absurd a.0
    site_same (f ∷ fs) [] a = absurd a.0
    site_same (f ∷ fs) (g ∷ gs) a = ap (λ (k : Here). k.site) (sym a.0.due.stands)

    spent_same : (f : List (Frame Poisoned)) (w : World) (g : List (Frame ℕ)) (t : Shared) → relation.Go f w g t → result «end».Spent t.world ≡ result «end».Spent w
    spent_same [] w g t h = absurd h.0
    spent_same (f ∷ fs) w [] t h = absurd h.0
    spent_same (f ∷ fs) w (g ∷ gs) t h = h.0.0.sees «end».Spent

    pub laws : Laws left right relation
    laws = record {
      due = λ f w g t h. due_same s numbers m known f w g t.slots t.world h.0;
      turn = λ f w g t h. turn_same s numbers m known f w g t.slots t.world h.0;
      step = λ f w g t h own quiet. step_alike f w g t h own;
      reach = λ f w g t h asks quiet. reach_alike f w g t h asks;
      returns = λ f w g t h due quiet. returns_alike f w g t h due;
      shared_turn = λ w t h. ap (λ (u : World). u.turn) (sym h.0);
      joins = joins_same;
      site = site_same;
      perform = λ f w g t at h quiet. perform_alike f w g t at h;
      begun = begun_alike;
      shared_turned = λ w t h k. (ap (turned k) h.0, turned_ranged k w h.1, kept.turned_too w h.2 k);
      threads = λ w t h. ap (λ (u : World). u.threads) (sym h.0);
      ends = λ w t h e. ap (result e) h.0;
      spent = spent_same;
    }

    pub late : LateLaws left right relation
    late = record {
      step = λ e w g t h. absurd h;
      reach = λ e w g t h. absurd h;
      perform = λ e w g t h. absurd h;
      ended = λ e w g t h. absurd h;
      begun = λ e w t n a h. absurd h;
      turned = λ e w t k h. absurd h;
      ends = λ e w v h x. absurd h;
    }

    none_counted : {A : Type 0} (world : A → World) (x : Stepped A) → 0 ≤ count_of (λ w. 0) world x
    none_counted world (More a) = omega arith
    none_counted world (Stop e w) = omega arith

    pub counts : Counts left right relation
    counts = record {
      step = λ f w. none_counted (of_going left right relation) (left.step f w);
      reach = λ f w. none_counted (of_going left right relation) (left.reach f w);
      perform = λ f w. none_counted (of_going left right relation) (left.perform f w);
      ended = λ f w. refl;
      begun = λ w n a. refl;
      turned = λ w k. refl;
    }

    -- ---- the calls at reports

    site_followed : (f : List (Frame Poisoned)) (w : World) (g : List (Frame ℕ)) (t : Shared) → relation.Go f w g t → left.site f ≡ right.site g
    site_followed [] w g t h = absurd h.0
    site_followed (f ∷ fs) w [] t h = absurd h.0
    site_followed (f ∷ fs) w (g ∷ gs) t h = ap (λ (k : Here). k.site) (sym h.0.0.stands)

    stand_calls : (f : List (Frame Poisoned)) (g : List (Frame ℕ)) → relation.At f g → call_sites m f ≡ call_sites (pass numbers m) g
    stand_calls [] g a = absurd a.0
    stand_calls (f ∷ fs) [] a = absurd a.0
    stand_calls (f ∷ fs) (g ∷ gs) a = lower_sites s numbers m f.func fs gs a.0.due.lower

    pub says : SaysSame left right relation laws counts late (call_sites m) (call_sites (pass numbers m))
    says = record {
      act = record {
        go = λ f w g t h. frames_sites s numbers m f w g t.slots t.world h.0;
        site = site_followed;
        at = stand_calls;
      };
      go_reports = λ f w g t h. frames_reports s numbers m f w g t.slots t.world h.0;
      go_threads = λ f w g t h. threads_same s numbers m known f w g t.slots t.world h.0;
      reports = λ w t h. ap (λ (u : World). u.reports) (sym h.0);
      ends = λ e w x v h. ap (λ (k : RunResult). k.reports) (sym h);
      never = λ e w v h. h;
    }

    pub says_blind : SaysBlind left right relation
    says_blind = record {
      site = site_followed;
      go = λ f w g t h. frames_blind s numbers m f w g t.slots t.world h.0;
      shared = λ w t h. ap (λ (u : World). u.blind) (sym h.0);
      ends = λ e w x v h. ap (λ (k : RunResult). k.blind) (sym h);
      never = λ e w v h. h;
    }

-- ---- a run

threads_both : (numbers : ℕ → Numbering) (m : Module) (setup : Setup) (known : KnownModule (setting_of m setup) numbers m) (kept : Kept (setting_of m setup) numbers m known)
    → params_at m (unwrap_or (func_index m.funcs main_name) 0) ≡ [] → RangedWorld (start_world m setup) → kept.Of (start_frame shadow_reading m ∷ []) → kept.In (start_world m setup)
    → Followed by_formulas m (pass numbers m) setup (relation (setting_of m setup) numbers m known kept)
threads_both numbers m setup known kept bare placed frames world =
    let s = setting_of m setup in
    record {
      laws = laws s numbers m known kept;
      late = late s numbers m known kept;
      counts = counts s numbers m known kept;
      none = λ w v. refl;
      ends = λ e w x v h. h;
      starts = (starts numbers m setup known.strips bare, ((λ y. omega arith), tt), placed, frames, world);
    }

-- with one schedule the instrumented form of a module runs as the shadow run says, where what is kept holds at the start
pub threads_follow : (numbers : ℕ → Numbering) (m : Module) (setup : Setup) (schedule : List ℕ) (known : KnownModule (setting_of m setup) numbers m) (kept : Kept (setting_of m setup) numbers m known)
    → params_at m (unwrap_or (func_index m.funcs main_name) 0) ≡ [] → RangedWorld (start_world m setup) → kept.Of (start_frame shadow_reading m ∷ []) → kept.In (start_world m setup)
    → plain_threads (pass numbers m) setup schedule ≡ shadow_threads_by by_formulas m setup schedule
threads_follow numbers m setup schedule known kept bare placed frames world =
    let s = setting_of m setup in
    followed_runs by_formulas m (pass numbers m) known.strips setup schedule (relation s numbers m known kept)
    (threads_both numbers m setup known kept bare placed frames world)

-- and its reports have the calls that the shadow run says
pub threads_calls_follow : (numbers : ℕ → Numbering) (m : Module) (setup : Setup) (schedule : List ℕ) (known : KnownModule (setting_of m setup) numbers m) (kept : Kept (setting_of m setup) numbers m known)
    → params_at m (unwrap_or (func_index m.funcs main_name) 0) ≡ [] → RangedWorld (start_world m setup) → kept.Of (start_frame shadow_reading m ∷ []) → kept.In (start_world m setup)
    → plain_threads_calls (pass numbers m) setup schedule ≡ shadow_threads_calls_by by_formulas m setup schedule
unfolding threads_both
threads_calls_follow numbers m setup schedule known kept bare placed frames world =
    let s = setting_of m setup in
    followed_calls by_formulas m (pass numbers m) known.strips setup schedule (relation s numbers m known kept) (threads_both numbers m setup known kept bare placed frames world) (says s numbers m known kept)

-- and its blind uses the sites
pub threads_blind_follow : (numbers : ℕ → Numbering) (m : Module) (setup : Setup) (schedule : List ℕ) (known : KnownModule (setting_of m setup) numbers m) (kept : Kept (setting_of m setup) numbers m known)
    → params_at m (unwrap_or (func_index m.funcs main_name) 0) ≡ [] → RangedWorld (start_world m setup) → kept.Of (start_frame shadow_reading m ∷ []) → kept.In (start_world m setup)
    → plain_threads_blind (pass numbers m) setup schedule ≡ shadow_threads_blind_by by_formulas m setup schedule
threads_blind_follow numbers m setup schedule known kept bare placed frames world =
    let s = setting_of m setup in
    followed_blind by_formulas m (pass numbers m) known.strips setup schedule (relation s numbers m known kept) (threads_both numbers m setup known kept bare placed frames world) (says_blind s numbers m known kept)

-- and it ends in the same calls
pub threads_end_follow : (numbers : ℕ → Numbering) (m : Module) (setup : Setup) (schedule : List ℕ) (known : KnownModule (setting_of m setup) numbers m) (kept : Kept (setting_of m setup) numbers m known)
    → params_at m (unwrap_or (func_index m.funcs main_name) 0) ≡ [] → RangedWorld (start_world m setup) → kept.Of (start_frame shadow_reading m ∷ []) → kept.In (start_world m setup)
    → plain_threads_end_calls (pass numbers m) setup schedule ≡ shadow_threads_end_calls_by by_formulas m setup schedule
unfolding threads_both
threads_end_follow numbers m setup schedule known kept bare placed frames world =
    let s = setting_of m setup in
    followed_end by_formulas m (pass numbers m) known.strips setup schedule (relation s numbers m known kept) (threads_both numbers m setup known kept bare placed frames world) (says s numbers m known kept)
