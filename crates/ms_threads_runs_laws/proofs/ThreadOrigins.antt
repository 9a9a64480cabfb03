-- Half a step of a shadow run of fibers keeps origins leading back to what fibers have reached.
use Rattle.std.proofs.Common.{◌≡◌, ◌⊎◌, inl, inr, ℕ, zero, suc, ◌+◌, ◌%◌, ◌<◌, Bool, true, false, List, [], ◌∷◌, ◌++◌, map, length, eqb, leb, Any, Option, Some, None, if◌then◌else◌, refl, sym, ap, ◌∙◌, subst, arith}
use Rattle.std.specs.Prelude.{get_or}
use Rattle.std.proofs.lemmas.Bool.{eqb-true}
use Rattle.std.proofs.lemmas.Option.{same_Some}
use Rattle.ms_bits.specs.declared.traps.Trap.TheVariants as trap
use Rattle.ms_ir.specs.declared.syntax.Inst.{Inst}
use Rattle.ms_ir.specs.declared.syntax.Op.{Op}
use Rattle.ms_ir.specs.declared.syntax.Op.TheVariants as op
use Rattle.ms_ir.specs.declared.syntax.Module.{Module}
use Rattle.ms_ir.specs.declared.calls.External.{External}
use Rattle.ms_ir.specs.declared.calls.External.TheVariants.{PthreadCreate, PthreadJoin, SchedYield}
use Rattle.ms_ir.specs.Instructions.{NoMarks, HeadUnmarked, operands, count_undefs, count_roots, func_index, external_named}
use Rattle.ms_ir.specs.ThreadCalls.{is_asked}
use Rattle.ms_runs.specs.declared.runs.Setup.{Setup}
use Rattle.ms_runs.specs.World.{World, Setting, Thread, Here, Effect, Gives, Does, Goes as Jumps, Enters, Leaves, Ends, stuck, word, traps}
use Rattle.ms_runs.specs.Memory.{is_good}
use Rattle.ms_runs.specs.Threads.{Fibers as Beings, fibers_of, fiber_limit, thread_at, has_ended, join_answer}
use Rattle.ms_runs.specs.Externals.{external, joined}
use Rattle.ms_runs.specs.Act.{act}
use Rattle.ms_runs.specs.Origins.{trail_within, count_blind}
use Rattle.ms_runs.specs.Control.{Frame, Outcome, On, Over, here, rest_of, read_all, entered, params_at, given_back, keeping}
use Rattle.ms_runs.specs.Plain.{Stepped, More, Stop, setting_of}
use Rattle.ms_runs.specs.Poisoned.{Poisoned, clean}
use Rattle.ms_runs.specs.Masks.{Rules, union, word_at}
use Rattle.ms_runs.specs.Uses.{uses, check_uses, blinded}
use Rattle.ms_runs.specs.Shadow.{read_poisoned, shadow_reading, planes, poisoned_result, shadow_act, shadow_moved, shadow_frames}
use Rattle.ms_ir.specs.declared.calls.RuntimeFn.TheVariants as runtime
use Rattle.ms_check_valid.specs.Formed.{Formed}
use Rattle.ms_check_valid.specs.Valid.{Valid}
use Rattle.ms_runs_good_laws.specs.GoodStates.{PoisonedBelow, GoodFrames}
use Rattle.ms_runs_good_laws.specs.GoodRules.{KeepWidths}
use Rattle.ms_runs_good_laws.specs.GoodWorlds.{GivesBytes, GoodAfter}
use Rattle.ms_runs_good_laws.specs.Reached.{IsOperand, Reaches, AsOperand, AsItself, AsEdge, StandsAt}
use Rattle.ms_runs_good_laws.proofs.FibersKept.{runtime_keeps, world_of as effect_world}
use Rattle.ms_runs_good_laws.proofs.Frames.{MovedTo, moves_to}
use Rattle.ms_runs_clean_laws.specs.KeepClean.{KeepClean}
use Rattle.ms_runs_origins_laws.proofs.Trails.{back_weaker}
use Rattle.ms_runs_origins_laws.proofs.Worlds.{Back, Backed, NoneFree, given_back_pairs, given_back_backed}
use Rattle.ms_runs_origins_laws.proofs.Checks.{Same, Checked, counted}
use Rattle.ms_runs_origins_laws.proofs.Frames.{FramesHold, Holds as WordHolds, bind_holds, first_holds, frames_weaker}
use Rattle.ms_runs_origins_laws.proofs.Steps.{backed_weaker, Leads, RunsNow, ToldNow, ReachesNow, ReachesNext, MovedLeads, CalmFirst, CalmTop, frames_lead, acts_lead, told_checked, now_words, now_frames}
use Rattle.ms_threads_laws.specs.Due.{argument_word}
use Rattle.ms_threads_laws.proofs.DueSame.{due_head}
use Rattle.ms_threads_laws.proofs.OwnSteps.{calm_due, checks_keep, own_moved, planes_keep, back_keeps}
use Rattle.ms_threads_laws.proofs.ThreadCalls.{ThreadCall, asks_call}
use Rattle.ms_runs_threads.specs.Fibers.{Due as Duty, Own, Asks, Returns, Meaning, Others, Fibers, Goes, Waits, standing, turned, goes_on, ended, moved, world_of}
use Rattle.ms_runs_threads.specs.PlainFibers.{due_inst, due_at, frames_due, words_due}
use Rattle.ms_runs_threads.specs.ShadowFibers.{shadow_state, shadow_going, checked, reach_first, shadow_reach, perform_first, shadow_perform, shadow_answer, shadow_fiber}
use Rattle.ms_threads_runs_laws.specs.Halves.{turn_begun, pick_of}
use Rattle.ms_threads_runs_laws.specs.ThreadStates.{HasFiber}
use Rattle.ms_threads_runs_laws.specs.ThreadWalks.{Ran, frames_going}
use Rattle.ms_threads_runs_laws.proofs.ShadowThreads.{shadow_kept}
use Rattle.ms_threads_runs_laws.proofs.Walked.{Holds}

-- ---- a thread call leaves what fibers answered

-- two worlds have the same answers
abbrev pub SameAnswers : World → World → Type 0
SameAnswers w u = (u.answer_masks ≡ w.answer_masks) × (u.answer_origins ≡ w.answer_origins)

answers_kept : (w v u : World) → fibers_of u ≡ fibers_of v → SameAnswers w v → SameAnswers w u
answers_kept w v u e h = (ap (λ (b : Beings). b.answer_masks) e ∙ h.0, ap (λ (b : Beings). b.answer_origins) e ∙ h.1)

either_after : (P : World → Type 0) (b : Bool) (x y : Effect) → GoodAfter P x → GoodAfter P y → GoodAfter P (if b then x else y)
either_after P true x y p q = p
either_after P false x y p q = q

call_answers : (s : Setting) (h : Here) (o : Op) (words : List ℕ) (w v : World) → ThreadCall s.func o → SameAnswers w v → GoodAfter (SameAnswers w) (act s h o words v)
call_answers s h (op.Call ret callee args) words w v asked k = by_own (s.func callee) (external_named s.func callee) asked
  where
    by_external : (e : Option External) → is_asked e ≡ true
        → GoodAfter (SameAnswers w) (elim e as (λ z. Effect) [ Some x ↦ external s h.site x (map (λ a. a.0) args) words v | None ↦ Ends stuck v ])
    by_external None asked = k
    by_external (Some PthreadCreate) asked =
        either_after (SameAnswers w) (leb fiber_limit (length v.threads + 1)) (Gives 11 v) _ k (either_after (SameAnswers w) (is_good v (word 0 words) 8) (Gives 0 _) (traps trap.BadAddress h.site v) k k)
    by_external (Some PthreadJoin) asked =
        either_after (SameAnswers w) (eqb (join_answer v.turn (word 0 words) v.threads) 0) _ (Gives (join_answer v.turn (word 0 words) v.threads) v)
        (either_after (SameAnswers w) (has_ended (thread_at (word 0 words) v.threads)) (joined h.site (word 0 words) (word 1 words) v) (traps trap.Deadlock h.site v)
        (either_after (SameAnswers w) (eqb (word 1 words) 0) (Gives 0 _) _ k (either_after (SameAnswers w) (is_good v (word 1 words) 8) (Gives 0 _) (traps trap.BadAddress h.site v) k k)) k) k
    by_external (Some SchedYield) asked = k
    by_external (Some e) asked = absurd (grind (arith, asked))

    by_own : (q : Option ℕ) (e : Option External) → is_asked e ≡ true
        → GoodAfter (SameAnswers w) (elim q as (λ z. Effect) [ Some g ↦ Enters g v | None ↦ elim e as (λ z. Effect) [ Some x ↦ external s h.site x (map (λ a. a.0) args) words v | None ↦ Ends stuck v ] ])
    by_own (Some g) e asked = k
    by_own None e asked = by_external e asked
call_answers s h _ words w v asked k = absurd asked

module _ (d : Rules) (keep : KeepClean d) (widths : KeepWidths d) (m : Module) (formed : Formed m) (valid : Valid m) (bare : NoMarks m) (setup : Setup) (bytes : GivesBytes setup) where
  abbrev means : Meaning (List (Frame Poisoned)) World
  means = shadow_fiber d (setting_of m setup) m

  -- a state is good
  abbrev pub GoodState : Fibers (List (Frame Poisoned)) World → Type 0
  GoodState c = Holds (shadow_fiber d (setting_of m setup) m) (shadow_kept d widths m formed valid bare setup bytes) c

  -- which sites ran, and which roots are reached
  abbrev pub Runs : List Ran → ℕ → Type 0
  Runs ran at = Any (λ r. StandsAt m at r.before) ran

  abbrev pub Reached : List Ran → ℕ → Type 0
  Reached ran id = Any (λ r. Reaches m r.before r.after id) ran

  abbrev pub BackTo : List Ran → List (ℕ × ℕ) → ℕ → Type 0
  BackTo ran pairs id = Back (Runs ran) (Reached ran) (count_roots m) pairs id

  -- all origins of a state's fibers, in a world, lead back, and those of reports to roots of a kind
  pub record AllLead (ran : List Ran) (told : ℕ → Type 0) (c : Fibers (List (Frame Poisoned)) World) (w : World) : Type 0 where
    pub fibers : (fs : List (Frame Poisoned)) → HasFiber c fs → FramesHold (BackTo ran w.pairs) fs
    pub world : Backed (Runs ran) (Reached ran) told (count_roots m) NoneFree w
    pub answers : (k : ℕ) → ¬ (w.answer_masks k ≡ 0) → BackTo ran w.pairs (w.answer_origins k)

  -- what was told is reached, or an operand that is due
  abbrev pub ToldBy : List Ran → Option (List (Frame Poisoned)) → World → ℕ → Type 0
  ToldBy ran from w id = Reached ran id ⊎ ((f : List (Frame Poisoned)) × (from ≡ Some f) × IsOperand m (shadow_state f w) id)

  -- what was done
  abbrev pub done_by : Option (List (Frame Poisoned)) → World → Fibers (List (Frame Poisoned)) World → List Ran
  done_by None w next = []
  done_by (Some f) w next = record { before = shadow_state f w; after = shadow_state (frames_going next) (world_of (shadow_fiber d (setting_of m setup) m) next) } ∷ []

  -- half a step leads to a state in which all origins lead back, or ends the run so
  abbrev pub HalfLeads : List Ran → Option (List (Frame Poisoned)) → Fibers (List (Frame Poisoned)) World → Stepped (Fibers (List (Frame Poisoned)) World) → Type 0
  HalfLeads ran from c (More next) =
      AllLead (done_by from (world_of means c) next ++ ran) (Reached (done_by from (world_of means c) next ++ ran)) next (world_of means next)
  HalfLeads ran from c (Stop e u) = AllLead ran (ToldBy ran from (world_of means c)) c u

  -- ---- more is reached

  abbrev Fresh : List (Frame Poisoned) → World → Fibers (List (Frame Poisoned)) World → Ran
  Fresh f w next = record { before = shadow_state f w; after = shadow_state (frames_going next) (world_of means next) }

  module _ (ran : List Ran) (f : List (Frame Poisoned)) (w : World) (next : Fibers (List (Frame Poisoned)) World) where
    ran_later : (at : ℕ) → RunsNow m (shadow_state f w) (Runs ran) at → Runs (Fresh f w next ∷ ran) at
    ran_later at (inl h) = (0, Fresh f w next, omega arith, refl, h)
    ran_later at (inr h) = (suc h.0, h.1, omega (arith, h.2), h.3, h.4)

    old_later : (id : ℕ) → Reached ran id → Reached (Fresh f w next ∷ ran) id
    old_later id h = (suc h.0, h.1, omega (arith, h.2), h.3, h.4)

    new_later : (id : ℕ) → Reaches m (shadow_state f w) (shadow_state (frames_going next) (world_of means next)) id → Reached (Fresh f w next ∷ ran) id
    new_later id h = (0, Fresh f w next, omega arith, refl, h)

    now_later : (id : ℕ) → ReachesNow m (shadow_state f w) (Reached ran) id → Reached (Fresh f w next ∷ ran) id
    now_later id (inl (inl h)) = new_later id (AsOperand h)
    now_later id (inl (inr h)) = new_later id (AsItself h)
    now_later id (inr h) = old_later id h

    next_later : (id : ℕ) → ReachesNext m (shadow_state f w) (Reached ran) (frames_going next) (world_of means next) id → Reached (Fresh f w next ∷ ran) id
    next_later id (inl h) = now_later id h
    next_later id (inr h) = new_later id (AsEdge h)

    told_later : (id : ℕ) → ToldNow m (shadow_state f w) (Reached ran) id → Reached (Fresh f w next ∷ ran) id
    told_later id (inl h) = old_later id h
    told_later id (inr h) = new_later id (AsOperand h)

    -- what led back leads back
    back_later : (pairs : List (ℕ × ℕ)) (id : ℕ) → BackTo ran pairs id → BackTo (Fresh f w next ∷ ran) pairs id
    back_later pairs id h =
        back_weaker (Runs ran) (Reached ran) (Runs (Fresh f w next ∷ ran)) (Reached (Fresh f w next ∷ ran)) (λ k e. ran_later k (inr e)) (λ k e. old_later k e) (trail_within (length pairs + 1) (count_roots m) pairs id) h

    next_back : (pairs : List (ℕ × ℕ)) (id : ℕ) → Back (RunsNow m (shadow_state f w) (Runs ran)) (ReachesNext m (shadow_state f w) (Reached ran) (frames_going next) (world_of means next)) (count_roots m) pairs id
        → BackTo (Fresh f w next ∷ ran) pairs id
    next_back pairs id h =
        back_weaker (RunsNow m (shadow_state f w) (Runs ran)) (ReachesNext m (shadow_state f w) (Reached ran) (frames_going next) (world_of means next)) (Runs (Fresh f w next ∷ ran)) (Reached (Fresh f w next ∷ ran))
        ran_later next_later (trail_within (length pairs + 1) (count_roots m) pairs id) h

    now_back : (pairs : List (ℕ × ℕ)) (id : ℕ) → Back (RunsNow m (shadow_state f w) (Runs ran)) (ReachesNow m (shadow_state f w) (Reached ran)) (count_roots m) pairs id → BackTo (Fresh f w next ∷ ran) pairs id
    now_back pairs id h =
        back_weaker (RunsNow m (shadow_state f w) (Runs ran)) (ReachesNow m (shadow_state f w) (Reached ran)) (Runs (Fresh f w next ∷ ran)) (Reached (Fresh f w next ∷ ran))
        ran_later now_later (trail_within (length pairs + 1) (count_roots m) pairs id) h

  -- the same answers lead back, where all that did goes on to
  answers_back : (ran more : List Ran) (w u : World) → SameAnswers w u → ((id : ℕ) → BackTo ran w.pairs id → BackTo more u.pairs id) → ((k : ℕ) → ¬ (w.answer_masks k ≡ 0) → BackTo ran w.pairs (w.answer_origins k))
      → (k : ℕ) → ¬ (u.answer_masks k ≡ 0) → BackTo more u.pairs (u.answer_origins k)
  answers_back ran more w u same grows answers k ne =
      subst (λ f. BackTo more u.pairs (f k)) (sym same.1) (grows (w.answer_origins k) (answers k (λ z. ne (ap (λ f. f k) same.0 ∙ z))))

  fibers_same : (w u : World) → fibers_of u ≡ fibers_of w → SameAnswers w u
  fibers_same w u e = (ap (λ (b : Beings). b.answer_masks) e, ap (λ (b : Beings). b.answer_origins) e)

  -- a run that ends with the same pairs
  ends_lead : (ran : List Ran) (told told' : ℕ → Type 0) (c : Fibers (List (Frame Poisoned)) World) (w u : World) → u.pairs ≡ w.pairs → SameAnswers w u → AllLead ran told c w
      → Backed (Runs ran) (Reached ran) told' (count_roots m) NoneFree u → AllLead ran told' c u
  ends_lead ran told told' c w u same answers h backed = record {
    fibers = λ fs has. subst (λ ps. FramesHold (BackTo ran ps) fs) (sym same) (h.fibers fs has);
    world = backed;
    answers = answers_back ran ran w u answers (λ id k. subst (λ ps. BackTo ran ps id) (sym same) k) h.answers;
  }

  unmarked : (f : Frame Poisoned) (i : Inst) (is : List Inst) → rest_of m f ≡ i ∷ is → i.marked ≡ false
  unmarked f i is e = subst HeadUnmarked e (bare f.func f.block f.place)

  -- operands that are due count as told
  telling : (ran : List Ran) (f : List (Frame Poisoned)) (w u : World) → Backed (Runs ran) (Reached ran) (Reached ran) (count_roots m) NoneFree u → Backed (Runs ran) (Reached ran) (ToldNow m (shadow_state f w) (Reached ran)) (count_roots m) NoneFree u
  telling ran f w u b = backed_weaker (Runs ran) (Reached ran) (Reached ran) (Runs ran) (Reached ran) (ToldNow m (shadow_state f w) (Reached ran)) (λ k e. e) (λ k e. e) (λ k e. inl e) (count_roots m) u b

  told_so : (ran : List Ran) (f : List (Frame Poisoned)) (w u : World) → Backed (Runs ran) (Reached ran) (ToldNow m (shadow_state f w) (Reached ran)) (count_roots m) NoneFree u → Backed (Runs ran) (Reached ran) (ToldBy ran (Some f) w) (count_roots m) NoneFree u
  told_so ran f w u b =
      backed_weaker (Runs ran) (Reached ran) (ToldNow m (shadow_state f w) (Reached ran)) (Runs ran) (Reached ran) (ToldBy ran (Some f) w) (λ k e. e) (λ k e. e) (λ k e. by_kind k e) (count_roots m) u b
    where
      by_kind : (id : ℕ) → ToldNow m (shadow_state f w) (Reached ran) id → ToldBy ran (Some f) w id
      by_kind id (inl h) = inl h
      by_kind id (inr h) = inr (f, refl, h)

  reached_so : (ran : List Ran) (from : Option (List (Frame Poisoned))) (w u : World) → Backed (Runs ran) (Reached ran) (Reached ran) (count_roots m) NoneFree u → Backed (Runs ran) (Reached ran) (ToldBy ran from w) (count_roots m) NoneFree u
  reached_so ran from w u b = backed_weaker (Runs ran) (Reached ran) (Reached ran) (Runs ran) (Reached ran) (ToldBy ran from w) (λ k e. e) (λ k e. e) (λ k e. inl e) (count_roots m) u b

  -- ---- the fiber that goes on

  module _ (ran : List Ran) (f : List (Frame Poisoned)) (w : World) (rest : Others (List (Frame Poisoned))) (good : GoodState (Goes f w rest)) (h : AllLead ran (Reached ran) (Goes f w rest) w) where
    leads : Leads m (shadow_state f w) (Runs ran) (Reached ran) (ToldNow m (shadow_state f w) (Reached ran))
    leads = record { frames = h.fibers f (inl refl); world = telling ran f w w h.world }

    -- after an instruction of its own
    own_after : (fs : List (Frame Poisoned)) (u : World) → MovedLeads m (shadow_state f w) (Runs ran) (Reached ran) (On fs u) → SameAnswers w u → HalfLeads ran (Some f) (Goes f w rest) (More (Goes fs u rest))
    own_after fs u k same = record {
      fibers = λ gs has. by_fiber gs has;
      world = backed_weaker (RunsNow m (shadow_state f w) (Runs ran)) (ReachesNow m (shadow_state f w) (Reached ran)) (ToldNow m (shadow_state f w) (Reached ran)) (Runs (Fresh f w next ∷ ran)) (Reached (Fresh f w next ∷ ran)) (Reached (Fresh f w next ∷ ran))
          (ran_later ran f w next) (now_later ran f w next) (told_later ran f w next) (count_roots m) u k.1;
      answers = answers_back ran (Fresh f w next ∷ ran) w u same (λ id b. next_back ran f w next u.pairs id (k.2 id b)) h.answers;
    }
      where
        next : Fibers (List (Frame Poisoned)) World
        next = Goes fs u rest

        by_fiber : (gs : List (Frame Poisoned)) → HasFiber (Goes fs u rest) gs → FramesHold (BackTo (Fresh f w (Goes fs u rest) ∷ ran) u.pairs) gs
        by_fiber gs (inl e) =
            subst (FramesHold (BackTo (Fresh f w (Goes fs u rest) ∷ ran) u.pairs)) e
            (frames_weaker (Back (RunsNow m (shadow_state f w) (Runs ran)) (ReachesNext m (shadow_state f w) (Reached ran) fs u) (count_roots m) u.pairs) (BackTo (Fresh f w (Goes fs u rest) ∷ ran) u.pairs)
            (next_back ran f w (Goes fs u rest) u.pairs) fs k.0)
        by_fiber gs (inr e) = frames_weaker (BackTo ran w.pairs) (BackTo (Fresh f w (Goes fs u rest) ∷ ran) u.pairs) (λ id b. next_back ran f w (Goes fs u rest) u.pairs id (k.2 id b)) gs (h.fibers gs (inr e))

    -- ---- up to what is due

    -- after checks that let a run go on: the same pairs, and the same answers
    record ChecksOver (u : World) : Type 0 where
      same : u.pairs ≡ w.pairs
      answers : SameAnswers w u
      backed : Backed (Runs ran) (Reached ran) (ToldNow m (shadow_state f w) (Reached ran)) (count_roots m) NoneFree u

    checks_over : (fr : Frame Poisoned) (below : List (Frame Poisoned)) → f ≡ fr ∷ below → (i : Inst) (is : List Inst) → rest_of m fr ≡ i ∷ is → (next : World → Fibers (List (Frame Poisoned)) World)
        → ((u : World) → ChecksOver u → HalfLeads ran (Some f) (Goes f w rest) (More (next u)))
        → HalfLeads ran (Some f) (Goes f w rest)
        (goes_on (shadow_going (checked (fr ∷ below) (check_uses (setting_of m setup) (here (setting_of m setup) m fr).site (operands i.op) (read_all (read_poisoned (setting_of m setup) fr.values) (operands i.op) (here (setting_of m setup) m fr).root)
        (uses (func_index m.funcs) (here (setting_of m setup) m fr).main i.op) w))) (λ g. More (next g.shared)))
    checks_over fr below innermost i is next_is next onward =
        let at = here (setting_of m setup) m fr in
        let ps = read_all (read_poisoned (setting_of m setup) fr.values) (operands i.op) at.root in
        let us = uses (func_index m.funcs) at.main i.op in
        let e = check_uses (setting_of m setup) at.site (operands i.op) ps us w in
        let frames : FramesHold (BackTo ran w.pairs) (fr ∷ below) = subst (FramesHold (BackTo ran w.pairs)) innermost leads.frames in
        by_effect e
        (told_checked m formed valid bare setup d keep (shadow_state f w) (Runs ran) (Reached ran) fr below innermost (subst (GoodFrames PoisonedBelow m) innermost good.0.0.frames) i is next_is leads good.1.world.shadow frames.0 frames.1)
        (checks_keep (setting_of m setup) at.site (operands i.op) ps us w).kept
      where
        by_effect : (e : Effect) → Checked (Runs ran) (Reached ran) (ToldNow m (shadow_state f w) (Reached ran)) (setting_of m setup) (λ k h. inl h) w e → fibers_of (effect_world e) ≡ fibers_of w
            → HalfLeads ran (Some f) (Goes f w rest) (goes_on (shadow_going (checked (fr ∷ below) e)) (λ g. More (next g.shared)))
        by_effect (Does u) c k = onward u (record { same = c.0; answers = fibers_same w u k; backed = c.2 })
        by_effect (Ends x u) c k = ends_lead ran (Reached ran) (ToldBy ran (Some f) w) (Goes f w rest) w u c.0 (fibers_same w u k) h (told_so ran f w u c.2)
        by_effect (Gives v u) c k = absurd c
        by_effect (Jumps to u) c k = absurd c
        by_effect (Enters n u) c k = absurd c
        by_effect (Leaves u) c k = absurd c

    -- nothing is due
    nothing_due : HalfLeads ran (Some f) (Goes f w rest) (Stop stuck w)
    nothing_due = ends_lead ran (Reached ran) (ToldBy ran (Some f) w) (Goes f w rest) w w refl (refl, refl) h (told_so ran f w w (telling ran f w w h.world))

    -- it stands at a call
    stands_after : (u : World) → ChecksOver u → HalfLeads ran (Some f) (Goes f w rest) (More (Waits u (record rest { stands = standing u.turn (Some f) rest.stands })))
    stands_after u over = record {
      fibers = λ gs has. frames_weaker (BackTo ran w.pairs) (BackTo (Fresh f w next ∷ ran) u.pairs) carried gs (h.fibers gs (by_number gs has.0 (eqb has.0 u.turn) has.1));
      world = backed_weaker (Runs ran) (Reached ran) (ToldNow m (shadow_state f w) (Reached ran)) (Runs (Fresh f w next ∷ ran)) (Reached (Fresh f w next ∷ ran)) (Reached (Fresh f w next ∷ ran))
          (λ k e. ran_later ran f w next k (inr e)) (old_later ran f w next) (told_later ran f w next) (count_roots m) u over.backed;
      answers = answers_back ran (Fresh f w next ∷ ran) w u over.answers carried h.answers;
    }
      where
        next : Fibers (List (Frame Poisoned)) World
        next = Waits u (record rest { stands = standing u.turn (Some f) rest.stands })

        carried : (id : ℕ) → BackTo ran w.pairs id → BackTo (Fresh f w (Waits u (record rest { stands = standing u.turn (Some f) rest.stands })) ∷ ran) u.pairs id
        carried id b = back_later ran f w (Waits u (record rest { stands = standing u.turn (Some f) rest.stands })) u.pairs id (subst (λ ps. BackTo ran ps id) (sym over.same) b)

        by_number : (gs : List (Frame Poisoned)) (k : ℕ) (b : Bool) → (if b then Some f else rest.stands k) ≡ Some gs → (f ≡ gs) ⊎ ((j : ℕ) × (rest.stands j ≡ Some gs))
        by_number gs k true e = inl (same_Some f gs e)
        by_number gs k false e = inr (k, e)

    -- it ends, with the word that its first function returns
    ends_after : (fr : Frame Poisoned) (below : List (Frame Poisoned)) → f ≡ fr ∷ below → (i : Inst) (is : List Inst) → rest_of m fr ≡ i ∷ is → (u : World) → ChecksOver u
        → HalfLeads ran (Some f) (Goes f w rest) (More (Waits (ended means (fr ∷ below) u) rest))
    ends_after fr below innermost i is next_is u over = record {
      fibers = λ gs has. frames_weaker (BackTo ran w.pairs) (BackTo (Fresh f w next ∷ ran) (ended means (fr ∷ below) u).pairs) carried gs (h.fibers gs (inr has));
      world = given_back_backed (Runs (Fresh f w next ∷ ran)) (Reached (Fresh f w next ∷ ran)) (Reached (Fresh f w next ∷ ran)) (count_roots m) fr u
          (backed_weaker (Runs ran) (Reached ran) (ToldNow m (shadow_state f w) (Reached ran)) (Runs (Fresh f w next ∷ ran)) (Reached (Fresh f w next ∷ ran)) (Reached (Fresh f w next ∷ ran))
          (λ k e. ran_later ran f w next k (inr e)) (old_later ran f w next) (told_later ran f w next) (count_roots m) u over.backed);
      answers = λ k. by_turn k (eqb k (given_back fr u).turn);
    }
      where
        next : Fibers (List (Frame Poisoned)) World
        next = Waits (ended means (fr ∷ below) u) rest

        p : Poisoned
        p = shadow_answer (setting_of m setup) m (fr ∷ below) u

        pairs_same : (given_back fr u).pairs ≡ w.pairs
        pairs_same = given_back_pairs fr u ∙ over.same

        carried : (id : ℕ) → BackTo ran w.pairs id → BackTo (Fresh f w (Waits (ended means (fr ∷ below) u) rest) ∷ ran) (given_back fr u).pairs id
        carried id b = back_later ran f w (Waits (ended means (fr ∷ below) u) rest) (given_back fr u).pairs id (subst (λ ps. BackTo ran ps id) (sym pairs_same) b)

        good_top : GoodFrames PoisonedBelow m (fr ∷ below)
        good_top = subst (GoodFrames PoisonedBelow m) innermost good.0.0.frames

        frames : FramesHold (BackTo ran w.pairs) (fr ∷ below)
        frames = subst (FramesHold (BackTo ran w.pairs)) innermost leads.frames

        -- the word that is returned
        answer : WordHolds (BackTo (Fresh f w (Waits (ended means (fr ∷ below) u) rest) ∷ ran) (given_back fr u).pairs) (shadow_answer (setting_of m setup) m (fr ∷ below) u)
        answer =
            subst (λ o. WordHolds (BackTo (Fresh f w (Waits (ended means (fr ∷ below) u) rest) ∷ ran) (given_back fr u).pairs) (get_or (words_due shadow_reading (setting_of m setup) m fr o) 0 clean))
            (sym (ap due_inst next_is ∙ due_head i is (unmarked fr i is next_is)))
            (first_holds (BackTo (Fresh f w (Waits (ended means (fr ∷ below) u) rest) ∷ ran) (given_back fr u).pairs) _
            (λ k ne. now_back ran f w (Waits (ended means (fr ∷ below) u) rest) (given_back fr u).pairs _
            (now_words m formed valid bare setup d keep (shadow_state f w) (Runs ran) (Reached ran) fr below innermost good_top i is next_is leads good.1.world.shadow frames.0 frames.1 (given_back fr u).pairs
            (now_frames m formed valid bare setup d keep (shadow_state f w) (Runs ran) (Reached ran) fr below innermost good_top i is next_is leads good.1.world.shadow frames.0 frames.1 (given_back fr u).pairs pairs_same) k ne)))

        back_same : SameAnswers w (given_back fr u)
        back_same = answers_kept w u (given_back fr u) (back_keeps fr u) over.answers

        by_mask : (b : Bool) → eqb p.mask 0 ≡ b → ¬ (p.mask ≡ 0) → BackTo (Fresh f w (Waits (ended means (fr ∷ below) u) rest) ∷ ran) (given_back fr u).pairs (if b then 0 else (shadow_answer (setting_of m setup) m (fr ∷ below) u).origin)
        by_mask true e ne = absurd (ne (eqb-true p.mask 0 e))
        by_mask false e ne = answer ne

        by_turn : (k : ℕ) (b : Bool) → ¬ ((if b then (shadow_answer (setting_of m setup) m (fr ∷ below) u).mask else (given_back fr u).answer_masks k) ≡ 0)
            → BackTo (Fresh f w (Waits (ended means (fr ∷ below) u) rest) ∷ ran) (given_back fr u).pairs
            (if b then (if eqb (shadow_answer (setting_of m setup) m (fr ∷ below) u).mask 0 then 0 else (shadow_answer (setting_of m setup) m (fr ∷ below) u).origin) else (given_back fr u).answer_origins k)
        by_turn k true ne = by_mask (eqb p.mask 0) refl ne
        by_turn k false ne = answers_back ran (Fresh f w (Waits (ended means (fr ∷ below) u) rest) ∷ ran) w (given_back fr u) back_same carried h.answers k ne

    -- ---- half a step of it

    own_half : frames_due (setting_of m setup) m f ≡ Own → HalfLeads ran (Some f) (Goes f w rest) (moved means f w rest Own)
    own_half due =
        by_moved (shadow_frames d (setting_of m setup) m f w)
        (frames_lead m formed valid bare setup d keep (shadow_state f w) (Runs ran) (Reached ran) f refl good.0.0.frames leads good.1.world.shadow leads.frames (calm_top f due))
        (own_moved d (setting_of m setup) m unmarked f w due)
      where
        calm_first : (fr : Frame Poisoned) (below : List (Frame Poisoned)) (l : List Inst) → rest_of m fr ≡ l
            → due_at (func_index m.funcs) (here (setting_of m setup) m fr).main (eqb (length below) 0) (due_inst l) ≡ Own → CalmFirst m formed valid bare setup d keep (shadow_state f w) (Runs ran) (Reached ran) l
        calm_first fr below [] e q = tt
        calm_first fr below (i ∷ is) e q =
            let main = (here (setting_of m setup) m fr).main in
            calm_due (func_index m.funcs) main (eqb (length below) 0) i.op (ap (due_at (func_index m.funcs) main (eqb (length below) 0)) (sym (due_head i is (unmarked fr i is e))) ∙ q)

        calm_top : (fs : List (Frame Poisoned)) → frames_due (setting_of m setup) m fs ≡ Own → CalmTop m formed valid bare setup d keep (shadow_state f w) (Runs ran) (Reached ran) fs
        calm_top [] q = tt
        calm_top (fr ∷ below) q = calm_first fr below (rest_of m fr) refl q

        by_moved : (o : Outcome Poisoned) → MovedLeads m (shadow_state f w) (Runs ran) (Reached ran) o → MovedTo (λ u. fibers_of u ≡ fibers_of w) o
            → HalfLeads ran (Some f) (Goes f w rest) (goes_on (shadow_going (shadow_moved o)) (λ g. More (Goes g.fiber g.shared rest)))
        by_moved (On fs u) k same = own_after fs u k (fibers_same w u same)
        by_moved (Over e u) k same = ends_lead ran (Reached ran) (ToldBy ran (Some f) w) (Goes f w rest) w u k.0 (fibers_same w u same) h (told_so ran f w u k.1)

    asks_half : HalfLeads ran (Some f) (Goes f w rest) (moved means f w rest Asks)
    asks_half = by_frames f refl
      where
        by_list : (fr : Frame Poisoned) (below : List (Frame Poisoned)) → f ≡ fr ∷ below → (l : List Inst) → rest_of m fr ≡ l
            → HalfLeads ran (Some f) (Goes f w rest) (goes_on (shadow_going (reach_first (setting_of m setup) m l fr below w)) (λ g. More (Waits g.shared (record rest { stands = standing g.shared.turn (Some g.fiber) rest.stands }))))
        by_list fr below e [] r = nothing_due
        by_list fr below e (i ∷ is) r =
            same_fiber (checked_of fr i)
            (checks_over fr below e i is r (λ u. Waits u (record rest { stands = standing u.turn (Some f) rest.stands })) stands_after)
          where
            checked_of : Frame Poisoned → Inst → Effect
            checked_of fr i = check_uses (setting_of m setup) (here (setting_of m setup) m fr).site (operands i.op) (read_all (read_poisoned (setting_of m setup) fr.values) (operands i.op) (here (setting_of m setup) m fr).root)
                (uses (func_index m.funcs) (here (setting_of m setup) m fr).main i.op) w

            same_fiber : (x : Effect)
                → HalfLeads ran (Some f) (Goes f w rest) (goes_on (shadow_going (checked (fr ∷ below) x)) (λ g. More (Waits g.shared (record rest { stands = standing g.shared.turn (Some f) rest.stands }))))
                → HalfLeads ran (Some f) (Goes f w rest) (goes_on (shadow_going (checked (fr ∷ below) x)) (λ g. More (Waits g.shared (record rest { stands = standing g.shared.turn (Some g.fiber) rest.stands }))))
            same_fiber (Does u) k = subst (λ gs. HalfLeads ran (Some f) (Goes f w rest) (More (Waits u (record rest { stands = standing u.turn (Some gs) rest.stands })))) e k
            same_fiber (Ends x u) k = k
            same_fiber (Gives v u) k = k
            same_fiber (Jumps to u) k = k
            same_fiber (Enters n u) k = k
            same_fiber (Leaves u) k = k

        by_frames : (fs : List (Frame Poisoned)) → f ≡ fs
            → HalfLeads ran (Some f) (Goes f w rest) (goes_on (shadow_going (shadow_reach (setting_of m setup) m fs w)) (λ g. More (Waits g.shared (record rest { stands = standing g.shared.turn (Some g.fiber) rest.stands }))))
        by_frames [] e = nothing_due
        by_frames (fr ∷ below) e = by_list fr below e (rest_of m fr) refl

    returns_half : HalfLeads ran (Some f) (Goes f w rest) (moved means f w rest Returns)
    returns_half = by_frames f refl
      where
        by_list : (fr : Frame Poisoned) (below : List (Frame Poisoned)) → f ≡ fr ∷ below → (l : List Inst) → rest_of m fr ≡ l
            → HalfLeads ran (Some f) (Goes f w rest) (goes_on (shadow_going (reach_first (setting_of m setup) m l fr below w)) (λ g. More (Waits (ended means g.fiber g.shared) rest)))
        by_list fr below e [] r = nothing_due
        by_list fr below e (i ∷ is) r =
            same_fiber (check_uses (setting_of m setup) (here (setting_of m setup) m fr).site (operands i.op) (read_all (read_poisoned (setting_of m setup) fr.values) (operands i.op) (here (setting_of m setup) m fr).root)
            (uses (func_index m.funcs) (here (setting_of m setup) m fr).main i.op) w)
            (checks_over fr below e i is r (λ u. Waits (ended means (fr ∷ below) u) rest) (ends_after fr below e i is r))
          where
            same_fiber : (x : Effect)
                → HalfLeads ran (Some f) (Goes f w rest) (goes_on (shadow_going (checked (fr ∷ below) x)) (λ g. More (Waits (ended means (fr ∷ below) g.shared) rest)))
                → HalfLeads ran (Some f) (Goes f w rest) (goes_on (shadow_going (checked (fr ∷ below) x)) (λ g. More (Waits (ended means g.fiber g.shared) rest)))
            same_fiber (Does u) k = k
            same_fiber (Ends x u) k = k
            same_fiber (Gives v u) k = k
            same_fiber (Jumps to u) k = k
            same_fiber (Enters n u) k = k
            same_fiber (Leaves u) k = k

        by_frames : (fs : List (Frame Poisoned)) → f ≡ fs
            → HalfLeads ran (Some f) (Goes f w rest) (goes_on (shadow_going (shadow_reach (setting_of m setup) m fs w)) (λ g. More (Waits (ended means g.fiber g.shared) rest)))
        by_frames [] e = nothing_due
        by_frames (fr ∷ below) e = by_list fr below e (rest_of m fr) refl

    pub goes_half : (u : Duty) → frames_due (setting_of m setup) m f ≡ u → HalfLeads ran (Some f) (Goes f w rest) (moved means f w rest u)
    goes_half Own e = own_half e
    goes_half Asks e = asks_half
    goes_half Returns e = returns_half

  -- ---- a pick

  module _ (ran : List Ran) (w : World) (rest : Others (List (Frame Poisoned))) (good : GoodState (Waits w rest)) (h : AllLead ran (Reached ran) (Waits w rest) w) (k : ℕ) where
    -- the others, without the one that is picked
    abbrev others : Others (List (Frame Poisoned))
    others = record { stands = standing k None rest.stands; picks = rest.picks + 1 }

    still : (gs : List (Frame Poisoned)) → (j : ℕ) × (standing k None rest.stands j ≡ Some gs) → (j : ℕ) × (rest.stands j ≡ Some gs)
    still gs has = by_number has.0 (eqb has.0 k) has.1
      where
        by_number : (j : ℕ) (b : Bool) → (if b then None else rest.stands j) ≡ Some gs → (j : ℕ) × (rest.stands j ≡ Some gs)
        by_number j true e = absurd (grind arith)
        by_number j false e = (j, e)

    -- a fiber begins
    begins_half : (func argument : ℕ) → HalfLeads ran None (Waits w rest) (More (Goes (entered shadow_reading m func (argument_word argument ∷ []) (turned k w) ∷ []) (turned k w) others))
    begins_half func argument = record {
      fibers = by_fiber;
      world = h.world;
      answers = h.answers;
    }
      where
        by_fiber : (gs : List (Frame Poisoned)) → HasFiber (Goes (entered shadow_reading m func (argument_word argument ∷ []) (turned k w) ∷ []) (turned k w) others) gs → FramesHold (BackTo ran w.pairs) gs
        by_fiber gs (inl e) =
            subst (FramesHold (BackTo ran w.pairs)) e (bind_holds (BackTo ran w.pairs) (params_at m func) (argument_word argument ∷ []) word_holds, tt)
          where
            word_holds : (j : ℕ) → WordHolds (BackTo ran w.pairs) (word_at j (argument_word argument ∷ []))
            word_holds zero ne = absurd (ne refl)
            word_holds (suc j) ne = absurd (ne refl)
        by_fiber gs (inr e) = h.fibers gs (still gs e)

    -- or does its call
    module _ (f : Frame Poisoned) (below : List (Frame Poisoned)) (stands : rest.stands k ≡ Some (f ∷ below)) where
      sound : GoodFrames PoisonedBelow m (f ∷ below)
      sound = (good.1 k (f ∷ below) stands).0.sound.frames

      -- its frames before the call
      frames : FramesHold (BackTo ran w.pairs) (f ∷ below)
      frames = h.fibers (f ∷ below) (k, stands)

      call_after : (fs : List (Frame Poisoned)) (u : World) → MovedLeads m (shadow_state (f ∷ below) w) (Runs ran) (Reached ran) (On fs u) → SameAnswers w u → HalfLeads ran (Some (f ∷ below)) (Waits w rest) (More (Goes fs u others))
      call_after fs u moves same = record {
        fibers = by_fiber;
        world = backed_weaker (RunsNow m (shadow_state (f ∷ below) w) (Runs ran)) (ReachesNow m (shadow_state (f ∷ below) w) (Reached ran)) (ToldNow m (shadow_state (f ∷ below) w) (Reached ran))
            (Runs (Fresh (f ∷ below) w (Goes fs u others) ∷ ran)) (Reached (Fresh (f ∷ below) w (Goes fs u others) ∷ ran)) (Reached (Fresh (f ∷ below) w (Goes fs u others) ∷ ran))
            (ran_later ran (f ∷ below) w (Goes fs u others)) (now_later ran (f ∷ below) w (Goes fs u others)) (told_later ran (f ∷ below) w (Goes fs u others)) (count_roots m) u moves.1;
        answers = answers_back ran (Fresh (f ∷ below) w (Goes fs u others) ∷ ran) w u same (λ id b. next_back ran (f ∷ below) w (Goes fs u others) u.pairs id (moves.2 id b)) h.answers;
      }
        where
          by_fiber : (gs : List (Frame Poisoned)) → HasFiber (Goes fs u others) gs → FramesHold (BackTo (Fresh (f ∷ below) w (Goes fs u others) ∷ ran) u.pairs) gs
          by_fiber gs (inl e) =
              subst (FramesHold (BackTo (Fresh (f ∷ below) w (Goes fs u others) ∷ ran) u.pairs)) e
              (frames_weaker (Back (RunsNow m (shadow_state (f ∷ below) w) (Runs ran)) (ReachesNext m (shadow_state (f ∷ below) w) (Reached ran) fs u) (count_roots m) u.pairs)
              (BackTo (Fresh (f ∷ below) w (Goes fs u others) ∷ ran) u.pairs) (next_back ran (f ∷ below) w (Goes fs u others) u.pairs) fs moves.0)
          by_fiber gs (inr e) =
              frames_weaker (BackTo ran w.pairs) (BackTo (Fresh (f ∷ below) w (Goes fs u others) ∷ ran) u.pairs) (λ id b. next_back ran (f ∷ below) w (Goes fs u others) u.pairs id (moves.2 id b)) gs (h.fibers gs (still gs e))

      -- the world in which it does it
      abbrev counts : Inst → World
      counts i = count_blind (union (map (λ p. p.mask) (blinded (func_index m.funcs) i.op (read_all (read_poisoned (setting_of m setup) f.values) (operands i.op) (here (setting_of m setup) m f).root)))) (turned k w)

      module _ (i : Inst) (is : List Inst) (next_is : rest_of m f ≡ i ∷ is) (call : ThreadCall (func_index m.funcs) i.op) where
        abbrev mask : ℕ
        mask = union (map (λ p. p.mask) (blinded (func_index m.funcs) i.op (read_all (read_poisoned (setting_of m setup) f.values) (operands i.op) (here (setting_of m setup) m f).root)))

        counted_same : Same (Runs ran) (Reached ran) (ToldNow m (shadow_state (f ∷ below) w) (Reached ran)) (setting_of m setup) (λ j e. inl e) w (counts i)
        counted_same = counted (Runs ran) (Reached ran) (ToldNow m (shadow_state (f ∷ below) w) (Reached ran)) (setting_of m setup) (λ j e. inl e) mask (turned k w) (telling ran (f ∷ below) w w h.world)

        counted_answers : SameAnswers w (counts i)
        counted_answers = answers_kept w (turned k w) (counts i) (runtime_keeps (setting_of m setup) runtime.Blind (mask ∷ []) (turned k w)).kept (refl, refl)

        leads_there : Leads m (shadow_state (f ∷ below) w) (Runs ran) (Reached ran) (ToldNow m (shadow_state (f ∷ below) w) (Reached ran))
        leads_there = record { frames = frames; world = telling ran (f ∷ below) w w h.world }

        call_moves : MovedLeads m (shadow_state (f ∷ below) w) (Runs ran) (Reached ran)
            (shadow_act d (setting_of m setup) m i (here (setting_of m setup) m f) (read_all (read_poisoned (setting_of m setup) f.values) (operands i.op) (here (setting_of m setup) m f).root) f below (counts i))
        call_moves =
            let fs = now_frames m formed valid bare setup d keep (shadow_state (f ∷ below) w) (Runs ran) (Reached ran) f below refl sound i is next_is leads_there good.0.world.shadow frames.0 frames.1 (counts i).pairs counted_same.0 in
            acts_lead m formed valid bare setup d keep (shadow_state (f ∷ below) w) (Runs ran) (Reached ran) f below refl sound i is next_is (counts i) counted_same.0 counted_same.2 fs.0 fs.1
            (now_words m formed valid bare setup d keep (shadow_state (f ∷ below) w) (Runs ran) (Reached ran) f below refl sound i is next_is leads_there good.0.world.shadow frames.0 frames.1 (counts i).pairs fs)
            (λ x. subst (λ (g : ℕ → ℕ). g x < 256) (sym counted_same.1) (good.0.world.shadow x))
            (inr (λ j ne. answers_now j ne))
          where
            answers_now : (j : ℕ) → ¬ ((counts i).answer_masks j ≡ 0)
                → Back (RunsNow m (shadow_state (f ∷ below) w) (Runs ran)) (ReachesNow m (shadow_state (f ∷ below) w) (Reached ran)) (count_roots m) (counts i).pairs ((counts i).answer_origins j)
            answers_now j ne =
                back_weaker (Runs ran) (Reached ran) (RunsNow m (shadow_state (f ∷ below) w) (Runs ran)) (ReachesNow m (shadow_state (f ∷ below) w) (Reached ran)) (λ n e. inr e) (λ n e. inr e)
                (trail_within (length (counts i).pairs + 1) (count_roots m) (counts i).pairs ((counts i).answer_origins j))
                (answers_back ran ran w (counts i) counted_answers (λ id b. subst (λ ps. BackTo ran ps id) (sym counted_same.0) b) h.answers j ne)

        call_same : MovedTo (SameAnswers w) (shadow_act d (setting_of m setup) m i (here (setting_of m setup) m f) (read_all (read_poisoned (setting_of m setup) f.values) (operands i.op) (here (setting_of m setup) m f).root) f below (counts i))
        call_same =
            let at = here (setting_of m setup) m f in
            let ps = read_all (read_poisoned (setting_of m setup) f.values) (operands i.op) at.root in
            let root = at.root + count_undefs (operands i.op) + 1 in
            let e = act (setting_of m setup) at i.op (map (λ p. p.value) ps) (counts i) in
            moves_to shadow_reading (setting_of m setup) m (SameAnswers w) (λ fr u q. answers_kept w u (given_back fr u) (back_keeps fr u) q) at.site i.result ps (poisoned_result d i.op ps) (planes (setting_of m setup) at.site root i.op ps (counts i))
            (λ v u q. answers_kept w u (planes (setting_of m setup) at.site root i.op ps (counts i) v u) (planes_keep (setting_of m setup) at.site root i.op ps (counts i) v u) q) (keeping i.op e f) below e
            (call_answers (setting_of m setup) at i.op (map (λ p. p.value) ps) w (counts i) call counted_answers)

      call_half : HalfLeads ran (Some (f ∷ below)) (Waits w rest) (goes_on (shadow_going (shadow_perform d (setting_of m setup) m (f ∷ below) (turned k w))) (λ g. More (Goes g.fiber g.shared others)))
      call_half = by_list (rest_of m f) refl (good.1 k (f ∷ below) stands).0.asks
        where
          by_outcome : (o : Outcome Poisoned) → MovedLeads m (shadow_state (f ∷ below) w) (Runs ran) (Reached ran) o → MovedTo (SameAnswers w) o
              → HalfLeads ran (Some (f ∷ below)) (Waits w rest) (goes_on (shadow_going (shadow_moved o)) (λ g. More (Goes g.fiber g.shared others)))
          by_outcome (On fs u) moves same = call_after fs u moves same
          by_outcome (Over e u) moves same = ends_lead ran (Reached ran) (ToldBy ran (Some (f ∷ below)) w) (Waits w rest) w u moves.0 same h (told_so ran (f ∷ below) w u moves.1)

          by_list : (l : List Inst) → rest_of m f ≡ l → due_at (func_index m.funcs) (here (setting_of m setup) m f).main (eqb (length below) 0) (due_inst l) ≡ Asks
              → HalfLeads ran (Some (f ∷ below)) (Waits w rest) (goes_on (shadow_going (perform_first d (setting_of m setup) m l f below (turned k w))) (λ g. More (Goes g.fiber g.shared others)))
          by_list [] r asks = absurd (grind arith)
          by_list (i ∷ is) r asks =
              let main = (here (setting_of m setup) m f).main in
              let call = asks_call (func_index m.funcs) main (eqb (length below) 0) i.op (ap (due_at (func_index m.funcs) main (eqb (length below) 0)) (sym (due_head i is (unmarked f i is r))) ∙ asks) in
              by_outcome (shadow_act d (setting_of m setup) m i (here (setting_of m setup) m f) (read_all (read_poisoned (setting_of m setup) f.values) (operands i.op) (here (setting_of m setup) m f).root) f below (counts i))
              (call_moves i is r call) (call_same i is r call)

    turn_half : (o : Option (List (Frame Poisoned))) (t : Option Thread) → rest.stands k ≡ o → HalfLeads ran o (Waits w rest) (turn_begun means (turned k w) others o t)
    turn_half (Some []) t e = absurd (good.1 k [] e).0.sound.frames
    turn_half (Some (f ∷ below)) t e = call_half f below e
    turn_half None (Some t) e = begins_half t.func t.argument
    turn_half None None e = ends_lead ran (Reached ran) (ToldBy ran None w) (Waits w rest) w (turned k w) refl (refl, refl) h (reached_so ran None w w h.world)

  -- the frames that go on from a pick
  abbrev pub picked_from : List ℕ → Others (List (Frame Poisoned)) → List ℕ → Option (List (Frame Poisoned))
  picked_from schedule rest [] = None
  picked_from schedule rest (k ∷ ks) = rest.stands (get_or (k ∷ ks) (get_or schedule (rest.picks % length schedule) 0 % length (k ∷ ks)) k)

  pub pick_half : (ran : List Ran) (schedule : List ℕ) (w : World) (rest : Others (List (Frame Poisoned))) → GoodState (Waits w rest) → AllLead ran (Reached ran) (Waits w rest) w → (l : List ℕ)
      → HalfLeads ran (picked_from schedule rest l) (Waits w rest) (pick_of means schedule w rest l)
  pick_half ran schedule w rest good h [] = ends_lead ran (Reached ran) (ToldBy ran None w) (Waits w rest) w w refl (refl, refl) h (reached_so ran None w w h.world)
  pick_half ran schedule w rest good h (k ∷ ks) =
      let n = get_or (k ∷ ks) (get_or schedule (rest.picks % length schedule) 0 % length (k ∷ ks)) k in
      turn_half ran w rest good h n (rest.stands n) (thread_at n w.threads) refl
