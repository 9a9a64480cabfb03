-- What each half of a step of fibers keeps of all fibers is kept by every run of them.
use Rattle.std.proofs.Common.{◌≡◌, ◌⊎◌, inl, inr, ℕ, zero, suc, ◌+◌, ◌%◌, Bool, true, false, List, [], ◌∷◌, length, eqb, Option, Some, None, is_some, if◌then◌else◌, refl, sym, ap, ◌∙◌, subst, arith, true≢false}
use Rattle.std.specs.Prelude.{not, filter, get_or}
use Rattle.std.proofs.lemmas.Bool.{and_parts, eqb-true}
use Rattle.std.proofs.lemmas.Option.{same_Some}
use Rattle.ms_bits.specs.declared.traps.Trap.TheVariants as trap
use Rattle.ms_runs.specs.declared.runs.End.{End}
use Rattle.ms_runs.specs.declared.runs.End.TheVariants as «end»
use Rattle.ms_runs.specs.World.{World, Thread}
use Rattle.ms_runs.specs.Plain.{Stepped, More, Stop, steps, and_then}
use Rattle.ms_runs.specs.Threads.{thread_at, has_ended}
use Rattle.ms_runs_threads.specs.Fibers.{Due, Own, Asks, Returns, Going, Meaning, Others, Fibers, Goes, Waits, may_go, is_runnable, numbers_from, runnable, standing, turned, goes_on, with_world, ended, moved, site_at, fibers_step}
use Rattle.ms_threads_runs_laws.specs.Halves.{turn_begun, turn_of, pick_of, half_step, whole_step}
use Rattle.ms_threads_runs_laws.specs.ThreadStates.{OthersHold, FibersHold}
use Rattle.ms_threads_runs_laws.proofs.Halves.{halves}

-- ---- which fiber is picked

first_so : (test : ℕ → Bool) (xs : List ℕ) (k : ℕ) (ks : List ℕ) → filter test xs ≡ k ∷ ks → test k ≡ true
first_so test [] k ks e = absurd (grind arith)
first_so test (x ∷ xs) k ks e = by_test (λ f. first_so test xs k ks f) (test x) refl e
  where
    by_test : (filter test xs ≡ k ∷ ks → test k ≡ true) → (b : Bool) → test x ≡ b → (if b then x ∷ filter test xs else filter test xs) ≡ k ∷ ks → test k ≡ true
    by_test later true so f = subst (λ n. test n ≡ true) (ap (λ l. get_or l 0 k) f) so
    by_test later false so f = later f

each_so : (test : ℕ → Bool) (xs : List ℕ) (i d : ℕ) → test d ≡ true → test (get_or (filter test xs) i d) ≡ true
each_so test [] zero d h = h
each_so test [] (suc i) d h = h
each_so test (x ∷ xs) i d h = by_test (λ j. each_so test xs j d h) (test x) refl i
  where
    by_test : ((j : ℕ) → test (get_or (filter test xs) j d) ≡ true) → (b : Bool) → test x ≡ b → (i : ℕ) → test (get_or (if b then x ∷ filter test xs else filter test xs) i d) ≡ true
    by_test later true so zero = so
    by_test later true so (suc i) = later i
    by_test later false so i = later i

-- a number that is taken from a list of those of a kind is one
pub taken_so : (test : ℕ → Bool) (xs : List ℕ) (k : ℕ) (ks : List ℕ) → filter test xs ≡ k ∷ ks → (i : ℕ) → test (get_or (k ∷ ks) i k) ≡ true
taken_so test xs k ks e i = subst (λ l. test (get_or l i k) ≡ true) e (each_so test xs i k (first_so test xs k ks e))

-- ---- what is kept

module _ {F S : Type 0} (means : Meaning F S) where
  -- what is said of a fiber that goes on with a number, of one that stands, of what is shared, and of an end
  pub record Predicates : Type 1 where
    pub Fiber : ℕ → F → Type 0
    pub Stands : ℕ → F → Type 0
    pub In : S → Type 0
    pub Ends : End → World → Type 0

  module _ (p : Predicates) where
    abbrev pub Leading : (Going F S → Type 0) → Stepped (Going F S) → Type 0
    Leading next (More g) = next g
    Leading next (Stop e w) = p.Ends e w

    -- the same fiber goes on
    abbrev pub GoesOn : S → Going F S → Type 0
    GoesOn s g = ((means.world g.shared).turn ≡ (means.world s).turn) × p.Fiber (means.world s).turn g.fiber × p.In g.shared

    -- the same fiber stands
    abbrev pub StandsOn : S → Going F S → Type 0
    StandsOn s g = ((means.world g.shared).turn ≡ (means.world s).turn) × p.Stands (means.world s).turn g.fiber × p.In g.shared

    -- what the steps of one fiber keep
    pub record Keeps : Type 0 where
      pub step : (f : F) (s : S) → p.Fiber (means.world s).turn f → p.In s → means.due f ≡ Own → Leading (GoesOn s) (means.step f s)
      pub reach : (f : F) (s : S) → p.Fiber (means.world s).turn f → p.In s → means.due f ≡ Asks → Leading (StandsOn s) (means.reach f s)
      pub returns : (f : F) (s : S) → p.Fiber (means.world s).turn f → p.In s → means.due f ≡ Returns
          → ((means.world s).turn ≡ 0 → ⊥) × Leading (λ g. p.In (ended means g.fiber g.shared)) (means.reach f s)
      pub perform : (f : F) (s : S) → p.Stands (means.world s).turn f → p.In s → Leading (GoesOn s) (means.perform f s)
      pub begun : (s : S) (k : ℕ) (t : Thread) → p.In s → (means.world s).turn ≡ k → thread_at k (means.world s).threads ≡ Some t
          → ((means.world (means.begun t.func t.argument s).shared).turn ≡ k) × p.Fiber k (means.begun t.func t.argument s).fiber × p.In (means.begun t.func t.argument s).shared
      pub turned : (s : S) (k : ℕ) → p.In s
          → p.In (with_world means (turned k) s) × ((means.world (with_world means (turned k) s)).turn ≡ k) × ((means.world (with_world means (turned k) s)).threads ≡ (means.world s).threads)
      pub deadlock : (f : F) (s : S) → p.Stands 0 f → p.In s → p.Ends («end».Trap trap.Deadlock (means.site f)) (means.world s)

    abbrev pub Holds : Fibers F S → Type 0
    Holds c = FibersHold p.Fiber p.Stands p.In means.world c

    abbrev pub Stepping : Stepped (Fibers F S) → Type 0
    Stepping (More c) = Holds c
    Stepping (Stop e w) = p.Ends e w

    module _ (keeps : Keeps) where
      abbrev Main : S → Others F → Type 0
      Main s rest = ((means.world s).turn ≡ 0) ⊎ (is_some (rest.stands 0) ≡ true)

      abbrev All : Others F → Type 0
      All rest = OthersHold {F = F} {S = S} p.Fiber p.Stands p.In means.world rest

      -- ---- the fiber that goes on

      all_stand : (n : ℕ) (f : F) (rest : Others F) → p.Stands n f → All rest → (k : ℕ) (g : F) → standing n (Some f) rest.stands k ≡ Some g → p.Stands k g
      all_stand n f rest h others k g e = by_test (eqb k n) refl e
        where
          by_test : (b : Bool) → eqb k n ≡ b → (if b then Some f else rest.stands k) ≡ Some g → p.Stands k g
          by_test true is q = subst (λ x. p.Stands k x) (same_Some f g q) (subst (λ j. p.Stands j f) (sym (eqb-true k n is)) h)
          by_test false is q = others k g q

      main_stands : (s : S) (n : ℕ) (f : F) (rest : Others F) → n ≡ (means.world s).turn → Main s rest → is_some (standing n (Some f) rest.stands 0) ≡ true
      main_stands s n f rest same (inl e) = ap (λ j. is_some (if eqb 0 j then Some f else rest.stands 0)) (same ∙ e)
      main_stands s n f rest same (inr h) = by_test (eqb 0 n)
        where
          by_test : (b : Bool) → is_some (if b then Some f else rest.stands 0) ≡ true
          by_test true = refl
          by_test false = h

      moved_keeps : (u : Due) (f : F) (s : S) (rest : Others F) → means.due f ≡ u → p.Fiber (means.world s).turn f → p.In s → All rest → Main s rest → Stepping (moved means f s rest u)
      moved_keeps Own f s rest due fiber shared others main = by_step (means.step f s) (keeps.step f s fiber shared due)
        where
          by_main : (g : Going F S) → (means.world g.shared).turn ≡ (means.world s).turn → Main s rest → Main g.shared rest
          by_main g same (inl e) = inl (same ∙ e)
          by_main g same (inr h) = inr h

          by_step : (x : Stepped (Going F S)) → Leading (GoesOn s) x → Stepping (goes_on x (λ g. More (Goes g.fiber g.shared rest)))
          by_step (More g) h = (subst (λ n. p.Fiber n g.fiber) (sym h.0) h.1, h.2, others, by_main g h.0 main)
          by_step (Stop e w) h = h
      moved_keeps Asks f s rest due fiber shared others main = by_step (means.reach f s) (keeps.reach f s fiber shared due)
        where
          by_step : (x : Stepped (Going F S)) → Leading (StandsOn s) x
              → Stepping (goes_on x (λ g. More (Waits g.shared (record rest { stands = standing (means.world g.shared).turn (Some g.fiber) rest.stands }))))
          by_step (More g) h = (
            h.2,
            all_stand (means.world g.shared).turn g.fiber rest (subst (λ n. p.Stands n g.fiber) (sym h.0) h.1) others,
            main_stands s (means.world g.shared).turn g.fiber rest h.0 main,
          )
          by_step (Stop e w) h = h
      moved_keeps Returns f s rest due fiber shared others main =
          let r = keeps.returns f s fiber shared due in by_step (means.reach f s) r.1 (by_main r.0 main)
        where
          by_main : ((means.world s).turn ≡ 0 → ⊥) → Main s rest → is_some (rest.stands 0) ≡ true
          by_main never (inl e) = absurd (never e)
          by_main never (inr h) = h

          by_step : (x : Stepped (Going F S)) → Leading (λ g. p.In (ended means g.fiber g.shared)) x → is_some (rest.stands 0) ≡ true
              → Stepping (goes_on x (λ g. More (Waits (ended means g.fiber g.shared) rest)))
          by_step (More g) h m = (h, others, m)
          by_step (Stop e w) h m = h

      -- ---- a pick

      begun_keeps : (s : S) (rest : Others F) (k : ℕ) (f : Option F) (t : Option Thread) → (means.world s).turn ≡ k → p.In s → All rest → Main s rest
          → ((g : F) → f ≡ Some g → p.Stands k g) → thread_at k (means.world s).threads ≡ t → ((f ≡ None) → (t ≡ None) → ⊥) → Stepping (turn_begun means s rest f t)
      begun_keeps s rest k (Some f) t same shared others main stands at there = by_step (means.perform f s) (keeps.perform f s (subst (λ n. p.Stands n f) (sym same) (stands f refl)) shared)
        where
          by_main : (g : Going F S) → (means.world g.shared).turn ≡ (means.world s).turn → Main s rest → Main g.shared rest
          by_main g q (inl e) = inl (q ∙ e)
          by_main g q (inr h) = inr h

          by_step : (x : Stepped (Going F S)) → Leading (GoesOn s) x → Stepping (goes_on x (λ g. More (Goes g.fiber g.shared rest)))
          by_step (More g) h = (subst (λ n. p.Fiber n g.fiber) (sym h.0) h.1, h.2, others, by_main g h.0 main)
          by_step (Stop e w) h = h
      begun_keeps s rest k None (Some t) same shared others main stands at there =
          let h = keeps.begun s k t shared same at in
          let g = means.begun t.func t.argument s in
          (subst (λ n. p.Fiber n g.fiber) (sym h.0) h.1, h.2, others, by_main h.0 main)
        where
          by_main : (means.world (means.begun t.func t.argument s).shared).turn ≡ k → Main s rest → Main (means.begun t.func t.argument s).shared rest
          by_main q (inl e) = inl (q ∙ sym same ∙ e)
          by_main q (inr h) = inr h
      begun_keeps s rest k None None same shared others main stands at there = absurd (there refl refl)

      -- a fiber that is runnable stands, or was made
      is_there : (k : ℕ) (threads : List Thread) (stands : ℕ → Option F) → is_runnable means.joins threads stands k ≡ true → stands k ≡ None → thread_at k threads ≡ None → ⊥
      is_there k threads stands runs none missing =
          let go = (and_parts (not (has_ended (thread_at k threads))) (may_go means.joins k threads (stands k)) runs).1 in
          true≢false (sym go ∙ ap (may_go means.joins k threads) none ∙ ap is_some missing)

      turn_keeps : (s : S) (rest : Others F) (k : ℕ) → is_runnable means.joins (means.world s).threads rest.stands k ≡ true → p.In s → All rest → is_some (rest.stands 0) ≡ true → Stepping (turn_of means s rest k)
      turn_keeps s rest k runs shared others main =
          let t = keeps.turned s k shared in
          begun_keeps (with_world means (turned k) s) (record { stands = standing k None rest.stands; picks = rest.picks + 1 }) k (rest.stands k) (thread_at k (means.world s).threads) t.1 t.0
          others_stay (by_main (eqb 0 k) refl t.1) (λ g e. others k g e) (ap (thread_at k) t.2) (is_there k (means.world s).threads rest.stands runs)
        where
          others_stay : (j : ℕ) (g : F) → standing k None rest.stands j ≡ Some g → p.Stands j g
          others_stay j g e = by_test (eqb j k) e
            where
              by_test : (b : Bool) → (if b then None else rest.stands j) ≡ Some g → p.Stands j g
              by_test true q = absurd (grind arith)
              by_test false q = others j g q

          by_main : (b : Bool) → eqb 0 k ≡ b → (means.world (with_world means (turned k) s)).turn ≡ k
              → ((means.world (with_world means (turned k) s)).turn ≡ 0) ⊎ (is_some (if eqb 0 k then None else rest.stands 0) ≡ true)
          by_main true is same = inl (same ∙ sym (eqb-true 0 k is))
          by_main false is same = inr (ap (λ b. is_some (if b then None else rest.stands 0)) is ∙ main)

      ends_at : (s : S) (o : Option F) → p.In s → ((f : F) → o ≡ Some f → p.Stands 0 f) → is_some o ≡ true → p.Ends («end».Trap trap.Deadlock (site_at means o)) (means.world s)
      ends_at s (Some f) shared stands main = keeps.deadlock f s (stands f refl) shared
      ends_at s None shared stands main = absurd (true≢false (sym main))

      pick_keeps : (schedule : List ℕ) (s : S) (rest : Others F) (l : List ℕ) → runnable means.joins (means.world s).threads rest.stands ≡ l → p.In s → All rest → is_some (rest.stands 0) ≡ true
          → Stepping (pick_of means schedule s rest l)
      pick_keeps schedule s rest [] is shared others main = ends_at s (rest.stands 0) shared (λ f e. others 0 f e) main
      pick_keeps schedule s rest (k ∷ ks) is shared others main =
          let i = get_or schedule (rest.picks % length schedule) 0 % length (k ∷ ks) in
          turn_keeps s rest (get_or (k ∷ ks) i k)
          (taken_so (is_runnable means.joins (means.world s).threads rest.stands) (numbers_from 0 (length (means.world s).threads + 1)) k ks is i) shared others main

      -- half a step
      pub half_keeps : (schedule : List ℕ) (c : Fibers F S) → Holds c → Stepping (half_step means schedule c)
      half_keeps schedule (Goes f s rest) h = moved_keeps (means.due f) f s rest refl h.0 h.1 h.2 h.3
      half_keeps schedule (Waits s rest) h = pick_keeps schedule s rest (runnable means.joins (means.world s).threads rest.stands) refl h.0 h.1 h.2

      -- a whole one
      pub step_keeps : (schedule : List ℕ) (c : Fibers F S) → Holds c → Stepping (fibers_step means schedule c)
      step_keeps schedule c h = subst Stepping (sym (halves means schedule c)) (by_state c h)
        where
          then_keeps : (x : Stepped (Fibers F S)) → Stepping x → Stepping (goes_on x (half_step means schedule))
          then_keeps (More d) k = half_keeps schedule d k
          then_keeps (Stop e w) k = k

          by_state : (c : Fibers F S) → Holds c → Stepping (whole_step means schedule c)
          by_state (Goes f s rest) k = half_keeps schedule (Goes f s rest) k
          by_state (Waits s rest) k = then_keeps (half_step means schedule (Waits s rest)) (half_keeps schedule (Waits s rest) k)

      -- and every run
      pub run_keeps : (schedule : List ℕ) (n : ℕ) (c : Fibers F S) → Holds c → Stepping (steps (fibers_step means schedule) n c)
      run_keeps schedule zero c h = h
      run_keeps schedule (suc n) c h = by_step (λ d k. run_keeps schedule n d k) (fibers_step means schedule c) (step_keeps schedule c h)
        where
          by_step : ((d : Fibers F S) → Holds d → Stepping (steps (fibers_step means schedule) n d)) → (x : Stepped (Fibers F S)) → Stepping x → Stepping (and_then x (steps (fibers_step means schedule) n))
          by_step later (More d) k = later d k
          by_step later (Stop e w) k = k
