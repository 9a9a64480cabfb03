-- A step of one run of fibers is a step of another, by the laws of one fiber's steps.
use Rattle.std.proofs.Common.{◌≡◌, ◌≤◌, Bool, true, false, Option, None, Some, ℕ, zero, suc, ◌+◌, List, [], ◌∷◌, length, refl, sym, ap, ◌∙◌, subst, arith}
use Rattle.std.specs.Prelude.{◌%◌, ◌&&◌, not, filter, get_or, eqb, if◌then◌else◌, is_some}
use Rattle.std.proofs.Math.Path.{ap₂}
use Rattle.ms_runs.specs.declared.runs.End.{End}
use Rattle.ms_runs.specs.declared.runs.End.TheVariants as «end»
use Rattle.ms_bits.specs.declared.traps.Trap.TheVariants as trap
use Rattle.ms_runs.specs.World.{World, Thread, stuck}
use Rattle.ms_runs.specs.Plain.{Stepped, More, Stop}
use Rattle.ms_runs.specs.Threads.{thread_at, has_ended}
use Rattle.ms_runs_threads.specs.Fibers.{Due, Own, Asks, Returns, Going, Meaning, Others, Fibers, Goes, Waits, goes_on, waits, may_go, is_runnable, numbers_from, runnable, standing, turned, with_world, ended, moved, moves, resumed, resumes, site_at, picked, fibers_step, world_of, finish, ends_in}
use Rattle.ms_runs_threads.specs.Alike.{SteppedAlike, count_of, Relation, GoBoth, AtBoth, EndBoth, of_going, Laws, LateLaws, Later, EarlyGoing, EarlyFibers, Counts, BothStand, OthersAlike, FibersAlike, left_world, QuietStep}

module _ {F S G T : Type 0} (left : Meaning F S) (right : Meaning G T) (r : Relation left right) (laws : Laws left right r) (counts : Counts left right r) (late : LateLaws left right r) where
  -- ---- steps one after the other

  then_alike : {A C : Type 0} (alike : A → Going G T → Type 0) (a : Stepped A) (b : Stepped (Going G T)) (go : A → Stepped C) (on : Going G T → Stepped (Fibers G T)) (next : C → Fibers G T → Type 0)
      → SteppedAlike alike r.Ends (EarlyGoing left right r) a b
      → ((x : A) (y : Going G T) → a ≡ More x → alike x y → SteppedAlike next r.Ends (EarlyFibers left right r) (go x) (on y))
      → ((e : End) (w : World) (y : Going G T) → EarlyGoing left right r e w y → Later left right r (EarlyFibers left right r) e w (on y))
      → SteppedAlike next r.Ends (EarlyFibers left right r) (goes_on a go) (goes_on b on)
  then_alike alike (More x) (More y) go on next h k later = k x y refl h
  then_alike alike (Stop e w) (Stop x v) go on next h k later = h
  then_alike alike (More x) (Stop e w) go on next h k later = absurd h
  then_alike alike (Stop e w) (More y) go on next h k later = stopped (on y) (later e w y h)
    where
      stopped : (d : Stepped (Fibers G T)) → Later left right r (EarlyFibers left right r) e w d → SteppedAlike next r.Ends (EarlyFibers left right r) (Stop e w) d
      stopped (More d) h = h
      stopped (Stop x v) h = h

  -- ---- the right run goes on alone

  later_then : (e : End) (w : World) (b : Stepped (Going G T)) (on : Going G T → Stepped (Fibers G T)) → Later left right r (EarlyGoing left right r) e w b
      → ((y : Going G T) → EarlyGoing left right r e w y → Later left right r (EarlyFibers left right r) e w (on y))
      → Later left right r (EarlyFibers left right r) e w (goes_on b on)
  later_then e w (More y) on h k = k y h
  later_then e w (Stop x v) on h k = h

  later_moved : (e : End) (w : World) (g : G) (t : T) (b : Others G) (u : Due) → r.Early e w (right.world t) → Later left right r (EarlyFibers left right r) e w (moved right g t b u)
  later_moved e w g t b Own h = later_then e w (right.step g t) _ (late.step e w g t h) (λ y k. k)
  later_moved e w g t b Asks h = later_then e w (right.reach g t) _ (late.reach e w g t h) (λ y k. k)
  later_moved e w g t b Returns h = later_then e w (right.reach g t) _ (late.reach e w g t h) (λ y k. late.ended e w y.fiber y.shared k)

  later_resumed : (e : End) (w : World) (t : T) (b : Others G) (k : ℕ) (g : Option G) (y : Option Thread) → r.Early e w (right.world t) → Later left right r (EarlyFibers left right r) e w (resumed right t b k g y)
  later_resumed e w t b k (Some g) y h = later_then e w (right.perform g t) (moves right b) (late.perform e w g t h) (λ y k. later_moved e w y.fiber y.shared b (right.due y.fiber) k)
  later_resumed e w t b k None (Some y) h =
      later_moved e w (right.begun y.func y.argument t).fiber (right.begun y.func y.argument t).shared b (right.due (right.begun y.func y.argument t).fiber) (late.begun e w t y.func y.argument h)
  later_resumed e w t b k None None h = late.ends e w (right.world t) h stuck

  later_picked : (e : End) (w : World) (schedule : List ℕ) (t : T) (b : Others G) (l : List ℕ) → r.Early e w (right.world t) → Later left right r (EarlyFibers left right r) e w (picked right schedule t b l)
  later_picked e w schedule t b [] h = late.ends e w (right.world t) h («end».Trap trap.Deadlock (site_at right (b.stands 0)))
  later_picked e w schedule t b (k ∷ ks) h =
      at (get_or (k ∷ ks) (get_or schedule (b.picks % length schedule) 0 % length (k ∷ ks)) k)
    where
      at : (n : ℕ) → Later left right r (EarlyFibers left right r) e w (resumes right t b n)
      at n = later_resumed e w (with_world right (turned n) t) (record { stands = standing n None b.stands; picks = b.picks + 1 }) n (b.stands n) (thread_at n (right.world t).threads) (late.turned e w t n h)

  later_step : (e : End) (w : World) (schedule : List ℕ) (d : Fibers G T) → EarlyFibers left right r e w d → Later left right r (EarlyFibers left right r) e w (fibers_step right schedule d)
  later_step e w schedule (Goes g t b) h = later_moved e w g t b (right.due g) h
  later_step e w schedule (Waits t b) h = later_picked e w schedule t b (runnable right.joins (right.world t).threads b.stands) h

  later_runs : (e : End) (w : World) (schedule : List ℕ) (n : ℕ) (d : Fibers G T) → EarlyFibers left right r e w d → r.Ends e w (ends_in right schedule n d).0 (ends_in right schedule n d).1
  later_runs e w schedule zero d h = late.ends e w (world_of right d) h «end».Spent
  later_runs e w schedule (suc n) d h = by_step (λ d k. later_runs e w schedule n d k) (fibers_step right schedule d) (later_step e w schedule d h)
    where
      by_step : ((d : Fibers G T) → EarlyFibers left right r e w d → r.Ends e w (ends_in right schedule n d).0 (ends_in right schedule n d).1) → (c : Stepped (Fibers G T)) → Later left right r (EarlyFibers left right r) e w c
          → r.Ends e w (finish right (ends_in right schedule n) c).0 (finish right (ends_in right schedule n) c).1
      by_step rest (More d) k = rest d k
      by_step rest (Stop x v) k = k

  -- what is counted by a step, and then by nothing
  counted_then : (a : Stepped (Going F S)) (go : Going F S → Fibers F S) → ((x : Going F S) → r.count (left_world left right r (go x)) ≡ r.count (of_going left right r x))
      → count_of r.count (left_world left right r) (goes_on a (λ x. More (go x))) ≡ count_of r.count (of_going left right r) a
  counted_then (More x) go same = same x
  counted_then (Stop e w) go same = refl

  moved_counted : (f : F) (s : S) (a : Others F) (u : Due)
      → r.count (left.world s) ≤ count_of r.count (left_world left right r) (moved left f s a u)
  moved_counted f s a Own =
      let e = counted_then (left.step f s) (λ g. Goes g.fiber g.shared a) (λ x. refl) in
      let le = counts.step f s in omega (arith, e, le)
  moved_counted f s a Asks =
      let e = counted_then (left.reach f s) (λ g. Waits g.shared (record a { stands = standing (left.world g.shared).turn (Some g.fiber) a.stands })) (λ x. refl) in
      let le = counts.reach f s in omega (arith, e, le)
  moved_counted f s a Returns =
      let e = counted_then (left.reach f s) (λ g. Waits (ended left g.fiber g.shared) a) (λ x. counts.ended x.fiber x.shared) in
      let le = counts.reach f s in omega (arith, e, le)

  -- ---- a step of the fiber that goes on

  stands_at : (k n : ℕ) (f : Option F) (g : Option G) (a : ℕ → Option F) (b : ℕ → Option G) → k ≡ n → BothStand left right r f g → ((i : ℕ) → BothStand left right r (a i) (b i))
      → (i : ℕ) → BothStand left right r (standing k f a i) (standing n g b i)
  stands_at k n f g a b e h all i =
      subst (λ n. BothStand left right r (standing k f a i) (standing n g b i)) e (by_same (eqb i k))
    where
      by_same : (c : Bool) → BothStand left right r (if c then f else a i) (if c then g else b i)
      by_same true = h
      by_same false = all i

  moved_alike : (u : Due) (f : F) (s : S) (a : Others F) (g : G) (t : T) (b : Others G) → r.Go f s g t → OthersAlike left right r a b → left.due f ≡ u
      → count_of r.count (left_world left right r) (moved left f s a u) ≡ r.count (left.world s)
      → SteppedAlike (FibersAlike left right r) r.Ends (EarlyFibers left right r) (moved left f s a u) (moved right g t b u)
  moved_alike Own f s a g t b go others is quiet =
      let e = counted_then (left.step f s) (λ g. Goes g.fiber g.shared a) (λ x. refl) in
      then_alike (GoBoth left right r) (left.step f s) (right.step g t) _ _ (FibersAlike left right r)
      (laws.step f s g t go is (sym e ∙ quiet)) (λ x y same alike. (alike, others)) (λ e w y h. h)
  moved_alike Asks f s a g t b go others is quiet =
      let e = counted_then (left.reach f s) (λ g. Waits g.shared (record a { stands = standing (left.world g.shared).turn (Some g.fiber) a.stands })) (λ x. refl) in
      then_alike (AtBoth left right r) (left.reach f s) (right.reach g t) _ _ (FibersAlike left right r)
      (laws.reach f s g t go is (sym e ∙ quiet))
      (λ x y same alike. (
        alike.1,
        record {
          stands = stands_at (left.world x.shared).turn (right.world y.shared).turn (Some x.fiber) (Some y.fiber) a.stands b.stands (laws.shared_turn x.shared y.shared alike.1) alike.0 others.stands;
          picks = others.picks;
        },
      )) (λ e w y h. h)
  moved_alike Returns f s a g t b go others is quiet =
      let e = counted_then (left.reach f s) (λ g. Waits (ended left g.fiber g.shared) a) (λ x. counts.ended x.fiber x.shared) in
      then_alike (EndBoth left right r) (left.reach f s) (right.reach g t) _ _ (FibersAlike left right r)
      (laws.returns f s g t go is (sym e ∙ quiet)) (λ x y same alike. (alike, others)) (λ e w y h. late.ended e w y.fiber y.shared h)

  moves_alike : (f : F) (s : S) (a : Others F) (g : G) (t : T) (b : Others G) → r.Go f s g t → OthersAlike left right r a b
      → count_of r.count (left_world left right r) (moved left f s a (left.due f)) ≡ r.count (left.world s)
      → SteppedAlike (FibersAlike left right r) r.Ends (EarlyFibers left right r) (moved left f s a (left.due f)) (moved right g t b (right.due g))
  moves_alike f s a g t b go others quiet =
      subst (λ u. SteppedAlike (FibersAlike left right r) r.Ends (EarlyFibers left right r) (moved left f s a (left.due f)) (moved right g t b u)) (laws.due f s g t go)
      (moved_alike (left.due f) f s a g t b go others refl quiet)

  -- ---- which fibers are runnable

  runs_same : (k : ℕ) (ts us : List Thread) (a : Option F) (b : Option G) → ts ≡ us → BothStand left right r a b
      → may_go left.joins k ts a ≡ may_go right.joins k us b
  runs_same k ts us None None e both = ap (λ l. is_some (thread_at k l)) e
  runs_same k ts us None (Some g) e both = absurd both
  runs_same k ts us (Some f) None e both = absurd both
  runs_same k ts us (Some f) (Some g) e both = ap not (ap (λ l. waits k l (left.joins f)) e ∙ ap (waits k us) (laws.joins f g both))

  pub runnable_same : (ts us : List Thread) (a : ℕ → Option F) (b : ℕ → Option G) → ts ≡ us → ((k : ℕ) → BothStand left right r (a k) (b k))
      → runnable left.joins ts a ≡ runnable right.joins us b
  runnable_same ts us a b e both =
      λ i. filter (λ k. one k i) (numbers_from 0 (length (e i) + 1))
    where
      one : (k : ℕ) → is_runnable left.joins ts a k ≡ is_runnable right.joins us b k
      one k = ap₂ (λ x y. not x && y) (ap (λ l. has_ended (thread_at k l)) e) (runs_same k ts us (a k) (b k) e (both k))

  -- ---- a pick

  resumed_alike : (s : S) (a : Others F) (t : T) (b : Others G) (k : ℕ) (f : Option F) (g : Option G) (x : Option Thread)
      → ((y : Thread) → x ≡ Some y → GoBoth left right r (left.begun y.func y.argument s) (right.begun y.func y.argument t)) → r.Shared s t → OthersAlike left right r a b → BothStand left right r f g
      → count_of r.count (left_world left right r) (resumed left s a k f x) ≡ r.count (left.world s)
      → SteppedAlike (FibersAlike left right r) r.Ends (EarlyFibers left right r) (resumed left s a k f x) (resumed right t b k g x)
  resumed_alike s a t b k None None None begins shared others both quiet = laws.ends s t shared stuck
  resumed_alike s a t b k None None (Some x) begins shared others both quiet =
      moves_alike (left.begun x.func x.argument s).fiber (left.begun x.func x.argument s).shared a (right.begun x.func x.argument t).fiber (right.begun x.func x.argument t).shared b
      (begins x refl) others (quiet ∙ sym (counts.begun s x.func x.argument))
  resumed_alike s a t b k None (Some g) x begins shared others both quiet = absurd both
  resumed_alike s a t b k (Some f) None x begins shared others both quiet = absurd both
  resumed_alike s a t b k (Some f) (Some g) x begins shared others both quiet =
      then_alike (GoBoth left right r) (left.perform f s) (right.perform g t) _ _ (FibersAlike left right r)
      (laws.perform f s g t both shared (first (left.perform f s) refl))
      (λ p q same alike. moves_alike p.fiber p.shared a q.fiber q.shared b alike others (second p same))
      (λ e w y h. later_moved e w y.fiber y.shared b (right.due y.fiber) h)
    where
      all : ℕ
      all = count_of r.count (left_world left right r) (goes_on (left.perform f s) (moves left a))

      rises : (c : Stepped (Going F S)) → count_of r.count (of_going left right r) c ≤ count_of r.count (left_world left right r) (goes_on c (moves left a))
      rises (More p) = moved_counted p.fiber p.shared a (left.due p.fiber)
      rises (Stop e w) = let o : r.count w ≤ r.count w = omega arith in o

      first : (c : Stepped (Going F S)) → left.perform f s ≡ c → count_of r.count (of_going left right r) c ≡ r.count (left.world s)
      first c e =
          let le = counts.perform f s in
          let up = rises c in
          let whole = ap (λ c. count_of r.count (left_world left right r) (goes_on c (moves left a))) (sym e) ∙ quiet in
          let part = ap (λ c. count_of r.count (of_going left right r) c) e in
          omega (arith, le, up, whole, part)

      second : (p : Going F S) → left.perform f s ≡ More p
          → count_of r.count (left_world left right r) (moved left p.fiber p.shared a (left.due p.fiber)) ≡ r.count (left.world p.shared)
      second p e =
          let one = first (More p) e in
          let whole = ap (λ c. count_of r.count (left_world left right r) (goes_on c (moves left a))) (sym e) ∙ quiet in
          whole ∙ sym one

  resumes_alike : (s : S) (a : Others F) (t : T) (b : Others G) (k : ℕ) → r.Shared s t → OthersAlike left right r a b
      → count_of r.count (left_world left right r) (resumes left s a k) ≡ r.count (left.world s)
      → SteppedAlike (FibersAlike left right r) r.Ends (EarlyFibers left right r) (resumes left s a k) (resumes right t b k)
  resumes_alike s a t b k shared others quiet =
      subst (λ l. SteppedAlike (FibersAlike left right r) r.Ends (EarlyFibers left right r) (resumes left s a k)
      (resumed right (with_world right (turned k) t) (record { stands = standing k None b.stands; picks = b.picks + 1 }) k (b.stands k) (thread_at k l)))
      (laws.threads s t shared)
      (resumed_alike (with_world left (turned k) s) (record { stands = standing k None a.stands; picks = a.picks + 1 }) (with_world right (turned k) t)
      (record { stands = standing k None b.stands; picks = b.picks + 1 }) k (a.stands k) (b.stands k) (thread_at k (left.world s).threads)
      (λ y is. laws.begun s t shared k y is)
      (laws.shared_turned s t shared k)
      (record { stands = stands_at k k None None a.stands b.stands refl tt others.stands; picks = ap (λ n. n + 1) others.picks })
      (others.stands k) (quiet ∙ sym (counts.turned s k)))

  pub main_same : (a : Option F) (b : Option G) → BothStand left right r a b → site_at left a ≡ site_at right b
  main_same None None both = refl
  main_same None (Some g) both = absurd both
  main_same (Some f) None both = absurd both
  main_same (Some f) (Some g) both = laws.site f g both

  picked_alike : (schedule : List ℕ) (s : S) (a : Others F) (t : T) (b : Others G) (l : List ℕ) → r.Shared s t → OthersAlike left right r a b
      → count_of r.count (left_world left right r) (picked left schedule s a l) ≡ r.count (left.world s)
      → SteppedAlike (FibersAlike left right r) r.Ends (EarlyFibers left right r) (picked left schedule s a l) (picked right schedule t b l)
  picked_alike schedule s a t b [] shared others quiet =
      subst (λ n. r.Ends («end».Trap trap.Deadlock (site_at left (a.stands 0))) (left.world s) («end».Trap trap.Deadlock n) (right.world t)) (main_same (a.stands 0) (b.stands 0) (others.stands 0))
      (laws.ends s t shared («end».Trap trap.Deadlock (site_at left (a.stands 0))))
  picked_alike schedule s a t b (k ∷ ks) shared others quiet =
      subst (λ n. SteppedAlike (FibersAlike left right r) r.Ends (EarlyFibers left right r) (picked left schedule s a (k ∷ ks))
      (resumes right t b (get_or (k ∷ ks) (get_or schedule (n % length schedule) 0 % length (k ∷ ks)) k))) others.picks
      (resumes_alike s a t b (get_or (k ∷ ks) (get_or schedule (a.picks % length schedule) 0 % length (k ∷ ks)) k) shared others quiet)

  -- ---- a step

  pub fibers_alike : (schedule : List ℕ) (c : Fibers F S) (d : Fibers G T) → FibersAlike left right r c d → QuietStep left right r schedule c
      → SteppedAlike (FibersAlike left right r) r.Ends (EarlyFibers left right r) (fibers_step left schedule c) (fibers_step right schedule d)
  fibers_alike schedule (Goes f s a) (Goes g t b) h quiet = moves_alike f s a g t b h.0 h.1 quiet
  fibers_alike schedule (Waits s a) (Waits t b) h quiet =
      subst (λ l. SteppedAlike (FibersAlike left right r) r.Ends (EarlyFibers left right r) (fibers_step left schedule (Waits s a)) (picked right schedule t b l))
      (runnable_same (left.world s).threads (right.world t).threads a.stands b.stands (laws.threads s t h.0) h.1.stands)
      (picked_alike schedule s a t b (runnable left.joins (left.world s).threads a.stands) h.0 h.1 quiet)
  fibers_alike schedule (Goes f s a) (Waits t b) h quiet = absurd h
  fibers_alike schedule (Waits s a) (Goes g t b) h quiet = absurd h

  -- ---- a run

  resumed_counted : (s : S) (a : Others F) (k : ℕ) (f : Option F) (x : Option Thread) → r.count (left.world s) ≤ count_of r.count (left_world left right r) (resumed left s a k f x)
  resumed_counted s a k None None = let o : r.count (left.world s) ≤ r.count (left.world s) = omega arith in o
  resumed_counted s a k None (Some x) =
      let b = left.begun x.func x.argument s in
      let e = counts.begun s x.func x.argument in
      let le = moved_counted b.fiber b.shared a (left.due b.fiber) in
      omega (arith, e, le)
  resumed_counted s a k (Some f) x =
      let le = counts.perform f s in
      let up = rises (left.perform f s) in omega (arith, le, up)
    where
      rises : (c : Stepped (Going F S)) → count_of r.count (of_going left right r) c ≤ count_of r.count (left_world left right r) (goes_on c (moves left a))
      rises (More p) = moved_counted p.fiber p.shared a (left.due p.fiber)
      rises (Stop e w) = let o : r.count w ≤ r.count w = omega arith in o

  picked_counted : (schedule : List ℕ) (s : S) (a : Others F) (l : List ℕ) → r.count (left.world s) ≤ count_of r.count (left_world left right r) (picked left schedule s a l)
  picked_counted schedule s a [] = let o : r.count (left.world s) ≤ r.count (left.world s) = omega arith in o
  picked_counted schedule s a (k ∷ ks) = resumes_counted (get_or (k ∷ ks) (get_or schedule (a.picks % length schedule) 0 % length (k ∷ ks)) k)
    where
      resumes_counted : (n : ℕ) → r.count (left.world s) ≤ count_of r.count (left_world left right r) (resumes left s a n)
      resumes_counted n =
          let e = counts.turned s n in
          let le = resumed_counted (with_world left (turned n) s) (record { stands = standing n None a.stands; picks = a.picks + 1 }) n (a.stands n) (thread_at n (left.world s).threads) in
          omega (arith, e, le)

  pub step_counted : (schedule : List ℕ) (c : Fibers F S) → r.count (left_world left right r c) ≤ count_of r.count (left_world left right r) (fibers_step left schedule c)
  step_counted schedule (Goes f s a) = moved_counted f s a (left.due f)
  step_counted schedule (Waits s a) = picked_counted schedule s a (runnable left.joins (left.world s).threads a.stands)

  pub runs_counted : (schedule : List ℕ) (n : ℕ) (c : Fibers F S) → r.count (left_world left right r c) ≤ r.count (ends_in left schedule n c).1
  runs_counted schedule zero c = let o : r.count (left_world left right r c) ≤ r.count (left_world left right r c) = omega arith in o
  runs_counted schedule (suc n) c = by_step (λ d. runs_counted schedule n d) (fibers_step left schedule c) (step_counted schedule c)
    where
      by_step : ((d : Fibers F S) → r.count (left_world left right r d) ≤ r.count (ends_in left schedule n d).1) → (x : Stepped (Fibers F S)) → r.count (left_world left right r c) ≤ count_of r.count (left_world left right r) x
          → r.count (left_world left right r c) ≤ r.count (finish left (ends_in left schedule n) x).1
      by_step rest (More d) le = let up = rest d in omega (arith, le, up)
      by_step rest (Stop e w) le = le

  spent_alike : (c : Fibers F S) (d : Fibers G T) → FibersAlike left right r c d → r.Ends «end».Spent (left_world left right r c) «end».Spent (world_of right d)
  spent_alike (Goes f s a) (Goes g t b) h = laws.spent f s g t h.0
  spent_alike (Waits s a) (Waits t b) h = laws.ends s t h.0 «end».Spent
  spent_alike (Goes f s a) (Waits t b) h = absurd h
  spent_alike (Waits s a) (Goes g t b) h = absurd h

  -- two runs that begin alike end alike, where the left one counts nothing
  pub runs_alike : (schedule : List ℕ) (n : ℕ) (c : Fibers F S) (d : Fibers G T) → FibersAlike left right r c d → r.count (ends_in left schedule n c).1 ≡ r.count (left_world left right r c)
      → r.Ends (ends_in left schedule n c).0 (ends_in left schedule n c).1 (ends_in right schedule n d).0 (ends_in right schedule n d).1
  runs_alike schedule zero c d h quiet = spent_alike c d h
  runs_alike schedule (suc n) c d h quiet = by_step (λ c' d' k q. runs_alike schedule n c' d' k q) (fibers_step left schedule c) (fibers_step right schedule d) (step_counted schedule c) (λ q. fibers_alike schedule c d h q) quiet
    where
      by_step : ((c' : Fibers F S) (d' : Fibers G T) → FibersAlike left right r c' d' → r.count (ends_in left schedule n c').1 ≡ r.count (left_world left right r c')
          → r.Ends (ends_in left schedule n c').0 (ends_in left schedule n c').1 (ends_in right schedule n d').0 (ends_in right schedule n d').1)
          → (x : Stepped (Fibers F S)) (y : Stepped (Fibers G T)) → r.count (left_world left right r c) ≤ count_of r.count (left_world left right r) x
          → (count_of r.count (left_world left right r) x ≡ r.count (left_world left right r c) → SteppedAlike (FibersAlike left right r) r.Ends (EarlyFibers left right r) x y)
          → r.count (finish left (ends_in left schedule n) x).1 ≡ r.count (left_world left right r c)
          → r.Ends (finish left (ends_in left schedule n) x).0 (finish left (ends_in left schedule n) x).1
          (finish right (ends_in right schedule n) y).0 (finish right (ends_in right schedule n) y).1
      by_step rest (More c') (More d') le k q =
          let up = runs_counted schedule n c' in
          let one : r.count (left_world left right r c') ≡ r.count (left_world left right r c) = omega (arith, le, up, q) in
          rest c' d' (k one) (q ∙ sym one)
      by_step rest (Stop e w) (Stop x v) le k q = k q
      by_step rest (More c') (Stop x v) le k q =
          let up = runs_counted schedule n c' in
          absurd (k (omega (arith, le, up, q)))
      by_step rest (Stop e w) (More d') le k q = later_runs e w schedule n d' (k q)
