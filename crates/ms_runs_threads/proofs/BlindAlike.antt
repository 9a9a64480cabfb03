-- Two runs of fibers that are alike, of which neither ends alone, have their blind uses at the same sites.
use Rattle.std.proofs.Common.{◌≡◌, Option, None, Some, ℕ, List, [], ◌∷◌, length, refl, ap, ◌∙◌}
use Rattle.std.specs.Prelude.{◌%◌, get_or}
use Rattle.ms_runs.specs.declared.runs.End.{End}
use Rattle.ms_runs.specs.World.{World, Thread}
use Rattle.ms_runs.specs.Threads.{thread_at}
use Rattle.ms_runs.specs.Plain.{Stepped, More, Stop}
use Rattle.ms_runs.proofs.ToldCalls.{BothSay, said_alike}
use Rattle.ms_runs_threads.specs.Fibers.{Meaning, Others, Fibers, Going, Goes, Waits, runnable, turned, with_world, site_at, fibers_step, world_of}
use Rattle.ms_runs_threads.specs.Alike.{SteppedAlike, count_of, left_world, Relation, Laws, LateLaws, Counts, GoBoth, EarlyGoing, Quiet, QuietStep, BothStand, OthersAlike, FibersAlike, EarlyFibers}
use Rattle.ms_runs_threads.specs.Blind.{after_call, going_on, going_of, going, fibers_blind}
use Rattle.ms_runs_threads.proofs.Follow.{runnable_same, fibers_alike}

module _ {F S G T : Type 0} (left : Meaning F S) (right : Meaning G T) (r : Relation left right) where
  -- what alike fibers and worlds have in common, where neither run ends alone
  pub record SaysBlind : Type 0 where
    pub site : (f : F) (s : S) (g : G) (t : T) → r.Go f s g t → left.site f ≡ right.site g
    pub go : (f : F) (s : S) (g : G) (t : T) → r.Go f s g t → (left.world s).blind ≡ (right.world t).blind
    pub shared : (s : S) (t : T) → r.Shared s t → (left.world s).blind ≡ (right.world t).blind
    pub ends : (e : End) (w : World) (x : End) (v : World) → r.Ends e w x v → w.blind ≡ v.blind
    pub never : (e : End) (w v : World) → r.Early e w v → ⊥

module _ {F S G T : Type 0} (left : Meaning F S) (right : Meaning G T) (r : Relation left right) (laws : Laws left right r) (counts : Counts left right r) (late : LateLaws left right r) (none : (w v : World) → r.count w ≡ r.count v) where
  quiet : (s : S) (a : Stepped (Going F S)) → Quiet left right r s a
  quiet s (More g) = none (left.world g.shared) (left.world s)
  quiet s (Stop e w) = none w (left.world s)

  pub quiet_step : (schedule : List ℕ) (c : Fibers F S) → QuietStep left right r schedule c
  quiet_step schedule c = by_step (fibers_step left schedule c)
    where
      by_step : (x : Stepped (Fibers F S)) → count_of r.count (left_world left right r) x ≡ r.count (left_world left right r c)
      by_step (More d) = none (left_world left right r d) (left_world left right r c)
      by_step (Stop e w) = none w (left_world left right r c)

  module _ (says : SaysBlind left right r) where
    after_same : (f : F) (g : G) → r.At f g → (x : Stepped (Going F S)) (y : Stepped (Going G T)) → SteppedAlike (GoBoth left right r) r.Ends (EarlyGoing left right r) x y
        → site_at left (after_call left f x) ≡ site_at right (after_call right g y)
    after_same f g at (More a) (More b) h = says.site a.fiber a.shared b.fiber b.shared h
    after_same f g at (Stop e w) (Stop x v) h = laws.site f g at
    after_same f g at (More a) (Stop x v) h = absurd h
    after_same f g at (Stop e w) (More b) h = absurd (says.never e w (right.world b.shared) h)

    picked_same : (s : S) (t : T) → r.Shared s t → (k : ℕ) (f : Option F) (g : Option G) → BothStand left right r f g → (x : Option Thread) → thread_at k (left.world s).threads ≡ x
        → site_at left (going_on left (with_world left (turned k) s) f x) ≡ site_at right (going_on right (with_world right (turned k) t) g x)
    picked_same s t shared k (Some f) (Some g) both x is =
        after_same f g both (left.perform f (with_world left (turned k) s)) (right.perform g (with_world right (turned k) t))
        (laws.perform f (with_world left (turned k) s) g (with_world right (turned k) t) both (laws.shared_turned s t shared k) (quiet (with_world left (turned k) s) (left.perform f (with_world left (turned k) s))))
    picked_same s t shared k None None both (Some x) is =
        let a = left.begun x.func x.argument (with_world left (turned k) s) in
        let b = right.begun x.func x.argument (with_world right (turned k) t) in
        says.site a.fiber a.shared b.fiber b.shared (laws.begun s t shared k x is)
    picked_same s t shared k None None both None is = refl
    picked_same s t shared k (Some f) None both x is = absurd both
    picked_same s t shared k None (Some g) both x is = absurd both

    of_same : (schedule : List ℕ) (s : S) (a : Others F) (t : T) (b : Others G) (l : List ℕ) → r.Shared s t → OthersAlike left right r a b
        → site_at left (going_of left schedule s a l) ≡ site_at right (going_of right schedule t b l)
    of_same schedule s a t b [] shared others = refl
    of_same schedule s a t b (k ∷ ks) shared others =
        at (get_or (k ∷ ks) (get_or schedule (a.picks % length schedule) 0 % length (k ∷ ks)) k)
        ∙ ap (λ (n : ℕ). of_right (get_or (k ∷ ks) (get_or schedule (n % length schedule) 0 % length (k ∷ ks)) k)) others.picks
      where
        of_right : ℕ → ℕ
        of_right n = site_at right (going_on right (with_world right (turned n) t) (b.stands n) (thread_at n (right.world t).threads))

        at : (n : ℕ) → site_at left (going_on left (with_world left (turned n) s) (a.stands n) (thread_at n (left.world s).threads)) ≡ of_right n
        at n =
            picked_same s t shared n (a.stands n) (b.stands n) (others.stands n) (thread_at n (left.world s).threads) refl
            ∙ ap (λ (ts : List Thread). site_at right (going_on right (with_world right (turned n) t) (b.stands n) (thread_at n ts))) (laws.threads s t shared)

    going_same : (schedule : List ℕ) (c : Fibers F S) (d : Fibers G T) → FibersAlike left right r c d → site_at left (going left schedule c) ≡ site_at right (going right schedule d)
    going_same schedule (Goes f s a) (Goes g t b) h = says.site f s g t h.0
    going_same schedule (Waits s a) (Waits t b) h =
        of_same schedule s a t b (runnable left.joins (left.world s).threads a.stands) h.0 h.1
        ∙ ap (λ (l : List ℕ). site_at right (going_of right schedule t b l))
        (runnable_same left right r laws counts late (left.world s).threads (right.world t).threads a.stands b.stands (laws.threads s t h.0) h.1.stands)
    going_same schedule (Goes f s a) (Waits t b) h = absurd h
    going_same schedule (Waits s a) (Goes g t b) h = absurd h

    blind_same : (c : Fibers F S) (d : Fibers G T) → FibersAlike left right r c d → (world_of left c).blind ≡ (world_of right d).blind
    blind_same (Goes f s a) (Goes g t b) h = says.go f s g t h.0
    blind_same (Waits s a) (Waits t b) h = says.shared s t h.0
    blind_same (Goes f s a) (Waits t b) h = absurd h
    blind_same (Waits s a) (Goes g t b) h = absurd h

    stepped_same : (x : Stepped (Fibers F S)) (y : Stepped (Fibers G T)) → SteppedAlike (FibersAlike left right r) r.Ends (EarlyFibers left right r) x y → BothSay (λ (w : World). w.blind) (FibersAlike left right r) x y
    stepped_same (More c) (More d) h = h
    stepped_same (Stop e w) (Stop x v) h = says.ends e w x v h
    stepped_same (More c) (Stop x v) h = absurd h
    stepped_same (Stop e w) (More d) h = absurd (says.never e w (world_of right d) h)

    pub blind_alike : (schedule : List ℕ) (n : ℕ) (c : Fibers F S) (d : Fibers G T) → FibersAlike left right r c d → (told : List ℕ) → fibers_blind left schedule n c told ≡ fibers_blind right schedule n d told
    blind_alike schedule n c d h told =
        said_alike (λ (w : World). w.blind) (world_of left) (λ c. site_at left (going left schedule c)) (fibers_step left schedule) (world_of right) (λ d. site_at right (going right schedule d)) (fibers_step right schedule)
        (λ n. FibersAlike left right r)
        (record {
          same = λ n c d k. going_same schedule c d k;
          counts = λ n c d k. blind_same c d k;
          steps = λ n c d k. stepped_same (fibers_step left schedule c) (fibers_step right schedule d) (fibers_alike left right r laws counts late schedule c d k (quiet_step schedule c));
        })
        n c d h told
