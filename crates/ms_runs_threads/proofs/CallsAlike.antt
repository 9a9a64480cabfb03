-- Two runs of fibers that are alike tell the same calls of their reports.
use Rattle.std.proofs.Common.{◌≡◌, ◌≤◌, Option, None, Some, ℕ, zero, suc, ◌+◌, List, [], ◌∷◌, length, refl, sym, ap, ◌∙◌, subst, arith}
use Rattle.std.specs.Prelude.{◌%◌, get_or}
use Rattle.std.proofs.Math.Path.{ap₂}
use Rattle.ms_runs.specs.declared.runs.Calls.{Calls}
use Rattle.ms_runs.specs.declared.runs.End.{End}
use Rattle.ms_runs.specs.declared.runs.Report.{Report}
use Rattle.ms_runs.specs.World.{World, Thread}
use Rattle.ms_runs.specs.Plain.{Stepped, More, Stop}
use Rattle.ms_runs.specs.Calls.{tell}
use Rattle.ms_runs_threads.specs.Fibers.{Meaning, Others, Fibers, Goes, Waits, runnable, site_at, fibers_step, world_of, finish, ends_in}
use Rattle.ms_runs_threads.specs.Alike.{SteppedAlike, count_of, Relation, Laws, LateLaws, Counts, BothStand, OthersAlike, FibersAlike, EarlyFibers, left_world}
use Rattle.ms_runs_threads.specs.Calls.{Acting, Told, acting_of, acting, sites_from, start_of, told_by, told_after, fibers_told}
use Rattle.ms_runs_threads.proofs.Follow.{runnable_same, main_same, fibers_alike, step_counted, runs_counted}

module _ {F S G T : Type 0} (left : Meaning F S) (right : Meaning G T) (r : Relation left right) (laws : Laws left right r) (counts : Counts left right r) (late : LateLaws left right r) (sites : F → List ℕ) (sites' : G → List ℕ) where
  -- what two fibers that act have in common
  pub record SaysActing : Type 0 where
    pub go : (f : F) (s : S) (g : G) (t : T) → r.Go f s g t → sites f ≡ sites' g
    pub site : (f : F) (s : S) (g : G) (t : T) → r.Go f s g t → left.site f ≡ right.site g
    pub at : (f : F) (g : G) → r.At f g → sites f ≡ sites' g

  -- the same is said of two that act
  pub record ActSame (a : Acting F) (b : Acting G) : Type 0 where
    pub number : a.number ≡ b.number
    pub calls : sites_from left sites a.from ≡ sites_from right sites' b.from
    pub site : site_at left a.from ≡ site_at right b.from

  module _ (says : SaysActing) where
    stand_sites : (f : Option F) (g : Option G) → BothStand left right r f g → sites_from left sites f ≡ sites_from right sites' g
    stand_sites None None both = refl
    stand_sites None (Some g) both = absurd both
    stand_sites (Some f) None both = absurd both
    stand_sites (Some f) (Some g) both = says.at f g both

    picked_same : (schedule : List ℕ) (a : Others F) (b : Others G) (l : List ℕ) → OthersAlike left right r a b → ActSame (acting_of left sites schedule a l) (acting_of right sites' schedule b l)
    picked_same schedule a b [] others = record { number = refl; calls = refl; site = refl }
    picked_same schedule a b (k ∷ ks) others =
        subst (λ (n : ℕ). ActSame (acting_of left sites schedule a (k ∷ ks)) (let y : Acting G = record {
          number = get_or (k ∷ ks) (get_or schedule (n % length schedule) 0 % length (k ∷ ks)) k;
          from = b.stands (get_or (k ∷ ks) (get_or schedule (n % length schedule) 0 % length (k ∷ ks)) k);
        } in y)) others.picks
        (at (get_or (k ∷ ks) (get_or schedule (a.picks % length schedule) 0 % length (k ∷ ks)) k))
      where
        at : (n : ℕ) → ActSame (let x : Acting F = record { number = n; from = a.stands n } in x) (let y : Acting G = record { number = n; from = b.stands n } in y)
        at n = record {
          number = refl;
          calls = stand_sites (a.stands n) (b.stands n) (others.stands n);
          site = main_same left right r laws counts late (a.stands n) (b.stands n) (others.stands n);
        }

    pub acting_same : (schedule : List ℕ) (c : Fibers F S) (d : Fibers G T) → FibersAlike left right r c d → ActSame (acting left sites schedule c) (acting right sites' schedule d)
    acting_same schedule (Goes f s a) (Goes g t b) h = record { number = laws.turn f s g t h.0; calls = says.go f s g t h.0; site = says.site f s g t h.0 }
    acting_same schedule (Waits s a) (Waits t b) h =
        subst (λ (l : List ℕ). ActSame (acting left sites schedule (Waits s a)) (acting_of right sites' schedule b l))
        (runnable_same left right r laws counts late (left.world s).threads (right.world t).threads a.stands b.stands (laws.threads s t h.0) h.1.stands)
        (picked_same schedule a b (runnable left.joins (left.world s).threads a.stands) h.1)
    acting_same schedule (Goes f s a) (Waits t b) h = absurd h
    acting_same schedule (Waits s a) (Goes g t b) h = absurd h

  -- the calls of one that acts
  pub calls_same : (a : Acting F) (b : Acting G) → ActSame a b → (told : Told) (us vs : List Report) → us ≡ vs
      → tell (let c : Calls = record { sites = sites_from left sites a.from; started = start_of a.number told.starts } in c) us told.calls
      ≡ tell (let c : Calls = record { sites = sites_from right sites' b.from; started = start_of b.number told.starts } in c) vs told.calls
  calls_same a b h told us vs e = λ i. tell (let c : Calls = record { sites = h.calls i; started = start_of (h.number i) told.starts } in c) (e i) told.calls

  pub told_same : (a : Acting F) (b : Acting G) → ActSame a b → (told : Told) (w v : World) → w.threads ≡ v.threads → w.reports ≡ v.reports → told_by left sites a w told ≡ told_by right sites' b v told
  told_same a b h told w v threads reports = λ i. record {
    starts = tell (h.site i) (threads i) told.starts;
    calls = calls_same a b h told w.reports v.reports reports i;
  }

  -- what alike fibers and worlds have in common, where neither run ends alone
  pub record SaysSame : Type 0 where
    pub act : SaysActing
    pub go_reports : (f : F) (s : S) (g : G) (t : T) → r.Go f s g t → (left.world s).reports ≡ (right.world t).reports
    pub go_threads : (f : F) (s : S) (g : G) (t : T) → r.Go f s g t → (left.world s).threads ≡ (right.world t).threads
    pub reports : (s : S) (t : T) → r.Shared s t → (left.world s).reports ≡ (right.world t).reports
    pub ends : (e : End) (w : World) (x : End) (v : World) → r.Ends e w x v → w.reports ≡ v.reports
    pub never : (e : End) (w v : World) → r.Early e w v → ⊥

  module _ (says : SaysSame) where
    pub threads_same : (c : Fibers F S) (d : Fibers G T) → FibersAlike left right r c d → (world_of left c).threads ≡ (world_of right d).threads
    threads_same (Goes f s a) (Goes g t b) h = says.go_threads f s g t h.0
    threads_same (Waits s a) (Waits t b) h = laws.threads s t h.0
    threads_same (Goes f s a) (Waits t b) h = absurd h
    threads_same (Waits s a) (Goes g t b) h = absurd h

    pub reports_same : (c : Fibers F S) (d : Fibers G T) → FibersAlike left right r c d → (world_of left c).reports ≡ (world_of right d).reports
    reports_same (Goes f s a) (Goes g t b) h = says.go_reports f s g t h.0
    reports_same (Waits s a) (Waits t b) h = says.reports s t h.0
    reports_same (Goes f s a) (Waits t b) h = absurd h
    reports_same (Waits s a) (Goes g t b) h = absurd h

    -- runs that are alike tell the same
    pub calls_alike : (schedule : List ℕ) (n : ℕ) (c : Fibers F S) (d : Fibers G T) → FibersAlike left right r c d → r.count (ends_in left schedule n c).1 ≡ r.count (left_world left right r c) → (told : Told)
        → fibers_told left sites schedule n c told ≡ fibers_told right sites' schedule n d told
    calls_alike schedule zero c d h quiet told = refl
    calls_alike schedule (suc n) c d h quiet told =
        by_step (λ c' d' k q more. calls_alike schedule n c' d' k q more) (fibers_step left schedule c) (fibers_step right schedule d) (step_counted left right r laws counts late schedule c)
        (λ q. fibers_alike left right r laws counts late schedule c d h q) quiet
      where
        by_step : ((c' : Fibers F S) (d' : Fibers G T) → FibersAlike left right r c' d' → r.count (ends_in left schedule n c').1 ≡ r.count (left_world left right r c') → (more : Told)
            → fibers_told left sites schedule n c' more ≡ fibers_told right sites' schedule n d' more)
            → (x : Stepped (Fibers F S)) (y : Stepped (Fibers G T)) → r.count (left_world left right r c) ≤ count_of r.count (left_world left right r) x
            → (count_of r.count (left_world left right r) x ≡ r.count (left_world left right r c) → SteppedAlike (FibersAlike left right r) r.Ends (EarlyFibers left right r) x y)
            → r.count (finish left (ends_in left schedule n) x).1 ≡ r.count (left_world left right r c)
            → told_after left sites (acting left sites schedule c) (fibers_told left sites schedule n) told x ≡ told_after right sites' (acting right sites' schedule d) (fibers_told right sites' schedule n) told y
        by_step rest (More c') (More d') le k q =
            let up = runs_counted left right r laws counts late schedule n c' in
            let one : r.count (left_world left right r c') ≡ r.count (left_world left right r c) = omega (arith, le, up, q) in
            ap (fibers_told left sites schedule n c')
            (told_same (acting left sites schedule c) (acting right sites' schedule d) (acting_same says.act schedule c d h) told (world_of left c') (world_of right d') (threads_same c' d' (k one)) (reports_same c' d' (k one)))
            ∙ rest c' d' (k one) (q ∙ sym one) (told_by right sites' (acting right sites' schedule d) (world_of right d') told)
        by_step rest (Stop e w) (Stop x v) le k q = calls_same (acting left sites schedule c) (acting right sites' schedule d) (acting_same says.act schedule c d h) told w.reports v.reports (says.ends e w x v (k q))
        by_step rest (More c') (Stop x v) le k q =
            let up = runs_counted left right r laws counts late schedule n c' in
            absurd (k (omega (arith, le, up, q)))
        by_step rest (Stop e w) (More d') le k q = absurd (says.never e w (world_of right d') (k q))
