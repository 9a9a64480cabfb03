-- When two runs of fibers go alike: what one fiber's steps must keep for it.
use Rattle.std.specs.Prelude.{◌≡◌, ◌≤◌, ℕ, List, Option, Some, None}
use Rattle.ms_runs.specs.declared.runs.End.{End}
use Rattle.ms_runs.specs.declared.runs.End.TheVariants as «end»
use Rattle.ms_runs.specs.World.{World, Thread}
use Rattle.ms_runs.specs.Plain.{Stepped, More, Stop}
use Rattle.ms_runs.specs.Threads.{thread_at}
use Rattle.ms_runs_threads.specs.Fibers.{Own, Asks, Returns, Going, Meaning, Others, Fibers, Goes, Waits, ended, with_world, turned, fibers_step, shared_of, world_of}

-- what two steps come to: states alike, or ends alike, or the left one alone has ended
abbrev pub SteppedAlike : {A B : Type 0} → (A → B → Type 0) → (End → World → End → World → Type 0) → (End → World → B → Type 0) → Stepped A → Stepped B → Type 0
SteppedAlike alike ends early (More a) (More b) = alike a b
SteppedAlike alike ends early (Stop e w) (Stop x v) = ends e w x v
SteppedAlike alike ends early (More a) (Stop x v) = ⊥
SteppedAlike alike ends early (Stop e w) (More b) = early e w b

-- a number that never falls, of what a step comes to
abbrev pub count_of : {A : Type 0} → (World → ℕ) → (A → World) → Stepped A → ℕ
count_of count world (More a) = count (world a)
count_of count world (Stop e w) = count w

module _ {F S G T : Type 0} (left : Meaning F S) (right : Meaning G T) where
  -- when two fibers that go on are alike, when two that stand at a thread call are, when what is shared is while all stand,
  -- when two ends are, and when the left run may end while the right one goes on; a number that never falls bounds where
  -- that is said
  pub record Relation : Type 1 where
    pub Go : F → S → G → T → Type 0
    pub At : F → G → Type 0
    pub Shared : S → T → Type 0
    pub Ends : End → World → End → World → Type 0
    pub Early : End → World → World → Type 0
    pub count : World → ℕ

  module _ (r : Relation) where
    abbrev pub GoBoth : Going F S → Going G T → Type 0
    GoBoth a b = r.Go a.fiber a.shared b.fiber b.shared

    abbrev pub AtBoth : Going F S → Going G T → Type 0
    AtBoth a b = r.At a.fiber b.fiber × r.Shared a.shared b.shared

    abbrev pub EndBoth : Going F S → Going G T → Type 0
    EndBoth a b = r.Shared (ended left a.fiber a.shared) (ended right b.fiber b.shared)

    abbrev pub of_going : Going F S → World
    of_going a = left.world a.shared

    abbrev pub EarlyGoing : End → World → Going G T → Type 0
    EarlyGoing e w b = r.Early e w (right.world b.shared)

    abbrev pub EarlyFibers : End → World → Fibers G T → Type 0
    EarlyFibers e w d = r.Early e w (world_of right d)

    -- the left run has ended, and the right one takes a step
    abbrev pub Later : {B : Type 0} → (End → World → B → Type 0) → End → World → Stepped B → Type 0
    Later early e w (More b) = early e w b
    Later early e w (Stop x v) = r.Ends e w x v

    -- a step counts nothing
    abbrev pub Quiet : S → Stepped (Going F S) → Type 0
    Quiet s a = count_of r.count of_going a ≡ r.count (left.world s)

    -- what steps of one fiber keep
    pub record Laws : Type 0 where
      pub due : (f : F) (s : S) (g : G) (t : T) → r.Go f s g t → left.due f ≡ right.due g
      pub turn : (f : F) (s : S) (g : G) (t : T) → r.Go f s g t → (left.world s).turn ≡ (right.world t).turn
      pub step : (f : F) (s : S) (g : G) (t : T) → r.Go f s g t → left.due f ≡ Own → Quiet s (left.step f s)
          → SteppedAlike GoBoth r.Ends EarlyGoing (left.step f s) (right.step g t)
      pub reach : (f : F) (s : S) (g : G) (t : T) → r.Go f s g t → left.due f ≡ Asks → Quiet s (left.reach f s)
          → SteppedAlike AtBoth r.Ends EarlyGoing (left.reach f s) (right.reach g t)
      pub returns : (f : F) (s : S) (g : G) (t : T) → r.Go f s g t → left.due f ≡ Returns → Quiet s (left.reach f s)
          → SteppedAlike EndBoth r.Ends EarlyGoing (left.reach f s) (right.reach g t)
      pub shared_turn : (s : S) (t : T) → r.Shared s t → (left.world s).turn ≡ (right.world t).turn
      pub joins : (f : F) (g : G) → r.At f g → left.joins f ≡ right.joins g
      pub site : (f : F) (g : G) → r.At f g → left.site f ≡ right.site g
      pub perform : (f : F) (s : S) (g : G) (t : T) → r.At f g → r.Shared s t → Quiet s (left.perform f s)
          → SteppedAlike GoBoth r.Ends EarlyGoing (left.perform f s) (right.perform g t)
      pub begun : (s : S) (t : T) → r.Shared s t → (k : ℕ) (x : Thread) → thread_at k (left.world s).threads ≡ Some x
          → GoBoth (left.begun x.func x.argument (with_world left (turned k) s)) (right.begun x.func x.argument (with_world right (turned k) t))
      pub shared_turned : (s : S) (t : T) → r.Shared s t → (k : ℕ) → r.Shared (with_world left (turned k) s) (with_world right (turned k) t)
      pub threads : (s : S) (t : T) → r.Shared s t → (left.world s).threads ≡ (right.world t).threads
      pub ends : (s : S) (t : T) → r.Shared s t → (e : End) → r.Ends e (left.world s) e (right.world t)
      pub spent : (f : F) (s : S) (g : G) (t : T) → r.Go f s g t → r.Ends «end».Spent (left.world s) «end».Spent (right.world t)

    -- where the left run has ended, the right one's steps keep what is said of it
    pub record LateLaws : Type 0 where
      pub step : (e : End) (w : World) (g : G) (t : T) → r.Early e w (right.world t) → Later EarlyGoing e w (right.step g t)
      pub reach : (e : End) (w : World) (g : G) (t : T) → r.Early e w (right.world t) → Later EarlyGoing e w (right.reach g t)
      pub perform : (e : End) (w : World) (g : G) (t : T) → r.Early e w (right.world t) → Later EarlyGoing e w (right.perform g t)
      pub ended : (e : End) (w : World) (g : G) (t : T) → r.Early e w (right.world t) → r.Early e w (right.world (ended right g t))
      pub begun : (e : End) (w : World) (t : T) (func argument : ℕ) → r.Early e w (right.world t) → EarlyGoing e w (right.begun func argument t)
      pub turned : (e : End) (w : World) (t : T) (k : ℕ) → r.Early e w (right.world t) → r.Early e w (right.world (with_world right (turned k) t))
      pub ends : (e : End) (w v : World) → r.Early e w v → (x : End) → r.Ends e w x v

    -- what no step of one fiber makes less
    pub record Counts : Type 0 where
      pub step : (f : F) (s : S) → r.count (left.world s) ≤ count_of r.count of_going (left.step f s)
      pub reach : (f : F) (s : S) → r.count (left.world s) ≤ count_of r.count of_going (left.reach f s)
      pub perform : (f : F) (s : S) → r.count (left.world s) ≤ count_of r.count of_going (left.perform f s)
      pub ended : (f : F) (s : S) → r.count (left.world (ended left f s)) ≡ r.count (left.world s)
      pub begun : (s : S) (func argument : ℕ) → r.count (left.world (left.begun func argument s).shared) ≡ r.count (left.world s)
      pub turned : (s : S) (k : ℕ) → r.count (left.world (with_world left (turned k) s)) ≡ r.count (left.world s)

    -- fibers that stand, by number
    abbrev pub BothStand : Option F → Option G → Type 0
    BothStand None None = Unit {0}
    BothStand (Some f) (Some g) = r.At f g
    BothStand None (Some g) = ⊥
    BothStand (Some f) None = ⊥

    pub record OthersAlike (a : Others F) (b : Others G) : Type 0 where
      pub stands : (k : ℕ) → BothStand (a.stands k) (b.stands k)
      pub picks : a.picks ≡ b.picks

    -- states of two runs of fibers that are alike
    abbrev pub FibersAlike : Fibers F S → Fibers G T → Type 0
    FibersAlike (Goes f s a) (Goes g t b) = r.Go f s g t × OthersAlike a b
    FibersAlike (Waits s a) (Waits t b) = r.Shared s t × OthersAlike a b
    FibersAlike (Goes f s a) (Waits t b) = ⊥
    FibersAlike (Waits s a) (Goes g t b) = ⊥

    abbrev pub left_world : Fibers F S → World
    left_world c = left.world (shared_of left c)

    -- a step of the left run counts nothing
    abbrev pub QuietStep : List ℕ → Fibers F S → Type 0
    QuietStep schedule c = count_of r.count left_world (fibers_step left schedule c) ≡ r.count (left_world c)
