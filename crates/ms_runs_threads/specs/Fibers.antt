-- Fibers over one world: whose turn it is, and what a step of a run of them is (own).
use Rattle.std.specs.Prelude.{ℕ, zero, suc, ◌+◌, ◌%◌, Bool, false, ◌&&◌, not, List, [], ◌∷◌, length, filter, get_or, eqb, if◌then◌else◌, Option, Some, None, is_some}
use Rattle.ms_runs.specs.declared.runs.End.{End}
use Rattle.ms_runs.specs.declared.runs.End.TheVariants as «end»
use Rattle.ms_bits.specs.declared.traps.Trap.TheVariants as trap
use Rattle.ms_runs.specs.World.{World, Thread, stuck}
use Rattle.ms_runs.specs.Plain.{Stepped, More, Stop}
use Rattle.ms_runs.specs.Poisoned.{Poisoned}
use Rattle.ms_runs.specs.Threads.{thread_at, has_ended, join_answer, with_answer}

-- what is due in a fiber: an instruction of its own, a thread call, or the return of its first frame
pub data Due : Type 0 where
  Own : Due
  Asks : Due
  Returns : Due

-- a fiber, and what all fibers share
pub record Going (F S : Type 0) : Type 0 where
  pub fiber : F
  pub shared : S

-- what one fiber is and does: F are its frames, S what all fibers share
pub record Meaning (F S : Type 0) : Type 0 where
  pub world : S → World
  -- the same in another world
  pub within : World → S → S
  pub due : F → Due
  -- the number that the thread call joins at which a fiber stands, if it is a join
  pub joins : F → Option ℕ
  -- the site of what is due
  pub site : F → ℕ
  -- one step
  pub step : F → S → Stepped (Going F S)
  -- up to what is due: its checks
  pub reach : F → S → Stepped (Going F S)
  -- what is due, where its checks are done
  pub perform : F → S → Stepped (Going F S)
  -- the word that the return that is due answers
  pub answer : F → S → Poisoned
  -- the world after the return that is due
  pub left : F → World → World
  -- a function with an argument begins
  pub begun : (func argument : ℕ) → S → Going F S

-- what isn't going on: the fibers that stand at a thread call, by number, and the number of picks
pub record Others (F : Type 0) : Type 0 where
  pub stands : ℕ → Option F
  pub picks : ℕ

-- a state of a run of fibers: one goes on, or a pick is due
pub data Fibers (F S : Type 0) : Type 0 where
  Goes : F → S → Others F → Fibers F S
  Waits : S → Others F → Fibers F S

-- a thread call waits: a join whose answer would be 0, of a fiber that hasn't ended
abbrev pub waits : (own : ℕ) → List Thread → (joins : Option ℕ) → Bool
waits own threads (Some id) = eqb (join_answer own id threads) 0 && not (has_ended (thread_at id threads))
waits own threads None = false

-- a fiber that hasn't ended may go on: it hasn't begun, or stands at a call that needn't wait
abbrev pub may_go : {F : Type 0} → (joins : F → Option ℕ) → (own : ℕ) → List Thread → Option F → Bool
may_go joins own threads None = is_some (thread_at own threads)
may_go joins own threads (Some f) = not (waits own threads (joins f))

-- a fiber is runnable
abbrev pub is_runnable : {F : Type 0} → (joins : F → Option ℕ) → List Thread → (ℕ → Option F) → ℕ → Bool
is_runnable joins threads stands k = not (has_ended (thread_at k threads)) && may_go joins k threads (stands k)

-- the numbers from one on
abbrev pub numbers_from : ℕ → (count : ℕ) → List ℕ
numbers_from k zero = []
numbers_from k (suc n) = k ∷ numbers_from (k + 1) n

-- the runnable fibers in order of number
abbrev pub runnable : {F : Type 0} → (joins : F → Option ℕ) → List Thread → (ℕ → Option F) → List ℕ
runnable joins threads stands = filter (is_runnable joins threads stands) (numbers_from 0 (length threads + 1))

-- another fiber stands at a number, or none
abbrev pub standing : {F : Type 0} → ℕ → Option F → (ℕ → Option F) → (ℕ → Option F)
standing k f stands = λ n. if eqb n k then f else stands n

-- another fiber's turn
abbrev pub turned : ℕ → World → World
turned k w = record w { turn = k }

-- goes on, unless the run ended
abbrev pub goes_on : {A B : Type 0} → Stepped A → (A → Stepped B) → Stepped B
goes_on (More a) go = go a
goes_on (Stop e w) go = Stop e w

module _ {F S : Type 0} (means : Meaning F S) where
  abbrev pub with_world : (World → World) → S → S
  with_world change s = means.within (change (means.world s)) s

  -- what is shared after the return that is due
  abbrev pub ended : F → S → S
  ended f s = with_world (λ w. with_answer (means.answer f s) (means.left f w)) s

  -- a fiber takes a step: where a thread call or the return of its first frame is due, it does the checks, and a pick is due
  abbrev pub moved : F → S → Others F → Due → Stepped (Fibers F S)
  moved f s rest Own = goes_on (means.step f s) (λ g. More (Goes g.fiber g.shared rest))
  moved f s rest Asks =
      goes_on (means.reach f s)
      (λ g. More (Waits g.shared (record rest { stands = standing (means.world g.shared).turn (Some g.fiber) rest.stands })))
  moved f s rest Returns = goes_on (means.reach f s) (λ g. More (Waits (ended g.fiber g.shared) rest))

  abbrev pub moves : Others F → Going F S → Stepped (Fibers F S)
  moves rest g = moved g.fiber g.shared rest (means.due g.fiber)

  -- a fiber that is picked begins, or does its call, and takes its next step
  abbrev pub resumed : S → Others F → ℕ → Option F → Option Thread → Stepped (Fibers F S)
  resumed s rest k (Some f) thread = goes_on (means.perform f s) (moves rest)
  resumed s rest k None (Some t) = moves rest (means.begun t.func t.argument s)
  resumed s rest k None None = Stop stuck (means.world s)

  abbrev pub resumes : S → Others F → ℕ → Stepped (Fibers F S)
  resumes s rest k =
      resumed (with_world (turned k) s) (record { stands = standing k None rest.stands; picks = rest.picks + 1 }) k (rest.stands k)
      (thread_at k (means.world s).threads)

  -- the site at which a fiber stands
  abbrev pub site_at : Option F → ℕ
  site_at None = 0
  site_at (Some f) = means.site f

  -- a pick: of r runnable fibers the one at the place that the schedule gives, modulo r; where there is none, the run ends
  abbrev pub picked : List ℕ → S → Others F → List ℕ → Stepped (Fibers F S)
  picked schedule s rest [] = Stop («end».Trap trap.Deadlock (site_at (rest.stands 0))) (means.world s)
  picked schedule s rest (k ∷ ks) =
      resumes s rest (get_or (k ∷ ks) (get_or schedule (rest.picks % length schedule) 0 % length (k ∷ ks)) k)

  -- one step of a run of fibers, with a pick before it where one is due
  abbrev pub fibers_step : List ℕ → Fibers F S → Stepped (Fibers F S)
  fibers_step schedule (Goes f s rest) = moved f s rest (means.due f)
  fibers_step schedule (Waits s rest) = picked schedule s rest (runnable means.joins (means.world s).threads rest.stands)

  abbrev pub shared_of : Fibers F S → S
  shared_of (Goes f s rest) = s
  shared_of (Waits s rest) = s

  abbrev pub world_of : Fibers F S → World
  world_of c = means.world (shared_of c)

  -- how a run ends that comes to a state, or has ended
  abbrev pub finish : (Fibers F S → End × World) → Stepped (Fibers F S) → End × World
  finish go (More c) = go c
  finish go (Stop e w) = (e, w)

  -- how a run of at most so many steps ends, and the world then
  abbrev pub ends_in : List ℕ → ℕ → Fibers F S → End × World
  ends_in schedule zero c = («end».Spent, world_of c)
  ends_in schedule (suc n) c = finish (ends_in schedule n) (fibers_step schedule c)
