-- What the threads of a run in the code say of the fibers of the definitions, and what each function does to them (own).
use Rattle.std.specs.Prelude.{◌≡◌, ◌<◌, ◌≤◌, ◌+◌, ◌%◌, ◌⊎◌, ℕ, zero, suc, Bool, true, false, List, [], ◌∷◌, ◌++◌, map, length, get_or, slice_get, eqb, ltb, if◌then◌else◌, Option, Some, None, option_map, unwrap_or}
use Rattle.ms_ir.specs.declared.calls.External.TheVariants as external
use Rattle.ms_ir.specs.declared.calls.RuntimeFn.TheVariants as function
use Rattle.ms_ir.specs.Signatures.{is_thread_call}
use Rattle.ms_runs.specs.World.{Thread, Effect}
use Rattle.ms_runs.specs.Calls.{tell}
use Rattle.ms_runs.specs.Threads.{Fibers, fiber_limit}
use Rattle.ms_runs_threads.specs.Fibers.{runnable, standing}
use Rattle.ms_host.specs.declared.calls.Asked.{Asked}
use Rattle.ms_host.specs.declared.calls.Asked.TheVariants as asked
use Rattle.ms_host.specs.declared.calls.Answer.{Answer}
use Rattle.ms_host.specs.declared.calls.Answer.TheVariants as answer
use Rattle.ms_host.specs.declared.calls.HostCall.{HostCall}
use Rattle.ms_host.specs.State.{WorldState, Beside}
use Rattle.ms_host.specs.Answers.{Answered}
use Rattle.ms_machine_frames.specs.declared.frames.Frame.{Frame}
use Rattle.ms_machine_frames.specs.declared.locals.LocalBlock.{LocalBlock}
use Rattle.ms_machine_frames.specs.declared.fibers.Fiber.{Fiber}
use Rattle.ms_machine_frames.specs.Standing.{frames_of}
use Rattle.ms_threads.specs.declared.thread_table.Thread.{Thread as Guest}
use Rattle.ms_threads.specs.declared.thread_table.Parked.{Parked}
use Rattle.ms_threads.specs.declared.thread_table.ThreadTable.{ThreadTable}
use Rattle.ms_threads_schedules_laws.specs.Picks.{Pick}
use Rattle.ms_threads.specs.Recording.{Records, RecordsNext}

-- ---- one thread

-- a thread, as the definitions have it
abbrev pub thread_of : Guest → Thread
thread_of t = record { func = t.func; argument = t.argument; ended = t.ended; joined = t.joined }

-- one that hasn't begun
abbrev pub fresh : (func argument start : ℕ) → Guest
fresh func argument start = record { func = func; argument = argument; start = start; ended = false; joined = false; answer = 0; mask = 0; origin = 0 }

-- one that was joined, and one that has ended with a word, a mask and an origin
abbrev pub joined_guest : Guest → Guest
joined_guest t = record t { joined = true }

abbrev pub ended_guest : (value mask origin : ℕ) → Guest → Guest
ended_guest value mask origin t = record t { ended = true; answer = value; mask = mask; origin = if eqb mask 0 then 0 else origin }

-- the thread with a number; that of `main` is none of these
abbrev pub guest_at : ℕ → List Guest → Option Guest
guest_at zero ts = None
guest_at (suc k) ts = slice_get ts k

-- a number that a thread has, by its place; 0 where there is none
abbrev pub part_at : (Guest → ℕ) → List Guest → ℕ → ℕ
part_at part ts k = unwrap_or (option_map part (slice_get ts k)) 0

-- the item at a place is changed
abbrev pub changed_guests : ℕ → (Guest → Guest) → List Guest → List Guest
changed_guests k change [] = []
changed_guests zero change (t ∷ ts) = change t ∷ ts
changed_guests (suc k) change (t ∷ ts) = t ∷ changed_guests k change ts

-- the thread with a number is changed
abbrev pub changed_guest : ℕ → (Guest → Guest) → List Guest → List Guest
changed_guest zero change ts = ts
changed_guest (suc k) change ts = changed_guests k change ts

-- ---- where one stands

-- what a thread has that stands at a call
pub record Standing : Type 0 where
  pub frames : List Frame
  pub spawned : Bool
  pub heap : List LocalBlock
  pub call : HostCall

-- a fiber that stands at a call
abbrev pub standing_of : Fiber → HostCall → Standing
standing_of fiber call = record { frames = frames_of fiber; spawned = fiber.spawned; heap = fiber.heap.items; call = call }

-- a fiber has the calls of another, and what they have of the heap
pub record SameCalls (old new : Fiber) : Type 0 where
  pub frame : new.frame ≡ old.frame
  pub below : new.below ≡ old.below
  pub spawned : new.spawned ≡ old.spawned
  pub heap : new.heap ≡ old.heap

-- where the thread of a place stands, if it does
abbrev pub stand_of : Parked → Option Standing
stand_of p = option_map (standing_of p.fiber) p.call

-- the same of the place with a number
abbrev pub stand_at : List Parked → ℕ → Option Standing
stand_at [] k = None
stand_at (p ∷ ps) zero = stand_of p
stand_at (p ∷ ps) (suc k) = stand_at ps k

-- ---- calls

-- a thread call is asked for
abbrev pub IsThreadCall : Asked → Type 0
IsThreadCall (asked.External e) = is_thread_call e ≡ true
IsThreadCall (asked.Runtime f) = ⊥

-- what a thread answered is asked for
abbrev pub IsResult : Asked → Type 0
IsResult (asked.Runtime function.ThreadResult) = Unit {0}
IsResult a = ⊥

-- a thread is made
abbrev pub asked_creates : Asked → Bool
asked_creates (asked.External external.PthreadCreate) = true
asked_creates a = false

-- the number that a call joins, if it is a join
abbrev pub asked_joins : Asked → List ℕ → Option ℕ
asked_joins (asked.External external.PthreadJoin) args = Some (get_or args 0 0)
asked_joins a args = None

abbrev pub call_joins : HostCall → Option ℕ
call_joins call = asked_joins call.asked call.args

abbrev pub standing_joins : Standing → Option ℕ
standing_joins s = call_joins s.call

-- the functions that calls begin
abbrev pub asked_starts : Asked → List ℕ → List ℕ
asked_starts (asked.External external.PthreadCreate) args = get_or args 2 0 ∷ []
asked_starts a args = []

-- ---- all threads

abbrev pub threads_of : ThreadTable → List Thread
threads_of g = map thread_of g.threads.items

-- the functions that they begin with
abbrev pub funcs_of : ThreadTable → List ℕ
funcs_of g = map (λ (t : Guest). t.func) g.threads.items

-- the sites of the calls that made them
abbrev pub starts_of : ThreadTable → List ℕ
starts_of g = map (λ (t : Guest). t.start) g.threads.items

-- where the thread with a number stands
abbrev pub stands_of : ThreadTable → ℕ → Option Standing
stands_of g k = stand_at g.parked.items k

-- the threads that may go on, in order of number
abbrev pub runnable_in : ThreadTable → List ℕ
runnable_in g = runnable standing_joins (threads_of g) (stands_of g)

-- the site at which a thread stands
abbrev pub site_of : Option Standing → ℕ
site_of None = 0
site_of (Some s) = s.call.site

-- there is one place for each, and one for that of `main`
abbrev pub Counted : ThreadTable → Type 0
Counted g = length g.parked.items ≡ length g.threads.items + 1

-- they are those that a world has
pub record Shares (g : ThreadTable) (fibers : Fibers) : Type 0 where
  pub turn : fibers.turn ≡ g.turn
  pub threads : fibers.threads ≡ threads_of g
  pub answers : (k : ℕ) → fibers.answers (suc k) ≡ part_at (λ t. t.answer) g.threads.items k
  pub masks : (k : ℕ) → fibers.answer_masks (suc k) ≡ part_at (λ t. t.mask) g.threads.items k
  pub origins : (k : ℕ) → fibers.answer_origins (suc k) ≡ part_at (λ t. t.origin) g.threads.items k

-- ---- changes

-- none was made yet, and no pick
pub record IsNew (g : ThreadTable) : Type 0 where
  pub turn : g.turn ≡ 0
  pub threads : g.threads.items ≡ []
  pub stands : (p : Parked) × ((p.call ≡ None) × (g.parked.items ≡ p ∷ []))
  pub place : g.next_pick ≡ 0
  pub recorder : Records g.recorder []

-- nobody has another turn, and no pick was made
pub record SameTurn (old new : ThreadTable) : Type 0 where
  pub turn : new.turn ≡ old.turn
  pub place : new.next_pick ≡ old.next_pick
  pub recorder : new.recorder ≡ old.recorder

-- one thread more, which stands nowhere
pub record Added (func argument start : ℕ) (old new : ThreadTable) : Type 0 where
  pub threads : new.threads.items ≡ old.threads.items ++ fresh func argument start ∷ []
  pub stands : (p : Parked) × ((p.call ≡ None) × (new.parked.items ≡ old.parked.items ++ p ∷ []))
  pub same : SameTurn old new

-- the thread with a number is changed
pub record Changed (number : ℕ) (change : Guest → Guest) (old new : ThreadTable) : Type 0 where
  pub threads : new.threads.items ≡ changed_guest number change old.threads.items
  pub stands : new.parked ≡ old.parked
  pub same : SameTurn old new

-- the thread that has the turn stands somewhere else, or nowhere
pub record Stands (where_now : Option Standing) (old new : ThreadTable) : Type 0 where
  pub stands : (k : ℕ) → stands_of new k ≡ standing old.turn where_now (stands_of old) k
  pub count : length new.parked.items ≡ length old.parked.items
  pub threads : new.threads ≡ old.threads
  pub same : SameTurn old new

-- the place after a place of the schedule
abbrev pub next_place : List ℕ → ℕ → ℕ
next_place schedule place = if ltb (place + 1) (length schedule) then place + 1 else 0

-- the pick that a schedule makes
abbrev pub picked_of : List ℕ → ThreadTable → Pick
picked_of schedule g = record { chosen = get_or schedule g.next_pick 0 % length (runnable_in g); among = length (runnable_in g) }

-- a thread that may go on was picked by a schedule
pub record Picked (schedule : List ℕ) (old new : ThreadTable) : Type 0 where
  pub some : 0 < length (runnable_in old)
  pub turn : new.turn ≡ get_or (runnable_in old) (get_or schedule old.next_pick 0 % length (runnable_in old)) 0
  pub place : new.next_pick ≡ next_place schedule old.next_pick
  pub recorder : RecordsNext (picked_of schedule old) old.recorder new.recorder
  pub threads : new.threads ≡ old.threads
  pub stands : new.parked ≡ old.parked

-- all stand where they stood; those that were made begin with functions of a list, and were made at a site
pub record KeepsStands (site : ℕ) (starts : List ℕ) (old new : ThreadTable) : Type 0 where
  pub stands : (k : ℕ) → stands_of new k ≡ stands_of old k
  pub counted : Counted old → Counted new
  pub few : Counted old → length old.parked.items ≤ fiber_limit → length new.parked.items ≤ fiber_limit
  pub funcs : (funcs_of new ≡ funcs_of old) ⊎ (funcs_of new ≡ funcs_of old ++ starts)
  pub sites : starts_of new ≡ tell site (threads_of new) (starts_of old)
  pub same : SameTurn old new

-- where the run goes on, the threads are those of a world
abbrev pub SharesOn : Answer → ThreadTable → Fibers → Type 0
SharesOn (answer.Resumed v) g fibers = Shares g fibers
SharesOn (answer.Ended e) g fibers = Unit {0}

-- the effect of a thread call was followed
abbrev pub Did : Effect → Answer → Beside → ThreadTable → WorldState → Type 0
Did effect a beside g w = (fibers : Fibers) × (Answered (record beside { fibers = fibers }) effect a w × SharesOn a g fibers)
