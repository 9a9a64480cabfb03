-- What a run of threads keeps from pause to pause (own).
use Rattle.std.specs.Prelude.{◌≡◌, ◌<◌, ◌≤◌, ◌+◌, ◌*◌, ◌%◌, ◌^◌, ℕ, suc, true, false, not, List, [], ◌++◌, length, reverse, eqb, Option, Some, None, slice_get}
use Rattle.ms_ir.specs.declared.syntax.Module.{Module}
use Rattle.ms_ir.specs.Instructions.{over_funcs, count_roots}
use Rattle.ms_runs.specs.declared.runs.Calls.{Calls}
use Rattle.ms_runs.specs.declared.runs.End.{End}
use Rattle.ms_runs.specs.declared.runs.Setup.{Setup}
use Rattle.ms_runs.specs.World.{World}
use Rattle.ms_runs.specs.Control.{Frame}
use Rattle.ms_runs.specs.Threads.{fiber_limit, result_mask, result_origin}
use Rattle.ms_runs.specs.Plain.{PlainState, Stepped, setting_of}
use Rattle.ms_runs.specs.Calls.{call_sites, said_in, said_after, places_of}
use Rattle.ms_runs_good_laws.specs.GoodStates.{GoodFrames, IsBelow, IsStart}
use Rattle.ms_runs_good_laws.specs.GoodWorlds.{GoodWorld, GivesBytes, FitsCell}
use Rattle.ms_runs_threads.specs.Fibers.{Meaning, Going as FiberGoing, Others, Fibers, Goes, Waits, waits as must_wait, goes_on, moves, finish, site_at, fibers_step, world_of, ends_in}
use Rattle.ms_runs_threads.specs.PlainFibers.{Shared, plain_fiber, plain_threads, plain_threads_start}
use Rattle.ms_runs_threads.specs.Calls.{Acting, Told, none_told, start_of, told_after, fibers_told, plain_threads_calls}
use Rattle.ms_runs_threads.specs.Blind.{after_call, going, fibers_blind, fibers_end, fibers_end_after, plain_threads_blind, plain_threads_end_calls}
use Rattle.ms_threads_schedules_laws.specs.Picks.{Pick, picked_on, picks_in, plain_picks}
use Rattle.ms_host.specs.State.{WorldState, Beside}
use Rattle.ms_host.specs.Shows.{Shows}
use Rattle.ms_host.specs.SlotBytes.{ShowsSlots}
use Rattle.ms_host.specs.Answers.{Answered, asked_effect}
use Rattle.ms_host.specs.declared.calls.Asked.{Asked}
use Rattle.ms_host.specs.declared.calls.Asked.TheVariants as asked
use Rattle.ms_host.specs.declared.calls.Answer.{Answer}
use Rattle.ms_host.specs.declared.calls.Answer.TheVariants as answer
use Rattle.ms_host.specs.declared.calls.HostCall.{HostCall}
use Rattle.ms_machine_frames.specs.Owning.{blocks_of}
use Rattle.ms_machine_steps.specs.Waiting.{FirstWaits, types_due}
use Rattle.ms_machine_steps.specs.Advances.{Resumes, Stops}
use Rattle.ms_machine.specs.Running.{AllStandFor, IsRunning}
use Rattle.ms_runtime.specs.declared.runs.Running.{Running}
use Rattle.ms_runtime.specs.declared.reports.ReportLimit.{ReportLimit}
use Rattle.ms_runtime.specs.Served.{limit_of, IsBeside}
use Rattle.ms_runtime.specs.Answering.{HasRoom}
use Rattle.ms_runtime.specs.Going.{ahead, Keeping, Answers, LeftAfter, HasSlack}
use Rattle.ms_runtime.specs.Places.{Placed}
use Rattle.ms_runtime.specs.Recorded.{calls_from, Noted as NotedAt}
use Rattle.ms_threads.specs.declared.thread_table.Thread.{Thread as Guest}
use Rattle.ms_threads.specs.declared.thread_table.ThreadTable.{ThreadTable}
use Rattle.ms_threads.specs.declared.runs.ThreadedRun.{ThreadedRun}
use Rattle.ms_threads.specs.ThreadTables.{Standing, standing_of, threads_of, funcs_of, starts_of, stands_of, guest_at, call_joins, IsThreadCall, Counted, Shares, Changed, ended_guest}
use Rattle.ms_threads.specs.Recording.{Records}

-- ---- where fibers stand

-- a thread that stands at a thread call stands for a fiber, whatever the world is
pub record StandsFor (m : Module) (u : Setup) (number : ℕ) (s : Standing) (fs : List (Frame ℕ)) : Type 0 where
  pub frames : AllStandFor m s.frames fs
  pub waits : FirstWaits m u fs s.call
  pub call : IsThreadCall s.call.asked
  pub good : GoodFrames IsBelow m fs
  pub spawned : s.spawned ≡ not (eqb number 0)
  pub blocks : reverse s.heap ≡ blocks_of fs

-- a thread stands where a fiber stands, or both stand nowhere
abbrev pub StandsAt : Module → Setup → ℕ → Option Standing → Option (List (Frame ℕ)) → Type 0
StandsAt m u number None None = Unit {0}
StandsAt m u number (Some s) (Some frames) = StandsFor m u number s frames
StandsAt m u number s frames = ⊥

-- the threads that don't go on stand where fibers stand, and as many picks were made; each can begin with its function
pub record Standings (m : Module) (u : Setup) (schedule : List ℕ) (g : ThreadTable) (others : Others (List (Frame ℕ))) : Type 0 where
  pub counted : Counted g
  pub few : length g.parked.items ≤ fiber_limit
  pub turn : g.turn < length g.parked.items
  pub stands : (k : ℕ) → StandsAt m u k (stands_of g k) (others.stands k)
  pub place : g.next_pick ≡ others.picks % length schedule
  pub starts : (k f : ℕ) → slice_get (funcs_of g) k ≡ Some f → IsStart m f

-- ---- how a run ends

abbrev pub fiber_of : Module → Setup → Meaning (List (Frame ℕ)) Shared
fiber_of m u = plain_fiber (setting_of m u) m

abbrev pub shared_in : PlainState → Shared
shared_in state = record { slots = state.slots; world = state.world }

-- the state of fibers in which one goes on
abbrev pub goes_at : PlainState → Others (List (Frame ℕ)) → Fibers (List (Frame ℕ)) Shared
goes_at state others = Goes state.frames (shared_in state) others

-- from a state of fibers on, with so many steps, and from a step on, and what is picked after some picks
abbrev pub ends_from : Module → Setup → List ℕ → (made : List Pick) → ℕ → Fibers (List (Frame ℕ)) Shared → (End × World) × List Pick
ends_from m u schedule made left c = (ends_in (fiber_of m u) schedule left c, made ++ picks_in (fiber_of m u) schedule left c)

abbrev pub ends_after : Module → Setup → List ℕ → (made : List Pick) → ℕ → Stepped (Fibers (List (Frame ℕ)) Shared) → (End × World) × List Pick
ends_after m u schedule made left step =
    (finish (fiber_of m u) (ends_in (fiber_of m u) schedule left) step, made ++ picked_on (fiber_of m u) (picks_in (fiber_of m u) schedule left) step)

-- how the whole run ends, and what it picks
abbrev pub last_of : Module → Setup → List ℕ → (End × World) × List Pick
last_of m u schedule = ends_from m u schedule [] u.steps (plain_threads_start m u)

-- a run has ended so, after some picks
abbrev pub ended_so : (made : List Pick) → End → World → (End × World) × List Pick
ended_so made e last = ((e, last), made ++ [])

-- the picks so far are recorded
abbrev pub Recorded : ThreadedRun → (made : List Pick) → Type 0
Recorded t made = Records t.table.recorder made

-- ---- what is told of reports, and of the end

-- the calls at reports, and those where the run ends, if they stand somewhere then
abbrev pub told_so : List Calls → Option Calls → List Calls × Option Calls
told_so calls last = (calls, last)

-- from a state of fibers on, with so many steps, where so much was told, and from a step on that one of them takes
abbrev pub tells_from : Module → Setup → List ℕ → Told → ℕ → Fibers (List (Frame ℕ)) Shared → List Calls × Option Calls
tells_from m u schedule said left c = told_so (fibers_told (fiber_of m u) (call_sites m) schedule left c said) (fibers_end (fiber_of m u) (call_sites m) schedule left c said)

abbrev pub tells_after : Module → Setup → List ℕ → Acting (List (Frame ℕ)) → Told → ℕ → Stepped (Fibers (List (Frame ℕ)) Shared) → List Calls × Option Calls
tells_after m u schedule a said left step =
    told_so (told_after (fiber_of m u) (call_sites m) a (fibers_told (fiber_of m u) (call_sites m) schedule left) said step)
    (fibers_end_after (fiber_of m u) (call_sites m) a (fibers_end (fiber_of m u) (call_sites m) schedule left) said step)

-- by the whole run
abbrev pub all_told : Module → Setup → List ℕ → List Calls × Option Calls
all_told m u schedule = told_so (plain_threads_calls m u schedule) (plain_threads_end_calls m u schedule)

-- the calls at which the thread stands that goes on, where it has these frames
abbrev pub calls_there : Module → ThreadTable → List (Frame ℕ) → Calls
calls_there m g frames = calls_from m (start_of g.turn (starts_of g)) frames

-- a thread with a number acts from where it stands, or begins
abbrev pub acts : ℕ → Option (List (Frame ℕ)) → Acting (List (Frame ℕ))
acts number from = record { number = number; from = from }

-- what was told so far is recorded, where that is wanted, and of each thread the site of the call that made it
pub record Telling (t : ThreadedRun) (said : Told) : Type 0 where
  pub starts : said.starts ≡ starts_of t.table
  pub counted : length t.running.told.reports ≤ length said.calls
  pub kept : t.wanted ≡ true → t.calls.items ≡ said.calls
  pub none : t.ended ≡ None

-- what is recorded stays
abbrev pub KeepsCalls : ThreadedRun → ThreadedRun → Type 0
KeepsCalls old new = (new.wanted ≡ old.wanted) × (new.calls ≡ old.calls) × (new.ended ≡ old.ended) × (new.places ≡ old.places)

-- the calls at which the thread stands that goes on are recorded for each new report
abbrev pub Noted : Module → ThreadedRun → ThreadedRun → Type 0
Noted m old new = NotedAt m old.running.fiber (start_of old.table.turn (starts_of old.table)) (length old.running.told.reports) old.calls.items new.calls.items

-- ---- what is said of blind uses

-- from a state of fibers on, with so many steps, after these sites, and from a step on that is taken at a site
abbrev pub blind_from : Module → Setup → List ℕ → (sites : List ℕ) → ℕ → Fibers (List (Frame ℕ)) Shared → List ℕ
blind_from m u schedule sites left c = fibers_blind (fiber_of m u) schedule left c sites

abbrev pub blind_after : Module → Setup → List ℕ → (site : ℕ) → (sites : List ℕ) → ℕ → Stepped (Fibers (List (Frame ℕ)) Shared) → List ℕ
blind_after m u schedule site sites left step =
    said_after (λ (w : World). w.blind) (world_of (fiber_of m u)) site
    (said_in (λ (w : World). w.blind) (world_of (fiber_of m u)) (λ c. site_at (fiber_of m u) (going (fiber_of m u) schedule c)) (fibers_step (fiber_of m u) schedule) left) sites step

-- the site at which a thread goes on that stood at a call, once that is done
abbrev pub site_after : Module → Setup → List (Frame ℕ) → Stepped (FiberGoing (List (Frame ℕ)) Shared) → ℕ
site_after m u frames done = site_at (fiber_of m u) (after_call (fiber_of m u) frames done)

-- these are the sites of the blind uses so far, whose places are recorded
pub record Sited (t : ThreadedRun) (sites : List ℕ) : Type 0 where
  pub blind : length sites ≡ t.running.told.blind
  pub placed : t.wanted ≡ true → Placed (places_of sites) t.places

-- ---- a run

-- what a run has where no thread goes on
pub record Between (m : Module) (u : Setup) (schedule : List ℕ) (t : ThreadedRun) (beside : Beside) (shared : Shared) (others : Others (List (Frame ℕ))) : Type 0 where
  pub bytes : GivesBytes u
  pub shows : Shows t.running.world beside shared.world
  pub slots : ShowsSlots t.running.world.slots shared.slots
  pub fill : t.running.world.fill ≡ u.fill
  pub held : (a : ℕ) → shared.slots a < 256
  pub good : GoodWorld FitsCell shared.world
  pub told : IsBeside t.running.depot t.running.told beside
  pub shares : Shares t.table beside.fibers
  pub stands : Standings m u schedule t.table others
  pub roots : t.running.depot.roots ≡ count_roots m
  pub few : length t.running.told.reports < u.reports
  pub room : t.running.world.made + 2 ^ 27 * t.running.budget.left ≤ 2 ^ 58

-- how far it is at most to the end of a run, wherever the thread stands that goes on
abbrev pub most_ahead : Module → Running → ℕ
most_ahead m r = let all = over_funcs (λ inst. 1) m.funcs in r.budget.left * (all + 1) + all

-- a thread goes on
pub record Going (m : Module) (u : Setup) (schedule : List ℕ) (t : ThreadedRun) : Type 0 where
  pub beside : Beside
  pub state : PlainState
  pub others : Others (List (Frame ℕ))
  pub stands : IsRunning m u beside t.running.fiber t.running.world state
  pub told : IsBeside t.running.depot t.running.told beside
  pub keeping : Keeping m u t.running
  pub shares : Shares t.table beside.fibers
  pub standings : Standings m u schedule t.table others
  pub made : List Pick
  pub recorded : Recorded t made
  pub same : ends_from m u schedule made t.running.budget.left (goes_at state others) ≡ last_of m u schedule
  pub said : Told
  pub telling : Telling t said
  pub tells : tells_from m u schedule said t.running.budget.left (goes_at state others) ≡ all_told m u schedule
  pub sites : List ℕ
  pub sited : Sited t sites
  pub lost : blind_from m u schedule sites t.running.budget.left (goes_at state others) ≡ plain_threads_blind m u schedule

-- the same of a thread that waits for the answer of a call: after an external another one may go on
abbrev pub far_of : Module → Asked → Running → ℕ
far_of m (asked.External e) r = suc (most_ahead m r)
far_of m (asked.Runtime f) r = ahead m r

-- a thread waits for the answer of a call: what it comes to then depends on the step, within which it stands
pub record Asking (m : Module) (u : Setup) (schedule : List ℕ) (call : HostCall) (t : ThreadedRun) : Type 0 where
  pub beside : Beside
  pub within : PlainState
  pub others : Others (List (Frame ℕ))
  pub stands : IsRunning m u beside t.running.fiber t.running.world within
  pub waits : FirstWaits m u within.frames call
  pub told : IsBeside t.running.depot t.running.told beside
  pub keeping : Keeping m u t.running
  pub slack : HasSlack call.asked t.running.world.made t.running.budget.left
  pub blind : t.running.told.blind + far_of m call.asked t.running ≤ 2 ^ 62 + 1
  pub shares : Shares t.table beside.fibers
  pub standings : Standings m u schedule t.table others
  pub rest : ℕ
  pub counted : LeftAfter call.asked rest t.running.budget.left
  pub made : List Pick
  pub recorded : Recorded t made
  pub same : ends_after m u schedule made rest (fibers_step (fiber_of m u) schedule (goes_at within others)) ≡ last_of m u schedule
  pub said : Told
  pub telling : Telling t said
  pub tells : tells_from m u schedule said (suc rest) (goes_at within others) ≡ all_told m u schedule
  pub sites : List ℕ
  pub sited : Sited t sites
  pub lost : blind_from m u schedule sites (suc rest) (goes_at within others) ≡ plain_threads_blind m u schedule

-- a thread has come from one state to another by an answered call: it stands at the same calls, and the world is that of the run
pub record CameTo (m : Module) (t : ThreadedRun) (within next : PlainState) : Type 0 where
  pub calls : call_sites m within.frames ≡ call_sites m next.frames
  pub turn : next.world.turn ≡ t.table.turn
  pub reports : next.world.reports ≡ t.running.told.reports
  pub threads : length next.world.threads ≡ length t.table.threads.items
  pub blind : next.world.blind ≡ t.running.told.blind

-- a call at which a thread stands was answered: what is left is to go on after it
pub record After (m : Module) (u : Setup) (schedule : List ℕ) (call : HostCall) (a : Answer) (t : ThreadedRun) : Type 0 where
  pub before : WorldState
  pub old : Beside
  pub within : PlainState
  pub others : Others (List (Frame ℕ))
  pub stands : IsRunning m u old t.running.fiber before within
  pub waits : FirstWaits m u within.frames call
  pub beside : Beside
  pub told : IsBeside t.running.depot t.running.told beside
  pub answered : Answered beside (asked_effect (setting_of m u) (types_due m within.frames) call within.world) a t.running.world
  pub fill : t.running.world.fill ≡ before.fill
  pub slots : t.running.world.slots ≡ before.slots
  pub few : HasRoom u a t.running
  pub blind : t.running.told.blind + ahead m t.running ≤ 2 ^ 62 + 1
  pub roots : t.running.depot.roots ≡ count_roots m
  pub room : t.running.world.made + 2 ^ 27 * t.running.budget.left ≤ 2 ^ 58
  pub shares : (v : Option ℕ) → a ≡ answer.Resumed v → Shares t.table beside.fibers
  pub standings : Standings m u schedule t.table others
  pub made : List Pick
  pub recorded : Recorded t made
  pub goes : (next : PlainState) → Resumes m u call.asked within next → ends_from m u schedule made t.running.budget.left (goes_at next others) ≡ last_of m u schedule
  pub stops : (e : End) (last : World) → Stops m u call.asked within e last → ended_so made e last ≡ last_of m u schedule
  pub said : Told
  pub telling : Telling t said
  pub goes_telling : (next : PlainState) → Resumes m u call.asked within next → CameTo m t within next → tells_from m u schedule said t.running.budget.left (goes_at next others) ≡ all_told m u schedule
  pub stops_telling : (e : End) (last : World) → Stops m u call.asked within e last → last.reports ≡ t.running.told.reports → told_so said.calls (Some (calls_there m t.table within.frames)) ≡ all_told m u schedule
  pub sites : List ℕ
  pub placed : t.wanted ≡ true → Placed (places_of sites) t.places
  pub goes_sited : (next : PlainState) → Resumes m u call.asked within next → CameTo m t within next → length sites ≡ t.running.told.blind
  pub goes_lost : (next : PlainState) → Resumes m u call.asked within next → CameTo m t within next → blind_from m u schedule sites t.running.budget.left (goes_at next others) ≡ plain_threads_blind m u schedule
  pub stops_lost : (e : End) (last : World) → Stops m u call.asked within e last → last.blind ≡ t.running.told.blind → sites ≡ plain_threads_blind m u schedule

-- a pick is due
pub record Picking (m : Module) (u : Setup) (schedule : List ℕ) (t : ThreadedRun) : Type 0 where
  pub beside : Beside
  pub shared : Shared
  pub others : Others (List (Frame ℕ))
  pub between : Between m u schedule t beside shared others
  pub blind : t.running.told.blind + most_ahead m t.running ≤ 2 ^ 62
  pub made : List Pick
  pub recorded : Recorded t made
  pub same : ends_from m u schedule made t.running.budget.left (Waits shared others) ≡ last_of m u schedule
  pub said : Told
  pub telling : Telling t said
  pub tells : tells_from m u schedule said t.running.budget.left (Waits shared others) ≡ all_told m u schedule
  pub sites : List ℕ
  pub sited : Sited t sites
  pub lost : blind_from m u schedule sites t.running.budget.left (Waits shared others) ≡ plain_threads_blind m u schedule

-- a thread was picked that does the call at which it stood, and needn't wait
pub record Performing (m : Module) (u : Setup) (schedule : List ℕ) (s : Standing) (t : ThreadedRun) : Type 0 where
  pub beside : Beside
  pub shared : Shared
  pub others : Others (List (Frame ℕ))
  pub frames : List (Frame ℕ)
  pub between : Between m u schedule t beside shared others
  pub blind : t.running.told.blind + most_ahead m t.running ≤ 2 ^ 62
  pub stood : StandsFor m u t.table.turn s frames
  pub free : must_wait t.table.turn (threads_of t.table) (call_joins s.call) ≡ false
  pub left : ℕ
  pub some : t.running.budget.left ≡ suc left
  pub made : List Pick
  pub recorded : Recorded t made
  pub same : ends_after m u schedule made left (goes_on ((fiber_of m u).perform frames shared) (moves (fiber_of m u) others)) ≡ last_of m u schedule
  pub said : Told
  pub telling : Telling t said
  pub tells : tells_after m u schedule (acts t.table.turn (Some frames)) said left (goes_on ((fiber_of m u).perform frames shared) (moves (fiber_of m u) others)) ≡ all_told m u schedule
  pub sites : List ℕ
  pub sited : Sited t sites
  pub lost : blind_after m u schedule (site_after m u frames ((fiber_of m u).perform frames shared)) sites left (goes_on ((fiber_of m u).perform frames shared) (moves (fiber_of m u) others)) ≡ plain_threads_blind m u schedule

-- a thread was picked that begins
pub record Beginning (m : Module) (u : Setup) (schedule : List ℕ) (t : ThreadedRun) : Type 0 where
  pub beside : Beside
  pub shared : Shared
  pub others : Others (List (Frame ℕ))
  pub between : Between m u schedule t beside shared others
  pub blind : t.running.told.blind + most_ahead m t.running ≤ 2 ^ 62
  pub guest : Guest
  pub there : guest_at t.table.turn t.table.threads.items ≡ Some guest
  pub left : ℕ
  pub some : t.running.budget.left ≡ suc left
  pub made : List Pick
  pub recorded : Recorded t made
  pub same : ends_after m u schedule made left (moves (fiber_of m u) others ((fiber_of m u).begun guest.func guest.argument shared)) ≡ last_of m u schedule
  pub said : Told
  pub telling : Telling t said
  pub tells : tells_after m u schedule (acts t.table.turn None) said left (moves (fiber_of m u) others ((fiber_of m u).begun guest.func guest.argument shared)) ≡ all_told m u schedule
  pub sites : List ℕ
  pub sited : Sited t sites
  pub lost : blind_after m u schedule ((fiber_of m u).site ((fiber_of m u).begun guest.func guest.argument shared).fiber) sites left (moves (fiber_of m u) others ((fiber_of m u).begun guest.func guest.argument shared)) ≡ plain_threads_blind m u schedule

-- the thread that has the turn has ended with a word, whose mask and origin the slots hold
abbrev pub HasEnded : (value : ℕ) → ThreadedRun → ThreadedRun → Type 0
HasEnded value old new = (cells : ℕ → ℕ) → ShowsSlots old.running.world.slots cells → Changed old.table.turn (ended_guest value (result_mask cells) (result_origin cells)) old.table new.table

-- a run has ended: it answers what the whole run does, and its picks are recorded, and where they are wanted the calls at its reports
-- and where it ended, and the places of its blind uses
abbrev pub IsOver : Module → Setup → List ℕ → End → ThreadedRun → Type 0
IsOver m u schedule e t =
    Answers (plain_threads m u schedule) e t.running × Recorded t (plain_picks m u schedule) × (t.wanted ≡ true → t.calls.items ≡ plain_threads_calls m u schedule)
    × (t.wanted ≡ true → t.ended ≡ plain_threads_end_calls m u schedule)
    × (t.wanted ≡ true → Placed (places_of (plain_threads_blind m u schedule)) t.places)

-- a run goes on, and is nearer to its end, or it has ended
abbrev pub Turned : Module → Setup → List ℕ → ℕ → Option End → ThreadedRun → Type 0
Turned m u schedule far None t = Going m u schedule t × (ahead m t.running < far)
Turned m u schedule far (Some e) t = IsOver m u schedule e t

-- ---- with some setup and schedule

abbrev pub IsGoing : Module → ReportLimit → List ℕ → ThreadedRun → Type 0
IsGoing m limit schedule t = (u : Setup) × ((limit_of u ≡ limit) × Going m u schedule t)

abbrev pub IsAsking : Module → ReportLimit → HostCall → ThreadedRun → Type 0
IsAsking m limit call t = (u : Setup) × (schedule : List ℕ) × ((limit_of u ≡ limit) × Asking m u schedule call t)

abbrev pub IsAfter : Module → HostCall → Answer → ThreadedRun → Type 0
IsAfter m call a t = (u : Setup) × (schedule : List ℕ) × After m u schedule call a t

abbrev pub IsPicking : Module → List ℕ → ThreadedRun → Type 0
IsPicking m schedule t = (u : Setup) × Picking m u schedule t

abbrev pub IsPerforming : Module → HostCall → ThreadedRun → Type 0
IsPerforming m call t = (u : Setup) × (schedule : List ℕ) × Performing m u schedule (standing_of t.running.fiber call) t

abbrev pub IsBeginning : Module → ThreadedRun → Type 0
IsBeginning m t = (u : Setup) × (schedule : List ℕ) × Beginning m u schedule t
