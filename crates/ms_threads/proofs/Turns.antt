-- From one pause to the next a run of threads keeps what it answers.
use Rattle.std.proofs.Common.{◌≡◌, ◌<◌, ◌≤◌, ◌+◌, ◌-◌, ◌*◌, ◌%◌, ◌^◌, ℕ, suc, Bool, true, false, eqb, if◌then◌else◌, List, [], ◌∷◌, ◌++◌, length, slice_get, refl, sym, ap, subst, ◌∙◌, arith, Option, Some, None}
use Rattle.std.proofs.lemmas.Nat.{mod_below}
use Rattle.ms_bits.specs.Maps.{number_at}
use Rattle.ms_ir.specs.declared.syntax.Module.{Module}
use Rattle.ms_ir.specs.declared.calls.Slot.TheVariants as slot
use Rattle.ms_ir.specs.Names.{slot_room}
use Rattle.ms_ir.specs.Instructions.{over_funcs}
use Rattle.ms_runs.specs.declared.runs.End.{End}
use Rattle.ms_runs.specs.declared.runs.End.TheVariants as «end»
use Rattle.ms_runs.specs.declared.runs.Setup.{Setup}
use Rattle.ms_runs.specs.World.{World, result}
use Rattle.ms_runs.specs.Control.{given_back}
use Rattle.ms_runs.specs.Poisoned.{Poisoned}
use Rattle.ms_runs.specs.Threads.{Fibers, fibers_of, with_answer, result_mask, result_origin}
use Rattle.ms_runs_good_laws.specs.GoodWorlds.{GoodWorld, FitsCell}
use Rattle.ms_runs_good_laws.proofs.WorldChanges.{given_back_good}
use Rattle.ms_runs_threads.specs.Fibers.{Waits, fibers_step}
use Rattle.ms_runs_threads.specs.PlainFibers.{Shared, plain_threads}
use Rattle.ms_runs_threads.specs.Calls.{Told, start_of}
use Rattle.ms_runs_threads.specs.Blind.{plain_threads_blind}
use Rattle.ms_runs.specs.declared.runs.Calls.{Calls}
use Rattle.ms_runs.specs.Calls.{places_of}
use Rattle.ms_host.specs.State.{WorldState, Beside}
use Rattle.ms_host.specs.Shows.{Shows}
use Rattle.ms_host.specs.SlotBytes.{ShowsSlots}
use Rattle.ms_host.specs.declared.calls.Asked.{Asked}
use Rattle.ms_host.specs.declared.calls.Asked.TheVariants as asked
use Rattle.ms_host.specs.declared.calls.HostCall.{HostCall}
use Rattle.ms_machine_frames.specs.declared.fibers.Fiber.{Fiber}
use Rattle.ms_runs.specs.Plain.{PlainState, Stepped, More, steps, setting_of}
use Rattle.ms_runs_good_laws.proofs.ReportsGrow.{stepped_world, step_blind_grows}
use Rattle.ms_runtime.proofs.Countings.{of_reports}
use Rattle.ms_runs_fills_laws.proofs.Kept.{given_back_kept}
use Rattle.ms_threads_laws.proofs.OwnSteps.{back_keeps}
use Rattle.ms_runtime.specs.declared.runs.Running.{Running}
use Rattle.ms_machine_steps.specs.Advances.{step_of, AllOwn, Within, Counts, IsSpent, HasEnded as HasStopped, HasAsked, HasFinished}
use Rattle.ms_machine.specs.Running.{IsRunning}
use Rattle.ms_runtime.specs.Places.{Placed}
use Rattle.ms_runtime.specs.Served.{IsBeside}
use Rattle.ms_runtime.specs.Going.{ahead, LeftAfter}
use Rattle.ms_runtime.proofs.Goings.{answers_so, fewer, not_further, slack_is, after}
use Rattle.ms_threads.specs.declared.runs.ThreadedRun.{ThreadedRun}
use Rattle.ms_threads.specs.ThreadTables.{Shares, Changed, KeepsStands, ended_guest, starts_of}
use Rattle.ms_threads_schedules_laws.specs.Picks.{Pick}
use Rattle.ms_threads.specs.declared.thread_table.ThreadTable.{ThreadTable}
use Rattle.ms_threads.specs.Recording.{Records}
use Rattle.ms_threads.specs.Going.{Standings, Recorded, IsOver, ended_so, ends_after, last_of, fiber_of, goes_at, told_so, tells_from, all_told, calls_there, blind_from, Telling, Sited, KeepsCalls, most_ahead, far_of, Going, Asking, Picking, HasEnded}
use Rattle.ms_threads.proofs.Threading.{shows_fibers, ended_fiber, shares_ended, starts_changed, keeps_changed}
use Rattle.ms_threads.proofs.Kept.{standings_kept}
use Rattle.ms_threads.proofs.Telling.{telling_kept, all_started, calls_by, going, spent_tells, due_tells, within_tells, more_after, over_after, own_fibers}
use Rattle.ms_threads.proofs.BlindUses.{blind_said, sited_kept, stands_at, more_blind, over_blind, spent_blind, due_blind, within_blind}
use Rattle.ms_threads.proofs.FiberSteps.{same_step, step_ends, step_returns, run_spent, run_due, answered_word, after_return}

-- ---- numbers

-- after a step that was counted it is nearer to the end, wherever the next thread stands
counted_far : (left left' at all : ℕ) → left' < left → suc (left' * (all + 1) + all) ≤ left * (all + 1) + (all - at)
counted_far left left' at all lt =
    let d : ℕ = left - left' - 1 in
    let e : left ≡ left' + 1 + d = omega (arith, lt) in
    let more : left * (all + 1) ≡ left' * (all + 1) + (all + 1) + d * (all + 1) = ap (λ n. n * (all + 1)) e ∙ times left' d (all + 1) in
    omega (arith, more)
  where
    times : (a d b : ℕ) → (a + 1 + d) * b ≡ a * b + b + d * b
    times a d b = omega arith

-- what an ended thread answered keeps the world good
ended_good : (mask value origin : ℕ) (w : World) → GoodWorld FitsCell w → GoodWorld FitsCell (with_answer (record { value = value; mask = mask; origin = origin % 2 ^ 32 }) w)
ended_good mask value origin w g = record {
  bytes = g.bytes;
  shadow = g.shadow;
  origins = g.origins;
  pairs = g.pairs;
  input = g.input;
  output = g.output;
  sizes = g.sizes;
  answers = λ k. by_tests (eqb k w.turn) (eqb mask 0) k (g.answers k);
}
  where
    by_tests : (b c : Bool) (k : ℕ) → w.answer_origins k < 2 ^ 32 → (if b then (if c then 0 else origin % 2 ^ 32) else w.answer_origins k) < 2 ^ 32
    by_tests true true k few = omega arith
    by_tests true false k few = mod_below origin (2 ^ 32) (omega arith)
    by_tests false c k few = few

-- ---- ends

module _ (m : Module) (u : Setup) (schedule : List ℕ) where
  -- a run that ends so answers what the whole run does
  pub ends_so : (made : List Pick) (e : End) (last : World) (beside : Beside) (t : ThreadedRun) → Recorded t made → ended_so made e last ≡ last_of m u schedule → Shows t.running.world beside last → IsBeside t.running.depot t.running.told beside
      → t.running.told.blind ≤ 2 ^ 62 → (calls : List Calls) (one : Option Calls) → (t.wanted ≡ true → t.calls.items ≡ calls) → (t.wanted ≡ true → t.ended ≡ one) → told_so calls one ≡ all_told m u schedule
      → (sites : List ℕ) → (t.wanted ≡ true → Placed (places_of sites) t.places) → sites ≡ plain_threads_blind m u schedule → IsOver m u schedule e t
  ends_so made e last beside t recorded is shows told few calls one kept ended tells sites placed lost = (
    answers_so (plain_threads m u schedule) e last beside t.running (ap (λ (at : (End × World) × List Pick). result at.0.0 at.0.1) (sym is)) shows told few,
    subst (Records t.table.recorder) (sym (append_nil made) ∙ ap (λ (at : (End × World) × List Pick). at.1) is) recorded,
    λ wanted. kept wanted ∙ ap (λ (p : List Calls × Option Calls). p.0) tells,
    λ wanted. ended wanted ∙ ap (λ (p : List Calls × Option Calls). p.1) tells,
    λ wanted. subst (λ (l : List ℕ). Placed (places_of l) t.places) lost (placed wanted),
  )
    where
      append_nil : (l : List Pick) → l ++ [] ≡ l
      append_nil [] = refl
      append_nil (p ∷ l) = ap (λ ps. p ∷ ps) (append_nil l)

  module _ (t : ThreadedRun) (g : Going m u schedule t) (t' : ThreadedRun) (depot : t'.running.depot ≡ t.running.depot) (told : t'.running.told ≡ t.running.told) (guests : t'.table ≡ t.table) (calls : KeepsCalls t t') where
    still_telling : Telling t' g.said
    still_telling = telling_kept t t' g.said g.telling (ap starts_of guests) told calls

    -- nothing new is to be told where reports and threads are those that were there
    told_few : (last : World) → last.reports ≡ g.beside.reports → length last.reports ≤ length g.said.calls
    told_few last e = let same : length last.reports ≡ length t.running.told.reports = ap length (e ∙ g.told.reports) in omega (arith, same, g.telling.counted)

    started_few : length g.state.world.threads ≤ length g.said.starts
    started_few = let all = all_started t g.beside t.running.world g.state.world g.said g.stands.shows g.shares g.telling in omega (arith, all)

    still_recorded : Recorded t' g.made
    still_recorded = subst (λ (x : ThreadTable). Records x.recorder g.made) (sym guests) g.recorded

    still_beside : IsBeside t'.running.depot t'.running.told g.beside
    still_beside = subst (λ d. IsBeside d t'.running.told g.beside) (sym depot) (subst (λ r. IsBeside t.running.depot r g.beside) (sym told) g.told)

    same_blind : t'.running.told.blind ≡ t.running.told.blind
    same_blind = ap (λ r. r.blind) told

    still_sited : Sited t' g.sites
    still_sited = sited_kept t t' g.sites g.sited told calls

    -- nor are blind uses
    lost_few : (w : WorldState) (last : World) → Shows w g.beside last → last.blind ≤ length g.sites
    lost_few w last shows = blind_said g.beside w last t.running g.sites shows g.told (omega (arith, g.keeping.blind)) g.sited.blind

    still_few : t'.running.told.blind ≤ 2 ^ 62
    still_few = let e = same_blind in omega (arith, e, g.keeping.blind)

    few_reports : length t'.running.told.reports < u.reports
    few_reports = subst (λ r. length r.reports < u.reports) (sym told) g.keeping.few

    -- no step is left
    pub turn_spent : IsSpent (IsRunning m u g.beside) m u g.state t.running.budget.left t'.running.fiber t'.running.world t'.running.budget.left → IsOver m u schedule «end».Spent t'
    turn_spent h =
        ends_so g.made «end».Spent h.last.world g.beside t' still_recorded (sym (run_spent m u schedule g.made t.running.budget.left g.state h.last g.others h.own h.came) ∙ g.same) h.stands.shows still_beside still_few g.said.calls None still_telling.kept (λ wanted. still_telling.none)
        (sym (spent_tells m u schedule t.running.budget.left g.state h.last g.others g.said h.own h.came started_few (told_few h.last.world h.stands.shows.reports)) ∙ g.tells)
        g.sites still_sited.placed (sym (spent_blind m u schedule t.running.budget.left g.state h.last g.others g.sites h.own h.came (lost_few t'.running.world h.last.world h.stands.shows)) ∙ g.lost)

    -- a step ended it
    pub turn_ended : (e : End) (h : HasStopped m u g.beside g.state t.running.budget.left e t'.running.fiber t'.running.world) (t'' : ThreadedRun) → t'' ≡ record t' { ended = t''.ended }
        → (t'.wanted ≡ true → t''.ended ≡ Some (calls_there m t'.table h.within.frames)) → IsOver m u schedule e t''
    turn_ended e h t'' is ended =
        let turn_then : h.before.world.turn ≡ t'.table.turn = ap (λ (f : Fibers). f.turn) (own_fibers m u schedule h.done g.state h.before h.own h.came ∙ g.stands.shows.fibers) ∙ g.shares.turn ∙ ap (λ (x : ThreadTable). x.turn) (sym guests) in
        let there : calls_there m t'.table h.within.frames ≡ calls_by m u schedule (going m u schedule h.before) g.said = λ i. record { sites = sym h.same.calls i; started = start_of (sym turn_then i) (sym still_telling.starts i) } in
        let rest : ℕ = t.running.budget.left - h.done - 1 in
        let sum : rest + h.done + 1 ≡ t.running.budget.left = omega (arith, h.few) in
        let all = told_few h.last h.shows.reports in
        let up = (of_reports m u).grows h.before in
        let same : length (stepped_world (step_of m u h.before)).reports ≡ length h.last.reports = ap (λ (y : Stepped PlainState). length (stepped_world y).reports) h.ends.step in
        let few = lost_few t'.running.world h.last h.shows in
        let more = step_blind_grows (setting_of m u) m h.before in
        let most : (stepped_world (step_of m u h.before)).blind ≡ h.last.blind = ap (λ (y : Stepped PlainState). (stepped_world y).blind) h.ends.step in
        subst (IsOver m u schedule e) (sym is)
        (ends_so g.made e h.last g.beside (record t' { ended = t''.ended }) still_recorded
        (sym (run_due m u schedule g.made t.running.budget.left rest h.done g.state h.before g.others sum h.own h.came ∙ ap (ends_after m u schedule g.made rest) (step_ends m u schedule h.before g.others e h.last h.ends)) ∙ g.same)
        h.shows still_beside still_few g.said.calls (Some (calls_by m u schedule (going m u schedule h.before) g.said)) still_telling.kept (λ wanted. ended wanted ∙ ap (λ (c : Calls). Some c) there)
        (sym (due_tells m u schedule t.running.budget.left rest h.done g.state h.before g.others g.said sum h.own h.came started_few (omega (arith, all, up, same))
        ∙ over_after m u schedule (going m u schedule h.before) g.said rest (fibers_step (fiber_of m u) schedule (goes_at h.before g.others)) e h.last (step_ends m u schedule h.before g.others e h.last h.ends) all)
        ∙ g.tells)
        g.sites still_sited.placed
        (sym (due_blind m u schedule t.running.budget.left rest h.done g.state h.before g.others g.sites sum h.own h.came (omega (arith, few, more, most))
        ∙ over_blind m u schedule (stands_at m u schedule h.before) g.sites rest (fibers_step (fiber_of m u) schedule (goes_at h.before g.others)) e h.last (step_ends m u schedule h.before g.others e h.last h.ends) few)
        ∙ g.lost))

    -- a step that was begun tells what it does from a state within it on
    module _ (rest done : ℕ) (before within : PlainState) (sum : rest + done + 1 ≡ t.running.budget.left) (came : steps (step_of m u) done g.state ≡ More before) (own : AllOwn m u done g.state) (same : Within m u before within)
        (reports : within.world.reports ≡ g.beside.reports) (fibers : fibers_of within.world ≡ g.beside.fibers) where
      turn_within : before.world.turn ≡ within.world.turn
      turn_within = ap (λ (f : Fibers). f.turn) (own_fibers m u schedule done g.state before own came ∙ g.stands.shows.fibers ∙ sym fibers)

      pub started_within : length within.world.threads ≤ length g.said.starts
      started_within = let e : length within.world.threads ≡ length g.state.world.threads = ap (λ (f : Fibers). length f.threads) (fibers ∙ sym g.stands.shows.fibers) in let le = started_few in omega (arith, e, le)

      pub tells_within : tells_from m u schedule g.said (suc rest) (goes_at within g.others) ≡ all_told m u schedule
      tells_within =
          let all = told_few within.world reports in
          let up = same.reports in
          sym (due_tells m u schedule t.running.budget.left rest done g.state before g.others g.said sum own came started_few (omega (arith, all, up))
          ∙ within_tells m u schedule before within g.others g.said rest same turn_within started_within)
          ∙ g.tells

    -- and says what it does from there on
    lost_within : (rest done : ℕ) (before within : PlainState) → rest + done + 1 ≡ t.running.budget.left → steps (step_of m u) done g.state ≡ More before → AllOwn m u done g.state → Within m u before within → within.world.blind ≤ length g.sites
        → blind_from m u schedule g.sites (suc rest) (goes_at within g.others) ≡ plain_threads_blind m u schedule
    lost_within rest done before within sum came own same few =
        let up = same.blind in
        sym (due_blind m u schedule t.running.budget.left rest done g.state before g.others g.sites sum own came (omega (arith, few, up)) ∙ within_blind m u schedule before within g.others g.sites rest same) ∙ g.lost

    -- ---- a call is asked for

    module _ (call : HostCall) (h : HasAsked (IsRunning m u g.beside) m u g.state t.running.budget.left t.running.fiber.frame.at call t'.running.fiber t'.running.world t'.running.budget.left)
        (made : t'.running.world.made + 2 ^ 26 * t'.running.budget.left ≤ t.running.world.made + 2 ^ 26 * t.running.budget.left) where
      fewer_left : t'.running.budget.left ≤ t.running.budget.left
      fewer_left = fewer m u g.beside g.state t.running t'.running g.keeping.room call h made

      nearer : ahead m t'.running ≤ ahead m t.running
      nearer = not_further m u g.beside g.state t.running t'.running g.keeping.room call h made

      far_by : (a : Asked) → Counts a t.running.budget.left (t'.running.budget.left + h.done) → far_of m a t'.running ≤ ahead m t.running
      far_by (asked.External e) c = counted_far t.running.budget.left t'.running.budget.left t.running.fiber.frame.at (over_funcs (λ inst. 1) m.funcs) (omega (arith, c))
      far_by (asked.Runtime f) c = nearer

      -- it is no further to the end than it was
      pub asked_far : far_of m call.asked t'.running ≤ ahead m t.running
      asked_far = far_by call.asked h.counted

      pub turn_asks : Asking m u schedule call t'
      turn_asks =
          let b : (rest : ℕ) × (LeftAfter call.asked rest t'.running.budget.left × (rest + h.done + 1 ≡ t.running.budget.left)) = after m u g.beside g.state t.running t'.running g.keeping.room call h made in
          record {
            beside = g.beside;
            within = h.within;
            others = g.others;
            stands = h.stands;
            waits = h.waits;
            told = still_beside;
            keeping = record {
              roots = ap (λ d. d.roots) depot ∙ g.keeping.roots;
              few = few_reports;
              room = let le = fewer_left in omega (arith, le, made, g.keeping.room);
              blind = let e = same_blind in let le = nearer in omega (arith, e, le, g.keeping.blind);
            };
            slack = slack_is m u g.beside g.state t.running t'.running g.keeping.room call h made;
            blind = let e = same_blind in let le = asked_far in omega (arith, e, le, g.keeping.blind);
            shares = subst (λ x. Shares x g.beside.fibers) (sym guests) g.shares;
            standings = subst (λ x. Standings m u schedule x g.others) (sym guests) g.standings;
            rest = b.0;
            counted = b.1.0;
            made = g.made;
            recorded = still_recorded;
            same =
                ap (ends_after m u schedule g.made b.0) (sym (same_step m u schedule h.before h.within g.others h.same))
                ∙ sym (run_due m u schedule g.made t.running.budget.left b.0 h.done g.state h.before g.others b.1.1 h.own h.came) ∙ g.same;
            said = g.said;
            telling = still_telling;
            tells = tells_within b.0 h.done h.before h.within b.1.1 h.came h.own h.same h.stands.shows.reports h.stands.shows.fibers;
            sites = g.sites;
            sited = still_sited;
            lost = lost_within b.0 h.done h.before h.within b.1.1 h.came h.own h.same (lost_few t'.running.world h.within.world h.stands.shows);
          }

    -- ---- the thread has ended

    module _ (value : ℕ) (h : HasFinished m u g.beside g.state t.running.budget.left value t'.running.world t'.running.budget.left)
        (made : t'.running.world.made + 2 ^ 26 * t'.running.budget.left ≤ t.running.world.made + 2 ^ 26 * t.running.budget.left)
        (t'' : ThreadedRun) (fiber : Fiber) (running : t''.running ≡ record t'.running { fiber = fiber }) (has : HasEnded value t' t'') (calls' : KeepsCalls t' t'') where
      abbrev word : Poisoned
      word = answered_word m u schedule g.beside h.within value t'.running.world h.finishes

      abbrev back : World
      back = given_back h.finishes.frame h.within.world

      abbrev beside' : Beside
      beside' = record g.beside { fibers = ended_fiber word g.beside.fibers }

      abbrev shared' : Shared
      shared' = after_return m u schedule g.beside h.within value t'.running.world h.finishes

      changed : Changed t'.table.turn (ended_guest value (result_mask h.within.slots) (result_origin h.within.slots)) t'.table t''.table
      changed = has h.within.slots h.finishes.slots

      shares : Shares t'.table g.beside.fibers
      shares = subst (λ x. Shares x g.beside.fibers) (sym guests) g.shares

      standings : Standings m u schedule t'.table g.others
      standings = subst (λ x. Standings m u schedule x g.others) (sym guests) g.standings

      kept : KeepsStands 0 [] t'.table t''.table
      kept = keeps_changed t'.table.turn (ended_guest value (result_mask h.within.slots) (result_origin h.within.slots)) (λ t. refl) (λ t. refl) 0 [] t'.table t''.table changed

      telling : Telling t'' g.said
      telling =
          telling_kept t' t'' g.said still_telling (starts_changed t'.table.turn (ended_guest value (result_mask h.within.slots) (result_origin h.within.slots)) (λ t. refl) t'.table t''.table changed)
          (ap (λ (r : Running). r.told) running) calls'

      now_shared : Shares t''.table beside'.fibers
      now_shared = shares_ended value (result_mask h.within.slots) (result_origin h.within.slots) t'.table t''.table g.beside.fibers shares turn_few changed

      turn_few : t'.table.turn ≤ length t'.table.threads.items
      turn_few = omega (arith, standings.turn, standings.counted)

      shown : Shows t'.running.world beside' shared'.world
      shown =
          subst (λ (f : Fibers). Shows t'.running.world (record g.beside { fibers = ended_fiber word f }) shared'.world) h.finishes.shows.fibers
          (shows_fibers t'.running.world g.beside back (ended_fiber word (fibers_of back)) h.finishes.shows)

      good_world : GoodWorld FitsCell shared'.world
      good_world = ended_good (result_mask h.within.slots) value (number_at h.within.slots (slot_room slot.RetvalOrigin).0 4) back (given_back_good FitsCell h.finishes.frame h.within.world h.finishes.sound.world)

      left_is : t'.running.budget.left + h.done + 1 ≡ t.running.budget.left
      left_is = h.counted

      far' : suc (most_ahead m t'.running) ≤ ahead m t.running
      far' = let e = left_is in counted_far t.running.budget.left t'.running.budget.left t.running.fiber.frame.at (over_funcs (λ inst. 1) m.funcs) (omega (arith, e))

      -- it is nearer to the end than it was
      pub finished_far : suc (most_ahead m t''.running) ≤ ahead m t.running
      finished_far = subst (λ r. suc (most_ahead m r) ≤ ahead m t.running) (sym running) far'

      -- and a pick is due
      pub turn_picks : Picking m u schedule t''
      turn_picks = record {
        beside = beside';
        shared = shared';
        others = g.others;
        between = record {
          bytes = g.stands.bytes;
          shows = subst (λ r. Shows r.world beside' shared'.world) (sym running) shown;
          slots = subst (λ r. ShowsSlots r.world.slots h.within.slots) (sym running) h.finishes.slots;
          fill = ap (λ r. r.world.fill) running ∙ h.finishes.fill;
          held = h.finishes.sound.slots;
          good = good_world;
          told = subst (λ r. IsBeside r.depot r.told beside') (sym running) (record { pairs = still_beside.pairs; reports = still_beside.reports; blind = still_beside.blind });
          shares = now_shared;
          stands = standings_kept m u schedule 0 [] t'.table t''.table g.others standings kept (λ k f e. absurd (none_there k f e));
          roots = ap (λ r. r.depot.roots) running ∙ ap (λ d. d.roots) depot ∙ g.keeping.roots;
          few = subst (λ r. length r.told.reports < u.reports) (sym running) few_reports;
          room = subst (λ r. r.world.made + 2 ^ 27 * r.budget.left ≤ 2 ^ 58) (sym running) (let e = left_is in omega (arith, e, made, g.keeping.room));
        };
        blind = subst (λ r. r.told.blind + most_ahead m r ≤ 2 ^ 62) (sym running) (let e = same_blind in let le = far' in omega (arith, e, le, g.keeping.blind));
        made = g.made;
        recorded = subst (λ r. Records r g.made) (sym changed.same.recorder) still_recorded;
        same =
            let sum : t''.running.budget.left + h.done + 1 ≡ t.running.budget.left = ap (λ r. r.budget.left + h.done + 1) running ∙ h.counted in
            sym (ap (ends_after m u schedule g.made t''.running.budget.left)
            (same_step m u schedule h.before h.within g.others h.same ∙ step_returns m u schedule g.beside h.within value t'.running.world h.finishes g.others))
            ∙ sym (run_due m u schedule g.made t.running.budget.left t''.running.budget.left h.done g.state h.before g.others sum h.own h.came) ∙ g.same;
        said = g.said;
        telling = telling;
        tells =
            let sum : t''.running.budget.left + h.done + 1 ≡ t.running.budget.left = ap (λ r. r.budget.left + h.done + 1) running ∙ h.counted in
            let all = all_started t'' beside' t'.running.world shared'.world g.said shown now_shared telling in
            sym (more_after m u schedule (going m u schedule h.within) g.said t''.running.budget.left (fibers_step (fiber_of m u) schedule (goes_at h.within g.others)) (Waits shared' g.others)
            (step_returns m u schedule g.beside h.within value t'.running.world h.finishes g.others) (omega (arith, all)) (told_few shared'.world shown.reports))
            ∙ tells_within t''.running.budget.left h.done h.before h.within sum h.came h.own h.same
            (sym (given_back_kept h.finishes.frame h.within.world).reports ∙ h.finishes.shows.reports) (sym (back_keeps h.finishes.frame h.within.world) ∙ h.finishes.shows.fibers);
        sites = g.sites;
        sited = sited_kept t' t'' g.sites still_sited (ap (λ (r : Running). r.told) running) calls';
        lost =
            let sum : t''.running.budget.left + h.done + 1 ≡ t.running.budget.left = ap (λ r. r.budget.left + h.done + 1) running ∙ h.counted in
            let few : back.blind ≤ length g.sites = lost_few t'.running.world back h.finishes.shows in
            let same : back.blind ≡ h.within.world.blind = (given_back_kept h.finishes.frame h.within.world).blind in
            sym (more_blind m u schedule (stands_at m u schedule h.within) g.sites t''.running.budget.left (fibers_step (fiber_of m u) schedule (goes_at h.within g.others)) (Waits shared' g.others)
            (step_returns m u schedule g.beside h.within value t'.running.world h.finishes g.others) few)
            ∙ lost_within t''.running.budget.left h.done h.before h.within sum h.came h.own h.same (omega (arith, few, same));
      }
        where
          none_there : (k f : ℕ) → slice_get [] k ≡ Some f → ⊥
          none_there k f e = cc
