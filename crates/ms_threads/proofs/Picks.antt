-- A pick of the code is a pick of the definitions: from where a thread stands at a call, or has ended, to where another goes on.
use Rattle.std.proofs.Common.{◌≡◌, ◌≢◌, ◌<◌, ◌≤◌, ◌+◌, ◌-◌, ◌*◌, ◌%◌, ◌^◌, ◌&&◌, ℕ, zero, suc, Bool, true, false, not, eqb, List, [], ◌∷◌, ◌++◌, length, map, filter, drop, get_or, refl, sym, ap, subst, ◌∙◌, arith, Option, Some, None, option_map, is_some, true≢false}
use Rattle.std.specs.Prelude.{MatchBool}
use Rattle.std.proofs.lemmas.Bool.{and_parts}
use Rattle.std.proofs.lemmas.Nat.{mod_below}
use Rattle.ms_bits.specs.declared.traps.Trap.TheVariants as trap
use Rattle.ms_ir.specs.declared.syntax.Name.{Name}
use Rattle.ms_ir.specs.declared.syntax.Inst.{Inst}
use Rattle.ms_ir.specs.declared.syntax.Module.{Module}
use Rattle.ms_ir.specs.declared.calls.External.{External}
use Rattle.ms_ir.specs.declared.calls.External.TheVariants as external
use Rattle.ms_ir.specs.Instructions.{over_funcs, func_index, insts_at, external_named, operands}
use Rattle.ms_runs.specs.declared.runs.Calls.{Calls}
use Rattle.ms_runs.specs.declared.runs.End.TheVariants as «end»
use Rattle.ms_runs.specs.declared.runs.Setup.{Setup}
use Rattle.ms_runs.specs.World.{Thread}
use Rattle.ms_runs.specs.Control.{Frame, here, read_all}
use Rattle.ms_runs.specs.Act.{plain_reading}
use Rattle.ms_runs.specs.Plain.{setting_of}
use Rattle.ms_runs.specs.Calls.{call_sites}
use Rattle.ms_runs.proofs.Telling.{told_enough, tell_none}
use Rattle.ms_runs.specs.Threads.{Fibers, fibers_of, thread_at, has_ended}
use Rattle.ms_runs_threads.specs.Fibers.{Others, Waits, waits, may_go, is_runnable, numbers_from, runnable, standing, turned, with_world, resumed, resumes, picked, site_at, fibers_step, ends_in}
use Rattle.ms_runs_threads.specs.Calls.{acting_of}
use Rattle.ms_runs_threads.specs.Blind.{going_on, going_of, plain_threads_blind}
use Rattle.ms_runs_threads.specs.PlainFibers.{Shared, due_inst, joins_of, op_joins, inst_joins, frames_joins, frames_site, words_due}
use Rattle.ms_host.specs.State.{WorldState, Beside}
use Rattle.ms_host.specs.Shows.{Shows}
use Rattle.ms_host.specs.declared.calls.Asked.{Asked}
use Rattle.ms_host.specs.declared.calls.Asked.TheVariants as asked
use Rattle.ms_host.specs.declared.calls.HostCall.{HostCall}
use Rattle.ms_machine_frames.specs.declared.fibers.Fiber.{Fiber}
use Rattle.ms_machine_steps.specs.Waiting.{IsAsked, FirstWaits}
use Rattle.ms_runtime.specs.declared.runs.Running.{Running}
use Rattle.ms_runtime.specs.Served.{IsBeside}
use Rattle.ms_runtime.specs.Going.{LeftAfter, HasSlack}
use Rattle.ms_threads.specs.declared.thread_table.Thread.{Thread as Guest}
use Rattle.ms_threads.specs.declared.thread_table.ThreadTable.{ThreadTable}
use Rattle.ms_threads.specs.declared.runs.ThreadedRun.{ThreadedRun}
use Rattle.ms_threads.specs.ThreadTables.{Standing, standing_of, stand_at, thread_of, guest_at, threads_of, stands_of, site_of, asked_joins, call_joins, standing_joins, runnable_in, IsThreadCall, Stands, picked_of, Picked}
use Rattle.ms_threads_schedules_laws.specs.Picks.{Pick, number_at, pick_by, picked_on, picks_in}
use Rattle.ms_threads.specs.Recording.{Records}
use Rattle.ms_threads.specs.Going.{StandsFor, StandsAt, IsOver, ended_so, fiber_of, shared_in, goes_at, ends_from, ends_after, last_of, told_so, tells_from, tells_after, all_told, acts, blind_from, blind_after, Telling, Sited, KeepsCalls, Between, most_ahead, far_of, Asking, Picking, Performing, Beginning}
use Rattle.ms_threads.proofs.Numbered.{test_of, picked_goes}
use Rattle.ms_threads.proofs.Threading.{same_thread, shows_fibers, shares_turned, shares_same}
use Rattle.ms_threads.proofs.Kept.{standings_stood, standings_picked}
use Rattle.ms_threads.proofs.FiberSteps.{first_due, unmarked_of, dropped, step_asks}
use Rattle.ms_threads.proofs.Telling.{telling_kept, all_started, calls_by, going, more_after}
use Rattle.ms_threads.proofs.BlindUses.{blind_said, sited_kept, stands_at, more_blind}
use Rattle.ms_threads.proofs.Turns.{ends_so}

-- what a pick says, where one may go on and where none may
pub picked_so : (schedule : List ℕ) (g h : ThreadTable) (b : Bool) → b ≡ true → MatchBool b (Picked schedule g h) ((runnable_in g ≡ []) × (h ≡ g)) → Picked schedule g h
picked_so schedule g h true e p = p
picked_so schedule g h false e p = absurd (true≢false (sym e))

pub none_so : (schedule : List ℕ) (g h : ThreadTable) (b : Bool) → b ≡ false → MatchBool b (Picked schedule g h) ((runnable_in g ≡ []) × (h ≡ g)) → (runnable_in g ≡ []) × (h ≡ g)
none_so schedule g h true e p = absurd (true≢false e)
none_so schedule g h false e p = p

-- ---- a thread stands at a call

module _ (m : Module) (u : Setup) (schedule : List ℕ) where
  room_of : (of : Asked) → IsThreadCall of → (made left : ℕ) → HasSlack of made left → made + 2 ^ 27 * left ≤ 2 ^ 58
  room_of (asked.External e) is made left h = omega (arith, h)
  room_of (asked.Runtime f) is made left h = absurd is

  blind_of : (of : Asked) → IsThreadCall of → (r : Running) → r.told.blind + far_of m of r ≤ 2 ^ 62 + 1 → r.told.blind + most_ahead m r ≤ 2 ^ 62
  blind_of (asked.External e) is r h = omega (arith, h)
  blind_of (asked.Runtime f) is r h = absurd is

  rest_of_call : (of : Asked) → IsThreadCall of → (rest left : ℕ) → LeftAfter of rest left → rest ≡ left
  rest_of_call (asked.External e) is rest left h = h
  rest_of_call (asked.Runtime f) is rest left h = absurd is

  pub stood_picks : (t t' : ThreadedRun) (call : HostCall) (a : Asking m u schedule call t) → IsThreadCall call.asked → Stands (Some (standing_of t.running.fiber call)) t.table t'.table
      → t'.running.world ≡ t.running.world → t'.running.depot ≡ t.running.depot → t'.running.told ≡ t.running.told → t'.running.budget ≡ t.running.budget → KeepsCalls t t' → Picking m u schedule t'
  stood_picks t t' call a is st world depot told budget calls = record {
    beside = a.beside;
    shared = shared_in a.within;
    others = record a.others { stands = standing t.table.turn (Some a.within.frames) a.others.stands };
    between = record {
      bytes = a.stands.bytes;
      shows = subst (λ w. Shows w a.beside a.within.world) (sym world) a.stands.shows;
      slots = λ k lt. a.stands.slots k lt ∙ ap (λ (w : WorldState). get_or w.slots k 0) (sym world);
      fill = ap (λ (w : WorldState). w.fill) world ∙ a.stands.fill;
      held = a.stands.sound.slots;
      good = a.stands.sound.world;
      told = subst (λ d. IsBeside d t'.running.told a.beside) (sym depot) (subst (λ r. IsBeside t.running.depot r a.beside) (sym told) a.told);
      shares = shares_same t.table t'.table a.beside.fibers a.shares st.same.turn st.threads;
      stands = standings_stood m u schedule (Some (standing_of t.running.fiber call)) (Some a.within.frames) t.table t'.table a.others a.standings st now;
      roots = ap (λ d. d.roots) depot ∙ a.keeping.roots;
      few = subst (λ r. length r.reports < u.reports) (sym told) a.keeping.few;
      room = let made : t'.running.world.made ≡ t.running.world.made = ap (λ (w : WorldState). w.made) world in let left : t'.running.budget.left ≡ t.running.budget.left = ap (λ b. b.left) budget in
          omega (arith, made, left, room_of call.asked is t.running.world.made t.running.budget.left a.slack);
    };
    blind = let b : t'.running.told.blind ≡ t.running.told.blind = ap (λ r. r.blind) told in let most : most_ahead m t'.running ≡ most_ahead m t.running = ap (λ b. b.left * (over_funcs (λ inst. 1) m.funcs + 1) + over_funcs (λ inst. 1) m.funcs) budget in
        omega (arith, b, most, blind_of call.asked is t.running a.blind);
    made = a.made;
    recorded = subst (λ r. Records r a.made) (sym st.same.recorder) a.recorded;
    same =
        ap (λ n. ends_from m u schedule a.made n (Waits (shared_in a.within) (record a.others { stands = standing t.table.turn (Some a.within.frames) a.others.stands }))) (ap (λ b. b.left) budget ∙ sym (rest_of_call call.asked is a.rest t.running.budget.left a.counted))
        ∙ ap (λ n. ends_from m u schedule a.made a.rest (Waits (shared_in a.within) (record a.others { stands = standing n (Some a.within.frames) a.others.stands }))) (sym turn_is)
        ∙ sym (ap (ends_after m u schedule a.made a.rest) (step_asks m u schedule a.within call a.others is a.waits)) ∙ a.same;
    said = a.said;
    telling = telling_kept t t' a.said a.telling (ap (λ v. map (λ (x : Guest). x.start) v.items) st.threads) told calls;
    tells =
        let all = all_started t a.beside t.running.world a.within.world a.said a.stands.shows a.shares a.telling in
        let reports : length a.within.world.reports ≡ length t.running.told.reports = ap length (a.stands.shows.reports ∙ a.told.reports) in
        ap (λ n. tells_from m u schedule a.said n (Waits (shared_in a.within) (record a.others { stands = standing t.table.turn (Some a.within.frames) a.others.stands }))) (ap (λ b. b.left) budget ∙ sym (rest_of_call call.asked is a.rest t.running.budget.left a.counted))
        ∙ ap (λ n. tells_from m u schedule a.said a.rest (Waits (shared_in a.within) (record a.others { stands = standing n (Some a.within.frames) a.others.stands }))) (sym turn_is)
        ∙ sym (more_after m u schedule (going m u schedule a.within) a.said a.rest (fibers_step (fiber_of m u) schedule (goes_at a.within a.others))
        (Waits (shared_in a.within) (record a.others { stands = standing a.within.world.turn (Some a.within.frames) a.others.stands })) (step_asks m u schedule a.within call a.others is a.waits) (omega (arith, all)) (omega (arith, reports, a.telling.counted)))
        ∙ a.tells;
    sites = a.sites;
    sited = sited_kept t t' a.sites a.sited told calls;
    lost =
        ap (λ n. blind_from m u schedule a.sites n (Waits (shared_in a.within) (record a.others { stands = standing t.table.turn (Some a.within.frames) a.others.stands }))) (ap (λ b. b.left) budget ∙ sym (rest_of_call call.asked is a.rest t.running.budget.left a.counted))
        ∙ ap (λ n. blind_from m u schedule a.sites a.rest (Waits (shared_in a.within) (record a.others { stands = standing n (Some a.within.frames) a.others.stands }))) (sym turn_is)
        ∙ sym (more_blind m u schedule (stands_at m u schedule a.within) a.sites a.rest (fibers_step (fiber_of m u) schedule (goes_at a.within a.others))
        (Waits (shared_in a.within) (record a.others { stands = standing a.within.world.turn (Some a.within.frames) a.others.stands })) (step_asks m u schedule a.within call a.others is a.waits)
        (blind_said a.beside t.running.world a.within.world t.running a.sites a.stands.shows a.told (omega (arith, a.keeping.blind)) a.sited.blind))
        ∙ a.lost;
  }
    where
      turn_is : a.within.world.turn ≡ t.table.turn
      turn_is = ap (λ f. f.turn) a.stands.shows.fibers ∙ a.shares.turn

      now : StandsFor m u t.table.turn (standing_of t.running.fiber call) a.within.frames
      now = record {
        frames = a.stands.frames;
        waits = a.waits;
        call = is;
        good = a.stands.sound.frames;
        spawned = a.stands.owns.spawned ∙ ap (λ (n : ℕ). not (eqb n 0)) turn_is;
        blocks = a.stands.owns.blocks;
      }

  -- ---- what a fiber joins, and where it stands

  map_same : (xs : List ℕ) → map (λ v. v) xs ≡ xs
  map_same [] = refl
  map_same (x ∷ xs) = ap (λ ys. x ∷ ys) (map_same xs)

  by_external : (e : External) (words : List ℕ) → joins_of (Some e) words ≡ asked_joins (asked.External e) words
  by_external external.PthreadJoin words = refl
  by_external e words = refl

  joins_by : (of : Asked) (inst : Inst) (callee : Name) (words : List ℕ) → IsThreadCall of → IsAsked m inst.marked callee of → joins_of (external_named (func_index m.funcs) callee) words ≡ asked_joins of words
  joins_by (asked.External e) inst callee words is h = ap (λ o. joins_of o words) h.2 ∙ by_external e words
  joins_by (asked.Runtime f) inst callee words is h = absurd is

  same_joins : (s : Standing) (fs : List (Frame ℕ)) → IsThreadCall s.call.asked → FirstWaits m u fs s.call → frames_joins plain_reading (λ v. v) (setting_of m u) m fs ≡ standing_joins s
  same_joins s [] is w = absurd w
  same_joins s (f ∷ below) is w =
      ap (λ xs. inst_joins (func_index m.funcs) (due_inst xs) (map (λ v. v) (words_due plain_reading (setting_of m u) m f (due_inst xs)))) (dropped (insts_at m f.func f.block) f.place w.inst w.due)
      ∙ ap (λ o. inst_joins (func_index m.funcs) o (map (λ v. v) (words_due plain_reading (setting_of m u) m f o)))
      (first_due m u schedule w.inst (drop (suc f.place) (insts_at m f.func f.block)) (unmarked_of m u schedule s.call.asked w.inst w.callee is w.asked))
      ∙ ap (op_joins (func_index m.funcs) w.inst.op) (map_same (read_all (plain_reading.read (setting_of m u) f.values) (operands w.inst.op) (here (setting_of m u) m f).root))
      ∙ ap (λ o. op_joins (func_index m.funcs) o (read_all (plain_reading.read (setting_of m u) f.values) (operands o) (here (setting_of m u) m f).root)) w.calls
      ∙ ap (joins_of (external_named (func_index m.funcs) w.callee)) (sym w.words)
      ∙ joins_by s.call.asked w.inst w.callee s.call.args is w.asked

  site_is : (s : Standing) (fs : List (Frame ℕ)) → FirstWaits m u fs s.call → frames_site (setting_of m u) m fs ≡ s.call.site
  site_is s [] w = absurd w
  site_is s (f ∷ below) w = sym w.site

  same_site : (n : ℕ) (o : Option Standing) (f : Option (List (Frame ℕ))) → StandsAt m u n o f → site_at (fiber_of m u) f ≡ site_of o
  same_site n None None h = refl
  same_site n (Some s) (Some fs) h = site_is s fs h.waits
  same_site n None (Some fs) h = absurd h
  same_site n (Some s) None h = absurd h

  -- ---- who may go on

  same_may : (threads : List Thread) (n : ℕ) (o : Option Standing) (f : Option (List (Frame ℕ))) → StandsAt m u n o f → may_go (fiber_of m u).joins n threads f ≡ may_go standing_joins n threads o
  same_may threads n None None h = refl
  same_may threads n (Some s) (Some fs) h = ap (λ j. not (waits n threads j)) (same_joins s fs h.call h.waits)
  same_may threads n None (Some fs) h = absurd h
  same_may threads n (Some s) None h = absurd h

  module _ (t : ThreadedRun) (p : Picking m u schedule t) where
    threads_are : p.shared.world.threads ≡ threads_of t.table
    threads_are = ap (λ f. f.threads) p.between.shows.fibers ∙ p.between.shares.threads

    tests : (k : ℕ) → is_runnable (fiber_of m u).joins (threads_of t.table) p.others.stands k ≡ test_of t.table k
    tests k = ap (λ b. not (has_ended (thread_at k (threads_of t.table))) && b) (same_may (threads_of t.table) k (stands_of t.table k) (p.others.stands k) (p.between.stands.stands k))

    same_runnable : runnable (fiber_of m u).joins p.shared.world.threads p.others.stands ≡ runnable_in t.table
    same_runnable =
        ap (λ threads. runnable (fiber_of m u).joins threads p.others.stands) threads_are
        ∙ ap (λ (test : ℕ → Bool). filter test (numbers_from 0 (length (threads_of t.table) + 1))) (λ i k. tests k i)

    few : t.running.told.blind ≤ 2 ^ 62
    few = omega (arith, p.blind)

    told_few : length p.shared.world.reports ≤ length p.said.calls
    told_few = let same : length p.shared.world.reports ≡ length t.running.told.reports = ap length (p.between.shows.reports ∙ p.between.told.reports) in omega (arith, same, p.telling.counted)

    -- no step is left
    pub pick_spent : t.running.budget.left ≡ 0 → IsOver m u schedule «end».Spent t
    pick_spent none =
        ends_so m u schedule p.made «end».Spent p.shared.world p.beside t p.recorded (sym (ap (λ n. ends_from m u schedule p.made n (Waits p.shared p.others)) none) ∙ p.same) p.between.shows p.between.told few p.said.calls None p.telling.kept (λ wanted. p.telling.none)
        (sym (ap (λ n. tells_from m u schedule p.said n (Waits p.shared p.others)) none) ∙ p.tells)
        p.sites p.sited.placed (sym (ap (λ n. blind_from m u schedule p.sites n (Waits p.shared p.others)) none) ∙ p.lost)

    -- the steps after a pick
    abbrev pub left_of : ℕ
    left_of = t.running.budget.left - 1

    one_left : t.running.budget.left ≢ 0 → t.running.budget.left ≡ suc left_of
    one_left some = omega (arith, some)

    -- the picks after one among some fibers
    abbrev made_by : List ℕ → List Pick
    made_by ks = p.made ++ pick_by (number_at schedule p.others.picks) ks

    append_assoc : (xs ys zs : List Pick) → (xs ++ ys) ++ zs ≡ xs ++ (ys ++ zs)
    append_assoc [] ys zs = refl
    append_assoc (x ∷ xs) ys zs = ap (λ l. x ∷ l) (append_assoc xs ys zs)

    after : t.running.budget.left ≢ 0 → ends_after m u schedule (made_by (runnable_in t.table)) left_of (picked (fiber_of m u) schedule p.shared p.others (runnable_in t.table)) ≡ last_of m u schedule
    after some =
        ap (λ ks. ends_after m u schedule (made_by ks) left_of (picked (fiber_of m u) schedule p.shared p.others ks)) (sym same_runnable)
        ∙ ap (λ l. (ends_in (fiber_of m u) schedule (suc left_of) (Waits p.shared p.others), l))
        (append_assoc p.made (pick_by (number_at schedule p.others.picks) (runnable (fiber_of m u).joins p.shared.world.threads p.others.stands))
        (picked_on (fiber_of m u) (picks_in (fiber_of m u) schedule left_of) (fibers_step (fiber_of m u) schedule (Waits p.shared p.others))))
        ∙ sym (ap (λ n. ends_from m u schedule p.made n (Waits p.shared p.others)) (one_left some)) ∙ p.same

    -- what is told from that step on, by whom it takes among some fibers
    abbrev told_by_pick : List ℕ → List Calls × Option Calls
    told_by_pick ks = tells_after m u schedule (acting_of (fiber_of m u) (call_sites m) schedule p.others ks) p.said left_of (picked (fiber_of m u) schedule p.shared p.others ks)

    told_after_pick : t.running.budget.left ≢ 0 → told_by_pick (runnable_in t.table) ≡ all_told m u schedule
    told_after_pick some = ap told_by_pick (sym same_runnable) ∙ sym (ap (λ n. tells_from m u schedule p.said n (Waits p.shared p.others)) (one_left some)) ∙ p.tells

    -- and what is said of blind uses, by where it is taken
    abbrev lost_by_pick : List ℕ → List ℕ
    lost_by_pick ks = blind_after m u schedule (site_at (fiber_of m u) (going_of (fiber_of m u) schedule p.shared p.others ks)) p.sites left_of (picked (fiber_of m u) schedule p.shared p.others ks)

    lost_after_pick : t.running.budget.left ≢ 0 → lost_by_pick (runnable_in t.table) ≡ plain_threads_blind m u schedule
    lost_after_pick some = ap lost_by_pick (sym same_runnable) ∙ sym (ap (λ n. blind_from m u schedule p.sites n (Waits p.shared p.others)) (one_left some)) ∙ p.lost

    lost_few : p.shared.world.blind ≤ length p.sites
    lost_few = blind_said p.beside t.running.world p.shared.world t.running p.sites p.between.shows p.between.told few p.sited.blind

    append_nil : (l : List Pick) → l ++ [] ≡ l
    append_nil [] = refl
    append_nil (x ∷ l) = ap (λ ps. x ∷ ps) (append_nil l)

    -- nobody may go on
    pub pick_deadlocks : t.running.budget.left ≢ 0 → runnable_in t.table ≡ [] → (site : ℕ) → site ≡ site_of (stands_of t.table 0) → (last : Option Calls) → (t.wanted ≡ true → last ≡ Some (record { sites = []; started = 0 }))
        → IsOver m u schedule («end».Trap trap.Deadlock site) (record t { ended = last })
    pick_deadlocks some none site is last ended =
        ends_so m u schedule (p.made ++ []) («end».Trap trap.Deadlock site) p.shared.world p.beside (record t { ended = last }) (subst (Records t.table.recorder) (sym (append_nil p.made)) p.recorded)
        (ap (λ s. ended_so (p.made ++ []) («end».Trap trap.Deadlock s) p.shared.world) (is ∙ sym (same_site 0 (stands_of t.table 0) (p.others.stands 0) (p.between.stands.stands 0)))
        ∙ sym (ap (λ ks. ends_after m u schedule (made_by ks) left_of (picked (fiber_of m u) schedule p.shared p.others ks)) none) ∙ after some)
        p.between.shows p.between.told few p.said.calls (Some (calls_by m u schedule (acts 0 None) p.said)) p.telling.kept ended
        (sym (ap (λ (l : List Calls). told_so l (Some (calls_by m u schedule (acts 0 None) p.said))) (tell_none (calls_by m u schedule (acts 0 None) p.said) p.shared.world.reports p.said.calls told_few))
        ∙ sym (ap told_by_pick none) ∙ told_after_pick some)
        p.sites p.sited.placed (sym (told_enough 0 p.shared.world.blind p.sites lost_few) ∙ sym (ap lost_by_pick none) ∙ lost_after_pick some)

    -- ---- one was picked

    get_any : (xs : List ℕ) (k d e : ℕ) → k < length xs → get_or xs k d ≡ get_or xs k e
    get_any [] k d e lt = absurd (omega (arith, lt))
    get_any (x ∷ xs) zero d e lt = refl
    get_any (x ∷ xs) (suc k) d e lt = get_any xs k d e (omega (arith, lt))

    picks : (ks : List ℕ) → 0 < length ks → picked (fiber_of m u) schedule p.shared p.others ks
        ≡ resumes (fiber_of m u) p.shared p.others (get_or ks (get_or schedule (p.others.picks % length schedule) 0 % length ks) 0)
    picks [] some = absurd (omega (arith, some))
    picks (k ∷ ks) some = ap (resumes (fiber_of m u) p.shared p.others) (get_any (k ∷ ks) (get_or schedule (p.others.picks % length schedule) 0 % length (k ∷ ks)) k 0 (mod_below (get_or schedule (p.others.picks % length schedule) 0) (length (k ∷ ks)) some))

    -- who acts then
    who : (ks : List ℕ) → 0 < length ks → acting_of (fiber_of m u) (call_sites m) schedule p.others ks
        ≡ acts (get_or ks (get_or schedule (p.others.picks % length schedule) 0 % length ks) 0) (p.others.stands (get_or ks (get_or schedule (p.others.picks % length schedule) 0 % length ks) 0))
    who [] some = absurd (omega (arith, some))
    who (k ∷ ks) some =
        ap (λ (n : ℕ). acts n (p.others.stands n)) (get_any (k ∷ ks) (get_or schedule (p.others.picks % length schedule) 0 % length (k ∷ ks)) k 0 (mod_below (get_or schedule (p.others.picks % length schedule) 0) (length (k ∷ ks)) some))

    -- and where it goes on
    abbrev on_at : ℕ → Option (List (Frame ℕ))
    on_at n = going_on (fiber_of m u) (with_world (fiber_of m u) (turned n) p.shared) (p.others.stands n) (thread_at n p.shared.world.threads)

    where_on : (ks : List ℕ) → 0 < length ks → going_of (fiber_of m u) schedule p.shared p.others ks ≡ on_at (get_or ks (get_or schedule (p.others.picks % length schedule) 0 % length ks) 0)
    where_on [] some = absurd (omega (arith, some))
    where_on (k ∷ ks) some = ap on_at (get_any (k ∷ ks) (get_or schedule (p.others.picks % length schedule) 0 % length (k ∷ ks)) k 0 (mod_below (get_or schedule (p.others.picks % length schedule) 0) (length (k ∷ ks)) some))

    module _ (some : t.running.budget.left ≢ 0) (scheduled : 0 < length schedule) (h : ThreadTable) (pk : Picked schedule t.table h) where
      turn_is : h.turn ≡ get_or (runnable_in t.table) (get_or schedule (p.others.picks % length schedule) 0 % length (runnable_in t.table)) 0
      turn_is = pk.turn ∙ ap (λ n. get_or (runnable_in t.table) (get_or schedule n 0 % length (runnable_in t.table)) 0) p.between.stands.place

      goes : (test_of t.table h.turn ≡ true) × (h.turn < length t.table.parked.items)
      goes =
          let q = picked_goes t.table p.between.stands.counted (get_or schedule t.table.next_pick 0 % length (runnable_in t.table)) (mod_below (get_or schedule t.table.next_pick 0) (length (runnable_in t.table)) pk.some) in
          (subst (λ n. test_of t.table n ≡ true) (sym pk.turn) q.0, subst (λ n. n < length t.table.parked.items) (sym pk.turn) q.1)

      -- its number is that of a thread
      pub picked_few : h.turn < length h.parked.items
      picked_few = subst (λ v. h.turn < length v.items) (sym pk.stands) goes.1

      parts : (not (has_ended (thread_at h.turn (threads_of t.table))) ≡ true) × (may_go standing_joins h.turn (threads_of t.table) (stands_of t.table h.turn) ≡ true)
      parts = and_parts (not (has_ended (thread_at h.turn (threads_of t.table)))) (may_go standing_joins h.turn (threads_of t.table) (stands_of t.table h.turn)) goes.0

      pick_is : (n : ℕ) (ks : List ℕ) → 0 < length ks → pick_by n ks ≡ record { chosen = n % length ks; among = length ks } ∷ []
      pick_is n [] more = absurd (omega (arith, more))
      pick_is n (k ∷ ks) more = refl

      made_is : p.made ++ picked_of schedule t.table ∷ [] ≡ made_by (runnable_in t.table)
      made_is =
          ap (λ n. p.made ++ (let one : Pick = record { chosen = get_or schedule n 0 % length (runnable_in t.table); among = length (runnable_in t.table) } in one) ∷ []) p.between.stands.place
          ∙ ap (λ l. p.made ++ l) (sym (pick_is (number_at schedule p.others.picks) (runnable_in t.table) pk.some))

      recorded_on : Records h.recorder (made_by (runnable_in t.table))
      recorded_on = subst (Records h.recorder) made_is (pk.recorder p.made p.recorded)

      resumes_so : ends_after m u schedule (made_by (runnable_in t.table)) left_of (resumes (fiber_of m u) p.shared p.others h.turn) ≡ last_of m u schedule
      resumes_so =
          ap (λ n. ends_after m u schedule (made_by (runnable_in t.table)) left_of (resumes (fiber_of m u) p.shared p.others n)) turn_is
          ∙ sym (ap (ends_after m u schedule (made_by (runnable_in t.table)) left_of) (picks (runnable_in t.table) pk.some)) ∙ after some

      tells_so : tells_after m u schedule (acts h.turn (p.others.stands h.turn)) p.said left_of (resumes (fiber_of m u) p.shared p.others h.turn) ≡ all_told m u schedule
      tells_so =
          ap (λ n. tells_after m u schedule (acts n (p.others.stands n)) p.said left_of (resumes (fiber_of m u) p.shared p.others n)) turn_is
          ∙ sym (ap (λ a. tells_after m u schedule a p.said left_of (resumes (fiber_of m u) p.shared p.others (get_or (runnable_in t.table) (get_or schedule (p.others.picks % length schedule) 0 % length (runnable_in t.table)) 0))) (who (runnable_in t.table) pk.some))
          ∙ sym (ap (tells_after m u schedule (acting_of (fiber_of m u) (call_sites m) schedule p.others (runnable_in t.table)) p.said left_of) (picks (runnable_in t.table) pk.some))
          ∙ told_after_pick some

      lost_so : blind_after m u schedule (site_at (fiber_of m u) (on_at h.turn)) p.sites left_of (resumes (fiber_of m u) p.shared p.others h.turn) ≡ plain_threads_blind m u schedule
      lost_so =
          ap (λ n. blind_after m u schedule (site_at (fiber_of m u) (on_at n)) p.sites left_of (resumes (fiber_of m u) p.shared p.others n)) turn_is
          ∙ sym (ap (λ o. blind_after m u schedule (site_at (fiber_of m u) o) p.sites left_of (resumes (fiber_of m u) p.shared p.others (get_or (runnable_in t.table) (get_or schedule (p.others.picks % length schedule) 0 % length (runnable_in t.table)) 0))) (where_on (runnable_in t.table) pk.some))
          ∙ sym (ap (blind_after m u schedule (site_at (fiber_of m u) (going_of (fiber_of m u) schedule p.shared p.others (runnable_in t.table))) p.sites left_of) (picks (runnable_in t.table) pk.some))
          ∙ lost_after_pick some

      -- the world and the fibers then
      abbrev shared' : Shared
      shared' = record p.shared { world = turned h.turn p.shared.world }

      abbrev others' : Others (List (Frame ℕ))
      others' = record { stands = standing h.turn None p.others.stands; picks = p.others.picks + 1 }

      abbrev beside' : Beside
      beside' = record p.beside { fibers = record p.beside.fibers { turn = h.turn } }

      module _ (t' : ThreadedRun) (fiber : Fiber) (st : Stands None h t'.table) (running : t'.running ≡ record t.running { fiber = fiber }) (calls : KeepsCalls t t') where
        threads' : t'.table.threads ≡ t.table.threads
        threads' = st.threads ∙ pk.threads

        turn' : t'.table.turn ≡ h.turn
        turn' = st.same.turn

        between' : Between m u schedule t' beside' shared' others'
        between' = record {
          bytes = p.between.bytes;
          shows = subst (λ (r : Running). Shows r.world beside' shared'.world) (sym running)
              (subst (λ (f : Fibers). Shows t.running.world (record p.beside { fibers = record f { turn = h.turn } }) (turned h.turn p.shared.world)) p.between.shows.fibers
              (shows_fibers t.running.world p.beside p.shared.world (record (fibers_of p.shared.world) { turn = h.turn }) p.between.shows));
          slots = λ k lt. p.between.slots k lt ∙ ap (λ (r : Running). get_or r.world.slots k 0) (sym running);
          fill = ap (λ (r : Running). r.world.fill) running ∙ p.between.fill;
          held = p.between.held;
          good = let w = p.between.good in record { bytes = w.bytes; shadow = w.shadow; origins = w.origins; pairs = w.pairs; input = w.input; output = w.output; sizes = w.sizes; answers = w.answers };
          told = subst (λ (r : Running). IsBeside r.depot r.told beside') (sym running) (record { pairs = p.between.told.pairs; reports = p.between.told.reports; blind = p.between.told.blind });
          shares = shares_turned h.turn t.table t'.table p.beside.fibers p.between.shares turn' threads';
          stands = standings_stood m u schedule None None h t'.table (record p.others { picks = p.others.picks + 1 }) (standings_picked m u schedule t.table h p.others scheduled p.between.stands pk goes.1) st tt;
          roots = ap (λ (r : Running). r.depot.roots) running ∙ p.between.roots;
          few = subst (λ (r : Running). length r.told.reports < u.reports) (sym running) p.between.few;
          room = subst (λ (r : Running). r.world.made + 2 ^ 27 * r.budget.left ≤ 2 ^ 58) (sym running) p.between.room;
        }

        blind' : t'.running.told.blind + most_ahead m t'.running ≤ 2 ^ 62
        blind' = subst (λ (r : Running). r.told.blind + most_ahead m r ≤ 2 ^ 62) (sym running) p.blind

        recorded' : Records t'.table.recorder (made_by (runnable_in t.table))
        recorded' = subst (λ r. Records r (made_by (runnable_in t.table))) (sym st.same.recorder) recorded_on

        telling' : Telling t' p.said
        telling' = telling_kept t t' p.said p.telling (ap (λ v. map (λ (x : Guest). x.start) v.items) threads') (ap (λ (r : Running). r.told) running) calls

        sited' : Sited t' p.sites
        sited' = sited_kept t t' p.sites p.sited (ap (λ (r : Running). r.told) running) calls

        -- what is said from there on, by where the fiber stood
        abbrev lost_on : Option (List (Frame ℕ)) → Option Thread → List ℕ
        lost_on o thread = blind_after m u schedule (site_at (fiber_of m u) (going_on (fiber_of m u) shared' o thread)) p.sites left_of (resumed (fiber_of m u) shared' others' h.turn o thread)

        left' : t'.running.budget.left ≡ suc left_of
        left' = ap (λ (r : Running). r.budget.left) running ∙ one_left some

        -- it stood at a call, and does that
        pub pick_performs : (s : Standing) → stands_of h h.turn ≡ Some s → Performing m u schedule s t'
        pick_performs s at = by_fiber (p.others.stands h.turn) refl (subst (λ o. StandsAt m u h.turn o (p.others.stands h.turn)) stood (p.between.stands.stands h.turn))
          where
            stood : stands_of t.table h.turn ≡ Some s
            stood = ap (λ v. stand_at v.items h.turn) (sym pk.stands) ∙ at

            free : waits t'.table.turn (threads_of t'.table) (call_joins s.call) ≡ false
            free =
                ap (λ n. waits n (threads_of t'.table) (call_joins s.call)) turn' ∙ ap (λ v. waits h.turn (map thread_of v.items) (call_joins s.call)) threads'
                ∙ is_false (waits h.turn (threads_of t.table) (call_joins s.call)) (sym (ap (may_go standing_joins h.turn (threads_of t.table)) stood) ∙ parts.1)
              where
                is_false : (b : Bool) → not b ≡ true → b ≡ false
                is_false true e = absurd (true≢false (sym e))
                is_false false e = refl

            by_fiber : (f : Option (List (Frame ℕ))) → p.others.stands h.turn ≡ f → StandsAt m u h.turn (Some s) f → Performing m u schedule s t'
            by_fiber None e st = absurd st
            by_fiber (Some frames) e st = record {
              beside = beside';
              shared = shared';
              others = others';
              frames = frames;
              between = between';
              blind = blind';
              stood = subst (λ n. StandsFor m u n s frames) (sym turn') st;
              free = free;
              left = left_of;
              some = left';
              made = made_by (runnable_in t.table);
              recorded = recorded';
              same = sym (ap (λ o. ends_after m u schedule (made_by (runnable_in t.table)) left_of (resumed (fiber_of m u) shared' others' h.turn o (thread_at h.turn p.shared.world.threads))) e) ∙ resumes_so;
              said = p.said;
              telling = telling';
              tells =
                  ap (λ n. tells_after m u schedule (acts n (Some frames)) p.said left_of (resumed (fiber_of m u) shared' others' h.turn (Some frames) (thread_at h.turn p.shared.world.threads))) turn'
                  ∙ sym (ap (λ o. tells_after m u schedule (acts h.turn o) p.said left_of (resumed (fiber_of m u) shared' others' h.turn o (thread_at h.turn p.shared.world.threads))) e) ∙ tells_so;
              sites = p.sites;
              sited = sited';
              lost = sym (ap (λ o. lost_on o (thread_at h.turn p.shared.world.threads)) e) ∙ lost_so;
            }

        -- it begins
        pub pick_begins : stands_of h h.turn ≡ None → Beginning m u schedule t'
        pick_begins at = by_fiber (p.others.stands h.turn) refl (subst (λ o. StandsAt m u h.turn o (p.others.stands h.turn)) stood (p.between.stands.stands h.turn))
          where
            stood : stands_of t.table h.turn ≡ None
            stood = ap (λ v. stand_at v.items h.turn) (sym pk.stands) ∙ at

            there : is_some (thread_at h.turn (threads_of t.table)) ≡ true
            there = sym (ap (may_go standing_joins h.turn (threads_of t.table)) stood) ∙ parts.1

            by_guest : (f : Option (List (Frame ℕ))) → p.others.stands h.turn ≡ f → StandsAt m u h.turn None f → (o : Option Guest) → guest_at h.turn t.table.threads.items ≡ o → Beginning m u schedule t'
            by_guest (Some fs) e st o is = absurd st
            by_guest None e st None is = absurd (true≢false (sym there ∙ ap is_some (sym (same_thread h.turn t.table.threads.items)) ∙ ap (λ q. is_some (option_map thread_of q)) is))
            by_guest None e st (Some guest) is = record {
              beside = beside';
              shared = shared';
              others = others';
              between = between';
              blind = blind';
              guest = guest;
              there = ap (λ n. guest_at n t'.table.threads.items) turn' ∙ ap (λ v. guest_at h.turn v.items) threads' ∙ is;
              left = left_of;
              some = left';
              made = made_by (runnable_in t.table);
              recorded = recorded';
              same =
                  sym (ap (λ o. ends_after m u schedule (made_by (runnable_in t.table)) left_of (resumed (fiber_of m u) shared' others' h.turn o (thread_at h.turn p.shared.world.threads))) e
                  ∙ ap (λ o. ends_after m u schedule (made_by (runnable_in t.table)) left_of (resumed (fiber_of m u) shared' others' h.turn None o)) (ap (thread_at h.turn) threads_are ∙ sym (same_thread h.turn t.table.threads.items) ∙ ap (option_map thread_of) is))
                  ∙ resumes_so;
              said = p.said;
              telling = telling';
              tells =
                  ap (λ n. tells_after m u schedule (acts n None) p.said left_of (resumed (fiber_of m u) shared' others' h.turn None (Some (thread_of guest)))) turn'
                  ∙ sym (ap (λ o. tells_after m u schedule (acts h.turn o) p.said left_of (resumed (fiber_of m u) shared' others' h.turn o (thread_at h.turn p.shared.world.threads))) e
                  ∙ ap (λ o. tells_after m u schedule (acts h.turn None) p.said left_of (resumed (fiber_of m u) shared' others' h.turn None o)) (ap (thread_at h.turn) threads_are ∙ sym (same_thread h.turn t.table.threads.items) ∙ ap (option_map thread_of) is))
                  ∙ tells_so;
              sites = p.sites;
              sited = sited';
              lost =
                  sym (ap (λ o. lost_on o (thread_at h.turn p.shared.world.threads)) e ∙ ap (lost_on None) (ap (thread_at h.turn) threads_are ∙ sym (same_thread h.turn t.table.threads.items) ∙ ap (option_map thread_of) is)) ∙ lost_so;
            }

            by_fiber : (f : Option (List (Frame ℕ))) → p.others.stands h.turn ≡ f → StandsAt m u h.turn None f → Beginning m u schedule t'
            by_fiber f e st = by_guest f e st (guest_at h.turn t.table.threads.items) refl
