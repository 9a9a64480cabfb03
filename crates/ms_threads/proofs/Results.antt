-- `__msan_thread_result` of the code is that of the definitions, and other calls are answered as in a run without threads.
use Rattle.std.proofs.Common.{◌≡◌, ◌≢◌, ◌<◌, ◌≤◌, ◌+◌, ◌-◌, ◌*◌, ◌^◌, ◌&&◌, ℕ, zero, suc, Bool, true, false, not, eqb, if◌then◌else◌, List, get_or, length, refl, sym, ap, subst, ◌∙◌, arith, Option, Some, None, option_map, unwrap_or, Result, Ok, Err}
use Rattle.std.specs.Prelude.{OnOk}
use Rattle.std.proofs.lemmas.Bool.{eq-eqb, ne_eqb}
use Rattle.ms_bits.specs.Maps.{byte_of}
use Rattle.ms_ir.specs.declared.syntax.Ty.{Ty}
use Rattle.ms_ir.specs.declared.syntax.Module.{Module}
use Rattle.ms_ir.specs.declared.calls.RuntimeFn.TheVariants as function
use Rattle.ms_ir.proofs.Differing.{and_true}
use Rattle.ms_runs.specs.declared.runs.Setup.{Setup}
use Rattle.ms_runs.specs.declared.runs.RunResult.{RunResult}
use Rattle.ms_runs.specs.World.{World, Setting, Does}
use Rattle.ms_runs.specs.Memory.{is_good, set_shadow}
use Rattle.ms_runs.specs.Origins.{store_origin, thread_result}
use Rattle.ms_runs.specs.Plain.{setting_of}
use Rattle.ms_runs.specs.Threads.{fibers_of, thread_at, has_ended}
use Rattle.ms_depot.specs.Depots.{DepotState}
use Rattle.ms_host.specs.State.{WorldState, Beside, Keeps}
use Rattle.ms_host.specs.Shows.{Shows}
use Rattle.ms_host.specs.Answers.{Answered, effect_asked}
use Rattle.ms_host.specs.declared.calls.Asked.{Asked}
use Rattle.ms_host.specs.declared.calls.Asked.TheVariants as asked
use Rattle.ms_host.specs.declared.calls.Answer.TheVariants.{Resumed}
use Rattle.ms_host.specs.declared.calls.HostCall.{HostCall}
use Rattle.ms_machine_steps.specs.Waiting.{types_due}
use Rattle.ms_runs_good_laws.specs.GoodStates.{IsBelow}
use Rattle.ms_runs_good_laws.specs.Straight.{HaveTypes}
use Rattle.ms_machine_steps.proofs.Asking.{asked_types}
use Rattle.ms_runs_good_laws.proofs.FibersKept.{runtime_keeps}
use Rattle.ms_runtime.specs.Served.{IsBeside, CanAnswer, Served, Fits}
use Rattle.ms_runtime.proofs.Fitting.{fits_asked}
use Rattle.ms_runtime.specs.Answering.{AnsweredFor}
use Rattle.ms_runtime.specs.Going.{Asking as AskingAlone}
use Rattle.ms_threads.specs.declared.thread_table.Thread.{Thread as Guest}
use Rattle.ms_threads.specs.declared.runs.ThreadedRun.{ThreadedRun}
use Rattle.ms_threads.specs.ThreadTables.{thread_of, guest_at, part_at, threads_of, IsThreadCall, IsResult}
use Rattle.ms_threads.specs.Going.{Asking}
use Rattle.ms_threads.proofs.Threading.{same_thread}
use Rattle.ms_threads.proofs.After.{not_thread}

-- what is asked for where it is the result of a thread
effect_result : (setting : Setting) (site : ℕ) (of : Asked) (types : List Ty) (args : List ℕ) (world : World) → IsResult of
    → effect_asked setting site of types args world ≡ Does (thread_result setting (get_or args 0 0) (get_or args 1 0) (get_or args 2 0) (get_or args 3 0) world)
effect_result setting site (asked.Runtime function.ThreadResult) types args world is = refl
effect_result setting site (asked.Runtime f) types args world is = absurd is
effect_result setting site (asked.External e) types args world is = absurd is

-- what it changes, by the four tests
abbrev by_tests : Setting → (a id site : ℕ) → World → (answered far good over : Bool) → World
by_tests setting a id site world answered far good over =
    if answered && far && good && over then store_origin setting a (world.answer_masks id) (world.answer_origins id) site (set_shadow a 8 (byte_of (world.answer_masks id)) world) else world

last_false : (a b c : Bool) → (a && b && c && false) ≡ false
last_false a b c = and_false (a && b && c)
  where
    and_false : (x : Bool) → (x && false) ≡ false
    and_false true = refl
    and_false false = refl

module _ (setting : Setting) (a id answer site : ℕ) (world : World) where
  pub result_answered : answer ≢ 0 → thread_result setting a id answer site world ≡ world
  result_answered some = ap (λ b. by_tests setting a id site world b (not (eqb a 0)) (is_good world a 8) (has_ended (thread_at id world.threads))) (ne_eqb answer 0 some)

  pub result_null : a ≡ 0 → thread_result setting a id answer site world ≡ world
  result_null null =
      ap (λ b. by_tests setting a id site world (eqb answer 0) (not b) (is_good world a 8) (has_ended (thread_at id world.threads))) (eq-eqb a 0 null)
      ∙ ap (λ t. if t && is_good world a 8 && has_ended (thread_at id world.threads) then store_origin setting a (world.answer_masks id) (world.answer_origins id) site (set_shadow a 8 (byte_of (world.answer_masks id)) world) else world) (no (eqb answer 0))
    where
      no : (x : Bool) → (x && false) ≡ false
      no true = refl
      no false = refl

  pub result_going : has_ended (thread_at id world.threads) ≡ false → thread_result setting a id answer site world ≡ world
  result_going e =
      ap (by_tests setting a id site world (eqb answer 0) (not (eqb a 0)) (is_good world a 8)) e
      ∙ ap (λ t. if t then store_origin setting a (world.answer_masks id) (world.answer_origins id) site (set_shadow a 8 (byte_of (world.answer_masks id)) world) else world) (last_false (eqb answer 0) (not (eqb a 0)) (is_good world a 8))

  pub result_over : answer ≡ 0 → a ≢ 0 → has_ended (thread_at id world.threads) ≡ true → (mask origin : ℕ) → world.answer_masks id ≡ mask → world.answer_origins id ≡ origin
      → thread_result setting a id answer site world ≡ (if is_good world a 8 then store_origin setting a mask origin site (set_shadow a 8 (byte_of mask) world) else world)
  result_over none some e mask origin m o =
      ap (λ b. by_tests setting a id site world b (not (eqb a 0)) (is_good world a 8) (has_ended (thread_at id world.threads))) (eq-eqb answer 0 none)
      ∙ ap (λ b. by_tests setting a id site world true (not b) (is_good world a 8) (has_ended (thread_at id world.threads))) (ne_eqb a 0 some)
      ∙ ap (by_tests setting a id site world true true (is_good world a 8)) e
      ∙ ap (λ t. if t then store_origin setting a (world.answer_masks id) (world.answer_origins id) site (set_shadow a 8 (byte_of (world.answer_masks id)) world) else world) (and_true (is_good world a 8))
      ∙ (λ i. if is_good world a 8 then store_origin setting a (m i) (o i) site (set_shadow a 8 (byte_of (m i)) world) else world)

-- ---- the answer

module _ (m : Module) (u : Setup) (schedule : List ℕ) (t : ThreadedRun) (call : HostCall) (a : Asking m u schedule call t) (is : IsResult call.asked) where
  abbrev changed : World
  changed = thread_result (setting_of m u) (get_or call.args 0 0) (get_or call.args 1 0) (get_or call.args 2 0) (get_or call.args 3 0) a.within.world

  -- nothing changed
  pub result_none : changed ≡ a.within.world → AnsweredFor m u call a.within (Resumed None) t.running t.running
  result_none same = record {
    beside = a.beside;
    told = a.told;
    fibers = sym a.stands.shows.fibers;
    answered = subst (λ e. Answered a.beside e (Resumed None) t.running.world)
        (sym (effect_result (setting_of m u) call.site call.asked (types_due m a.within.frames) call.args a.within.world is ∙ ap Does same)) a.stands.shows;
    few = a.keeping.few;
    blind = omega arith;
    roots = refl;
    room = a.keeping.room;
    keeps = record { input = refl; fill = refl; slots = refl };
    fiber = refl;
    budget = refl;
  }

  -- shadow and origins changed
  pub result_some : (w : WorldState) (d : DepotState) → Served (Does changed) (Resumed None) w d t.running.told → d.roots ≡ t.running.depot.roots → Keeps t.running.world w → w.made ≡ t.running.world.made
      → ((v : World) → fibers_of (thread_result (setting_of m u) (get_or call.args 0 0) (get_or call.args 1 0) (get_or call.args 2 0) (get_or call.args 3 0) v) ≡ fibers_of v)
      → AnsweredFor m u call a.within (Resumed None) t.running (record t.running { world = w; depot = d })
  result_some w d served roots keeps made same = record {
    beside = served.0;
    told = served.1.0;
    fibers = sym served.1.1.fibers ∙ same a.within.world;
    answered = subst (λ e. Answered served.0 e (Resumed None) w) (sym (effect_result (setting_of m u) call.site call.asked (types_due m a.within.frames) call.args a.within.world is)) served.1.1;
    few = a.keeping.few;
    blind = omega arith;
    roots = roots;
    room = omega (arith, made, a.keeping.room);
    keeps = keeps;
    fiber = refl;
    budget = refl;
  }

-- ---- the thread

-- of none, and of one that goes on
pub none_over : (t : ThreadedRun) (world : World) (id : ℕ) (o : Option Guest) → world.threads ≡ threads_of t.table → guest_at id t.table.threads.items ≡ o → (b : Bool) → has_ended (option_map thread_of o) ≡ b → has_ended (thread_at id world.threads) ≡ b
none_over t world id o threads is b e = ap (λ ts. has_ended (thread_at id ts)) threads ∙ sym (ap has_ended (same_thread id t.table.threads.items)) ∙ ap (λ q. has_ended (option_map thread_of q)) is ∙ e

-- what one answered
pub part_of : (part : Guest → ℕ) (held : ℕ → ℕ) (ts : List Guest) → ((k : ℕ) → held (suc k) ≡ part_at part ts k) → (id : ℕ) (g : Guest) → guest_at id ts ≡ Some g → held id ≡ part g
part_of part held ts are zero g e = absurd (cc)
part_of part held ts are (suc k) g e = are k ∙ ap (λ o. unwrap_or (option_map part o) 0) e

pub by_id : (t : ThreadedRun) (o : Option Guest) (n id : ℕ) → n ≡ id → guest_at n t.table.threads.items ≡ o → guest_at id t.table.threads.items ≡ o
by_id t o n id e is = ap (λ k. guest_at k t.table.threads.items) (sym e) ∙ is

module _ (m : Module) (u : Setup) (schedule : List ℕ) (t : ThreadedRun) (call : HostCall) (a : Asking m u schedule call t) where
  -- the threads of its world
  pub threads_in : a.within.world.threads ≡ threads_of t.table
  threads_in = ap (λ f. f.threads) a.stands.shows.fibers ∙ a.shares.threads

  -- what the code did is what was asked for
  pub on_served : (is : IsResult call.asked) {A E : Type 0} (r : Result A E) (w : WorldState) (d : DepotState) (g : Guest) (addr id site : ℕ) → addr ≡ get_or call.args 0 0 → id ≡ get_or call.args 1 0 → site ≡ get_or call.args 3 0
      → guest_at (get_or call.args 1 0) t.table.threads.items ≡ Some g → get_or call.args 2 0 ≡ 0 → addr ≢ 0 → has_ended (thread_at (get_or call.args 1 0) a.within.world.threads) ≡ true
      → ((setting : Setting) (beside : Beside) (meant : World) (told : RunResult) → setting.roots ≡ t.running.depot.roots → IsBeside t.running.depot told beside → Shows t.running.world beside meant
      → OnOk r (Served (Does (if is_good meant addr 8 then store_origin setting addr g.mask g.origin site (set_shadow addr 8 (byte_of g.mask) meant) else meant)) (Resumed None) w d told))
      → d.roots ≡ t.running.depot.roots → Keeps t.running.world w → w.made ≡ t.running.world.made
      → OnOk r (AnsweredFor m u call a.within (Resumed None) t.running (record t.running { world = w; depot = d }))
  on_served is (Err e) w d g addr id site p q s there none some over served roots keeps made = tt
  on_served is (Ok x) w d g addr id site p q s there none some over served roots keeps made =
      result_some m u schedule t call a is w d
      (subst (λ v. Served (Does v) (Resumed None) w d t.running.told) (sym all) (served (setting_of m u) a.beside a.within.world t.running.told (sym a.keeping.roots) a.told a.stands.shows)) roots keeps made
      (λ v. (runtime_keeps (setting_of m u) function.ThreadResult call.args v).kept)
    where
      mask : a.within.world.answer_masks (get_or call.args 1 0) ≡ g.mask
      mask = ap (λ f. f.answer_masks (get_or call.args 1 0)) a.stands.shows.fibers ∙ part_of (λ x. x.mask) a.beside.fibers.answer_masks t.table.threads.items a.shares.masks (get_or call.args 1 0) g there

      origin : a.within.world.answer_origins (get_or call.args 1 0) ≡ g.origin
      origin = ap (λ f. f.answer_origins (get_or call.args 1 0)) a.stands.shows.fibers ∙ part_of (λ x. x.origin) a.beside.fibers.answer_origins t.table.threads.items a.shares.origins (get_or call.args 1 0) g there

      all : thread_result (setting_of m u) (get_or call.args 0 0) (get_or call.args 1 0) (get_or call.args 2 0) (get_or call.args 3 0) a.within.world
          ≡ (if is_good a.within.world addr 8 then store_origin (setting_of m u) addr g.mask g.origin site (set_shadow addr 8 (byte_of g.mask) a.within.world) else a.within.world)
      all =
          result_over (setting_of m u) (get_or call.args 0 0) (get_or call.args 1 0) (get_or call.args 2 0) (get_or call.args 3 0) a.within.world none (λ e. some (p ∙ e)) over g.mask g.origin mask origin
          ∙ (λ i. if is_good a.within.world (sym p i) 8 then store_origin (setting_of m u) (sym p i) g.mask g.origin (sym s i) (set_shadow (sym p i) 8 (byte_of g.mask) a.within.world) else a.within.world)

-- ---- other calls

pub can_answer : (of : Asked) (beside : Beside) → (IsThreadCall of → ⊥) → (IsResult of → ⊥) → CanAnswer of beside
can_answer (asked.External e) beside other none = not_thread e other
can_answer (asked.Runtime function.ThreadResult) beside other none = absurd (none tt)
can_answer (asked.Runtime f) beside other none = tt

abbrev pub asking_alone : (m : Module) (u : Setup) (schedule : List ℕ) (t : ThreadedRun) (call : HostCall) (a : Asking m u schedule call t) → CanAnswer call.asked a.beside → AskingAlone m u call t.running
asking_alone m u schedule t call a can = record {
  beside = a.beside;
  within = a.within;
  stands = a.stands;
  waits = a.waits;
  told = a.told;
  keeping = a.keeping;
  slack = a.slack;
  can = can;
}

-- the arguments of the result of a thread fit
pub fits_result : (of : Asked) (types : List Ty) (args : List ℕ) → IsResult of → length args ≡ length (asked_types of types) → HaveTypes IsBelow 0 args (asked_types of types) → Fits function.ThreadResult args
fits_result (asked.Runtime function.ThreadResult) types args is count have = fits_asked (asked.Runtime function.ThreadResult) types args function.ThreadResult refl count have
fits_result (asked.Runtime f) types args is count have = absurd is
fits_result (asked.External e) types args is count have = absurd is
