-- A thread that begins goes on as its fiber does, and so does `main`'s at the start of a run.
use Rattle.std.proofs.Common.{◌≡◌, ◌<◌, ◌+◌, ◌-◌, ◌*◌, ◌^◌, ℕ, zero, suc, true, not, eqb, List, [], ◌∷◌, refl, length, reverse, map, slice_get, sym, ap, subst, ◌∙◌, arith, Some, None, option_map, inr}
use Rattle.std.proofs.lemmas.Bool.{ne_eqb}
use Rattle.std.proofs.lemmas.Option.{slice_get-map}
use Rattle.std.proofs.Math.Nat.{mod-eq_of_lt}
use Rattle.ms_bits.specs.Maps.{with_range}
use Rattle.ms_ir.specs.declared.syntax.Module.{Module}
use Rattle.ms_ir.specs.declared.calls.Slot.TheVariants as slot
use Rattle.ms_ir.specs.Names.{slot_room}
use Rattle.ms_ir.specs.Signatures.{answers}
use Rattle.ms_ir.specs.Instructions.{over_funcs}
use Rattle.ms_check_valid.specs.Formed.{Formed}
use Rattle.ms_check_valid.specs.Valid.{Valid}
use Rattle.ms_runs.specs.declared.runs.Setup.{Setup}
use Rattle.ms_runs.specs.World.{World}
use Rattle.ms_runs.specs.Control.{entered}
use Rattle.ms_runs.specs.Act.{plain_reading}
use Rattle.ms_runs.specs.Plain.{PlainState, plain_start}
use Rattle.ms_runs.specs.Threads.{first_clean}
use Rattle.ms_runs_good_laws.specs.GoodStates.{GoodFrame, IsBelow, IsStart}
use Rattle.ms_runs_good_laws.proofs.Readings.{plain_unset}
use Rattle.ms_runs_good_laws.proofs.WorldChanges.{range_keeps}
use Rattle.ms_runs_threads.specs.PlainFibers.{no_others}
use Rattle.ms_threads_laws.proofs.StartedFibers.{start_types, unary_good}
use Rattle.ms_host.specs.State.{Beside, KeepsGiven, nothing_beside}
use Rattle.ms_host.specs.Shows.{Shows}
use Rattle.ms_host.specs.SlotBytes.{ShowsSlots}
use Rattle.ms_machine_frames.specs.declared.fibers.Fiber.{Fiber}
use Rattle.ms_machine_frames.specs.Owning.{is_spawned}
use Rattle.ms_machine.specs.Running.{AllStandFor}
use Rattle.ms_machine.specs.Spawning.{SpawnedFor}
use Rattle.ms_runtime.specs.Places.{Placed}
use Rattle.ms_runtime.specs.Served.{IsBeside}
use Rattle.ms_runtime.specs.Going.{ahead, Begins}
use Rattle.ms_threads.specs.declared.thread_table.Thread.{Thread as Guest}
use Rattle.ms_threads.specs.declared.runs.ThreadedRun.{ThreadedRun}
use Rattle.ms_threads.specs.ThreadTables.{starts_of, stand_at, thread_of, guest_at, part_at, SameCalls, IsNew, Shares}
use Rattle.ms_threads.specs.Recording.{Records}
use Rattle.ms_threads.specs.declared.thread_table.ThreadTable.{ThreadTable}
use Rattle.ms_runs_threads.specs.Calls.{none_told}
use Rattle.ms_threads.specs.Going.{StandsAt, Standings, goes_at, ends_from, tells_from, blind_from, KeepsCalls, Beginning, Going, most_ahead}
use Rattle.ms_threads.proofs.Telling.{telling_kept, all_started, begun_tells}
use Rattle.ms_threads.proofs.BlindUses.{sited_kept}
use Rattle.ms_threads.proofs.Places.{same_frames, none_more, no_call}

-- ---- the function of a thread

-- its first frame is good
begun_good : (m : Module) → Formed m → Valid m → (func argument : ℕ) (world : World) → IsStart m func → argument < 2 ^ 64 → GoodFrame IsBelow m (entered plain_reading m func (argument ∷ []) world)
begun_good m formed valid func argument world start few =
    unary_good IsBelow plain_reading m formed valid func (start.0) start.1.0 (start_types (start.0) start.1.1) argument plain_unset few world

-- ---- it begins

module _ (m : Module) (u : Setup) (schedule : List ℕ) where
  -- a thread that has the turn isn't `main`'s
  turn_there : (n : ℕ) (ts : List Guest) (g : Guest) → guest_at n ts ≡ Some g → (0 < n) × (slice_get ts (n - 1) ≡ Some g)
  turn_there zero ts g e = absurd (cc)
  turn_there (suc k) ts g e = (omega arith, ap (slice_get ts) (let z : suc k - 1 ≡ k = omega arith in z) ∙ e)

  pub begin_there : (t : ThreadedRun) (b : Beginning m u schedule t) → (0 < t.table.turn) × (slice_get t.table.threads.items (t.table.turn - 1) ≡ Some b.guest)
  begin_there t b = turn_there t.table.turn t.table.threads.items b.guest b.there

  pub begin_start : (t : ThreadedRun) (b : Beginning m u schedule t) → IsStart m b.guest.func
  begin_start t b =
      b.between.stands.starts (t.table.turn - 1) b.guest.func
      (slice_get-map (λ (x : Guest). x.func) t.table.threads.items (t.table.turn - 1) ∙ ap (option_map (λ (x : Guest). x.func)) (begin_there t b).1)

  module _ (formed : Formed m) (valid : Valid m) (t t' : ThreadedRun) (b : Beginning m u schedule t) (few : b.guest.argument < 2 ^ 64) (fiber : Fiber) (spawned : SpawnedFor m b.guest.func b.guest.argument fiber) (calls : SameCalls fiber t'.running.fiber)
      (guests : t'.table ≡ t.table) (depot : t'.running.depot ≡ t.running.depot) (told : t'.running.told ≡ t.running.told) (budget : t'.running.budget ≡ t.running.budget)
      (slots : (cells : ℕ → ℕ) → ShowsSlots t.running.world.slots cells → ShowsSlots t'.running.world.slots (first_clean cells)) (shows : (beside : Beside) (world : World) → Shows t.running.world beside world → Shows t'.running.world beside world)
      (given : KeepsGiven t.running.world t'.running.world) (made : t'.running.world.made ≡ t.running.world.made) (keeps : KeepsCalls t t') where
    abbrev state : PlainState
    state = record { frames = entered plain_reading m b.guest.func (b.guest.argument ∷ []) b.shared.world ∷ []; slots = first_clean b.shared.slots; world = b.shared.world }

    turn_is : b.shared.world.turn ≡ t.table.turn
    turn_is = ap (λ f. f.turn) b.between.shows.fibers ∙ b.between.shares.turn

    beside_main : is_spawned b.shared.world ≡ true
    beside_main = ap (λ (n : ℕ). not (eqb n 0)) turn_is ∙ by_number t.table.turn (begin_there t b).0
      where
        by_number : (n : ℕ) → 0 < n → not (eqb n 0) ≡ true
        by_number n some = ap not (ne_eqb n 0 (λ e. omega (arith, some, e)))

    clean : (a : ℕ) → first_clean b.shared.slots a < 256
    clean = range_keeps (λ v. v < 256) (with_range b.shared.slots (slot_room slot.ParamMasks).0 8 (λ k. 0)) (slot_room slot.ParamOrigins).0 4 (λ k. 0)
        (range_keeps (λ v. v < 256) b.shared.slots (slot_room slot.ParamMasks).0 8 (λ k. 0) b.between.held (λ k. omega arith)) (λ k. omega arith)

    left_is : t'.running.budget.left ≡ t.running.budget.left
    left_is = ap (λ x. x.left) budget

    -- it is no further to the end than it can be
    pub begun_far : ahead m t'.running < suc (most_ahead m t.running)
    begun_far =
        let most : t'.running.budget.left * (over_funcs (λ inst. 1) m.funcs + 1) ≡ t.running.budget.left * (over_funcs (λ inst. 1) m.funcs + 1) = ap (λ n. n * (over_funcs (λ inst. 1) m.funcs + 1)) left_is in
        omega (arith, most)

    pub begun_goes : Going m u schedule t'
    begun_goes =
        let first = spawned b.shared.world beside_main in
        record {
          beside = b.beside;
          state = state;
          others = b.others;
          stands = record {
            bytes = b.between.bytes;
            frames = subst (λ fs. AllStandFor m fs state.frames) (sym (same_frames fiber t'.running.fiber calls)) first.0;
            shows = shows b.beside b.shared.world b.between.shows;
            slots = slots b.shared.slots b.between.slots;
            fill = given.fill ∙ b.between.fill;
            sound = record { frames = (begun_good m formed valid b.guest.func b.guest.argument b.shared.world (begin_start t b) few, inr (begin_start t b)); slots = clean; world = b.between.good };
            owns = record { spawned = calls.spawned ∙ first.1.spawned; blocks = ap (λ v. reverse v.items) calls.heap ∙ first.1.blocks };
          };
          told = subst (λ d. IsBeside d t'.running.told b.beside) (sym depot) (subst (λ r. IsBeside t.running.depot r b.beside) (sym told) b.between.told);
          keeping = record {
            roots = ap (λ d. d.roots) depot ∙ b.between.roots;
            few = subst (λ r. length r.reports < u.reports) (sym told) b.between.few;
            room = let left = left_is in omega (arith, made, left, b.between.room);
            blind = let same : t'.running.told.blind ≡ t.running.told.blind = ap (λ r. r.blind) told in let far = begun_far in omega (arith, same, far, b.blind);
          };
          shares = subst (λ g. Shares g b.beside.fibers) (sym guests) b.between.shares;
          standings = subst (λ g. Standings m u schedule g b.others) (sym guests) b.between.stands;
          made = b.made;
          recorded = subst (λ (g : ThreadTable). Records g.recorder b.made) (sym guests) b.recorded;
          same = ap (λ n. ends_from m u schedule b.made n (goes_at state b.others)) (left_is ∙ b.some) ∙ b.same;
          said = b.said;
          telling = telling_kept t t' b.said b.telling (ap starts_of guests) told keeps;
          tells =
              let all = all_started t b.beside t.running.world b.shared.world b.said b.between.shows b.between.shares b.telling in
              ap (λ n. tells_from m u schedule b.said n (goes_at state b.others)) (left_is ∙ b.some)
              ∙ sym (begun_tells m u schedule t.table.turn (entered plain_reading m b.guest.func (b.guest.argument ∷ []) b.shared.world) state b.others b.said b.left refl turn_is (omega (arith, all)))
              ∙ b.tells;
          sites = b.sites;
          sited = sited_kept t t' b.sites b.sited told keeps;
          lost = ap (λ n. blind_from m u schedule b.sites n (goes_at state b.others)) (left_is ∙ b.some) ∙ b.lost;
        }

  -- ---- the start

  pub going_begun : 0 < length schedule → (t : ThreadedRun) → Begins m u t.running → IsNew t.table → t.calls.items ≡ [] → t.ended ≡ None → Placed [] t.places → Going m u schedule t
  going_begun some t b new none_yet unended unplaced = record {
    beside = nothing_beside;
    state = plain_start m u;
    others = no_others;
    stands = b.stands;
    told = b.told;
    keeping = b.keeping;
    shares = record {
      turn = sym new.turn;
      threads = sym (ap (map thread_of) new.threads);
      answers = λ k. sym (ap (λ ts. part_at (λ x. x.answer) ts k) new.threads);
      masks = λ k. sym (ap (λ ts. part_at (λ x. x.mask) ts k) new.threads);
      origins = λ k. sym (ap (λ ts. part_at (λ x. x.origin) ts k) new.threads);
    };
    standings = record {
      counted = ap length new.stands.1.1 ∙ sym (ap (λ ts. length ts + 1) new.threads);
      few = let one : length t.table.parked.items ≡ 1 = ap length new.stands.1.1 in omega (arith, one);
      turn = let one : length t.table.parked.items ≡ 1 = ap length new.stands.1.1 in let turn = new.turn in omega (arith, one, turn);
      stands = λ k. subst (λ o. StandsAt m u k o None) (sym (ap (λ ps. stand_at ps k) new.stands.1.1 ∙ none_more [] new.stands.0 (no_call new.stands.0 new.stands.1.0) k)) tt;
      place = new.place ∙ sym (mod-eq_of_lt some);
      starts = λ k f e. absurd (none k f (subst (λ xs. slice_get (map (λ (x : Guest). x.func) xs) k ≡ Some f) new.threads e));
    };
    made = [];
    recorded = new.recorder;
    same = ap (λ n. ends_from m u schedule [] n (goes_at (plain_start m u) no_others)) b.budget;
    said = none_told;
    telling = record {
      starts = sym (ap (map (λ (x : Guest). x.start)) new.threads);
      counted = let none : length t.running.told.reports ≡ 0 = sym (ap length b.told.reports) in omega (arith, none);
      kept = λ wanted. none_yet;
      none = unended;
    };
    tells = ap (λ n. tells_from m u schedule none_told n (goes_at (plain_start m u) no_others)) b.budget;
    sites = [];
    sited = record { blind = sym b.told.blind; placed = λ wanted. unplaced };
    lost = ap (λ n. blind_from m u schedule [] n (goes_at (plain_start m u) no_others)) b.budget;
  }
    where
      none : (k f : ℕ) → slice_get [] k ≡ Some f → ⊥
      none k f e = cc
