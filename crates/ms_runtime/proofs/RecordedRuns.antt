-- From pause to pause a run keeps what it records of its reports.
use Rattle.std.proofs.Common.{◌≡◌, ◌≤◌, ◌+◌, ◌*◌, ◌^◌, ℕ, List, [], ◌∷◌, length, sym, ap, subst, ◌∙◌, arith, Option, Some, None, Bool, true, false, if◌then◌else◌, refl, ltb}
use Rattle.ms_ir.specs.declared.syntax.Module.{Module}
use Rattle.ms_ir.specs.ThreadCalls.{is_threaded}
use Rattle.ms_runs.specs.declared.runs.BlindPlace.{BlindPlace}
use Rattle.ms_runs.specs.declared.runs.Calls.{Calls}
use Rattle.ms_runs.specs.declared.runs.End.{End}
use Rattle.ms_runs.specs.declared.runs.End.TheVariants as «end»
use Rattle.ms_runs.specs.declared.runs.RunResult.{RunResult}
use Rattle.ms_runs.specs.declared.runs.Setup.{Setup}
use Rattle.ms_runs.specs.World.{stuck}
use Rattle.ms_runs.specs.Control.{Frame}
use Rattle.ms_runs.specs.Plain.{PlainState}
use Rattle.ms_runs.specs.Calls.{reports_made, call_sites, innermost_site, main_calls, tell_to, tell, plain_calls, plain_blind, places_of, counted_at}
use Rattle.ms_runs.proofs.Telling.{told_count}
use Rattle.ms_check_valid.specs.Formed.{Formed}
use Rattle.ms_check_valid.specs.Valid.{Valid}
use Rattle.ms_machine_code.specs.declared.code.Program.{Program}
use Rattle.ms_machine_code.specs.Compiled.{Compiled}
use Rattle.ms_host.specs.declared.calls.Answer.{Answer}
use Rattle.ms_host.specs.declared.calls.Answer.TheVariants as answer
use Rattle.ms_host.specs.declared.calls.HostCall.{HostCall}
use Rattle.ms_machine_frames.specs.declared.fibers.Fiber.{Fiber}
use Rattle.ms_machine_frames.specs.Owning.{KeepsOwn}
use Rattle.ms_machine_frames.specs.Standing.{frames_of}
use Rattle.ms_machine_steps.specs.Waiting.{FirstWaits, Waits, answered}
use Rattle.ms_machine_steps.specs.Advances.{IsSpent, HasEnded, HasAsked, HasFinished}
use Rattle.ms_machine.specs.Running.{AllStandFor, IsRunning}
use Rattle.ms_machine.specs.Standing.{RunsSomewhere}
use Rattle.ms_machine_steps.specs.Callers.{CallersOf}
use Rattle.ms_machine.proofs.CallSites.{callers_run}
use Rattle.ms_runtime.specs.declared.places.BlindPlaces.{BlindPlaces}
use Rattle.ms_runtime.specs.declared.runs.Running.{Running}
use Rattle.ms_runtime.specs.declared.runs.Recorded.{Recorded}
use Rattle.ms_runtime.specs.Answering.{AnsweredFor}
use Rattle.ms_runtime.specs.Going.{ahead, Begins, Over}
use Rattle.ms_runtime.specs.Places.{Placed, CountsBelow}
use Rattle.ms_runtime.specs.Recorded.{GoingTold, PausedTold, TurnedTold, Noted}
use Rattle.ms_runtime.proofs.CountedPlaces.{counts_few, counts_wider, places_told}
use Rattle.ms_runtime.proofs.Countings.{made_reports, of_reports, blind_made, made_blind, of_blind}
use Rattle.ms_runtime.proofs.EndedSteps.{ends_spent, ends_there}
use Rattle.ms_runtime.proofs.SaidSteps.{tells}
use Rattle.ms_runtime.proofs.Goings.{going_begun, begun_tells, going_spent, going_ended, going_finished, going_asks, going_tells, spent_tells, ended_tells, finished_tells, asked_ends, asked_goes_on, ends_tell, goes_tell, goes_up, begun_ends, going_ends, ends_end, goes_ends}

-- with other running parts
abbrev pub with_running : Recorded → Running → Recorded
with_running r running = record r { running = running }

module _ (m : Module) (u : Setup) where
  -- a run at its start has recorded nothing
  pub told_begun : is_threaded m ≡ false → (r : Recorded) → Begins m u r.running → r.calls.items ≡ [] → Placed [] r.places → GoingTold m u r
  told_begun calm r b none unplaced = record {
    going = going_begun m u calm r.running b;
    counted = λ wanted. ap length none ∙ ap length b.told.reports;
    same = λ wanted. begun_tells reports_made (λ (p : PlainState). main_calls m p.frames) m u calm r.running b r.calls.items none;
    ends = begun_ends m u calm r.running b;
    sites = [];
    sited = record { blind = sym b.told.blind; placed = λ wanted. unplaced };
    lost = begun_tells blind_made (λ (p : PlainState). innermost_site m p.frames) m u calm r.running b [] refl;
  }

  module _ (r : Recorded) (g : GoingTold m u r) (r' : Running) (depot : r'.depot ≡ r.running.depot) (told : r'.told ≡ r.running.told) where
    -- the places of all are recorded where nothing more is said of blind uses
    all_placed : (after : Recorded) → after.wanted ≡ r.wanted → after.places ≡ r.places → tells blind_made (λ (p : PlainState). innermost_site m p.frames) m u r.running.budget.left g.going.state g.sites ≡ g.sites
        → after.wanted ≡ true → Placed (places_of (plain_blind m u)) after.places
    all_placed after same kept none wanted =
        subst (Placed (places_of (plain_blind m u))) (sym kept) (subst (λ (sites : List ℕ). Placed (places_of sites) r.places) (sym none ∙ g.lost) (g.sited.placed (sym same ∙ wanted)))

    pub turn_spent : (h : IsSpent (IsRunning m u g.going.beside) m u g.going.state r.running.budget.left r'.fiber r'.world r'.budget.left) (after : Recorded) → after.running ≡ r' → after.wanted ≡ r.wanted → after.calls ≡ r.calls → after.places ≡ r.places
        → (r.wanted ≡ true → after.ended ≡ Some (main_calls m h.last.frames)) → TurnedTold m u (ahead m r.running) (Some «end».Spent) after
    turn_spent h after is same kept held ended = (
      subst (λ (y : Running). Over m u «end».Spent y) (sym is) (going_spent m u r.running g.going r' depot told h),
      λ wanted.
          let w : r.wanted ≡ true = sym same ∙ wanted in
          ap (λ v. v.items) kept ∙ sym (spent_tells m u r.running g.going r' depot told reports_made (λ (p : PlainState). main_calls m p.frames) made_reports (of_reports m u) r.calls.items (g.counted w) h) ∙ g.same w,
      λ wanted. ended (sym same ∙ wanted) ∙ sym (ends_spent m u r.running.budget.left g.going.state h.last h.came) ∙ g.ends,
      all_placed after same held (spent_tells m u r.running g.going r' depot told blind_made (λ (p : PlainState). innermost_site m p.frames) made_blind (of_blind m u) g.sites g.sited.blind h),
    )

    pub turn_ended : (e : End) (h : HasEnded m u g.going.beside g.going.state r.running.budget.left e r'.fiber r'.world) (after : Recorded) → after.running ≡ r' → after.wanted ≡ r.wanted → after.calls ≡ r.calls → after.places ≡ r.places
        → (r.wanted ≡ true → after.ended ≡ Some (main_calls m h.within.frames)) → TurnedTold m u (ahead m r.running) (Some e) after
    turn_ended e h after is same kept held ended = (
      subst (λ (y : Running). Over m u e y) (sym is) (going_ended m u r.running g.going r' depot told e h),
      λ wanted.
          let w : r.wanted ≡ true = sym same ∙ wanted in ap (λ v. v.items) kept ∙ sym (ended_tells m u r.running g.going r' depot told reports_made (λ (p : PlainState). main_calls m p.frames) made_reports (of_reports m u) r.calls.items (g.counted w) e h) ∙ g.same w,
      λ wanted.
          ended (sym same ∙ wanted) ∙ ap (λ (sites : List ℕ). Some (let c : Calls = record { sites = sites; started = 0 } in c)) (sym h.same.calls)
          ∙ sym (ends_there m u r.running.budget.left h.done g.going.state h.before e h.last h.few h.came h.ends.step) ∙ g.ends,
      all_placed after same held (ended_tells m u r.running g.going r' depot told blind_made (λ (p : PlainState). innermost_site m p.frames) made_blind (of_blind m u) g.sites g.sited.blind e h),
    )

    pub turn_finished : (word : ℕ) → HasFinished m u g.going.beside g.going.state r.running.budget.left word r'.world r'.budget.left → (after : Recorded) → after.running ≡ r' → after.wanted ≡ r.wanted → after.calls ≡ r.calls → after.places ≡ r.places
        → (r.wanted ≡ true → after.ended ≡ Some (record { sites = []; started = 0 })) → TurnedTold m u (ahead m r.running) (Some stuck) after
    turn_finished word h after is same kept held ended = (
      subst (λ (y : Running). Over m u stuck y) (sym is) (going_finished m u r.running g.going r' depot told word h),
      λ wanted.
          let w : r.wanted ≡ true = sym same ∙ wanted in ap (λ v. v.items) kept ∙ sym (finished_tells m u r.running g.going r' depot told reports_made (λ (p : PlainState). main_calls m p.frames) made_reports (of_reports m u) r.calls.items (g.counted w) word h) ∙ g.same w,
      λ wanted.
          ended (sym same ∙ wanted)
          ∙ ap (λ (sites : List ℕ). Some (let c : Calls = record { sites = sites; started = 0 } in c)) (sym (h.same.calls ∙ ap (call_sites m) h.finishes.frames))
          ∙ sym (ends_there m u r.running.budget.left h.done g.going.state h.before stuck h.within.world (let c : r'.budget.left + h.done + 1 ≡ r.running.budget.left = h.counted in omega (arith, c)) h.came h.ends) ∙ g.ends,
      all_placed after same held (finished_tells m u r.running g.going r' depot told blind_made (λ (p : PlainState). innermost_site m p.frames) made_blind (of_blind m u) g.sites g.sited.blind word h),
    )

    pub turn_asks : (call : HostCall) → HasAsked (IsRunning m u g.going.beside) m u g.going.state r.running.budget.left r.running.fiber.frame.at call r'.fiber r'.world r'.budget.left
        → r'.world.made + 2 ^ 26 * r'.budget.left ≤ r.running.world.made + 2 ^ 26 * r.running.budget.left → PausedTold m u call (with_running r r')
    turn_asks call h made = record {
      paused = going_asks m u r.running g.going r' depot told call h made;
      counted = λ wanted. g.counted wanted ∙ ap (λ (t : RunResult). length t.reports) (sym told);
      same = λ wanted. sym (going_tells m u r.running g.going r' depot told call h made reports_made (λ (p : PlainState). main_calls m p.frames) made_reports (of_reports m u) r.calls.items (g.counted wanted)) ∙ g.same wanted;
      ends = sym (going_ends m u r.running g.going r' depot told call h made) ∙ g.ends;
      sites = g.sites;
      sited = record { blind = g.sited.blind ∙ ap (λ (t : RunResult). t.blind) (sym told); placed = g.sited.placed };
      lost = sym (going_tells m u r.running g.going r' depot told call h made blind_made (λ (p : PlainState). innermost_site m p.frames) made_blind (of_blind m u) g.sites g.sited.blind) ∙ g.lost;
    }

  -- ---- answers

  module _ (p : Program) (compiled : Compiled m p) (formed : Formed m) (valid : Valid m) (call : HostCall) (r : Recorded) (b : PausedTold m u call r) (r' : Running) where
    -- the fiber that waited is still that of the state
    fiber_runs : (a : Answer) → AnsweredFor m u call b.paused.asking.within a r.running r' → IsRunning m u b.paused.asking.beside r'.fiber r.running.world b.paused.asking.within
    fiber_runs a x = subst (λ (f : Fiber). IsRunning m u b.paused.asking.beside f r.running.world b.paused.asking.within) (sym x.fiber) b.paused.asking.stands

    pub runs_there : (a : Answer) → AnsweredFor m u call b.paused.asking.within a r.running r' → RunsSomewhere m r'.fiber
    runs_there a x = (r.running.world, (u, b.paused.asking.beside, b.paused.asking.within, fiber_runs a x))

    -- and its callers are those of the state
    pub callers_there : (a : Answer) → AnsweredFor m u call b.paused.asking.within a r.running r' → CallersOf m r'.fiber b.paused.asking.within.frames
    callers_there a x = callers_run m r'.fiber u b.paused.asking.beside r.running.world b.paused.asking.within (fiber_runs a x)

    -- what is noted there is of the state at which it waited
    noted_there : (a : Answer) → AnsweredFor m u call b.paused.asking.within a r.running r' → (new : List Calls) → Noted m r'.fiber 0 (length r'.told.reports) r.calls.items new
        → new ≡ tell (main_calls m b.paused.asking.within.frames) r'.told.reports r.calls.items
    noted_there a x new noted = noted u b.paused.asking.beside r.running.world b.paused.asking.within (fiber_runs a x)

    -- the call's site is that at which the state stands
    call_site : (frames : List (Frame ℕ)) → FirstWaits m u frames call → call.site ≡ innermost_site m frames
    call_site [] waits = absurd waits
    call_site (f ∷ below) waits = waits.site

    -- the places before the answer count fewer uses than may be
    pub places_before : r.wanted ≡ true → (places : List BlindPlace) × (Placed places r.places × CountsBelow (2 ^ 63) places)
    places_before wanted = (
      places_of b.sites,
      (
        b.sited.placed wanted,
        counts_wider (1 + length b.sites) (2 ^ 63) (places_of b.sites) (let few : r.running.told.blind ≤ 2 ^ 62 = omega (arith, b.paused.asking.keeping.blind) in omega (arith, few, b.sited.blind)) (counts_few b.sites),
      ),
    )

    -- the sites after it
    abbrev sites_then : List ℕ
    sites_then = tell_to (innermost_site m b.paused.asking.within.frames) r'.told.blind b.sites

    -- and their places
    places_then : (a : Answer) → AnsweredFor m u call b.paused.asking.within a r.running r' → r.wanted ≡ true → (kept : BlindPlaces)
        → ((places : List BlindPlace) → Placed places r.places → Placed (if ltb r.running.told.blind r'.told.blind then counted_at call.site places else places) kept) → Placed (places_of sites_then) kept
    places_then a x wanted kept counted =
        subst (λ (places : List BlindPlace). Placed places kept)
        (ap (λ (n : ℕ). if ltb n r'.told.blind then counted_at call.site (places_of b.sites) else places_of b.sites) (sym b.sited.blind)
        ∙ places_told call.site r'.told.blind b.sites (omega (arith, x.blind, b.sited.blind))
        ∙ ap (λ (site : ℕ). places_of (tell_to site r'.told.blind b.sites)) (call_site b.paused.asking.within.frames b.paused.asking.waits))
        (counted (places_of b.sites) (b.sited.placed wanted))

    pub answer_ended : (e : End) → AnsweredFor m u call b.paused.asking.within (answer.Ended e) r.running r' → (after : Recorded) → after.running ≡ r' → after.wanted ≡ r.wanted
        → (r.wanted ≡ true → Noted m r'.fiber 0 (length r'.told.reports) r.calls.items after.calls.items) → (r.wanted ≡ true → after.ended ≡ Some (main_calls m b.paused.asking.within.frames))
        → (r.wanted ≡ true → (places : List BlindPlace) → Placed places r.places → Placed (if ltb r.running.told.blind r'.told.blind then counted_at call.site places else places) after.places) → (far : ℕ) → TurnedTold m u far (Some e) after
    answer_ended e x after is same noted ended counted far = (
      subst (λ (y : Running). Over m u e y) (sym is) (asked_ends m u p compiled formed valid r.running call b.paused r' e x),
      λ wanted.
          let w : r.wanted ≡ true = sym same ∙ wanted in
          ends_tell m u p compiled formed valid r.running call b.paused r' reports_made (λ (p : PlainState). main_calls m p.frames) made_reports (of_reports m u) e x after.calls.items r.calls.items (plain_calls m u) (noted_there (answer.Ended e) x after.calls.items (noted w)) (b.same w),
      λ wanted. ended (sym same ∙ wanted) ∙ sym (ends_end m u p compiled formed valid r.running call b.paused r' e x) ∙ b.ends,
      λ wanted.
          let w : r.wanted ≡ true = sym same ∙ wanted in
          subst (λ (sites : List ℕ). Placed (places_of sites) after.places)
          (ends_tell m u p compiled formed valid r.running call b.paused r' blind_made (λ (p : PlainState). innermost_site m p.frames) made_blind (of_blind m u) e x sites_then b.sites (plain_blind m u) refl b.lost)
          (places_then (answer.Ended e) x w after.places (counted w)),
    )

    pub answer_goes : (value : Option ℕ) → AnsweredFor m u call b.paused.asking.within (answer.Resumed value) r.running r' → (after : Recorded) → after.wanted ≡ r.wanted
        → (r.wanted ≡ true → Noted m r'.fiber 0 (length r'.told.reports) r.calls.items after.calls.items)
        → (r.wanted ≡ true → (places : List BlindPlace) → Placed places r.places → Placed (if ltb r.running.told.blind r'.told.blind then counted_at call.site places else places) after.places)
        → after.running.world ≡ r'.world → after.running.depot ≡ r'.depot → after.running.told ≡ r'.told → after.running.budget ≡ r'.budget → after.running.fiber.frame.at ≡ r'.fiber.frame.at + 1 → KeepsOwn r'.fiber after.running.fiber
        → ((frame : Frame ℕ) (below : List (Frame ℕ)) → AllStandFor m (frames_of r'.fiber) (frame ∷ below) → Waits m u frame call → AllStandFor m (frames_of after.running.fiber) (answered m value frame ∷ below))
        → TurnedTold m u (ahead m r.running) None after
    answer_goes value x after same noted counted world depot told budget at own frames =
        let q = asked_goes_on m u p compiled formed valid r.running call b.paused r' value x after.running world depot told budget at own frames in
        let is : r.wanted ≡ true → after.calls.items ≡ tell (main_calls m b.paused.asking.within.frames) after.running.told.reports r.calls.items =
        (λ w. noted_there (answer.Resumed value) x after.calls.items (noted w) ∙ ap (λ (t : RunResult). tell (main_calls m b.paused.asking.within.frames) t.reports r.calls.items) (sym told)) in (
          record {
            going = q.0;
            counted = λ wanted.
                let w : r.wanted ≡ true = sym same ∙ wanted in
                let up = goes_up m u p compiled formed valid r.running call b.paused r' reports_made (λ (p : PlainState). main_calls m p.frames) made_reports (of_reports m u) after.running q.0 q.1.1 in
                ap length (is w) ∙ told_count (main_calls m b.paused.asking.within.frames) (length after.running.told.reports) r.calls.items (omega (arith, b.counted w, up));
            same = λ wanted.
                let w : r.wanted ≡ true = sym same ∙ wanted in
                goes_tell m u p compiled formed valid r.running call b.paused r' reports_made (λ (p : PlainState). main_calls m p.frames) made_reports (of_reports m u) after.running q.0 q.1.1 q.1.2 after.calls.items r.calls.items (plain_calls m u) (is w) (b.same w);
            ends = goes_ends m u p compiled formed valid r.running call b.paused r' after.running q.0 q.1.1 q.1.2 b.ends;
            sites = sites_then;
            sited = record {
              blind = let up = goes_up m u p compiled formed valid r.running call b.paused r' blind_made (λ (p : PlainState). innermost_site m p.frames) made_blind (of_blind m u) after.running q.0 q.1.1 in
                  let is : after.running.told.blind ≡ r'.told.blind = ap (λ (t : RunResult). t.blind) told in
                  told_count (innermost_site m b.paused.asking.within.frames) r'.told.blind b.sites (omega (arith, b.sited.blind, up, is)) ∙ sym is;
              placed = λ wanted. let w : r.wanted ≡ true = sym same ∙ wanted in places_then (answer.Resumed value) x w after.places (counted w);
            };
            lost = goes_tell m u p compiled formed valid r.running call b.paused r' blind_made (λ (p : PlainState). innermost_site m p.frames) made_blind (of_blind m u) after.running q.0 q.1.1 q.1.2 sites_then b.sites (plain_blind m u)
                (ap (λ (t : RunResult). tell_to (innermost_site m b.paused.asking.within.frames) t.blind b.sites) (sym told)) b.lost;
          },
          q.1.0,
        )

pub turned_from : (m : Module) (u : Setup) (far far' : ℕ) (e : Option End) (r : Recorded) → far' ≤ far → TurnedTold m u far' e r → TurnedTold m u far e r
turned_from m u far far' None r le t = (t.0, omega (arith, le, t.1))
turned_from m u far far' (Some e) r le t = t

-- what is told where it is wanted
pub told_if : (wanted : Bool) (calls all : List Calls) → (wanted ≡ true → calls ≡ all) → (if wanted then calls else []) ≡ (if wanted then all else [])
told_if true calls all h = h refl
told_if false calls all h = refl

-- and of its end
pub ended_if : (wanted : Bool) (one all : Option Calls) → (wanted ≡ true → one ≡ all) → (if wanted then one else None) ≡ (if wanted then all else None)
ended_if true one all h = h refl
ended_if false one all h = refl
