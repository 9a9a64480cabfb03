-- From pause to pause a run keeps what it answers.
use Rattle.std.proofs.Common.{◌≡◌, ◌<◌, ◌≤◌, ◌+◌, ◌-◌, ◌*◌, ◌^◌, ℕ, zero, suc, Bool, true, false, eqb, if◌then◌else◌, List, [], ◌∷◌, slice_get, length, refl, sym, ap, subst, ◌∙◌, arith, Option, Some}
use Rattle.ms_ir.specs.declared.syntax.Module.{Module}
use Rattle.ms_ir.specs.declared.syntax.Name.{Name}
use Rattle.ms_ir.specs.declared.syntax.Ty.{Ty}
use Rattle.ms_ir.specs.declared.syntax.Operand.{Operand}
use Rattle.ms_ir.specs.declared.syntax.Op.TheVariants as op
use Rattle.ms_ir.specs.declared.syntax.Inst.{Inst}
use Rattle.ms_ir.specs.declared.calls.RuntimeFn.TheVariants as function
use Rattle.ms_ir.specs.ThreadCalls.{is_asked, calls_thread, is_threaded}
use Rattle.ms_ir.specs.Instructions.{over_funcs, func_index}
use Rattle.ms_runs.specs.declared.runs.End.{End}
use Rattle.ms_runs.specs.declared.runs.End.TheVariants as «end»
use Rattle.ms_runs.specs.declared.runs.Setup.{Setup}
use Rattle.ms_runs.specs.declared.runs.RunResult.{RunResult}
use Rattle.ms_runs.specs.World.{World, result, stuck}
use Rattle.ms_runs.specs.Memory.{end_block, end_blocks}
use Rattle.ms_runs.specs.Control.{Frame, release, given_back}
use Rattle.ms_runs.specs.Plain.{PlainState, Stepped, go_on, run, plain, plain_start, Stop}
use Rattle.ms_runs.specs.Calls.{main_calls, tell_to, plain_end_calls}
use Rattle.ms_runs_good_laws.proofs.ThreadsApart.{none_called}
use Rattle.ms_runs_good_laws.proofs.Frames.{same_insts}
use Rattle.ms_runs_good_laws.proofs.ReportsGrow.{stepped_world}
use Rattle.ms_check_valid.specs.Formed.{Formed}
use Rattle.ms_check_valid.specs.Valid.{Valid}
use Rattle.ms_machine_code.specs.declared.code.Program.{Program}
use Rattle.ms_machine_code.specs.Compiled.{Compiled}
use Rattle.ms_host.specs.State.{WorldState, Beside, nothing_beside}
use Rattle.ms_host.specs.Shows.{Shows}
use Rattle.ms_host.specs.declared.calls.Asked.{Asked}
use Rattle.ms_host.specs.declared.calls.Asked.TheVariants as asked
use Rattle.ms_host.specs.declared.calls.Answer.TheVariants as answer
use Rattle.ms_host.specs.declared.calls.HostCall.{HostCall}
use Rattle.ms_machine_frames.specs.Owning.{KeepsOwn}
use Rattle.ms_machine_frames.specs.Standing.{FramesStand, frames_of, IsState}
use Rattle.ms_machine_steps.specs.Waiting.{IsAsked, Waits, FirstWaits, answered}
use Rattle.ms_machine_steps.specs.Advances.{step_of, Counts, IsSpent, HasEnded, HasAsked, HasFinished, Resumes, Stops, HasResumed}
use Rattle.ms_machine_steps.proofs.Answered.{waiter, below_it, waits, waiter_stands, answered_on, answered_ends, HasStopped}
use Rattle.ms_machine_steps.proofs.RunSteps.{run_spent, run_ends, run_due, number_below}
use Rattle.ms_machine.specs.Running.{AllStandFor, IsRunning}
use Rattle.ms_machine.proofs.Programs.{frames_to, frames_from, state_to, state_from}
use Rattle.ms_runtime.specs.declared.runs.Running.{Running}
use Rattle.ms_runtime.specs.Served.{IsBeside, CanAnswer}
use Rattle.ms_runtime.specs.Answering.{AnsweredFor}
use Rattle.ms_runtime.specs.Going.{ahead, Begins, Going, LeftAfter, HasSlack, Asking, Paused, Answers, Over}
use Rattle.ms_runtime.proofs.EndedSteps.{ends_from, rest_ends, ends_due, ends_within}
use Rattle.ms_runtime.proofs.SaidSteps.{tells, rest_told, told_spent, told_ends, told_due, told_within, told_early}
use Rattle.ms_runtime.proofs.Countings.{Counting, uncut}

-- ---- numbers

-- fewer steps left is nearer to the end, wherever it stands
pub nearer : (left left' at at' all : ℕ) → left' < left → left' * (all + 1) + (all - at') < left * (all + 1) + (all - at)
nearer left left' at at' all lt =
    let d : ℕ = left - left' - 1 in
    let e : left ≡ left' + 1 + d = omega (arith, lt) in
    let more : left * (all + 1) ≡ left' * (all + 1) + (all + 1) + d * (all + 1) = ap (λ n. n * (all + 1)) e ∙ times left' d (all + 1) in
    omega (arith, more)
  where
    times : (a d b : ℕ) → (a + 1 + d) * b ≡ a * b + b + d * b
    times a d b = omega arith

-- as many, further on
further : (left left' at at' all : ℕ) → left' ≡ left → at ≤ at' → left' * (all + 1) + (all - at') ≤ left * (all + 1) + (all - at)
further left left' at at' all e le = let same : left' * (all + 1) ≡ left * (all + 1) = ap (λ n. n * (all + 1)) e in omega (arith, same, le)

pub one_nearer : (left left' at at' all : ℕ) → left' ≡ left → at' ≡ at + 1 → at < all → left' * (all + 1) + (all - at') < left * (all + 1) + (all - at)
one_nearer left left' at at' all e more lt = let same : left' * (all + 1) ≡ left * (all + 1) = ap (λ n. n * (all + 1)) e in omega (arith, same, more, lt)

-- ---- calls that are asked for

module _ (m : Module) (u : Setup) (beside : Beside) (state : PlainState) (r r' : Running) (room : r.world.made + 2 ^ 27 * r.budget.left ≤ 2 ^ 58) (call : HostCall)
    (h : HasAsked (IsRunning m u beside) m u state r.budget.left r.fiber.frame.at call r'.fiber r'.world r'.budget.left) (made : r'.world.made + 2 ^ 26 * r'.budget.left ≤ r.world.made + 2 ^ 26 * r.budget.left) where
  fewer_by : (a : Asked) → Counts a r.budget.left (r'.budget.left + h.done) → r'.budget.left ≤ r.budget.left
  fewer_by (asked.External e) c = omega (arith, c)
  fewer_by (asked.Runtime f) c = omega (arith, c)

  -- no more steps are left
  pub fewer : r'.budget.left ≤ r.budget.left
  fewer = fewer_by call.asked h.counted

  near : (all : ℕ) → r'.budget.left ≤ r.budget.left → r'.budget.left * (all + 1) + (all - r'.fiber.frame.at) ≤ r.budget.left * (all + 1) + (all - r.fiber.frame.at)
  near all le = by_test (r.budget.left - r'.budget.left) refl
    where
      by_test : (d : ℕ) → r.budget.left - r'.budget.left ≡ d → r'.budget.left * (all + 1) + (all - r'.fiber.frame.at) ≤ r.budget.left * (all + 1) + (all - r.fiber.frame.at)
      by_test zero e = let same : r'.budget.left ≡ r.budget.left = omega (arith, e, le) in further r.budget.left r'.budget.left r.fiber.frame.at r'.fiber.frame.at all same (h.further same)
      by_test (suc d) e = omega (arith, nearer r.budget.left r'.budget.left r.fiber.frame.at r'.fiber.frame.at all (omega (arith, e)))

  pub not_further : ahead m r' ≤ ahead m r
  not_further = near (over_funcs (λ inst. 1) m.funcs) fewer

  slack_by : (a : Asked) → Counts a r.budget.left (r'.budget.left + h.done) → HasSlack a r'.world.made r'.budget.left
  slack_by (asked.External e) c = omega (arith, c, made, room)
  slack_by (asked.Runtime f) c = tt

  pub slack_is : HasSlack call.asked r'.world.made r'.budget.left
  slack_is = slack_by call.asked h.counted

  after_by : (a : Asked) → Counts a r.budget.left (r'.budget.left + h.done) → (rest : ℕ) × (LeftAfter a rest r'.budget.left × (rest + h.done + 1 ≡ r.budget.left))
  after_by (asked.External e) c = (r'.budget.left, (refl, omega (arith, c)))
  after_by (asked.Runtime f) c = (r'.budget.left - 1, (omega (arith, c, h.few), omega (arith, c, h.few)))

  -- the steps that are left after it
  pub after : (rest : ℕ) × (LeftAfter call.asked rest r'.budget.left × (rest + h.done + 1 ≡ r.budget.left))
  after = after_by call.asked h.counted

-- ---- ends

-- a run that has ended so answers what it told
pub answers_so : (answer : RunResult) (e : End) (last : World) (beside : Beside) (r : Running) → answer ≡ result e last → Shows r.world beside last → IsBeside r.depot r.told beside → r.told.blind ≤ 2 ^ 62 → Answers answer e r
answers_so answer e last beside r is shows told few = record {
  beside = beside;
  world = last;
  shows = shows;
  output = ap (λ (x : RunResult). x.output) is;
  last = ap (λ (x : RunResult). x.«end») is;
  reports = ap (λ (x : RunResult). x.reports) is ∙ shows.reports ∙ told.reports;
  blind = ap (λ (x : RunResult). x.blind) is ∙ shows.blind ∙ uncut beside.blind r.told.blind told.blind few;
}

-- what a frame gives back changes nothing that a run answers
shown_ended : (e : End) (bases : List ℕ) (w : World) → result e (end_blocks bases w) ≡ result e w
shown_ended e [] w = refl
shown_ended e (a ∷ rest) w = shown_ended e rest (end_block a w)

shown_back : (e : End) (frame : Frame ℕ) (w : World) → result e (given_back frame w) ≡ result e w
shown_back e frame w = shown_ended e frame.heap (if eqb frame.mark 0 then w else release frame.mark w) ∙ by_mark (eqb frame.mark 0)
  where
    by_mark : (b : Bool) → result e (if b then w else release frame.mark w) ≡ result e w
    by_mark true = refl
    by_mark false = refl

module _ (m : Module) (u : Setup) where
  abbrev goes : ℕ → PlainState → RunResult
  goes left state = run (λ (s : PlainState). s.world) (step_of m u) left state

  told_over : (e : End) (last : World) (beside : Beside) (r : Running) → plain m u ≡ result e last → Shows r.world beside last → IsBeside r.depot r.told beside → r.told.blind ≤ 2 ^ 62 → Over m u e r
  told_over e last beside r is shows told few = answers_so (plain m u) e last beside r is shows told few

  module _ (r : Running) (g : Going m u r) (r' : Running) (depot : r'.depot ≡ r.depot) (told : r'.told ≡ r.told) where
    still_beside : IsBeside r'.depot r'.told g.beside
    still_beside = subst (λ d. IsBeside d r'.told g.beside) (sym depot) (subst (λ (t : RunResult). IsBeside r.depot t g.beside) (sym told) g.told)

    still_few : r'.told.blind ≤ 2 ^ 62
    still_few = subst (λ (t : RunResult). t.blind ≤ 2 ^ 62) (sym told) (omega (arith, g.keeping.blind))

    -- no step is left
    pub going_spent : IsSpent (IsRunning m u g.beside) m u g.state r.budget.left r'.fiber r'.world r'.budget.left → Over m u «end».Spent r'
    going_spent h =
        told_over «end».Spent h.last.world g.beside r' (sym g.same ∙ run_spent (λ (s : PlainState). s.world) (step_of m u) r.budget.left g.state h.last h.came) h.stands.shows still_beside still_few

    -- a step ended it
    pub going_ended : (e : End) → HasEnded m u g.beside g.state r.budget.left e r'.fiber r'.world → Over m u e r'
    going_ended e h =
        told_over e h.last g.beside r' (sym g.same ∙ run_ends (λ (s : PlainState). s.world) (step_of m u) r.budget.left h.done g.state h.before e h.last h.few h.came h.ends.step) h.shows still_beside still_few

    -- a function other than `main` returned, and nothing stood below
    pub going_finished : (word : ℕ) → HasFinished m u g.beside g.state r.budget.left word r'.world r'.budget.left → Over m u stuck r'
    going_finished word h =
        told_over stuck (given_back h.finishes.frame h.within.world) g.beside r'
        (sym g.same ∙ run_ends (λ (s : PlainState). s.world) (step_of m u) r.budget.left h.done g.state h.before stuck h.within.world (let c : r'.budget.left + h.done + 1 ≡ r.budget.left = h.counted in omega (arith, c)) h.came h.ends
        ∙ sym (shown_back stuck h.finishes.frame h.within.world)) h.finishes.shows still_beside still_few

    -- a call is asked for
    module _ (call : HostCall) (h : HasAsked (IsRunning m u g.beside) m u g.state r.budget.left r.fiber.frame.at call r'.fiber r'.world r'.budget.left)
        (made : r'.world.made + 2 ^ 26 * r'.budget.left ≤ r.world.made + 2 ^ 26 * r.budget.left) where
      -- the call can be answered
      can_answer : (of : Asked) → (inst : Inst) (callee : Name) → IsAsked m inst.marked callee of → (ret : Option Ty) (args : List (Ty × Operand)) → inst.op ≡ op.Call ret callee args → calls_thread (func_index m.funcs) inst.op ≡ false
          → CanAnswer of g.beside
      can_answer (asked.External e) inst callee is ret args calls none = sym (ap is_asked is.2) ∙ ap (calls_thread (func_index m.funcs)) (sym calls) ∙ none
      can_answer (asked.Runtime function.ThreadResult) inst callee is ret args calls none = g.lone
      can_answer (asked.Runtime f) inst callee is ret args calls none = tt

      -- by the frame that waits
      by_frames : (fs : List (Frame ℕ)) → AllStandFor m (frames_of r'.fiber) fs → FirstWaits m u fs call → CanAnswer call.asked g.beside
      by_frames [] stands waits = absurd waits
      by_frames (f ∷ fs) stands waits =
          can_answer call.asked waits.inst waits.callee waits.asked waits.ret waits.args waits.calls
          (none_called m g.calm f.func f.block f.place stands.0.func waits.inst stands.0.is (ap (λ (xs : List Inst). slice_get xs f.place) (sym (same_insts m f.func stands.0.func f.block stands.0.is)) ∙ waits.due))

      pub going_asks : Paused m u call r'
      going_asks =
          let b : (rest : ℕ) × (LeftAfter call.asked rest r'.budget.left × (rest + h.done + 1 ≡ r.budget.left)) = after m u g.beside g.state r r' g.keeping.room call h made in
          record {
            calm = g.calm;
            lone = g.lone;
            asking = record {
              beside = g.beside;
              within = h.within;
              stands = h.stands;
              waits = h.waits;
              can = by_frames h.within.frames h.stands.frames h.waits;
              told = still_beside;
              keeping = record {
                roots = ap (λ d. d.roots) depot ∙ g.keeping.roots;
                few = subst (λ (t : RunResult). length t.reports < u.reports) (sym told) g.keeping.few;
                room = omega (arith, fewer m u g.beside g.state r r' g.keeping.room call h made, made, g.keeping.room);
                blind = let same : r'.told.blind ≡ r.told.blind = ap (λ (t : RunResult). t.blind) told in omega (arith, same, not_further m u g.beside g.state r r' g.keeping.room call h made, g.keeping.blind);
              };
              slack = slack_is m u g.beside g.state r r' g.keeping.room call h made;
            };
            rest = b.0;
            counted = b.1.0;
            same = ap (go_on (goes b.0)) (sym h.same.step) ∙ sym (run_due (λ (s : PlainState). s.world) (step_of m u) r.budget.left b.0 h.done g.state h.before b.1.1 h.came) ∙ g.same;
          }

      -- what is told from there on is the rest
      pub going_tells : {B : Type 0} (count : World → ℕ) (says : PlainState → B) (had : RunResult → ℕ) (k : Counting count says had m u) (told : List B) → length told ≡ had r.told
          → tells count says m u r.budget.left g.state told ≡ rest_told count says m u going_asks.asking.within going_asks.rest told (step_of m u going_asks.asking.within)
      unfolding going_asks
      going_tells count says had k said counted =
          let b : (rest : ℕ) × (LeftAfter call.asked rest r'.budget.left × (rest + h.done + 1 ≡ r.budget.left)) = after m u g.beside g.state r r' g.keeping.room call h made in
          let up : count h.before.world ≤ count h.within.world = k.up h.before h.within h.same in
          let same : count h.within.world ≡ had r.told = k.held g.beside r'.world h.within.world r h.stands.shows g.told (omega (arith, g.keeping.blind)) in
          told_due count says m u k.grows r.budget.left b.0 h.done g.state h.before said b.1.1 h.came (omega (arith, up, same, counted))
          ∙ told_within count says m u h.before h.within h.same (k.alike h.before h.within h.same) b.0 said

      -- and so is what is said of its end
      pub going_ends : ends_from m u r.budget.left g.state ≡ rest_ends m u going_asks.asking.within going_asks.rest (step_of m u going_asks.asking.within)
      unfolding going_asks
      going_ends =
          let b : (rest : ℕ) × (LeftAfter call.asked rest r'.budget.left × (rest + h.done + 1 ≡ r.budget.left)) = after m u g.beside g.state r r' g.keeping.room call h made in
          ends_due m u r.budget.left b.0 h.done g.state h.before b.1.1 h.came ∙ ends_within m u h.before h.within h.same b.0

    -- nor is more told where no step is left, or a step ended the run
    module _ {B : Type 0} (count : World → ℕ) (says : PlainState → B) (had : RunResult → ℕ) (k : Counting count says had m u) (said : List B) (counted : length said ≡ had r.told) where
      told_as : (w : WorldState) (last : World) → Shows w g.beside last → count last ≤ length said
      told_as w last shows = let same : count last ≡ had r.told = k.held g.beside w last r shows g.told (omega (arith, g.keeping.blind)) in omega (arith, same, counted)

      pub spent_tells : IsSpent (IsRunning m u g.beside) m u g.state r.budget.left r'.fiber r'.world r'.budget.left → tells count says m u r.budget.left g.state said ≡ said
      spent_tells h = told_spent count says m u k.grows r.budget.left g.state h.last said h.came (told_as r'.world h.last.world h.stands.shows)

      pub ended_tells : (e : End) → HasEnded m u g.beside g.state r.budget.left e r'.fiber r'.world → tells count says m u r.budget.left g.state said ≡ said
      ended_tells e h = told_ends count says m u k.grows r.budget.left h.done g.state h.before e h.last said h.few h.came h.ends.step (told_as r'.world h.last h.shows)

      pub finished_tells : (word : ℕ) → HasFinished m u g.beside g.state r.budget.left word r'.world r'.budget.left → tells count says m u r.budget.left g.state said ≡ said
      finished_tells word h =
          let back : World = given_back h.finishes.frame h.within.world in
          let few : count back ≤ length said = told_as r'.world back h.finishes.shows in
          let same : count back ≡ count h.within.world = sym (k.returned stuck back) ∙ ap had (shown_back stuck h.finishes.frame h.within.world) ∙ k.returned stuck h.within.world in
          told_ends count says m u k.grows r.budget.left h.done g.state h.before stuck h.within.world said (let c : r'.budget.left + h.done + 1 ≡ r.budget.left = h.counted in omega (arith, c)) h.came h.ends
          (omega (arith, same, few))

  -- ---- answers

  -- where it waits is an instruction of the module
  pub at_within : (r : Running) (call : HostCall) (frames : List (Frame ℕ)) → AllStandFor m (frames_of r.fiber) frames → FirstWaits m u frames call → r.fiber.frame.at < over_funcs (λ inst. 1) m.funcs
  at_within r call [] stands waits = absurd waits
  at_within r call (f ∷ fs) stands waits =
      subst (λ (n : ℕ). n < over_funcs (λ inst. 1) m.funcs) (sym stands.0.at) (number_below m f.func f.block f.place stands.0.func stands.0.is waits.inst waits.due)

  at_below : (r : Running) (call : HostCall) → Asking m u call r → r.fiber.frame.at < over_funcs (λ inst. 1) m.funcs
  at_below r call a = at_within r call a.within.frames a.stands.frames a.waits

  below_all : (r : Running) (call : HostCall) → Asking m u call r → 0 < ahead m r
  below_all r call a = omega (arith, at_below r call a)

  module _ (p : Program) (compiled : Compiled m p) (formed : Formed m) (valid : Valid m) (r : Running) (call : HostCall) (b : Paused m u call r) (r' : Running) where
    abbrev a : Asking m u call r
    a = b.asking

    stands : IsState m p u a.beside r.fiber r.world a.within
    stands = state_to m p compiled formed valid u a.beside r.fiber r.world a.within a.stands

    -- the answer ended it
    pub asked_ends : (e : End) → AnsweredFor m u call a.within (answer.Ended e) r r' → Over m u e r'
    asked_ends e x =
        let stopped : HasStopped m u x.beside call.asked a.within e r'.world = answered_ends m p u a.beside r.fiber r.world a.within stands call a.waits x.beside r'.world x.keeps.fill x.keeps.slots e x.answered in
        told_over e stopped.last x.beside r' (sym b.same ∙ ap (go_on (goes b.rest)) (stops_step call.asked stopped.last stopped.ends)) stopped.shows x.told (omega (arith, x.blind, a.keeping.blind, low))
      where
        low : 0 < ahead m r
        low = below_all r call a

        stops_step : (of : Asked) (last : World) → Stops m u of a.within e last → step_of m u a.within ≡ Stop e last
        stops_step (asked.External x) last h = h.0
        stops_step (asked.Runtime f) last h = h.step

    -- what was told then is all
    pub ends_tell : {B : Type 0} (count : World → ℕ) (says : PlainState → B) (had : RunResult → ℕ) (k : Counting count says had m u) (e : End) → AnsweredFor m u call a.within (answer.Ended e) r r'
        → (told before all : List B) → told ≡ tell_to (says a.within) (had r'.told) before → rest_told count says m u a.within b.rest before (step_of m u a.within) ≡ all → told ≡ all
    ends_tell count says had k e x told before all is rest =
        let stopped : HasStopped m u x.beside call.asked a.within e r'.world = answered_ends m p u a.beside r.fiber r.world a.within stands call a.waits x.beside r'.world x.keeps.fill x.keeps.slots e x.answered in
        is
        ∙ ap (λ (n : ℕ). tell_to (says a.within) n before) (sym (k.held x.beside r'.world stopped.last r' stopped.shows x.told (omega (arith, x.blind, a.keeping.blind, below_all r call a))))
        ∙ sym (ap (rest_told count says m u a.within b.rest before) (stops_so call.asked stopped.last stopped.ends)) ∙ rest
      where
        stops_so : (of : Asked) (last : World) → Stops m u of a.within e last → step_of m u a.within ≡ Stop e last
        stops_so (asked.External x) last h = h.0
        stops_so (asked.Runtime f) last h = h.step

    -- the calls stand where it waited
    pub ends_end : (e : End) → AnsweredFor m u call a.within (answer.Ended e) r r' → rest_ends m u a.within b.rest (step_of m u a.within) ≡ Some (main_calls m a.within.frames)
    ends_end e x =
        let stopped : HasStopped m u x.beside call.asked a.within e r'.world = answered_ends m p u a.beside r.fiber r.world a.within stands call a.waits x.beside r'.world x.keeps.fill x.keeps.slots e x.answered in
        ap (rest_ends m u a.within b.rest) (stops_there call.asked stopped.last stopped.ends)
      where
        stops_there : (of : Asked) (last : World) → Stops m u of a.within e last → step_of m u a.within ≡ Stop e last
        stops_there (asked.External x) last h = h.0
        stops_there (asked.Runtime f) last h = h.step

    -- or the same is said of the end from the state after it on
    pub goes_ends : (r'' : Running) (g : Going m u r'') → Resumes m u call.asked a.within g.state → r''.budget.left ≡ r.budget.left → rest_ends m u a.within b.rest (step_of m u a.within) ≡ plain_end_calls m u
        → ends_from m u r''.budget.left g.state ≡ plain_end_calls m u
    goes_ends r'' g resumes left is = ap (λ (n : ℕ). ends_from m u n g.state) left ∙ by_asked call.asked b.counted resumes
      where
        by_asked : (of : Asked) → LeftAfter of b.rest r.budget.left → Resumes m u of a.within g.state → ends_from m u r.budget.left g.state ≡ plain_end_calls m u
        by_asked (asked.External e) c h = ap (λ (n : ℕ). ends_from m u n g.state) (sym c) ∙ sym (ap (rest_ends m u a.within b.rest) h.0) ∙ is
        by_asked (asked.Runtime f) c h = ap (λ (n : ℕ). ends_from m u n g.state) (sym c) ∙ sym (ends_within m u a.within g.state h b.rest) ∙ is

    -- what is told from the state after it on
    pub goes_tell : {B : Type 0} (count : World → ℕ) (says : PlainState → B) (had : RunResult → ℕ) (k : Counting count says had m u) (r'' : Running) (g : Going m u r'') → Resumes m u call.asked a.within g.state
        → r''.budget.left ≡ r.budget.left → (told before all : List B) → told ≡ tell_to (says a.within) (had r''.told) before
        → rest_told count says m u a.within b.rest before (step_of m u a.within) ≡ all → tells count says m u r''.budget.left g.state told ≡ all
    goes_tell count says had k r'' g resumes left told before all is rest =
        ap (λ l. tells count says m u r''.budget.left g.state l)
        (is ∙ ap (λ (n : ℕ). tell_to (says a.within) n before) (sym (k.held g.beside r''.world g.state.world r'' g.stands.shows g.told (omega (arith, g.keeping.blind)))))
        ∙ ap (λ (n : ℕ). tells count says m u n g.state (tell_to (says a.within) (count g.state.world) before)) left
        ∙ by_asked call.asked b.counted resumes
      where
        by_asked : (of : Asked) → LeftAfter of b.rest r.budget.left → Resumes m u of a.within g.state → tells count says m u r.budget.left g.state (tell_to (says a.within) (count g.state.world) before) ≡ all
        by_asked (asked.External e) c h =
            ap (λ (n : ℕ). tells count says m u n g.state (tell_to (says a.within) (count g.state.world) before)) (sym c) ∙ sym (ap (rest_told count says m u a.within b.rest before) h.0) ∙ rest
        by_asked (asked.Runtime f) c h =
            ap (λ (n : ℕ). tells count says m u n g.state (tell_to (says a.within) (count g.state.world) before)) (sym c)
            ∙ ap (λ one. rest_told count says m u g.state b.rest (tell_to one (count g.state.world) before) (step_of m u g.state)) (k.alike a.within g.state h)
            ∙ told_early count says m u g.state b.rest (count g.state.world) before (step_of m u g.state) (k.grows g.state)
            ∙ sym (told_within count says m u a.within g.state h (k.alike a.within g.state h) b.rest before) ∙ rest

    -- none is taken back
    pub goes_up : {B : Type 0} (count : World → ℕ) (says : PlainState → B) (had : RunResult → ℕ) (k : Counting count says had m u) (r'' : Running) (g : Going m u r'') → Resumes m u call.asked a.within g.state → had r.told ≤ had r''.told
    goes_up count says had k r'' g resumes =
        let few : count a.within.world ≡ had r.told = k.held a.beside r.world a.within.world r a.stands.shows a.told (omega (arith, a.keeping.blind)) in
        let more : count g.state.world ≡ had r''.told = k.held g.beside r''.world g.state.world r'' g.stands.shows g.told (omega (arith, g.keeping.blind)) in
        let up : count a.within.world ≤ count g.state.world = by_asked call.asked resumes in
        omega (arith, few, more, up)
      where
        by_asked : (of : Asked) → Resumes m u of a.within g.state → count a.within.world ≤ count g.state.world
        by_asked (asked.External e) h = subst (λ (y : Stepped PlainState). count a.within.world ≤ count (stepped_world y)) h.0 (k.grows a.within)
        by_asked (asked.Runtime f) h = k.up a.within g.state h

    -- or the run goes on after it
    pub asked_goes_on : (value : Option ℕ) → AnsweredFor m u call a.within (answer.Resumed value) r r' → (r'' : Running)
        → r''.world ≡ r'.world → r''.depot ≡ r'.depot → r''.told ≡ r'.told → r''.budget ≡ r'.budget → r''.fiber.frame.at ≡ r'.fiber.frame.at + 1 → KeepsOwn r'.fiber r''.fiber
        → ((frame : Frame ℕ) (below : List (Frame ℕ)) → AllStandFor m (frames_of r'.fiber) (frame ∷ below) → Waits m u frame call → AllStandFor m (frames_of r''.fiber) (answered m value frame ∷ below))
        → (g : Going m u r'') × ((ahead m r'' < ahead m r) × Resumes m u call.asked a.within g.state × (r''.budget.left ≡ r.budget.left))
    asked_goes_on value x r'' world depot told budget at own frames = (
      record {
        calm = b.calm;
        lone = x.fibers ∙ a.stands.shows.fibers ∙ b.lone;
        beside = x.beside;
        state = on.next;
        stands = subst (λ (w : WorldState). IsRunning m u x.beside r''.fiber w on.next) (sym world) (state_from m p compiled u x.beside r''.fiber r'.world on.next on.stands);
        told = subst (λ d. IsBeside d r''.told x.beside) (sym depot) (subst (λ (t : RunResult). IsBeside r'.depot t x.beside) (sym told) x.told);
        keeping = record {
          roots = ap (λ d. d.roots) depot ∙ x.roots ∙ a.keeping.roots;
          few = subst (λ (t : RunResult). length t.reports < u.reports) (sym told) x.few;
          room = let made : r''.world.made ≡ r'.world.made = ap (λ (w : WorldState). w.made) world in let left : r''.budget.left ≡ r'.budget.left = ap (λ b. b.left) budget in omega (arith, made, left, x.room);
          blind = let same : r''.told.blind ≡ r'.told.blind = ap (λ (t : RunResult). t.blind) told in omega (arith, same, x.blind, less, a.keeping.blind);
        };
        same = by_asked call.asked b.counted on.goes;
      },
      (less, on.goes, left_is),
    )
      where
        first : Frame ℕ
        first = waiter m p u a.beside r.fiber r.world a.within stands call a.waits

        rest : List (Frame ℕ)
        rest = below_it m p u a.beside r.fiber r.world a.within stands call a.waits

        on : HasResumed (IsState m p u x.beside) m u call.asked a.within r''.fiber r'.world
        on = answered_on m p u a.beside r.fiber r.world a.within stands call a.waits x.beside r'.world x.keeps.fill x.keeps.slots r''.fiber (subst (λ f. KeepsOwn f r''.fiber) x.fiber own) value x.answered
            (frames_to m p compiled (frames_of r''.fiber) (answered m value first ∷ rest)
            (frames first rest
            (frames_from m p compiled (frames_of r'.fiber) (first ∷ rest)
            (subst (λ f. FramesStand m p (frames_of f) (first ∷ rest)) (sym x.fiber) (waiter_stands m p u a.beside r.fiber r.world a.within stands call a.waits)))
            (waits m p u a.beside r.fiber r.world a.within stands call a.waits)))

        left_is : r''.budget.left ≡ r.budget.left
        left_is = ap (λ b. b.left) (budget ∙ x.budget)

        less : ahead m r'' < ahead m r
        less = one_nearer r.budget.left r''.budget.left r.fiber.frame.at r''.fiber.frame.at (over_funcs (λ inst. 1) m.funcs) left_is (at ∙ ap (λ f. f.frame.at + 1) x.fiber) (at_below r call a)

        by_asked : (of : Asked) → LeftAfter of b.rest r.budget.left → Resumes m u of a.within on.next → goes r''.budget.left on.next ≡ plain m u
        by_asked (asked.External e) c h = ap (λ (n : ℕ). goes n on.next) (left_is ∙ sym c) ∙ sym (ap (go_on (goes b.rest)) h.0) ∙ b.same
        by_asked (asked.Runtime f) c h = ap (λ (n : ℕ). goes n on.next) (left_is ∙ sym c) ∙ sym (ap (go_on (goes b.rest)) h.step) ∙ b.same

-- a run at its start goes on, where its module has no thread call
pub going_begun : (m : Module) (u : Setup) → is_threaded m ≡ false → (r : Running) → Begins m u r → Going m u r
going_begun m u calm r b = record {
  calm = calm;
  beside = nothing_beside;
  state = plain_start m u;
  stands = b.stands;
  told = b.told;
  lone = refl;
  keeping = b.keeping;
  same = ap (λ (n : ℕ). run (λ (s : PlainState). s.world) (step_of m u) n (plain_start m u)) b.budget;
}

-- where nothing was told, all is told from there on
pub begun_tells : {B : Type 0} (count : World → ℕ) (says : PlainState → B) (m : Module) (u : Setup) (calm : is_threaded m ≡ false) (r : Running) (b : Begins m u r) (told : List B) → told ≡ []
    → tells count says m u r.budget.left (going_begun m u calm r b).state told ≡ tells count says m u u.steps (plain_start m u) []
unfolding going_begun
begun_tells count says m u calm r b told none = ap (λ l. tells count says m u r.budget.left (plain_start m u) l) none ∙ ap (λ (n : ℕ). tells count says m u n (plain_start m u) []) b.budget

-- and so is what is said of its end
pub begun_ends : (m : Module) (u : Setup) (calm : is_threaded m ≡ false) (r : Running) (b : Begins m u r) → ends_from m u r.budget.left (going_begun m u calm r b).state ≡ plain_end_calls m u
unfolding going_begun
begun_ends m u calm r b = ap (λ (n : ℕ). ends_from m u n (plain_start m u)) b.budget
