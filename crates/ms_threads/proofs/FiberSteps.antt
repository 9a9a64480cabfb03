-- What steps of a fiber's own, and its pauses, come to in a run of fibers.
use Rattle.std.proofs.Common.{◌≡◌, ◌+◌, ◌-◌, ℕ, zero, suc, Bool, true, false, ◌&&◌, not, List, [], ◌∷◌, drop, slice_get, length, eqb, if◌then◌else◌, refl, sym, ap, ◌∙◌, arith, Option, Some, ◌⊎◌, inl, inr}
use Rattle.ms_ir.specs.declared.syntax.Name.{Name}
use Rattle.ms_ir.specs.declared.syntax.Ty.{Ty}
use Rattle.ms_ir.specs.declared.syntax.Operand.{Operand}
use Rattle.ms_ir.specs.declared.syntax.Op.TheVariants as op
use Rattle.ms_ir.specs.declared.syntax.Inst.{Inst}
use Rattle.ms_ir.specs.declared.syntax.Module.{Module}
use Rattle.ms_ir.specs.declared.calls.External.{External}
use Rattle.ms_ir.specs.ThreadCalls.{is_asked}
use Rattle.ms_ir.specs.Instructions.{func_index, insts_at}
use Rattle.ms_runs.specs.declared.runs.End.{End}
use Rattle.ms_runs.specs.declared.runs.End.TheVariants as «end»
use Rattle.ms_runs.specs.declared.runs.Setup.{Setup}
use Rattle.ms_runs.specs.World.{World, word}
use Rattle.ms_runs.specs.Control.{Frame, here, rest_of, given_back}
use Rattle.ms_runs.specs.Act.{plain_reading}
use Rattle.ms_runs.specs.Plain.{PlainState, Stepped, More, Stop, and_then, plain_inst, steps, setting_of}
use Rattle.ms_runs.specs.Poisoned.{Poisoned}
use Rattle.ms_runs.specs.Threads.{with_answer, result_mask, result_origin}
use Rattle.ms_runs_threads.specs.Fibers.{Due, Own, Asks, Returns, Others, Fibers, Goes, Waits, goes_on, standing, ended, moved, fibers_step}
use Rattle.ms_runs_threads.specs.PlainFibers.{Shared, due_inst, due_of, due_at, frames_due, words_due, through_marked, plain_reach, plain_going, plain_answer}
use Rattle.ms_host.specs.State.{WorldState, Beside}
use Rattle.ms_host.specs.declared.calls.Asked.{Asked}
use Rattle.ms_host.specs.declared.calls.Asked.TheVariants as asked
use Rattle.ms_host.specs.declared.calls.HostCall.{HostCall}
use Rattle.ms_machine_steps.specs.Waiting.{IsAsked, FirstWaits, Finishes}
use Rattle.ms_machine_steps.specs.Advances.{step_of, reach_of, due_in, Within, Ends, AllOwn}
use Rattle.ms_threads.specs.ThreadTables.{IsThreadCall}
use Rattle.ms_threads_schedules_laws.specs.Picks.{Pick}
use Rattle.ms_threads.specs.Going.{fiber_of, shared_in, goes_at, ends_from, ends_after, ended_so}

-- what stands at a place stands first after it
pub dropped : (xs : List Inst) (k : ℕ) (x : Inst) → slice_get xs k ≡ Some x → drop k xs ≡ x ∷ drop (suc k) xs
dropped [] k x e = absurd (cc)
dropped (y ∷ xs) zero x e = ap (λ z. z ∷ xs) (same e)
  where
    same : {a b : Inst} → Some a ≡ Some b → a ≡ b
    same e = cc
dropped (y ∷ xs) (suc k) x e = dropped xs k x e

module _ (m : Module) (u : Setup) (schedule : List ℕ) where
  abbrev step : Fibers (List (Frame ℕ)) Shared → Stepped (Fibers (List (Frame ℕ)) Shared)
  step c = fibers_step (fiber_of m u) schedule c

  -- ---- steps

  -- what follows a fiber's own step, what it reaches at a thread call, and at its return
  abbrev on_step : Others (List (Frame ℕ)) → Stepped PlainState → Stepped (Fibers (List (Frame ℕ)) Shared)
  on_step others s = goes_on (plain_going s) (λ g. More (Goes g.fiber g.shared others))

  abbrev on_asks : Others (List (Frame ℕ)) → Stepped PlainState → Stepped (Fibers (List (Frame ℕ)) Shared)
  on_asks others s = goes_on (plain_going s) (λ g. More (Waits g.shared (record others { stands = standing g.shared.world.turn (Some g.fiber) others.stands })))

  abbrev on_returns : Others (List (Frame ℕ)) → Stepped PlainState → Stepped (Fibers (List (Frame ℕ)) Shared)
  on_returns others s = goes_on (plain_going s) (λ g. More (Waits (ended (fiber_of m u) g.fiber g.shared) others))

  abbrev by_due : PlainState → Others (List (Frame ℕ)) → Due → Stepped (Fibers (List (Frame ℕ)) Shared)
  by_due a others d = moved (fiber_of m u) a.frames (shared_in a) others d

  -- two states within one step come to the same
  pub same_step : (a b : PlainState) (others : Others (List (Frame ℕ))) → Within m u a b → step (goes_at a others) ≡ step (goes_at b others)
  same_step a b others w = ap (by_due a others) w.due ∙ of_due (due_in m u b)
    where
      of_due : (d : Due) → by_due a others d ≡ by_due b others d
      of_due Own = ap (on_step others) w.step
      of_due Asks = ap (on_asks others) w.reach
      of_due Returns = ap (on_returns others) w.reach

  pub own_step : (a b : PlainState) (others : Others (List (Frame ℕ))) → due_in m u a ≡ Own → step_of m u a ≡ More b → step (goes_at a others) ≡ More (goes_at b others)
  own_step a b others own e = ap (by_due a others) own ∙ ap (on_step others) e

  -- one that ends the run
  pub step_ends : (a : PlainState) (others : Others (List (Frame ℕ))) (e : End) (last : World) → Ends m u a e last → step (goes_at a others) ≡ Stop e last
  step_ends a others e last h = of_due (due_in m u a) refl
    where
      early : (d : Due) → due_in m u a ≡ d → (d ≡ Own → ⊥) → (due_in m u a ≡ Own) ⊎ (reach_of m u a ≡ Stop e last) → reach_of m u a ≡ Stop e last
      early d is other (inl own) = absurd (other (sym is ∙ own))
      early d is other (inr r) = r

      of_due : (d : Due) → due_in m u a ≡ d → by_due a others (due_in m u a) ≡ Stop e last
      of_due Own is = ap (by_due a others) is ∙ ap (on_step others) h.step
      of_due Asks is = ap (by_due a others) is ∙ ap (on_asks others) (early Asks is (λ x. cc) h.early)
      of_due Returns is = ap (by_due a others) is ∙ ap (on_returns others) (early Returns is (λ x. cc) h.early)

  same_More : {a b : PlainState} → More a ≡ More b → a ≡ b
  same_More e = cc

  -- so many of its own
  own_steps : (made : List Pick) (n k : ℕ) (a b : PlainState) (others : Others (List (Frame ℕ))) → AllOwn m u n a → steps (step_of m u) n a ≡ More b
      → ends_from m u schedule made (n + k) (goes_at a others) ≡ ends_from m u schedule made k (goes_at b others)
  own_steps made zero k a b others all e =
      ap (λ j. ends_from m u schedule made j (goes_at a others)) (let z : 0 + k ≡ k = omega arith in z) ∙ ap (λ s. ends_from m u schedule made k (goes_at s others)) (same_More e)
  own_steps made (suc n) k a b others all e =
      ap (λ j. ends_from m u schedule made j (goes_at a others)) (let z : suc n + k ≡ suc (n + k) = omega arith in z)
      ∙ by_step (step_of m u a) refl (λ c. own_steps made n k c b others) e
    where
      by_step : (r : Stepped PlainState) → step_of m u a ≡ r
          → ((c : PlainState) → AllOwn m u n c → steps (step_of m u) n c ≡ More b → ends_from m u schedule made (n + k) (goes_at c others) ≡ ends_from m u schedule made k (goes_at b others))
          → and_then r (steps (step_of m u) n) ≡ More b → ends_after m u schedule made (n + k) (step (goes_at a others)) ≡ ends_from m u schedule made k (goes_at b others)
      by_step (More c) is later came = ap (ends_after m u schedule made (n + k)) (own_step a c others all.0 is) ∙ later c (all.1 c is) came
      by_step (Stop x w) is later came = absurd (cc)

  -- all are done
  pub run_spent : (made : List Pick) (left : ℕ) (a b : PlainState) (others : Others (List (Frame ℕ))) → AllOwn m u left a → steps (step_of m u) left a ≡ More b
      → ends_from m u schedule made left (goes_at a others) ≡ ended_so made «end».Spent b.world
  run_spent made left a b others all e =
      ap (λ j. ends_from m u schedule made j (goes_at a others)) (let z : left ≡ left + 0 = omega arith in z) ∙ own_steps made left 0 a b others all e

  -- after its first steps a run goes on with the step from there
  pub run_due : (made : List Pick) (left rest n : ℕ) (a b : PlainState) (others : Others (List (Frame ℕ))) → rest + n + 1 ≡ left → AllOwn m u n a → steps (step_of m u) n a ≡ More b
      → ends_from m u schedule made left (goes_at a others) ≡ ends_after m u schedule made rest (step (goes_at b others))
  run_due made left rest n a b others e all came =
      ap (λ j. ends_from m u schedule made j (goes_at a others)) (let z : left ≡ n + suc rest = omega (arith, e) in z) ∙ own_steps made n (suc rest) a b others all came

  -- ---- a thread call

  thread_call : (of : Asked) (inst : Inst) (ret : Option Ty) (callee : Name) (args : List (Ty × Operand)) (main only : Bool) → IsThreadCall of → inst.op ≡ op.Call ret callee args → IsAsked m inst.marked callee of
      → due_at (func_index m.funcs) main only (Some inst) ≡ Asks
  thread_call (asked.External e) inst ret callee args main only is calls h =
      ap (due_of (func_index m.funcs) main only) calls
      ∙ ap (λ (o : Option External). if is_asked o then Asks else Own) h.2
      ∙ ap (λ (b : Bool). if b then Asks else Own) is
  thread_call (asked.Runtime f) inst ret callee args main only is calls h = absurd is

  pub unmarked_of : (of : Asked) (inst : Inst) (callee : Name) → IsThreadCall of → IsAsked m inst.marked callee of → inst.marked ≡ false
  unmarked_of (asked.External e) inst callee is h = h.0
  unmarked_of (asked.Runtime f) inst callee is h = absurd is

  -- an unmarked instruction is due first
  pub first_due : (inst : Inst) (rest : List Inst) → inst.marked ≡ false → due_inst (inst ∷ rest) ≡ Some inst
  first_due inst rest e = ap (λ (b : Bool). if b then due_inst rest else Some inst) e

  -- and nothing is done up to it
  reached : (fs : List (Frame ℕ)) (inst : Inst) (rest : List Inst) (shared : Shared) → inst.marked ≡ false
      → through_marked (setting_of m u) m (inst ∷ rest) (record { frames = fs; slots = shared.slots; world = shared.world }) ≡ More (record { frames = fs; slots = shared.slots; world = shared.world })
  reached fs inst rest shared e =
      let state : PlainState = record { frames = fs; slots = shared.slots; world = shared.world } in
      ap (λ (b : Bool). if b then and_then (plain_inst (setting_of m u) m inst state fs) (through_marked (setting_of m u) m rest) else More state) e

  asks_due : (fs : List (Frame ℕ)) (call : HostCall) → IsThreadCall call.asked → FirstWaits m u fs call → frames_due (setting_of m u) m fs ≡ Asks
  asks_due [] call is w = absurd w
  asks_due (f ∷ below) call is w =
      let main = (here (setting_of m u) m f).main in
      ap (λ xs. due_at (func_index m.funcs) main (eqb (length below) 0) (due_inst xs)) (dropped (insts_at m f.func f.block) f.place w.inst w.due)
      ∙ ap (due_at (func_index m.funcs) main (eqb (length below) 0)) (first_due w.inst (drop (suc f.place) (insts_at m f.func f.block)) (unmarked_of call.asked w.inst w.callee is w.asked))
      ∙ thread_call call.asked w.inst w.ret w.callee w.args main (eqb (length below) 0) is w.calls w.asked

  asks_reach : (fs : List (Frame ℕ)) (call : HostCall) (shared : Shared) → IsThreadCall call.asked → FirstWaits m u fs call → plain_reach (setting_of m u) m fs shared ≡ More (record { frames = fs; slots = shared.slots; world = shared.world })
  asks_reach [] call shared is w = absurd w
  asks_reach (f ∷ below) call shared is w =
      ap (λ xs. through_marked (setting_of m u) m xs (record { frames = f ∷ below; slots = shared.slots; world = shared.world })) (dropped (insts_at m f.func f.block) f.place w.inst w.due)
      ∙ reached (f ∷ below) w.inst (drop (suc f.place) (insts_at m f.func f.block)) shared (unmarked_of call.asked w.inst w.callee is w.asked)

  -- at a thread call a fiber stands, and a pick is due
  pub step_asks : (a : PlainState) (call : HostCall) (others : Others (List (Frame ℕ))) → IsThreadCall call.asked → FirstWaits m u a.frames call
      → step (goes_at a others) ≡ More (Waits (shared_in a) (record others { stands = standing a.world.turn (Some a.frames) others.stands }))
  step_asks a call others is w = ap (by_due a others) (asks_due a.frames call is w) ∙ ap (on_asks others) (asks_reach a.frames call (shared_in a) is w)

  -- ---- a return of the first frame

  module _ (beside : Beside) (a : PlainState) (given : ℕ) (w : WorldState) (h : Finishes m u beside a given w) where
    rest_is : rest_of m h.frame ≡ h.inst ∷ drop (suc h.frame.place) (insts_at m h.frame.func h.frame.block)
    rest_is = dropped (insts_at m h.frame.func h.frame.block) h.frame.place h.inst h.due

    due_is : due_inst (rest_of m h.frame) ≡ Some h.inst
    due_is = ap due_inst rest_is ∙ first_due h.inst (drop (suc h.frame.place) (insts_at m h.frame.func h.frame.block)) h.unmarked

    returns_due : due_in m u a ≡ Returns
    returns_due =
        ap (frames_due (setting_of m u) m) h.frames
        ∙ ap (due_at (func_index m.funcs) (here (setting_of m u) m h.frame).main true) due_is
        ∙ ap (due_of (func_index m.funcs) (here (setting_of m u) m h.frame).main true) h.returns
        ∙ ap (λ (b : Bool). if true && not b then Returns else Own) h.inside

    returns_reach : reach_of m u a ≡ More a
    returns_reach =
        ap (λ fs. plain_reach (setting_of m u) m fs (shared_in a)) h.frames
        ∙ ap (λ xs. through_marked (setting_of m u) m xs (record { frames = h.frame ∷ []; slots = a.slots; world = a.world })) rest_is
        ∙ reached (h.frame ∷ []) h.inst (drop (suc h.frame.place) (insts_at m h.frame.func h.frame.block)) (shared_in a) h.unmarked
        ∙ ap (λ fs. More (record { frames = fs; slots = a.slots; world = a.world })) (sym h.frames)

    -- the word, with what the slots hold
    abbrev pub answered_word : Poisoned
    answered_word = record { value = given; mask = result_mask a.slots; origin = result_origin a.slots }

    answer_is : plain_answer (setting_of m u) m a.frames (shared_in a) ≡ answered_word
    answer_is =
        ap (λ fs. plain_answer (setting_of m u) m fs (shared_in a)) h.frames
        ∙ ap (λ v. record { value = v; mask = result_mask a.slots; origin = result_origin a.slots })
        (ap (λ o. word 0 (words_due plain_reading (setting_of m u) m h.frame o)) due_is ∙ sym h.gives)

    -- what all share after it
    abbrev pub after_return : Shared
    after_return = record { slots = a.slots; world = with_answer answered_word (given_back h.frame a.world) }

    ended_is : ended (fiber_of m u) a.frames (shared_in a) ≡ after_return
    ended_is =
        ap (λ p. record { slots = a.slots; world = with_answer p ((fiber_of m u).left a.frames a.world) }) answer_is
        ∙ ap (λ fs. record { slots = a.slots; world = with_answer answered_word ((fiber_of m u).left fs a.world) }) h.frames

    -- the fiber has ended, and a pick is due
    pub step_returns : (others : Others (List (Frame ℕ))) → step (goes_at a others) ≡ More (Waits after_return others)
    step_returns others = ap (by_due a others) returns_due ∙ ap (on_returns others) returns_reach ∙ ap (λ s. More (Waits s others)) ended_is
