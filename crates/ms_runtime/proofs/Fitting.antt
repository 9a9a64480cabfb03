-- The arguments of calls that are asked for fit.
use Rattle.std.proofs.Common.{◌≡◌, ◌<◌, ◌≤◌, ℕ, zero, suc, false, true≢false, ◌∙◌, List, [], ◌∷◌, map, length, get_or, refl, sym, ap, subst, arith, Result, Ok, Err, Option, Some, None, option_map, unwrap_or}
use Rattle.std.specs.Prelude.{slice_get, IfOk}
use Rattle.ms_bits.specs.WordFunctions.{bits_of}
use Rattle.ms_ir.specs.declared.syntax.Ty.{Ty, Int, Ptr}
use Rattle.ms_ir.specs.declared.syntax.Inst.{Inst}
use Rattle.ms_ir.specs.declared.places.Place.{Place}
use Rattle.ms_ir.specs.declared.calls.External.{External}
use Rattle.ms_ir.specs.declared.calls.External.TheVariants as external
use Rattle.ms_ir.specs.declared.calls.RuntimeFn.{RuntimeFn}
use Rattle.ms_ir.specs.Instructions.{operands}
use Rattle.ms_ir.specs.Places.{IsPlaceOf, inst_at}
use Rattle.ms_ir.specs.Signatures.{runtime_signature, is_thread_call}
use Rattle.ms_ir.specs.declared.syntax.Module.{Module}
use Rattle.ms_runs.specs.declared.runs.Setup.{Setup}
use Rattle.ms_runs.specs.World.{World, Setting, Effect, Gives, Does, Ends}
use Rattle.ms_runs.specs.Threads.{fibers_of}
use Rattle.ms_runs.specs.Runtime.{runtime}
use Rattle.ms_runs.specs.Control.{Frame}
use Rattle.ms_check_valid.specs.Valid.{Valid}
use Rattle.ms_runs_good_laws.specs.GoodStates.{IsBelow}
use Rattle.ms_runs_good_laws.specs.Straight.{HaveTypes}
use Rattle.ms_runs_good_laws.proofs.FibersKept.{Kept, runtime_keeps}
use Rattle.ms_runs_good_laws.proofs.ExternalEffects.{first_param}
use Rattle.ms_host.specs.State.{WorldState, Beside}
use Rattle.ms_host.specs.Answers.{FitsFirst, Answered, IsExternal, effect_asked, asked_effect}
use Rattle.ms_host.specs.declared.calls.Asked.{Asked}
use Rattle.ms_host.specs.declared.calls.Asked.TheVariants as asked
use Rattle.ms_host.specs.declared.calls.Answer.{Answer}
use Rattle.ms_host.specs.declared.calls.Answer.TheVariants as answer
use Rattle.ms_host.specs.declared.calls.HostCall.{HostCall}
use Rattle.ms_machine_frames.specs.declared.fibers.Fiber.{Fiber}
use Rattle.ms_machine_frames.specs.Standing.{frames_of}
use Rattle.ms_machine_steps.specs.Waiting.{IsAsked, FirstWaits, types_due}
use Rattle.ms_machine_steps.proofs.Asking.{asked_types, AreArguments, are_arguments}
use Rattle.ms_machine.specs.Running.{AllStandFor}
use Rattle.ms_runtime.specs.declared.runs.Running.{Running}
use Rattle.ms_runtime.specs.declared.reports.ReportLimit.{ReportLimit}
use Rattle.ms_runtime.specs.Served.{limit_of, Fits, FitsAsked, IsWithin, CanAnswer}
use Rattle.ms_runtime.specs.Answering.{HasRoom}
use Rattle.ms_runtime.specs.Going.{Asking, HasSlack}

pub if_ok : {A E : Type 0} {P Q : A → Type 0} (r : Result A E) → ((a : A) → P a → Q a) → IfOk r P → IfOk r Q
if_ok (Ok a) f h = f a h
if_ok (Err e) f h = tt

pub if_ok_both : {A E : Type 0} {P R Q : A → Type 0} (r : Result A E) → ((a : A) → P a → R a → Q a) → IfOk r P → IfOk r R → IfOk r Q
if_ok_both (Ok a) f h k = f a h k
if_ok_both (Err e) f h k = tt

-- the words of a call for which a fiber waits
pub arguments_within : (m : Module) → Valid m → (u : Setup) (call : HostCall) (fiber : Fiber) (frames : List (Frame ℕ)) → AllStandFor m (frames_of fiber) frames → FirstWaits m u frames call → (types : List Ty) × AreArguments call types
arguments_within m valid u call fiber [] stands waits = absurd waits
arguments_within m valid u call fiber (f ∷ fs) stands waits = (map (λ x. x.0) waits.args, are_arguments m valid u f stands.0.func stands.0.is call waits)

-- those of a call that a run waits for
pub arguments_of : (m : Module) → Valid m → (u : Setup) (call : HostCall) (r : Running) → Asking m u call r → (types : List Ty) × AreArguments call types
arguments_of m valid u call r a = arguments_within m valid u call r.fiber a.within.frames a.stands.frames a.waits

type_at : (ts : List Ty) (k : ℕ) → k < length ts → slice_get ts k ≡ Some (get_or ts k Ptr)
type_at [] k lt = absurd (omega (arith, lt))
type_at (t ∷ ts) zero lt = refl
type_at (t ∷ ts) (suc k) lt = type_at ts k (omega (arith, lt))

fits : (f : RuntimeFn) (args : List ℕ) → length args ≡ length (runtime_signature f).params → HaveTypes IsBelow 0 args (runtime_signature f).params → Fits f args
fits f args count have = record { count = count; widths = λ k lt. have k (get_or (runtime_signature f).params k Ptr) (type_at (runtime_signature f).params k lt) }

pub fits_asked : (a : Asked) (types : List Ty) (args : List ℕ) (f : RuntimeFn) → a ≡ asked.Runtime f → length args ≡ length (asked_types a types) → HaveTypes IsBelow 0 args (asked_types a types) → FitsAsked a args
fits_asked (asked.Runtime f) types args g e count have = fits f args count have
fits_asked (asked.External x) types args g e count have = absurd (cc)

pub fits_first : (a : Asked) (types : List Ty) (args : List ℕ) → HaveTypes IsBelow 0 args (asked_types a types) → FitsFirst a args
fits_first (asked.External external.Exit) types args have = have 0 (Int 32) refl
fits_first (asked.External (external.Word f n)) types args have = have 0 (Int (bits_of n)) (first_param f (bits_of n))
fits_first (asked.External e) types args have = tt
fits_first (asked.Runtime f) types args have = tt

pub slack_of : (a : Asked) (e : External) (made left : ℕ) → a ≡ asked.External e → HasSlack a made left → HasSlack (asked.External e) made left
slack_of a e made left same h = subst (λ (x : Asked). HasSlack x made left) same h

pub has_room : (u : Setup) (a : Answer) (r : Running) → length r.told.reports < u.reports → HasRoom u a r
has_room u (answer.Resumed v) r lt = lt
has_room u (answer.Ended e) r lt = tt

pub within_room : (u : Setup) (limit : ReportLimit) (a : Answer) (r : Running) → limit_of u ≡ limit → IsWithin limit.count r.told a → HasRoom u a r
within_room u limit (answer.Resumed v) r e h = subst (λ (l : ReportLimit). length r.told.reports < l.count) (sym e) h
within_room u limit (answer.Ended x) r e h = tt

-- after the answer of a runtime function the fibers are those of before
answered_fibers : (w : World) (e : Effect) → Kept w e → (beside : Beside) (a : Answer) (after : WorldState) → Answered beside e a after → beside.fibers ≡ fibers_of w
answered_fibers w (Gives v world) k beside (answer.Resumed (Some n)) after h = sym h.1.fibers ∙ k.kept
answered_fibers w (Does world) k beside (answer.Resumed None) after h = sym h.fibers ∙ k.kept
answered_fibers w (Ends e world) k beside (answer.Ended x) after h = sym h.1.fibers ∙ k.kept
answered_fibers w e k beside a after h = absurd h

pub served_fibers : (setting : Setting) (call : HostCall) (types : List Ty) (f : RuntimeFn) → call.asked ≡ asked.Runtime f → (w : World) (beside : Beside) (a : Answer) (after : WorldState)
    → Answered beside (asked_effect setting types call w) a after → beside.fibers ≡ fibers_of w
served_fibers setting call types f is w beside a after h =
    answered_fibers w (runtime setting f call.args w) (runtime_keeps setting f call.args w) beside a after
    (subst (λ (of : Asked). Answered beside (effect_asked setting call.site of types call.args w) a after) is h)

-- an external that can be answered is no thread call
pub alone : (of : Asked) (beside : Beside) (e : External) → of ≡ asked.External e → CanAnswer of beside → (e ≡ external.Printf → ⊥) → IsExternal of
alone of beside e is can other = subst IsExternal (sym is) (by_case e (subst (λ (x : Asked). CanAnswer x beside) is can) other)
  where
    by_case : (e : External) → is_thread_call e ≡ false → (e ≡ external.Printf → ⊥) → IsExternal (asked.External e)
    by_case external.Printf none other = other refl
    by_case external.PthreadCreate none other = true≢false none
    by_case external.PthreadJoin none other = true≢false none
    by_case external.SchedYield none other = true≢false none
    by_case e none other = tt
