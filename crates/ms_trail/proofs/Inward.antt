-- Code that calls no external asks for nothing.
use Rattle.std.proofs.Common.{◌≡◌, ℕ, Bool, false, List, [], ◌∷◌, Option, Some, refl, sym, ap, ◌∙◌, subst, true≢false}
use Rattle.std.proofs.lemmas.Option.{same_Some, none-some}
use Rattle.ms_ir.specs.declared.syntax.Name.{Name}
use Rattle.ms_ir.specs.declared.syntax.Ty.{Ty}
use Rattle.ms_ir.specs.declared.syntax.Operand.{Operand}
use Rattle.ms_ir.specs.declared.syntax.Op.{Op}
use Rattle.ms_ir.specs.declared.syntax.Op.TheVariants as op
use Rattle.ms_ir.specs.declared.syntax.Inst.{Inst}
use Rattle.ms_ir.specs.declared.syntax.Module.{Module}
use Rattle.ms_ir.specs.Instructions.{func_index}
use Rattle.ms_runs.specs.declared.runs.Setup.{Setup}
use Rattle.ms_runs.specs.Control.{Frame}
use Rattle.ms_runs.specs.Plain.{PlainState}
use Rattle.ms_machine_code.specs.declared.code.Code.{Code}
use Rattle.ms_machine_code.specs.declared.code.Code.TheVariants as code
use Rattle.ms_machine_code.specs.Encodes.{Where, Encodes}
use Rattle.ms_machine_code.specs.Compiled.{where_is}
use Rattle.ms_host.specs.declared.calls.Asked.{Asked}
use Rattle.ms_host.specs.declared.calls.Asked.TheVariants as asked
use Rattle.ms_host.specs.declared.calls.HostCall.{HostCall}
use Rattle.ms_host.specs.State.{WorldState, Beside}
use Rattle.ms_machine_frames.specs.declared.fibers.Fiber.{Fiber}
use Rattle.ms_machine_steps.specs.Waiting.{IsAsked, Waits, FirstWaits}
use Rattle.ms_machine.specs.Running.{IsRunning}
use Rattle.ms_trail_uses.specs.Due.{HasCode, IsDue}
use Rattle.ms_trail_uses.specs.Stepping.{AsksNothing}

-- code that calls nothing outside the module
abbrev pub IsInward : Code → Type 0
IsInward (code.External e args types to) = ⊥
IsInward (code.Runtime f args to) = ⊥
IsInward k = Unit {0}

-- a function of the module is no external, and what asks for a runtime function is marked
calls_none : (m : Module) (marked : Bool) (callee other : Name) (f : ℕ) (a : Asked) → marked ≡ false → func_index m.funcs callee ≡ Some f → other ≡ callee → IsAsked m marked other a → ⊥
calls_none m marked callee other f (asked.External e) plain found same (mark, none, named) = none-some f (sym none ∙ ap (func_index m.funcs) same ∙ found)
calls_none m marked callee other f (asked.Runtime g) plain found same (mark, known) = true≢false (sym mark ∙ plain)

same_callee : (o : Op) (r s : Option Ty) (x y : Name) (as' bs : List (Ty × Operand)) → o ≡ op.Call r x as' → o ≡ op.Call s y bs → y ≡ x
same_callee o r s x y as' bs e f = cc

inward_asks : (at : Where) (k : Code) (inst : Inst) → IsInward k → Encodes at k inst → (ret : Option Ty) (callee : Name) (args : List (Ty × Operand)) → inst.op ≡ op.Call ret callee args → (a : Asked) → IsAsked at.whole inst.marked callee a → ⊥
inward_asks at (code.Binary o f w a b to) inst inward (t, p, q, (is, wide, ra, rb, res)) ret callee args e x h = absurd (cc)
inward_asks at (code.Icmp o f w a b to) inst inward (t, p, q, (is, wide, ra, rb, res)) ret callee args e x h = absurd (cc)
inward_asks at (code.Cast o f w a into to) inst inward (t, p, v, (is, wide, far, ra, res)) ret callee args e x h = absurd (cc)
inward_asks at (code.Select c a b to) inst inward (t, k, p, q, (is, rc, ra, rb, res)) ret callee args e x h = absurd (cc)
inward_asks at (code.Freeze a to) inst inward (t, p, (is, ra, res)) ret callee args e x h = absurd (cc)
inward_asks at (code.Alloca size count to) inst inward (t, v, p, (is, sized, rp, res, plain)) ret callee args e x h = absurd (cc)
inward_asks at (code.Load size cut addr to) inst inward (t, p, (is, stored, cuts, ra, res, plain)) ret callee args e x h = absurd (cc)
inward_asks at (code.LoadMarked size cut addr to) inst inward (t, p, (is, stored, cuts, ra, res, plain)) ret callee args e x h = absurd (cc)
inward_asks at (code.Store size value addr) inst inward (t, p, q, (is, stored, rv, ra, res, plain)) ret callee args e x h = absurd (cc)
inward_asks at (code.StoreMarked size value addr) inst inward (t, p, q, (is, stored, rv, ra, res, plain)) ret callee args e x h = absurd (cc)
inward_asks at (code.Gep base offset strides to) inst inward (t, p, indices, (is, based, reads, sums, res)) ret callee args e x h = absurd (cc)
inward_asks at (code.Jump edge) inst inward (to, (is, leads, plain)) ret callee args e x h = absurd (cc)
inward_asks at (code.Branch c taken other) inst inward (k, to, to', (is, rc, leads, leads', plain)) ret callee args e x h = absurd (cc)
inward_asks at (code.Switch v cases other) inst inward (t, k, to, named, (is, rv, leads, all, plain)) ret callee args e x h = absurd (cc)
inward_asks at (code.Call f as' to) inst inward (r, name, written, (is, found, reads, puts, plain)) ret callee args e x h =
    calls_none at.whole inst.marked name callee f x plain found (same_callee inst.op r ret name callee written args is e) h
inward_asks at (code.External f as' types to) inst inward e ret callee args is x h = inward
inward_asks at (code.Runtime f as' to) inst inward e ret callee args is x h = inward
inward_asks at (code.Return v) inst inward (value, (is, returns, main, plain)) ret callee args e x h = absurd (cc)
inward_asks at (code.Exit v) inst inward (value, (is, returns, main, plain)) ret callee args e x h = absurd (cc)
inward_asks at code.Unreachable inst inward (is, plain) ret callee args e x h = absurd (cc)
inward_asks at code.Phi inst inward e ret callee args is x h = e

waits_not : (m : Module) (u : Setup) (frame : Frame ℕ) (k : Code) → IsInward k → HasCode m frame k → (call : HostCall) → Waits m u frame call → ⊥
waits_not m u frame k inward d call w =
    let same : w.inst ≡ d.inst = same_Some w.inst d.inst (sym w.due ∙ d.item) in
    inward_asks (where_is m frame.func d.func frame.block) k d.inst inward d.encodes w.ret w.callee w.args (ap (λ (i : Inst). i.op) (sym same) ∙ w.calls) call.asked
    (subst (λ (b : Bool). IsAsked m b w.callee call.asked) (ap (λ (i : Inst). i.marked) same) w.asked)

-- so it takes its step without a call
pub asks_nothing : (m : Module) (fiber : Fiber) (w : WorldState) (k : Code) → IsDue m fiber w k → IsInward k → (u : Setup) (beside : Beside) (state : PlainState) → IsRunning m u beside fiber w state → AsksNothing m u state
asks_nothing m fiber w k due inward u beside state running call = by_frames state.frames refl
  where
    by_frames : (fs : List (Frame ℕ)) → state.frames ≡ fs → FirstWaits m u fs call → ⊥
    by_frames [] e h = h
    by_frames (frame ∷ below) e h = waits_not m u frame k inward (due u beside state frame below running e) call h
