-- Calls that are recorded until there are so many.
use Rattle.std.proofs.Common.{◌≡◌, ◌<◌, ◌≤◌, ◌+◌, ◌-◌, ◌++◌, ℕ, List, [], ◌∷◌, length, replicate, refl, sym, ap, ◌∙◌, arith, append_assoc, append-nil, length-append}
use Rattle.std.proofs.lemmas.List.{replicate_more}
use Rattle.ms_ir.specs.declared.syntax.Module.{Module}
use Rattle.ms_runs.specs.declared.runs.Calls.{Calls}
use Rattle.ms_runs.specs.declared.runs.Setup.{Setup}
use Rattle.ms_runs.specs.Plain.{PlainState}
use Rattle.ms_runs.specs.Calls.{call_sites}
use Rattle.ms_host.specs.State.{WorldState, Beside}
use Rattle.ms_machine_frames.specs.declared.fibers.Fiber.{Fiber}
use Rattle.ms_machine.specs.Running.{IsRunning}
use Rattle.ms_runtime.specs.Recorded.{calls_from, Noted}

-- so many more were recorded, and not too many
pub record Noting (m : Module) (fiber : Fiber) (started count : ℕ) (old new : List Calls) : Type 0 where
  pub more : ℕ
  pub few : more ≤ count - length old
  pub counted : length new ≡ length old + more
  pub is : (u : Setup) (beside : Beside) (w : WorldState) (state : PlainState) → IsRunning m u beside fiber w state → new ≡ old ++ replicate more (calls_from m started state.frames)

pub noting_none : (m : Module) (fiber : Fiber) (started count : ℕ) (old : List Calls) → Noting m fiber started count old old
noting_none m fiber started count old = record { more = 0; few = omega arith; counted = omega arith; is = λ u beside w state running. sym (append-nil old) }

pub noting_more : (m : Module) (fiber : Fiber) (started count : ℕ) (old new : List Calls) → Noting m fiber started count old new → length new < count → (sites : List ℕ)
    → ((u : Setup) (beside : Beside) (w : WorldState) (state : PlainState) → IsRunning m u beside fiber w state → sites ≡ call_sites m state.frames) → (after : List Calls)
    → after ≡ new ++ (let c : Calls = record { sites = sites; started = started } in c) ∷ [] → Noting m fiber started count old after
noting_more m fiber started count old new n lt sites are after is =
    let k = n.more in
    let e = n.counted in
    let len : length after ≡ length new + 1 = ap length is ∙ length-append new ((let c : Calls = record { sites = sites; started = started } in c) ∷ []) in
    record {
      more = n.more + 1;
      few = omega (arith, e, lt, n.few);
      counted = omega (arith, e, len);
      is = λ u beside w state running.
          is
          ∙ ap (λ (l : List ℕ). new ++ (let c : Calls = record { sites = l; started = started } in c) ∷ []) (are u beside w state running)
          ∙ ap (λ (l : List Calls). l ++ calls_from m started state.frames ∷ []) (n.is u beside w state running)
          ∙ append_assoc old (replicate n.more (calls_from m started state.frames)) (calls_from m started state.frames ∷ [])
          ∙ ap (λ (l : List Calls). old ++ l) (replicate_more n.more (calls_from m started state.frames));
    }

pub noting_all : (m : Module) (fiber : Fiber) (started count : ℕ) (old new : List Calls) → Noting m fiber started count old new → count ≤ length new → Noted m fiber started count old new
noting_all m fiber started count old new n le u beside w state running =
    let e = n.counted in
    let all : n.more ≡ count - length old = omega (arith, e, le, n.few) in
    n.is u beside w state running ∙ ap (λ (k : ℕ). old ++ replicate k (calls_from m started state.frames)) all
