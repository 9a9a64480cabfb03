-- A follower at the start of a run.
use Rattle.std.proofs.Common.{◌≡◌, ℕ, List, [], ◌∷◌, length, reverse, get_or, replicate, sym, ap, ◌∙◌, subst, arith}
use Rattle.std.proofs.lemmas.List.{get_or-replicate, length-replicate}
use Rattle.ms_ir.specs.declared.syntax.Name.{Name}
use Rattle.ms_ir.specs.declared.syntax.Module.{Module}
use Rattle.ms_ir.specs.Locals.{locals}
use Rattle.ms_runs.specs.declared.runs.Setup.{Setup}
use Rattle.ms_runs.specs.Plain.{start_frame, plain_start}
use Rattle.ms_runs.specs.Act.{plain_reading}
use Rattle.ms_runs.specs.Shadow.{shadow_reading}
use Rattle.ms_check_valid.specs.FlowGraph.{name_place}
use Rattle.ms_machine_code.specs.Reads.{Holds}
use Rattle.ms_host.specs.State.{WorldState, nothing_beside}
use Rattle.ms_machine_frames.specs.declared.fibers.Fiber.{Fiber}
use Rattle.ms_machine.specs.Running.{StandsFor, IsRunning}
use Rattle.ms_trail_moves.specs.Traces.{one_report}
use Rattle.ms_trail_uses.specs.declared.frame_masks.FrameMasks.{FrameMasks}
use Rattle.ms_trail.specs.Following.{HasShade, HaveShades}

-- whatever limit of reports a setup has
pub one_running : (m : Module) (u : Setup) (fiber : Fiber) (w : WorldState) → IsRunning m u nothing_beside fiber w (plain_start m u) → IsRunning m (one_report u) nothing_beside fiber w (plain_start m u)
one_running m u fiber w r = record {
  bytes = record { input = r.bytes.input; fill = r.bytes.fill };
  frames = r.frames;
  shows = r.shows;
  slots = r.slots;
  fill = r.fill;
  sound = r.sound;
  owns = r.owns;
}

no_masks : (names : List Name) (xs ms : List ℕ) (values : Name → ℕ) → Holds names xs values → ms ≡ replicate (length xs) 0 → Holds names ms (λ x. 0)
no_masks names xs ms values h e = record {
  count = ap length e ∙ length-replicate (length xs) 0 ∙ h.count;
  same = λ x known. ap (λ l. get_or l (name_place names x) 0) e ∙ get_or-replicate (length xs) (name_place names x) 0 0 (omega (arith, known, h.count));
}

pub start_shades : (m : Module) (u : Setup) (fiber : Fiber) (w : WorldState) (shade : FrameMasks) (below : List FrameMasks) → IsRunning m u nothing_beside fiber w (plain_start m u) → shade.number ≡ 0 → shade.masks.items ≡ replicate (length fiber.frame.values.items) 0 → below ≡ []
    → HaveShades m (0 ∷ []) (start_frame shadow_reading m ∷ []) (shade ∷ reverse below)
start_shades m u fiber w shade below r number masks none =
    let stands : StandsFor m fiber.frame (start_frame plain_reading m) = r.frames.0 in
    let its : HasShade m 0 (start_frame shadow_reading m) shade = record {
      func = stands.func;
      is = stands.is;
      numbered = number;
      masks = no_masks (locals stands.func) fiber.frame.values.items shade.masks.items (start_frame plain_reading m).values stands.holds masks;
    } in
    subst (λ (bs : List FrameMasks). HaveShades m (0 ∷ []) (start_frame shadow_reading m ∷ []) (shade ∷ reverse bs)) (sym none) (its, tt)
