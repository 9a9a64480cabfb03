-- What a shadow run of fibers says of the program itself: bits outside masks are certain in every fiber (own).
use Rattle.std.specs.Prelude.{◌≡◌, ℕ, List, Option, Some, None}
use Rattle.ms_ir.specs.declared.syntax.Module.{Module}
use Rattle.ms_runs.specs.declared.runs.Setup.{Setup}
use Rattle.ms_runs.specs.World.{World}
use Rattle.ms_runs.specs.Control.{Frame}
use Rattle.ms_runs.specs.LowEqual.{SameBits}
use Rattle.ms_runs.specs.Plain.{Stepped, More, Stop, setting_of}
use Rattle.ms_runs.specs.Poisoned.{Poisoned}
use Rattle.ms_runs_good_laws.specs.Fills.{refilled}
use Rattle.ms_runs_fills_laws.specs.Certain.{CertainFrames, CertainWorld, Untold}
use Rattle.ms_runs_threads.specs.Fibers.{Others, Fibers, Goes, Waits, fibers_step}
use Rattle.ms_runs_threads.specs.PlainFibers.{Shared, plain_fiber}

-- the program's memory and what it has of fibers are the same outside the shadow: whose turn it is, which fibers were made, and
-- what they answered
pub record CertainBeside (w v : World) : Type 0 where
  pub world : CertainWorld w v
  pub turn : w.turn ≡ v.turn
  pub threads : w.threads ≡ v.threads
  pub answers : (k : ℕ) → SameBits (w.answer_masks k) (w.answers k) (v.answers k)

-- fibers that stand do so at the same place, with words that are the same outside their masks
abbrev pub CertainStands : Option (List (Frame Poisoned)) → Option (List (Frame ℕ)) → Type 0
CertainStands None None = Unit {0}
CertainStands (Some f) (Some g) = CertainFrames f g
CertainStands None (Some g) = ⊥
CertainStands (Some f) None = ⊥

pub record CertainOthers (a : Others (List (Frame Poisoned))) (b : Others (List (Frame ℕ))) : Type 0 where
  pub stands : (k : ℕ) → CertainStands (a.stands k) (b.stands k)
  pub picks : a.picks ≡ b.picks

-- the same fiber goes on in both, or a pick is due in both
abbrev pub CertainFibers : Fibers (List (Frame Poisoned)) World → Fibers (List (Frame ℕ)) Shared → Type 0
CertainFibers (Goes f w a) (Goes g t b) = CertainFrames f g × CertainBeside w t.world × CertainOthers a b
CertainFibers (Waits w a) (Waits t b) = CertainBeside w t.world × CertainOthers a b
CertainFibers (Goes f w a) (Waits t b) = ⊥
CertainFibers (Waits w a) (Goes g t b) = ⊥

-- both go on, in states that are the same outside masks and shadow, or both ended alike
abbrev pub CertainFiberSteps : Stepped (Fibers (List (Frame Poisoned)) World) → Stepped (Fibers (List (Frame ℕ)) Shared) → Type 0
CertainFiberSteps (More c) (More p) = CertainFibers c p
CertainFiberSteps (Stop e w) (Stop x v) = (e ≡ x) × CertainBeside w v
CertainFiberSteps (More c) (Stop x v) = ⊥
CertainFiberSteps (Stop e w) (More p) = ⊥

-- neither a report nor a blind use so far
abbrev pub UntoldFibers : Stepped (Fibers (List (Frame Poisoned)) World) → Type 0
UntoldFibers (More (Goes f w rest)) = Untold w
UntoldFibers (More (Waits w rest)) = Untold w
UntoldFibers (Stop e w) = Untold w

-- step k of a plain run of fibers, with the fill that is chosen for it
abbrev pub chosen_fibers_step : Module → Setup → (ℕ → List ℕ) → (schedule : List ℕ) → ℕ → Fibers (List (Frame ℕ)) Shared → Stepped (Fibers (List (Frame ℕ)) Shared)
chosen_fibers_step m setup fills schedule k = fibers_step (plain_fiber (setting_of m (refilled setup (fills k))) m) schedule
