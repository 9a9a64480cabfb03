-- What a shadow state says of the program itself: bits outside masks are certain (own).
use Rattle.std.specs.Prelude.{◌≡◌, ℕ, List, [], ◌∷◌}
use Rattle.ms_ir.specs.declared.syntax.Name.{Name}
use Rattle.ms_bits.specs.Completion.{Agrees}
use Rattle.ms_runs.specs.World.{World}
use Rattle.ms_runs.specs.Control.{Frame}
use Rattle.ms_runs.specs.Poisoned.{Poisoned}
use Rattle.ms_runs.specs.Plain.{PlainState, Stepped, More, Stop}
use Rattle.ms_runs.specs.Shadow.{ShadowState}
use Rattle.ms_runs.specs.LowEqual.{SameBits}

-- a frame of the program stands where the shadow frame stands, and its words are the same outside their masks
pub record CertainFrame (f : Frame Poisoned) (g : Frame ℕ) : Type 0 where
  pub func : f.func ≡ g.func
  pub block : f.block ≡ g.block
  pub place : f.place ≡ g.place
  pub mark : f.mark ≡ g.mark
  pub values : (x : Name) → SameBits (f.values x).mask (f.values x).value (g.values x)

abbrev pub CertainFrames : List (Frame Poisoned) → List (Frame ℕ) → Type 0
CertainFrames [] [] = Unit {0}
CertainFrames (f ∷ fs) (g ∷ gs) = CertainFrame f g × CertainFrames fs gs
CertainFrames _ _ = ⊥

-- the program's memory is the same outside the shadow, with the same allocations, input and output
pub record CertainWorld (w v : World) : Type 0 where
  pub allocs : w.allocs ≡ v.allocs
  pub made : w.made ≡ v.made
  pub input : w.input ≡ v.input
  pub output : w.output ≡ v.output
  pub bytes : (a : ℕ) → Agrees 8 (w.shadow a) (w.bytes a) (v.bytes a)

-- both go on, in states that are the same outside masks and shadow, or both ended alike
abbrev pub CertainSteps : Stepped ShadowState → Stepped PlainState → Type 0
CertainSteps (More c) (More p) = CertainFrames c.frames p.frames × CertainWorld c.world p.world
CertainSteps (Stop e w) (Stop x v) = (e ≡ x) × CertainWorld w v
CertainSteps _ _ = ⊥

-- neither a report nor a blind use so far
pub record Untold (w : World) : Type 0 where
  pub reports : w.reports ≡ []
  pub blind : w.blind ≡ 0

abbrev pub UntoldSteps : Stepped ShadowState → Type 0
UntoldSteps (More c) = Untold c.world
UntoldSteps (Stop e w) = Untold w
