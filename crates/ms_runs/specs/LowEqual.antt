-- Two shadow states that show the same, whatever stands in their poisoned bits.
use Rattle.std.specs.Prelude.{◌≡◌, ℕ, List, [], ◌∷◌}
use Rattle.std.specs.Int.{bit_at}
use Rattle.ms_ir.specs.declared.syntax.Name.{Name}
use Rattle.ms_runs.specs.World.{World}
use Rattle.ms_runs.specs.Control.{Frame}
use Rattle.ms_runs.specs.Poisoned.{Poisoned}
use Rattle.ms_bits.specs.Completion.{Agrees}
use Rattle.ms_runs.specs.Shadow.{ShadowState}

-- two numbers have the same bits wherever a mask is 0
abbrev pub SameBits : (mask a b : ℕ) → Type 0
SameBits mask a b = (i : ℕ) → bit_at mask i ≡ 0 → bit_at a i ≡ bit_at b i

pub record LowWord (p q : Poisoned) : Type 0 where
  pub mask : p.mask ≡ q.mask
  pub origin : p.origin ≡ q.origin
  pub value : SameBits p.mask p.value q.value

pub record LowFrame (f g : Frame Poisoned) : Type 0 where
  pub func : f.func ≡ g.func
  pub block : f.block ≡ g.block
  pub place : f.place ≡ g.place
  pub mark : f.mark ≡ g.mark
  pub heap : f.heap ≡ g.heap
  pub values : (x : Name) → LowWord (f.values x) (g.values x)

abbrev pub LowFrames : List (Frame Poisoned) → List (Frame Poisoned) → Type 0
LowFrames [] [] = Unit {0}
LowFrames (f ∷ fs) (g ∷ gs) = LowFrame f g × LowFrames fs gs
LowFrames _ _ = ⊥

pub record LowWorld (w v : World) : Type 0 where
  pub allocs : w.allocs ≡ v.allocs
  pub shadow : w.shadow ≡ v.shadow
  pub origins : w.origins ≡ v.origins
  pub pairs : w.pairs ≡ v.pairs
  pub made : w.made ≡ v.made
  pub input : w.input ≡ v.input
  pub output : w.output ≡ v.output
  pub reports : w.reports ≡ v.reports
  pub blind : w.blind ≡ v.blind
  pub turn : w.turn ≡ v.turn
  pub threads : w.threads ≡ v.threads
  pub answer_masks : w.answer_masks ≡ v.answer_masks
  pub answer_origins : w.answer_origins ≡ v.answer_origins
  pub bytes : (a : ℕ) → Agrees 8 (w.shadow a) (w.bytes a) (v.bytes a)
  pub answers : (k : ℕ) → SameBits (w.answer_masks k) (w.answers k) (v.answers k)

pub record LowEqual (c d : ShadowState) : Type 0 where
  pub frames : LowFrames c.frames d.frames
  pub world : LowWorld c.world d.world
