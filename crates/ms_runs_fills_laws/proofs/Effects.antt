-- Two instructions that come to the same, whatever stands in poisoned bits.
use Rattle.std.specs.Prelude.{◌≡◌, ℕ, List, [], ◌∷◌}
use Rattle.ms_runs.specs.World.{World, Effect, Gives, Does, Goes, Enters, Leaves, Ends}
use Rattle.ms_runs.specs.Control.{Outcome, On, Over}
use Rattle.ms_runs.specs.Poisoned.{Poisoned}
use Rattle.ms_runs.specs.Masks.{word_at}
use Rattle.ms_runs.specs.Uses.{CheckedUse, Word, Bytes, Line, Asked}
use Rattle.ms_runs_fills_laws.proofs.Passed.{Passed}
use Rattle.ms_runs.specs.LowEqual.{LowFrames, LowWord, LowWorld}

-- checks that find nothing in both worlds, which they leave, or that end both runs alike
abbrev pub CheckedAlike : Type 0 → World → World → Effect → Effect → Type 0
CheckedAlike passed w v (Does u) (Does z) = passed × (u ≡ w) × (z ≡ v)
CheckedAlike passed w v (Ends e u) (Ends x z) = (e ≡ x) × LowWorld u z
CheckedAlike passed w v _ _ = ⊥

-- a check of memory comes after checks of the words that say where it is, and one that a format asks for after the check
-- of the format too
abbrev pub Ready : World → List Poisoned → List CheckedUse → Type 0
Ready w ps [] = Unit {0}
Ready w ps (Word kind k ∷ us) = (word_at k ps).mask ≡ 0 → Ready w ps us
Ready w ps (Bytes kind a n ∷ us) = ((word_at a ps).mask ≡ 0) × ((word_at n ps).mask ≡ 0) × Ready w ps us
Ready w ps (Line a ∷ us) = ((word_at a ps).mask ≡ 0) × (Passed w ps (Line a) → Ready w ps us)
Ready w ps (Asked a ∷ us) = ((word_at 0 ps).mask ≡ 0) × ((word_at a ps).mask ≡ 0) × Passed w ps (Line 0) × Ready w ps us

-- effects that give words alike, and leave worlds alike
abbrev pub EffectsAlike : (ℕ → World → Poisoned) → (ℕ → World → Poisoned) → (ℕ → World → World) → (ℕ → World → World) → Effect → Effect → Type 0
EffectsAlike lift lift' after after' (Gives x w) (Gives y v) = LowWord (lift x w) (lift' y v) × LowWorld (after x w) (after' y v)
EffectsAlike lift lift' after after' (Does w) (Does v) = LowWorld (after 0 w) (after' 0 v)
EffectsAlike lift lift' after after' (Goes x w) (Goes y v) = (x ≡ y) × LowWorld w v
EffectsAlike lift lift' after after' (Enters f w) (Enters g v) = (f ≡ g) × LowWorld w v
EffectsAlike lift lift' after after' (Leaves w) (Leaves v) = LowWorld w v
EffectsAlike lift lift' after after' (Ends e w) (Ends x v) = (e ≡ x) × LowWorld w v
EffectsAlike lift lift' after after' _ _ = ⊥

-- after_effect to frames and worlds alike, or ends alike
abbrev pub MovesAlike : Outcome Poisoned → Outcome Poisoned → Type 0
MovesAlike (On fs w) (On gs v) = LowFrames fs gs × LowWorld w v
MovesAlike (Over e w) (Over x v) = (e ≡ x) × LowWorld w v
MovesAlike _ _ = ⊥
