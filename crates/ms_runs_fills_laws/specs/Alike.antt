-- Steps that come to the same, whatever stands in poisoned bits (own).
use Rattle.std.specs.Prelude.{◌≡◌}
use Rattle.ms_runs.specs.Plain.{Stepped, More, Stop}
use Rattle.ms_runs.specs.Shadow.{ShadowState}
use Rattle.ms_runs.specs.LowEqual.{LowWorld, LowEqual}

-- steps that lead to low equal states, or end both runs alike
abbrev pub StepsAlike : Stepped ShadowState → Stepped ShadowState → Type 0
StepsAlike (More c) (More d) = LowEqual c d
StepsAlike (Stop e w) (Stop x v) = (e ≡ x) × LowWorld w v
StepsAlike _ _ = ⊥

-- a step counts no blind use
abbrev pub CountsNone : ShadowState → Stepped ShadowState → Type 0
CountsNone c (More d) = d.world.blind ≡ c.world.blind
CountsNone c (Stop e w) = w.blind ≡ c.world.blind
