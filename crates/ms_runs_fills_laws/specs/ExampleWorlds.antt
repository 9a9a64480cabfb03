-- Worlds that no run reaches, in which a step under two fills would not lead to low equal states (own).
use Rattle.std.specs.Prelude.{ℕ, true, List, [], ◌∷◌, None, false}
use Rattle.ms_ir.specs.declared.calls.External.TheVariants.{Realloc}
use Rattle.ms_ir.specs.Areas.{Heap}
use Rattle.ms_runs.specs.World.{World, Setting, Effect, Gives, Does, Goes, Enters, Leaves, Ends, first_world}
use Rattle.ms_runs.specs.Externals.{external}
use Rattle.ms_runs.specs.Poisoned.{clean}
use Rattle.ms_runs.specs.Shadow.{external_planes}

-- a live block of 8 bytes at 0
abbrev pub block_at_zero : World
block_at_zero = record (first_world []) { allocs = record { base = 0; size = 8; area = Heap; live = true } ∷ [] }

-- a setting without a module
abbrev pub bare_setting : List ℕ → Setting
bare_setting fill = record { types = []; address = λ x. 0; func = λ x. None; fill = fill; limit = 1; once = false; roots = 1 }

-- the world after an instruction with its shadow
abbrev pub with_planes : (ℕ → World → World) → Effect → World
with_planes after (Gives v w) = after v w
with_planes after (Does w) = after 0 w
with_planes after (Goes to w) = w
with_planes after (Enters f w) = w
with_planes after (Leaves w) = w
with_planes after (Ends e w) = w

-- `realloc` of null to 8 bytes
abbrev pub grown_from_null : List ℕ → World
grown_from_null fill =
    with_planes (external_planes (bare_setting fill) 1 1 Realloc (clean ∷ record clean { value = 8 } ∷ []) block_at_zero)
    (external (bare_setting fill) 1 Realloc [] (0 ∷ 8 ∷ []) block_at_zero)
