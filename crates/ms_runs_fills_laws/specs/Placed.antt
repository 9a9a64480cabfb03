-- Heap blocks stand one after the other, none at 0 (own).
use Rattle.std.specs.Prelude.{◌≡◌, ◌≤◌, ◌+◌, ℕ, true, All}
use Rattle.ms_ir.specs.declared.syntax.Module.{Module}
use Rattle.ms_ir.specs.Areas.{Heap}
use Rattle.ms_runs.specs.World.{Allocation, World}
use Rattle.ms_ir.specs.Areas.{area_eq, room}
use Rattle.ms_runs.specs.Memory.{next_base}
use Rattle.ms_runs.specs.Shadow.{ShadowState}
use Rattle.ms_runs_good_laws.specs.GoodRuns.{SoundShadow}

-- a heap block ends below a number
abbrev pub IsPlaced : ℕ → Allocation → Type 0
IsPlaced top a = area_eq Heap a.area ≡ true → (1 ≤ a.base) × (a.base + room a.size ≤ top)

-- every heap block, also one that was ended, ends where the next one would begin or before
abbrev pub HeapPlaced : World → Type 0
HeapPlaced w = All (IsPlaced (next_base Heap w)) w.allocs

-- a good state of a shadow run, in a good world whose heap blocks are in their places
pub record SoundPlaced (m : Module) (c : ShadowState) : Type 0 where
  pub sound : SoundShadow m c
  pub placed : HeapPlaced c.world
