-- Poisoned bytes that are found, and cells that are marked.
use Rattle.std.specs.Prelude.{◌≡◌, ◌-◌, ◌/◌, ℕ, Option, Some, None, if◌then◌else◌}
use Rattle.ms_bits.specs.Maps.{with_cell}
use Rattle.ms_runs.specs.World.{World}
use Rattle.ms_runs.specs.Memory.{is_good}
use Rattle.ms_host.specs.declared.shadows.PoisonedByte.{PoisonedByte}

-- what a search from an address on found: nothing, or the byte at an address with what a report says of it
abbrev pub IsFound : World → (start : ℕ) → Option ℕ → Option PoisonedByte → Type 0
IsFound world start None None = Unit {0}
IsFound world start (Some x) (Some found) = (found.part ≡ x - start) × (found.mask ≡ world.shadow x) × (found.origin ≡ world.origins (x / 4))
IsFound world start _ _ = ⊥

-- the cell of a byte holds an origin, where the byte is live
abbrev pub with_mark : ℕ → ℕ → World → World
with_mark a origin world = if is_good world a 1 then record world { origins = with_cell world.origins a origin } else world
