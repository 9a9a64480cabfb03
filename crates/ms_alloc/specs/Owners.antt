-- Which allocation of a row takes an address: for each 16 bytes that a row takes, a list says whose they are.
use Rattle.std.specs.Prelude.{◌≡◌, ◌≤◌, ◌<◌, ℕ, ◌+◌, ◌/◌, ◌^◌, List, [], ◌∷◌, ◌++◌, length, get_or, replicate, ◌⊎◌}
use Rattle.ms_alloc.specs.declared.kinds.AllocKind.{AllocKind}
use Rattle.ms_alloc.specs.declared.allocations.Allocation.{Allocation}
use Rattle.ms_alloc.specs.Layout.{area_base, room}
use Rattle.ms_alloc.specs.Allocations.{used}

-- for each 16 bytes of a row the number of the allocation that takes them, where the first one has number i
abbrev pub owners_of : ℕ → List Allocation → List ℕ
owners_of i [] = []
owners_of i (a ∷ as') = replicate (room a.size / 16) i ++ owners_of (i + 1) as'

-- what every area keeps beside its allocations
pub record IsOwned (made : List Allocation) (owners : List ℕ) : Type 0 where
  pub same : owners ≡ owners_of 0 made
  pub small : used made ≤ 2 ^ 26

-- the allocation at a place takes the byte at an address
pub record Has (xs : List Allocation) (addr i : ℕ) : Type 0 where
  pub within : i < length xs
  pub above : (d : Allocation) → (get_or xs i d).base ≤ addr
  pub below : (d : Allocation) → addr < (get_or xs i d).base + room (get_or xs i d).size

-- no allocation of an area takes the byte at an address
abbrev pub IsOutside : AllocKind → List Allocation → ℕ → Type 0
IsOutside kind xs addr = (addr < area_base kind) ⊎ (area_base kind + used xs ≤ addr)
