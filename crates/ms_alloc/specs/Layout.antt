-- Where the areas of memory begin, how much they hold, and what an allocation takes of them.
use Rattle.std.specs.Prelude.{ℕ, ◌≤◌, ◌<◌, ◌+◌, ◌*◌, ◌/◌, ◌^◌, max}
use Rattle.ms_alloc.specs.declared.kinds.AllocKind.{AllocKind}
use Rattle.ms_alloc.specs.declared.kinds.AllocKind.TheVariants.{Fixed, Heap, Stack}

-- the first address of an area
abbrev pub area_base : AllocKind → ℕ
area_base Fixed = 0x700000000000
area_base Heap = 0x710000000000
area_base Stack = 0x720000000000

-- what the allocations of an area may take together
abbrev pub area_limit : AllocKind → ℕ
area_limit Fixed = 2 ^ 24
area_limit Heap = 2 ^ 26
area_limit Stack = 2 ^ 20

-- what an allocation of n bytes takes: at least one byte, and a multiple of 16
abbrev pub room : ℕ → ℕ
room n = (max n 1 + 15) / 16 * 16

-- an address is at or past the first of an area, and before the next area
abbrev pub IsReached : ℕ → AllocKind → Type 0
IsReached addr Fixed = (area_base Fixed ≤ addr) × (addr < area_base Heap)
IsReached addr Heap = (area_base Heap ≤ addr) × (addr < area_base Stack)
IsReached addr Stack = area_base Stack ≤ addr
