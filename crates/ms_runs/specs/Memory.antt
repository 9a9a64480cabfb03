-- Allocations, the bytes of memory, and its shadow and origins (own: the areas, their limits, and which
-- accesses are good; LLVM Language Reference, "Pointer Aliasing Rules", leaves other accesses undefined).
use Rattle.std.specs.Prelude.{ℕ, ◌+◌, ◌-◌, Bool, true, false, ◌&&◌, not, List, [], ◌∷◌, ◌++◌, map, eqb, leb, if◌then◌else◌, Option, Some, None, option_map, unwrap_or, is_some}
use Rattle.ms_bits.specs.Fill.{made_byte}
use Rattle.ms_ir.specs.Areas.{Area, Heap, Stack}
use Rattle.ms_runs.specs.World.{Allocation, World}
use Rattle.ms_bits.specs.Maps.{with_range, byte_of, copied, with_cells, copied_cells}
use Rattle.ms_ir.specs.Areas.{Area, Heap, Stack, area_eq, area_base, area_limit, room}

-- the bytes that the allocations of an area take, ended ones too
abbrev pub used : Area → List Allocation → ℕ
used area [] = 0
used area (a ∷ rest) = (if area_eq area a.area then room a.size else 0) + used area rest

-- an allocation of n bytes doesn't pass its area's limit
abbrev pub fits : Area → ℕ → World → Bool
fits area n world = leb (used area world.allocs + room n) (area_limit area)

-- where the next allocation of an area begins: at the end of the one before
abbrev pub next_base : Area → World → ℕ
next_base area world = area_base area + used area world.allocs

-- the first allocation that passes a test
abbrev pub first_that : (Allocation → Bool) → List Allocation → Option Allocation
first_that passes [] = None
first_that passes (a ∷ rest) = if passes a then Some a else first_that passes rest

-- an allocation is live and has all n bytes from an address on
abbrev pub covers : ℕ → ℕ → Allocation → Bool
covers addr n a = a.live && leb a.base addr && leb (addr + n) (a.base + a.size)

-- an access is good where it has no bytes, or all its bytes lie in one live allocation
abbrev pub is_good : World → ℕ → ℕ → Bool
is_good world addr n = if eqb n 0 then true else is_some (first_that (covers addr n) world.allocs)

-- the live allocation that has the byte at an address
abbrev pub block_of : World → ℕ → Option Allocation
block_of world addr = first_that (covers addr 1) world.allocs

-- the number of bytes from an address to the end of its live allocation, 0 where none has it
abbrev pub bytes_left : World → ℕ → ℕ
bytes_left world a = unwrap_or (option_map (λ b. b.base + b.size - a) (block_of world a)) 0

-- an allocation is the live heap block with this base
abbrev pub is_heap_block : ℕ → Allocation → Bool
is_heap_block addr a = a.live && area_eq Heap a.area && eqb a.base addr

-- the size of the live heap block with this base
abbrev pub heap_size : World → ℕ → Option ℕ
heap_size world addr = option_map (λ a. a.size) (first_that (is_heap_block addr) world.allocs)

-- the heap block with this base isn't live any more
abbrev pub end_block : ℕ → World → World
end_block addr world = record world { allocs = map (λ a. if is_heap_block addr a then record a { live = false } else a) world.allocs }

-- the heap blocks with these bases aren't live any more
abbrev pub end_blocks : List ℕ → World → World
end_blocks [] world = world
end_blocks (a ∷ rest) world = end_blocks rest (end_block a world)

-- where an 'alloca' stands: on the stack, or on the heap where a fiber beside `main`'s goes on
abbrev pub local_area : World → Area
local_area world = if eqb world.turn 0 then Stack else Heap

-- n bytes from an address on become what a function gives for 0, 1 and so on
abbrev pub set_bytes : ℕ → ℕ → (ℕ → ℕ) → World → World
set_bytes addr n new world = record world { bytes = with_range world.bytes addr n new }

-- n bytes from an address on become those of a number, the least first
abbrev pub store_number : ℕ → ℕ → ℕ → World → World
store_number addr n v world = set_bytes addr n (byte_of v) world

-- n bytes are copied, as they were before
abbrev pub copy_bytes : ℕ → ℕ → ℕ → World → World
copy_bytes to from n world = record world { bytes = copied world.bytes to from n }

-- n bytes from an address on become uninitialised bytes made anew, in rising order
abbrev pub make_bytes : List ℕ → ℕ → ℕ → World → World
make_bytes fill addr n world =
    record world { bytes = with_range world.bytes addr n (λ k. made_byte fill (world.made + k)); made = world.made + n }

-- n bytes of shadow from an address on become what a function gives for 0, 1 and so on
abbrev pub set_shadow : ℕ → ℕ → (ℕ → ℕ) → World → World
set_shadow addr n new world = record world { shadow = with_range world.shadow addr n new }

-- the cells that n bytes from an address on touch hold an origin
abbrev pub set_cells : ℕ → ℕ → ℕ → World → World
set_cells addr n origin world = record world { origins = with_cells world.origins addr n origin }

-- shadow and origins of n bytes are copied, as they were before; a byte without shadow leaves its cell
abbrev pub copy_shadow : ℕ → ℕ → ℕ → World → World
copy_shadow to from n world =
    record world { shadow = copied world.shadow to from n; origins = copied_cells world.shadow world.origins to from n world.origins }

-- a new allocation of n zero bytes, clean, with origin 0
abbrev pub make : Area → ℕ → World → World
make area n world =
    let base = next_base area world in
    set_cells base n 0 (set_shadow base n (λ k. 0) (set_bytes base n (λ k. 0)
    (record world { allocs = world.allocs ++ record { base = base; size = n; area = area; live = true } ∷ [] })))

-- a new allocation of n uninitialised bytes; its shadow is 0 too, since inserted instructions poison it
abbrev pub make_unset : List ℕ → Area → ℕ → World → World
make_unset fill area n world = make_bytes fill (next_base area world) n (make area n world)

-- an allocation stays at a return: it isn't one of the stack from an address on
abbrev pub keeps : ℕ → Allocation → Bool
keeps mark a = not (area_eq Stack a.area && leb mark a.base)
