-- How a world of a run stands for one of the definitions.
use Rattle.std.specs.Prelude.{◌≡◌, ℕ, ◌/◌, true, false, List, map, filter, drop, Result, Ok, Err, IsTrue}
use Rattle.ms_alloc.specs.declared.kinds.AllocKind.{AllocKind}
use Rattle.ms_alloc.specs.declared.kinds.AllocKind.TheVariants as kind
use Rattle.ms_alloc.specs.declared.errors.AllocError.{AllocError}
use Rattle.ms_alloc.specs.declared.errors.AllocError.TheVariants.{Full, NoMemory}
use Rattle.ms_alloc.specs.declared.allocations.Allocation.{Allocation as Entry}
use Rattle.ms_alloc.specs.Allocations.{Allocations, of_kind, with_made, next_base as base_after, is_good as is_live}
use Rattle.ms_planes.specs.Memory.{bytes_of, shadow_of, origins_of}
use Rattle.ms_ir.specs.Areas.{Area, Fixed, Heap, Stack, area_eq}
use Rattle.ms_runs.specs.World.{Allocation, World}
use Rattle.ms_runs.specs.Memory.{fits, next_base, make, make_unset}
use Rattle.ms_runs.specs.Threads.{fibers_of}
use Rattle.ms_host.specs.State.{WorldState, Beside}

-- the area of a kind of allocation
abbrev pub area_of : AllocKind → Area
area_of kind.Fixed = Fixed
area_of kind.Heap = Heap
area_of kind.Stack = Stack

-- an allocation of the table, as the definitions have it
abbrev pub allocation_of : Entry → Allocation
allocation_of a = record { base = a.base; size = a.size; area = area_of a.kind; live = a.live }

-- the allocations of an area
abbrev pub in_area : Area → List Allocation → List Allocation
in_area area as' = filter (λ a. area_eq area a.area) as'

-- a table holds the allocations of each area, in the order of making
abbrev pub Lists : Allocations → List Allocation → Type 0
Lists t as' = (k : AllocKind) → in_area (area_of k) as' ≡ map allocation_of (of_kind k t)

-- two maps hold the same at every live address
abbrev pub Agrees : Allocations → (ℕ → ℕ) → (ℕ → ℕ) → Type 0
Agrees t f g = (x : ℕ) → IsTrue (is_live x 1 t) → f x ≡ g x

-- two maps hold the same at the cell of every live address
abbrev pub CellsAgree : Allocations → (ℕ → ℕ) → (ℕ → ℕ) → Type 0
CellsAgree t f g = (x : ℕ) → IsTrue (is_live x 1 t) → f (x / 4) ≡ g (x / 4)

-- a world stands for one of the definitions, where so much is kept beside it; what isn't live may differ, and nothing is
-- said of the slots
pub record Shows (w : WorldState) (beside : Beside) (world : World) : Type 0 where
  pub allocs : Lists w.planes.table world.allocs
  pub bytes : Agrees w.planes.table world.bytes (bytes_of w.planes)
  pub shadow : Agrees w.planes.table world.shadow (shadow_of w.planes)
  pub origins : CellsAgree w.planes.table world.origins (origins_of w.planes)
  pub made : world.made ≡ w.made
  pub input : world.input ≡ drop w.at w.input
  pub output : world.output ≡ w.output
  pub pairs : world.pairs ≡ beside.pairs
  pub reports : world.reports ≡ beside.reports
  pub blind : world.blind ≡ beside.blind
  pub fibers : fibers_of world ≡ beside.fibers

-- an allocation of n uninitialised bytes was made at a base, or nothing changed: it doesn't fit, or memory runs out
abbrev pub Allocated : AllocKind → Beside → World → ℕ → Result ℕ AllocError → WorldState → Type 0
Allocated kind beside world n (Ok base) w =
    (fits (area_of kind) n world ≡ true) × (base ≡ next_base (area_of kind) world) × Shows w beside (make_unset w.fill (area_of kind) n world)
Allocated kind beside world n (Err Full) w = (fits (area_of kind) n world ≡ false) × Shows w beside world
Allocated kind beside world n (Err NoMemory) w = (fits (area_of kind) n world ≡ true) × Shows w beside world

-- the same of zero bytes
abbrev pub Cleared : AllocKind → Beside → World → ℕ → Result ℕ AllocError → WorldState → Type 0
Cleared kind beside world n (Ok base) w =
    (fits (area_of kind) n world ≡ true) × (base ≡ next_base (area_of kind) world) × Shows w beside (make (area_of kind) n world)
Cleared kind beside world n (Err Full) w = (fits (area_of kind) n world ≡ false) × Shows w beside world
Cleared kind beside world n (Err NoMemory) w = (fits (area_of kind) n world ≡ true) × Shows w beside world

-- the table got an allocation of n bytes at a base, or stays
abbrev pub Grown : AllocKind → Allocations → ℕ → Result ℕ AllocError → Allocations → Type 0
Grown kind old n (Ok base) new = (new ≡ with_made kind n old) × (base ≡ base_after kind old)
Grown kind old n (Err e) new = new ≡ old
