-- The table of allocations: three lists, one for each area, in order of address, which is the order of making.
use Rattle.std.specs.Prelude.{◌≡◌, ◌≤◌, ℕ, ◌+◌, Bool, true, false, ◌&&◌, ◌||◌, not, List, [], ◌∷◌, ◌++◌, map, filter, find, eqb, leb, Option, is_some, option_map, if◌then◌else◌}
use Rattle.ms_alloc.specs.declared.kinds.AllocKind.{AllocKind}
use Rattle.ms_alloc.specs.declared.kinds.AllocKind.TheVariants.{Fixed, Heap, Stack}
use Rattle.ms_alloc.specs.declared.allocations.Allocation.{Allocation}
use Rattle.ms_alloc.specs.Layout.{area_base, area_limit, room}

pub record Allocations : Type 0 where
  pub fixed : List Allocation
  pub heap : List Allocation
  pub stack : List Allocation

-- no allocation at all
abbrev pub no_allocations : Allocations
no_allocations = record { fixed = []; heap = []; stack = [] }

-- the allocations of an area
abbrev pub of_kind : AllocKind → Allocations → List Allocation
of_kind Fixed t = t.fixed
of_kind Heap t = t.heap
of_kind Stack t = t.stack

-- all allocations, in order of address
abbrev pub listed : Allocations → List Allocation
listed t = t.fixed ++ t.heap ++ t.stack

-- what a list of allocations takes
abbrev pub used : List Allocation → ℕ
used [] = 0
used (a ∷ as') = room a.size + used as'

-- whether one more allocation of n bytes keeps the area's limit
abbrev pub fits : AllocKind → ℕ → Allocations → Bool
fits kind n t = leb (used (of_kind kind t) + room n) (area_limit kind)

-- where the next allocation of an area begins
abbrev pub next_base : AllocKind → Allocations → ℕ
next_base kind t = area_base kind + used (of_kind kind t)

-- the next allocation of an area, of n bytes
abbrev pub next : AllocKind → ℕ → Allocations → Allocation
next kind n t = record { base = next_base kind t; size = n; kind = kind; live = true }

-- the table with one more allocation, at the end of its area
abbrev pub with_made : AllocKind → ℕ → Allocations → Allocations
with_made Fixed n t = record t { fixed = t.fixed ++ next Fixed n t ∷ [] }
with_made Heap n t = record t { heap = t.heap ++ next Heap n t ∷ [] }
with_made Stack n t = record t { stack = t.stack ++ next Stack n t ∷ [] }

-- whether an allocation is live and has the n bytes from an address on
abbrev pub covers : ℕ → ℕ → Allocation → Bool
covers addr n a = a.live && leb a.base addr && leb (addr + n) (a.base + a.size)

-- an access is good where it has no bytes, or all its bytes lie in one live allocation
abbrev pub is_good : ℕ → ℕ → Allocations → Bool
is_good addr n t = eqb n 0 || is_some (find (covers addr n) (listed t))

-- base and size of the live allocation that has a byte
abbrev pub block_of : ℕ → Allocations → Option (ℕ × ℕ)
block_of addr t = option_map (λ a. (a.base, a.size)) (find (covers addr 1) (listed t))

-- whether an allocation is live and begins at an address
abbrev pub is_block : ℕ → Allocation → Bool
is_block base a = a.live && eqb a.base base

-- the size of the live heap block that begins at an address
abbrev pub heap_size : ℕ → Allocations → Option ℕ
heap_size base t = option_map (λ a. a.size) (find (is_block base) t.heap)

-- the table in which the live heap block that begins at an address has ended
abbrev pub with_ended : ℕ → Allocations → Allocations
with_ended base t = record t { heap = map (λ a. if is_block base a then record a { live = false } else a) t.heap }

-- the table without the allocations of the stack from an address on
abbrev pub without_from : ℕ → Allocations → Allocations
without_from mark t = record t { stack = filter (λ a. not (leb mark a.base)) t.stack }

-- allocations of one kind that begin at an address, each where the one before it ends
abbrev pub IsRow : AllocKind → ℕ → List Allocation → Type 0
IsRow kind base [] = Unit {0}
IsRow kind base (a ∷ as') = (a.base ≡ base) × (a.kind ≡ kind) × IsRow kind (base + room a.size) as'

-- an area: a row from its first address on, within its limit
pub record IsArea (kind : AllocKind) (as' : List Allocation) : Type 0 where
  pub row : IsRow kind (area_base kind) as'
  pub within : used as' ≤ area_limit kind

-- what every table has: three areas
pub record IsLaidOut (t : Allocations) : Type 0 where
  pub fixed : IsArea Fixed t.fixed
  pub heap : IsArea Heap t.heap
  pub stack : IsArea Stack t.stack
