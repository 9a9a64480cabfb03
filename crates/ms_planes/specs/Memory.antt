-- The memory of a run: the table of allocations, and a block of bytes, shadow and origins for each that is live.
use Rattle.std.specs.Prelude.{◌≡◌, ◌*◌, ◌-◌, ◌/◌, ℕ, List, [], ◌∷◌, map, length, get_or, false, true, ltb, if◌then◌else◌, IsTrue, Option, Some, None, Vec}
use Rattle.std.specs.Global.{Global}
use Rattle.ms_alloc.specs.declared.kinds.AllocKind.{AllocKind}
use Rattle.ms_alloc.specs.declared.kinds.AllocKind.TheVariants.{Fixed, Heap, Stack}
use Rattle.ms_alloc.specs.declared.allocations.Allocation.{Allocation}
use Rattle.ms_alloc.specs.Layout.{area_base}
use Rattle.ms_alloc.specs.Allocations.{Allocations, IsLaidOut, of_kind, covers, is_good}
use Rattle.ms_raw.specs.Blocks.{Lists, IsLists}
use Rattle.ms_planes.specs.declared.parts.Plane.{Plane}
use Rattle.ms_planes.specs.declared.parts.Plane.TheVariants.{Bytes, Shadow}
use Rattle.ms_planes.specs.Areas.{held}
use Rattle.ms_planes.specs.Blocks.{bytes_in, other}
use Rattle.ms_bits.specs.Maps.{copied, copied_cells}

-- the contents of vectors
abbrev pub lists : List (Vec (Option Lists) Global) → List (List (Option Lists))
lists vs = map (λ v. v.items) vs

-- the table, and for each area, in order of address, the blocks of its allocations; an ended one has none
pub record Memory : Type 0 where
  pub table : Allocations
  pub blocks : List (List (Option Lists))

abbrev pub area_index : AllocKind → ℕ
area_index Fixed = 0
area_index Heap = 1
area_index Stack = 2

-- the area whose addresses reach one
abbrev pub kind_of : ℕ → AllocKind
kind_of addr = if ltb addr (area_base Heap) then Fixed else (if ltb addr (area_base Stack) then Heap else Stack)

-- what is read of a block
abbrev pub read : (Lists → ℕ → ℕ) → Option Lists → ℕ → ℕ
read f None o = 0
read f (Some l) o = f l o

-- what is read at an address: of the block of the live allocation that has it, and 0 where none has
abbrev pub found : (Lists → ℕ → ℕ) → List Allocation → List (Option Lists) → ℕ → ℕ
found f [] bs addr = 0
found f (a ∷ as') [] addr = 0
found f (a ∷ as') (b ∷ bs) addr = if covers addr 1 a then read f b (addr - a.base) else found f as' bs addr

abbrev pub shown : (Lists → ℕ → ℕ) → Memory → ℕ → ℕ
shown f m addr = found f (of_kind (kind_of addr) m.table) (get_or m.blocks (area_index (kind_of addr)) []) addr

-- the byte at an address, or its shadow byte
abbrev pub part_of : Plane → Memory → ℕ → ℕ
part_of part m = shown (λ l o. held (bytes_in part l) o) m

-- the byte at an address
abbrev pub bytes_of : Memory → ℕ → ℕ
bytes_of m = part_of Bytes m

-- the shadow byte of an address
abbrev pub shadow_of : Memory → ℕ → ℕ
shadow_of m = part_of Shadow m

-- the origin of a cell, which is four bytes from four times its number on
abbrev pub origins_of : Memory → ℕ → ℕ
origins_of m cell = shown (λ l o. held l.origins (o / 4)) m (4 * cell)

-- what a copy does to origins: one of bytes leaves them, and one of shadow bytes takes them along
abbrev pub CellsCopied : Plane → (old new : Memory) → ℕ → ℕ → ℕ → Type 0
CellsCopied Bytes old new to from n = origins_of new ≡ origins_of old
CellsCopied Shadow old new to from n = origins_of new ≡ copied_cells (shadow_of old) (origins_of old) to from n (origins_of old)

-- a copy of bytes, or of shadow bytes with their origins
pub record MapsCopied (part : Plane) (old new : Memory) (to from n : ℕ) : Type 0 where
  pub shown : part_of part new ≡ copied (part_of part old) to from n
  pub rest : part_of (other part) new ≡ part_of (other part) old
  pub origins : CellsCopied part old new to from n

-- two memories have the same allocations and show the same
pub record IsSame (m m' : Memory) : Type 0 where
  pub table : m.table ≡ m'.table
  pub bytes : bytes_of m ≡ bytes_of m'
  pub shadow : shadow_of m ≡ shadow_of m'
  pub origins : origins_of m ≡ origins_of m'

-- a later memory shows what an earlier one did at every address that is still live
pub record KeepsLive (old new : Memory) : Type 0 where
  pub bytes : (addr : ℕ) → IsTrue (is_good addr 1 new.table) → bytes_of new addr ≡ bytes_of old addr
  pub shadow : (addr : ℕ) → IsTrue (is_good addr 1 new.table) → shadow_of new addr ≡ shadow_of old addr
  pub origins : (addr : ℕ) → IsTrue (is_good addr 1 new.table) → origins_of new (addr / 4) ≡ origins_of old (addr / 4)

-- the block of an allocation has as many bytes as were asked for; an ended allocation has none
abbrev pub IsBlockOf : Allocation → Option Lists → Type 0
IsBlockOf a None = a.live ≡ false
IsBlockOf a (Some l) = (a.live ≡ true) × IsLists a.size l

abbrev pub AreBlocksOf : List Allocation → List (Option Lists) → Type 0
AreBlocksOf [] [] = Unit {0}
AreBlocksOf [] (b ∷ bs) = ⊥
AreBlocksOf (a ∷ as') [] = ⊥
AreBlocksOf (a ∷ as') (b ∷ bs) = IsBlockOf a b × AreBlocksOf as' bs

-- what every memory has
pub record IsMemory (m : Memory) : Type 0 where
  pub laid_out : IsLaidOut m.table
  pub three : length m.blocks ≡ 3
  pub blocks : (k : AllocKind) → AreBlocksOf (of_kind k m.table) (get_or m.blocks (area_index k) [])
