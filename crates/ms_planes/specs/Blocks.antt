-- The two lists of bytes of a block.
use Rattle.std.specs.Prelude.{◌≡◌, ◌+◌, ◌/◌, ◌%◌, ℕ, List, length, set, Option, Some, None}
use Rattle.ms_bits.specs.Maps.{with_range, copied_cells}
use Rattle.ms_raw.specs.Blocks.{Lists}
use Rattle.ms_planes.specs.Areas.{held}
use Rattle.ms_planes.specs.declared.parts.Plane.{Plane}
use Rattle.ms_planes.specs.declared.parts.Plane.TheVariants.{Bytes, Shadow}

-- the bytes of a block, or its shadow bytes
abbrev pub bytes_in : Plane → Lists → List ℕ
bytes_in Bytes l = l.bytes
bytes_in Shadow l = l.shadow

-- the other of the two
abbrev pub other : Plane → Plane
other Bytes = Shadow
other Shadow = Bytes

-- the four low bytes of v, the least first, from place `at` on
abbrev pub with_four : List ℕ → ℕ → ℕ → List ℕ
with_four xs at v = set (set (set (set xs at (v % 256)) (at + 1) (v / 256 % 256)) (at + 2) (v / 256 / 256 % 256)) (at + 3) (v / 256 / 256 / 256 % 256)

-- the eight low ones
abbrev pub with_eight : List ℕ → ℕ → ℕ → List ℕ
with_eight xs at v =
    set (set (set (set (with_four xs at v) (at + 4) (v / 256 / 256 / 256 / 256 % 256)) (at + 5) (v / 256 / 256 / 256 / 256 / 256 % 256))
    (at + 6) (v / 256 / 256 / 256 / 256 / 256 / 256 % 256)) (at + 7) (v / 256 / 256 / 256 / 256 / 256 / 256 / 256 % 256)

-- a change of one list keeps its length, the other list and the origins
pub record KeepsOthers (part : Plane) (old new : Lists) : Type 0 where
  pub len : length (bytes_in part new) ≡ length (bytes_in part old)
  pub rest : bytes_in (other part) new ≡ bytes_in (other part) old
  pub origins : new.origins ≡ old.origins

-- n bytes of a block, or shadow bytes, are v
pub record IsFilled (part : Plane) (old new : Lists) (at n v : ℕ) : Type 0 where
  pub shown : held (bytes_in part new) ≡ with_range (held (bytes_in part old)) at n (λ k. v)
  pub others : KeepsOthers part old new

-- the same where the block is there
abbrev pub IsFilledInto : Plane → (old new : Option Lists) → ℕ → ℕ → ℕ → Type 0
IsFilledInto part None new at n v = Unit {0}
IsFilledInto part (Some l) None at n v = ⊥
IsFilledInto part (Some l) (Some l') at n v = IsFilled part l l' at n v

-- what a copy does to origins: one of bytes leaves them, and one of shadow bytes takes them along
abbrev pub OriginsCopied : Plane → (old source new : Lists) → ℕ → ℕ → ℕ → Type 0
OriginsCopied Bytes old source new to from n = new.origins ≡ old.origins
OriginsCopied Shadow old source new to from n = held new.origins ≡ copied_cells (held source.shadow) (held source.origins) to from n (held old.origins)

-- n bytes of a source, or shadow bytes with their origins, also stand in a block
pub record IsCopied (part : Plane) (old source new : Lists) (to from n : ℕ) : Type 0 where
  pub shown : held (bytes_in part new) ≡ with_range (held (bytes_in part old)) to n (λ k. held (bytes_in part source) (from + k))
  pub len : length (bytes_in part new) ≡ length (bytes_in part old)
  pub rest : bytes_in (other part) new ≡ bytes_in (other part) old
  pub origins : OriginsCopied part old source new to from n
  pub cells : length new.origins ≡ length old.origins

-- the same where both blocks are there
abbrev pub IsCopiedInto : Plane → (old source new : Option Lists) → ℕ → ℕ → ℕ → Type 0
IsCopiedInto part None source new to from n = Unit {0}
IsCopiedInto part (Some l) None new to from n = Unit {0}
IsCopiedInto part (Some l) (Some s) None to from n = ⊥
IsCopiedInto part (Some l) (Some s) (Some l') to from n = IsCopied part l s l' to from n
