-- What the parts of the code come to that compute sizes: a size above the limit of 2 ^ 26 is kept as the next number,
-- since in 64 bits it may not fit. What `size_of`, `align_of` and `offset_of` promise does not name this.
use Rattle.std.specs.Prelude.{◌+◌, ◌≤◌, ◌^◌, ℕ, min}
use Rattle.ms_ir.specs.Layout.{Extent, extent}
use Rattle.ms_ir.specs.declared.layouts.Layout.{Layout}

-- a size up to the limit, or the number above it
abbrev pub limited : ℕ → ℕ
limited n = min n (2 ^ 26 + 1)

-- an extent with its size limited
abbrev pub limit_extent : Extent → Extent
limit_extent e = extent (limited e.size) e.align

-- a size and an alignment, as the code keeps them
abbrev pub as_extent : Layout → Extent
as_extent l = extent l.size l.align

-- a size within the limit, and an alignment of 1 to 8
pub record IsLayout (l : Layout) : Type 0 where
  pub small : l.size ≤ 2 ^ 26 + 1
  pub positive : 1 ≤ l.align
  pub low : l.align ≤ 8
