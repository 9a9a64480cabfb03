-- What an origin of one byte writes, as cells.
use Rattle.std.proofs.Common.{◌≡◌, ℕ, ◌/◌, refl, sym, ◌∙◌, arith}
use Rattle.ms_bits.specs.Maps.{with_cells, with_cell}
use Rattle.ms_planes.proofs.Ranges.{range-cells, range-cell}

pub cells-one : (f : ℕ → ℕ) (a o : ℕ) → with_cells f a 1 o ≡ with_cell f a o
cells-one f a o = sym (range-cells f a 1 (a / 4) 1 o (omega arith) refl (omega arith)) ∙ range-cell f a o
