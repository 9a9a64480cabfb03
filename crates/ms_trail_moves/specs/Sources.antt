-- Where the poisoned bits of an instruction's results come from (own).
use Rattle.std.specs.Prelude.{ℕ, zero, suc, ◌+◌, List, [], ◌∷◌, Option, Some, None}
use Rattle.ms_ir.specs.declared.syntax.Ty.{Ty}
use Rattle.ms_ir.specs.declared.syntax.Operand.{Operand}
use Rattle.ms_ir.specs.declared.syntax.Operand.TheVariants as operand
use Rattle.ms_ir.specs.declared.syntax.Op.{Op}
use Rattle.ms_ir.specs.declared.syntax.Op.TheVariants as op
use Rattle.ms_bits.specs.Maps.{first_nonzero}
use Rattle.ms_ir.specs.Layout.{stored_size}
use Rattle.ms_runs.specs.World.{World}
use Rattle.ms_runs.specs.Control.{read_all}
use Rattle.ms_runs.specs.Poisoned.{Poisoned}
use Rattle.ms_runs.specs.Masks.{word_at, result_origin}
use Rattle.ms_trail_moves.specs.declared.moves.Source.{Source}
use Rattle.ms_trail_moves.specs.declared.moves.Source.TheVariants.{Root, Value, Byte}

-- what an operand is read from, in the frame with a number, after so many roots; 0 is no root, and stands for a constant
abbrev pub operand_source : (frame root : ℕ) → Operand → Source
operand_source frame root operand.Undef = Root (root + 1)
operand_source frame root operand.Poison = Root (root + 1)
operand_source frame root (operand.Local x) = Value frame x
operand_source frame root _ = Root 0

-- what operands are read from, in written order
abbrev pub sources : (frame : ℕ) → List (Ty × Operand) → (root : ℕ) → List Source
sources frame = read_all (λ n t o. operand_source frame n o)

-- source k, counted from 0
abbrev pub source_at : ℕ → List Source → Source
source_at k [] = Root 0
source_at zero (s ∷ ss) = s
source_at (suc k) (s ∷ ss) = source_at k ss

-- words with their places, counted from k, in place of their origins
abbrev pub placed : ℕ → List Poisoned → List Poisoned
placed k [] = []
placed k (p ∷ ps) = record p { origin = k } ∷ placed (suc k) ps

-- the byte at an address, if there is one
abbrev pub byte_source : Option ℕ → Source
byte_source (Some a) = Byte a
byte_source None = Root 0

-- where a result's poisoned bits come from: a load's from its first poisoned byte, and others from the operand whose origin
-- the result has
abbrev pub result_source : Op → List Poisoned → List Source → World → Source
result_source (op.Load t a) ps ss w = byte_source (first_nonzero w.shadow (word_at 0 ps).value (stored_size t))
result_source o ps ss w = source_at (result_origin o (placed 0 ps) 0 w) ss
