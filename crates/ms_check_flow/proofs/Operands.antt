-- The operands of an instruction, noted one after the other.
use Rattle.std.proofs.Common.{◌≡◌, ℕ, ◌+◌, List, [], ◌∷◌, ◌++◌, false, map, not, refl, ap, true≢false}
use Rattle.std.specs.Prelude.{flat_map}
use Rattle.ms_ir.specs.declared.syntax.Name.{Name}
use Rattle.ms_ir.specs.declared.syntax.Op.{Op}
use Rattle.ms_ir.specs.declared.syntax.Op.TheVariants as op
use Rattle.ms_ir.specs.Instructions.{operands, is_phi}
use Rattle.ms_ir.specs.Equal.{has_name}
use Rattle.ms_ir.specs.Locals.{entry_name}
use Rattle.ms_ir.specs.Spots.{Spot}
use Rattle.ms_ir.specs.Written.{targets}
use Rattle.ms_check_valid.specs.PhisFit.{edges_fit}
use Rattle.ms_check_flow.specs.declared.numbers.Numbers.{Numbers}
use Rattle.ms_check_flow.specs.Noted.{op_noted, operand_noted}

-- ---- in turn

-- ---- instructions that are no phis

-- such an instruction fits where it doesn't go to the entry block
pub plain_fits : (at : Spot) (o : Op) → is_phi o ≡ false → edges_fit at o ≡ not (has_name (targets o) (entry_name at.func))
plain_fits at (op.Phi t edges) e = absurd (true≢false e)
plain_fits at o e = refl

flat_second : {A B C : Type 0} (h : B → List C) (xs : List (A × B)) → flat_map h (map (λ a. a.1) xs) ≡ flat_map (λ a. h a.1) xs
flat_second h [] = refl
flat_second h (x ∷ xs) = ap (λ l. h x.1 ++ l) (flat_second h xs)

-- its uses are those that its operands are
pub plain_noted : (n : Numbers) (seen : List Name) (block site : ℕ) (o : Op) → is_phi o ≡ false
    → flat_map (operand_noted n seen block site) (map (λ a. a.1) (operands o)) ≡ op_noted n seen block site o
plain_noted n seen block site (op.Phi t edges) e = absurd (true≢false e)
plain_noted n seen block site o e = flat_second (operand_noted n seen block site) (operands o)
