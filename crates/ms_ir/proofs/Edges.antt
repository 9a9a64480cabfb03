-- The operands of a phi, and their types.
use Rattle.std.proofs.Common.{◌≡◌, List, [], ◌∷◌, map, refl, ap}
use Rattle.ms_ir.specs.declared.syntax.Name.{Name}
use Rattle.ms_ir.specs.declared.syntax.Operand.{Operand}
use Rattle.ms_ir.specs.declared.syntax.Ty.{Ty}

pub edge_operands : (t : Ty) (edges : List (Operand × Name)) → map (λ (o : Ty × Operand). o.1) (map (λ e. (t, e.0)) edges) ≡ map (λ e. e.0) edges
edge_operands t [] = refl
edge_operands t (e ∷ es) = ap (λ l. e.0 ∷ l) (edge_operands t es)

pub edge_types : (t : Ty) (edges : List (Operand × Name)) → map (λ (o : Ty × Operand). o.0) (map (λ e. (t, e.0)) edges) ≡ map (λ e. t) edges
edge_types t [] = refl
edge_types t (e ∷ es) = ap (λ l. t ∷ l) (edge_types t es)
