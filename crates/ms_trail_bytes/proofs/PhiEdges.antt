-- The edges of a phi, and its operands.
use Rattle.std.proofs.Common.{◌≡◌, ◌+◌, List, [], ◌∷◌, map, refl, sym, ap, ◌∙◌}
use Rattle.ms_ir.specs.declared.syntax.Name.{Name}
use Rattle.ms_ir.specs.declared.syntax.Ty.{Ty}
use Rattle.ms_ir.specs.declared.syntax.Operand.{Operand}
use Rattle.ms_ir.specs.declared.syntax.Op.{Op}
use Rattle.ms_ir.specs.declared.syntax.Op.TheVariants as op
use Rattle.ms_ir.specs.Instructions.{operands, one_undef, count_undefs}
use Rattle.ms_trail_moves.specs.Edges.{count_edges}

pub same_edges : (o : Op) (t u : Ty) (es fs : List (Operand × Name)) → o ≡ op.Phi t es → o ≡ op.Phi u fs → es ≡ fs
same_edges o t u es fs e f = cc

edges_counted : (t : Ty) (es : List (Operand × Name)) → count_edges es ≡ count_undefs (map (λ e. (t, e.0)) es)
edges_counted t [] = refl
edges_counted t (e ∷ es) = ap (λ n. one_undef e.0 + n) (edges_counted t es)

pub counted_as : (o : Op) (t : Ty) (es : List (Operand × Name)) → o ≡ op.Phi t es → count_edges es ≡ count_undefs (operands o)
counted_as o t es is = edges_counted t es ∙ ap (λ p. count_undefs (operands p)) (sym is)
