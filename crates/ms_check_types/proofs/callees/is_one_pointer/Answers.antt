use Rattle.std.proofs.Common.{◌≡◌, ◌≤◌, Bool, true, false, ◌&&◌, List, [], ◌∷◌, map, length, refl, arith}
use Rattle.ms_ir.specs.declared.syntax.Name.{Name}
use Rattle.ms_ir.specs.declared.syntax.Ty.{Ty, Ptr}
use Rattle.ms_ir.specs.Equal.{type_eq, types_eq}
use Rattle.ms_check_types.proofs.callees.is_one_pointer.Goals as goal

and_false : (b : Bool) → false ≡ (b && false)
and_false true = refl
and_false false = refl

-- two are more than one
too_many : (ps : List (Ty × Name)) → 2 ≤ length ps → false ≡ types_eq (map (λ p. p.0) ps) (Ptr ∷ [])
too_many [] l = absurd (omega (arith, l))
too_many (p ∷ []) l = absurd (omega (arith, l))
too_many (p ∷ q ∷ rest) l = and_false (type_eq p.0 Ptr)

pub returns-in_default-2 : goal.returns-in_default-2
returns-in_default-2 c = too_many c.args.params.now (omega (arith, c.in_default.len_at_least))
