-- Names that pass a test of equality are equal.
use Rattle.std.proofs.Common.{◌≡◌, ℕ, List, [], ◌∷◌, true, refl, ap, ◌∙◌}
use Rattle.std.specs.Prelude.{nat_eq, ◌&&◌}
use Rattle.std.specs.Cmp.Lexicographic.{pointwise}
use Rattle.std.proofs.lemmas.Bool.{eq-eqb}
use Rattle.ms_ir.specs.declared.syntax.Name.{Name}
use Rattle.ms_ir.specs.declared.syntax.Name.TheVariants.{Number, Text}
use Rattle.ms_ir.specs.Names.{name_eq}

bytes_same : (x : List ℕ) → pointwise nat_eq x x ≡ true
bytes_same [] = refl
bytes_same (a ∷ x) = ap (λ b. b && pointwise nat_eq x x) (eq-eqb a a refl) ∙ bytes_same x

-- a name is itself
pub name_same : (x : Name) → name_eq x x ≡ true
name_same (Number n) = eq-eqb n n refl
name_same (Text x) = bytes_same x
