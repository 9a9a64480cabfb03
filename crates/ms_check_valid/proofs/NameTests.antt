-- Names that pass a test of equality are equal.
use Rattle.std.proofs.Common.{◌≡◌, ℕ, List, [], ◌∷◌, true, refl, ap, subst, ◌∙◌}
use Rattle.std.specs.Prelude.{nat_eq, ◌&&◌, Contains, slice_index_or}
use Rattle.std.specs.Cmp.Lexicographic.{pointwise}
use Rattle.std.proofs.lemmas.Bool.{eq-eqb}
use Rattle.std.proofs.lemmas.List.Folds.{Any-from_list_any, list_any_at}
use Rattle.ms_ir.specs.declared.syntax.Name.{Name}
use Rattle.ms_ir.specs.declared.syntax.Name.TheVariants.{Number, Text}
use Rattle.ms_ir.specs.Names.{name_eq}
use Rattle.ms_ir.specs.Equal.{has_name}
use Rattle.ms_ir.proofs.RootKinds.{name_same as name_sound}

bytes_same : (x : List ℕ) → pointwise nat_eq x x ≡ true
bytes_same [] = refl
bytes_same (a ∷ x) = ap (λ b. b && pointwise nat_eq x x) (eq-eqb a a refl) ∙ bytes_same x

-- a name is itself
pub name_same : (x : Name) → name_eq x x ≡ true
name_same (Number n) = eq-eqb n n refl
name_same (Text x) = bytes_same x

-- a name that a list is tested to have is in it
pub name_within : (xs : List Name) (x : Name) → has_name xs x ≡ true → Contains xs x
name_within xs x e =
    let a = Any-from_list_any (λ y. name_eq y x) xs e in
    (a.0, a.2, subst (λ z. slice_index_or xs a.0 z ≡ z) (name_sound a.1 x a.4) a.3)

-- a list has a name that is in it
pub within_name : (xs : List Name) (x : Name) → Contains xs x → has_name xs x ≡ true
within_name xs x h = list_any_at (λ y. name_eq y x) xs h.0 x h.1 (ap (λ y. name_eq y x) h.2 ∙ name_same x)
