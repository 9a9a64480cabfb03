-- Equality of operands goes on along equal ones.
use Rattle.std.proofs.Common.{◌≡◌, ℕ, List, [], ◌∷◌, Bool, true, false, sym, subst, ◌∙◌, true≢false}
use Rattle.std.specs.Prelude.{◌&&◌, nat_eq}
use Rattle.std.proofs.lemmas.Bool.{eqb-true, and_parts}
use Rattle.ms_ir.specs.declared.syntax.Ty.{Ty}
use Rattle.ms_ir.specs.declared.syntax.Operand.{Operand}
use Rattle.ms_ir.specs.declared.syntax.Operand.TheVariants as operand
use Rattle.ms_ir.specs.Names.{name_eq}
use Rattle.ms_ir.specs.Equal.{AddressStep, type_eq, indices_eq, steps_eq, operand_eq}
use Rattle.ms_ir.specs.TypeLaws.{type_eq_equiv}
use Rattle.ms_ir.proofs.RootKinds.{name_same}

-- two tests that pass
pub both : {a b : Bool} → a ≡ true → b ≡ true → (a && b) ≡ true
both {a} {b} e f = subst (λ t. (t && b) ≡ true) (sym e) f

-- a false premise
never : {A : Type 0} → false ≡ true → A
never e = absurd (true≢false (sym e))

type_trans : (a b c : Ty) → type_eq a b ≡ true → type_eq b c ≡ true → type_eq a c ≡ true
type_trans a b c e f = type_eq_equiv.congr a b c e ∙ f

indices_trans : (is js ks : List (Ty × ℕ)) → indices_eq is js ≡ true → indices_eq js ks ≡ true → indices_eq is ks ≡ true
indices_trans [] [] ks e f = f
indices_trans [] (j ∷ js) ks e f = never e
indices_trans (i ∷ is) [] ks e f = never e
indices_trans (i ∷ is) (j ∷ js) [] e f = never f
indices_trans (i ∷ is) (j ∷ js) (k ∷ ks) e f =
    let first = and_parts (type_eq i.0 j.0 && nat_eq i.1 j.1) (indices_eq is js) e in
    let second = and_parts (type_eq j.0 k.0 && nat_eq j.1 k.1) (indices_eq js ks) f in
    let one = and_parts (type_eq i.0 j.0) (nat_eq i.1 j.1) first.0 in
    let other = and_parts (type_eq j.0 k.0) (nat_eq j.1 k.1) second.0 in
    both (both (type_trans i.0 j.0 k.0 one.0 other.0) (subst (λ z. nat_eq z k.1 ≡ true) (sym (eqb-true i.1 j.1 one.1)) other.1))
    (indices_trans is js ks first.1 second.1)

steps_trans : (ss ts us : List AddressStep) → steps_eq ss ts ≡ true → steps_eq ts us ≡ true → steps_eq ss us ≡ true
steps_trans [] [] us e f = f
steps_trans [] (t ∷ ts) us e f = never e
steps_trans (s ∷ ss) [] us e f = never e
steps_trans (s ∷ ss) (t ∷ ts) [] e f = never f
steps_trans (s ∷ ss) (t ∷ ts) (u ∷ us) e f =
    let first = and_parts (type_eq s.0 t.0 && indices_eq s.1 t.1) (steps_eq ss ts) e in
    let second = and_parts (type_eq t.0 u.0 && indices_eq t.1 u.1) (steps_eq ts us) f in
    let one = and_parts (type_eq s.0 t.0) (indices_eq s.1 t.1) first.0 in
    let other = and_parts (type_eq t.0 u.0) (indices_eq t.1 u.1) second.0 in
    both (both (type_trans s.0 t.0 u.0 one.0 other.0) (indices_trans s.1 t.1 u.1 one.1 other.1)) (steps_trans ss ts us first.1 second.1)

pub operand_trans : (a b c : Operand) → operand_eq a b ≡ true → operand_eq b c ≡ true → operand_eq a c ≡ true
operand_trans (operand.Int m) (operand.Int n) c e f = subst (λ k. operand_eq (operand.Int k) c ≡ true) (sym (eqb-true m n e)) f
operand_trans (operand.Int m) b c e f = never e
operand_trans operand.Null operand.Null c e f = f
operand_trans operand.Null b c e f = never e
operand_trans operand.Undef operand.Undef c e f = f
operand_trans operand.Undef operand.Poison c e f = f
operand_trans operand.Undef b c e f = never e
operand_trans operand.Poison operand.Undef c e f = f
operand_trans operand.Poison operand.Poison c e f = f
operand_trans operand.Poison b c e f = never e
operand_trans (operand.Local x) (operand.Local y) c e f = subst (λ z. operand_eq (operand.Local z) c ≡ true) (sym (name_same x y e)) f
operand_trans (operand.Local x) b c e f = never e
operand_trans (operand.Global x) (operand.Global y) c e f = subst (λ z. operand_eq (operand.Global z) c ≡ true) (sym (name_same x y e)) f
operand_trans (operand.Global x) b c e f = never e
operand_trans (operand.Offset x ss) (operand.Offset y ts) (operand.Offset z us) e f =
    let one = and_parts (name_eq x y) (steps_eq ss ts) e in
    let other = and_parts (name_eq y z) (steps_eq ts us) f in
    both (subst (λ w. name_eq w z ≡ true) (sym (name_same x y one.0)) other.0) (steps_trans ss ts us one.1 other.1)
operand_trans (operand.Offset x ss) (operand.Offset y ts) c e f = never f
operand_trans (operand.Offset x ss) b c e f = never e
