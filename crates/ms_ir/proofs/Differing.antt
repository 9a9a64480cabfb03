-- Lists of types, one item after the other.
use Rattle.std.proofs.Common.{◌≡◌, ◌≢◌, ℕ, suc, List, [], ◌∷◌, Bool, true, false, refl, ap, ◌∙◌, map}
use Rattle.std.specs.Prelude.{◌&&◌, nat_eq, length}
use Rattle.std.specs.Bool.{beq}
use Rattle.std.specs.Cmp.Lexicographic.{pointwise}
use Rattle.std.proofs.lemmas.Bool.{eq-eqb}
use Rattle.std.proofs.lemmas.List.{length-map}
use Rattle.std.proofs.Math.Path.{ap₂}
use Rattle.ms_ir.specs.declared.syntax.Ty.{Ty, Array, Struct, Row_of-Ty, end_of-Ty, more_of-Ty, items-the_row-Ty, items_hidden-the_row-Ty-1}
use Rattle.ms_ir.specs.declared.syntax.Ty.TheBlock.{hidden-the_row-Ty-0, hidden-the_row-Ty-1, shape-the_row-Ty-0}
use Rattle.ms_ir.specs.declared.rows.ParamType.{ParamType}
use Rattle.ms_ir.specs.Rows.{kind_type}
use Rattle.ms_ir.specs.Equal.{AddressStep, type_eq, row_eq, types_eq, indices_eq, steps_eq}

pub and_true : (b : Bool) → (b && true) ≡ b
and_true true = refl
and_true false = refl

pub row_eq-items : (m n : _) (r : Row_of-Ty m) (s : Row_of-Ty n) → row_eq r s ≡ types_eq (items-the_row-Ty m r) (items-the_row-Ty n s)
row_eq-items m n end_of-Ty end_of-Ty = refl
row_eq-items m n end_of-Ty (more_of-Ty u us) = refl
row_eq-items m n (more_of-Ty t ts) end_of-Ty = refl
row_eq-items m n (more_of-Ty t ts) (more_of-Ty u us) = ap (λ b. type_eq t u && b) (row_eq-items _ _ ts us)

pub type_eq-array : (m n : ℕ) (t u : Ty) → type_eq (Array m t) (Array n u) ≡ (nat_eq m n && (type_eq t u && true))
unfolding hidden-the_row-Ty-0 shape-the_row-Ty-0 denote.Hole.Carrier.hidden
type_eq-array m n t u = refl

pub type_eq-struct : (p q : Bool) (ts us : List Ty) → type_eq (Struct p ts) (Struct q us) ≡ (beq p q && types_eq ts us)
type_eq-struct p q ts us =
    ap (λ b. beq p q && b)
    (row_eq-items _ _ (hidden-the_row-Ty-1 ts) (hidden-the_row-Ty-1 us) ∙ ap₂ types_eq (items_hidden-the_row-Ty-1 ts) (items_hidden-the_row-Ty-1 us))

-- arrays of one length are the same where their items are
pub same_arrays : (m n : ℕ) (t u : Ty) → m ≡ n → type_eq (Array m t) (Array n u) ≡ type_eq t u
same_arrays m n t u e = type_eq-array m n t u ∙ ap (λ b. b && (type_eq t u && true)) (eq-eqb m n e) ∙ and_true (type_eq t u)

-- structs are the same where their fields are, if both are packed or none is
pub same_structs : (p q : Bool) (ts us : List Ty) → beq p q ≡ true → type_eq (Struct p ts) (Struct q us) ≡ types_eq ts us
same_structs p q ts us e = type_eq-struct p q ts us ∙ ap (λ b. b && types_eq ts us) e

-- lists of another length differ
pub types_differ : (ts us : List Ty) → length ts ≢ length us → false ≡ types_eq ts us
types_differ [] [] h = absurd (h refl)
types_differ [] (u ∷ us) h = refl
types_differ (t ∷ ts) [] h = refl
types_differ (t ∷ ts) (u ∷ us) h = by_test (type_eq t u) (types_differ ts us (λ e. h (ap suc e)))
  where
    by_test : (b : Bool) → false ≡ types_eq ts us → false ≡ (b && types_eq ts us)
    by_test true e = e
    by_test false e = refl

-- indices are compared one by one
pointwise_indices : (is js : List (Ty × ℕ)) → pointwise (λ i j. type_eq i.0 j.0 && nat_eq i.1 j.1) is js ≡ indices_eq is js
pointwise_indices [] [] = refl
pointwise_indices [] (j ∷ js) = refl
pointwise_indices (i ∷ is) [] = refl
pointwise_indices (i ∷ is) (j ∷ js) = ap (λ b. (type_eq i.0 j.0 && nat_eq i.1 j.1) && b) (pointwise_indices is js)

-- steps are compared one by one
pub pointwise_steps : (ss ts : List AddressStep) → pointwise (λ s t. type_eq s.0 t.0 && pointwise (λ i j. type_eq i.0 j.0 && nat_eq i.1 j.1) s.1 t.1) ss ts ≡ steps_eq ss ts
pointwise_steps [] [] = refl
pointwise_steps [] (t ∷ ts) = refl
pointwise_steps (s ∷ ss) [] = refl
pointwise_steps (s ∷ ss) (t ∷ ts) = ap₂ (λ a b. (type_eq s.0 t.0 && a) && b) (pointwise_indices s.1 t.1) (pointwise_steps ss ts)

-- lists of another length differ, also by kinds
pub kinds_differ : (ts : List Ty) (kinds : List ParamType) → length ts ≢ length kinds → false ≡ types_eq ts (map kind_type kinds)
kinds_differ ts kinds h = types_differ ts (map kind_type kinds) (λ e. h (e ∙ length-map kinds kind_type))
