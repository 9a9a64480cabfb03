-- The equality of names and of types is an equivalence.
use Rattle.std.specs.Prelude.{◌≡◌, Bool, true, false, ◌&&◌, nat_eq, refl}
use Rattle.std.proofs.Common.{sym, true≢false}
use Rattle.std.specs.Bool.{beq}
use Rattle.std.specs.Cmp.{IsEquivalence, nat_eq_equiv, first_so, second_so}
use Rattle.std.specs.Cmp.Lexicographic.{nat_list_eq_equiv}
use Rattle.ms_ir.specs.declared.syntax.Name.{Name}
use Rattle.ms_ir.specs.declared.syntax.Name.TheVariants.{Number, Text}
use Rattle.ms_ir.specs.declared.syntax.Ty.{Ty, Int, Ptr, Array', Struct', Named, Row_of-Ty, end_of-Ty, more_of-Ty}
use Rattle.ms_ir.specs.Names.{name_eq}
use Rattle.ms_ir.specs.Equal.{type_eq, row_eq}

-- a false premise
never : {A : Type 0} → false ≡ true → A
never h = absurd (true≢false (sym h))

-- both parts agree
both : (a b : Bool) {c d e f : Bool} → (a && b) ≡ true → (a ≡ true → c ≡ e) → (b ≡ true → d ≡ f) → (c && d) ≡ (e && f)
both a b h p q = λ i. p (first_so a b h) i && q (second_so a b h) i

-- ---- names

name_itself : (x : Name) → name_eq x x ≡ true
name_itself (Number n) = nat_eq_equiv.refl n
name_itself (Text x) = nat_list_eq_equiv.refl x

name_symm : (x y : Name) → name_eq x y ≡ name_eq y x
name_symm (Number m) (Number n) = nat_eq_equiv.symm m n
name_symm (Number m) (Text y) = refl
name_symm (Text x) (Number n) = refl
name_symm (Text x) (Text y) = nat_list_eq_equiv.symm x y

name_congr : (x y z : Name) → name_eq x y ≡ true → name_eq x z ≡ name_eq y z
name_congr (Number m) (Number n) (Number k) h = nat_eq_equiv.congr m n k h
name_congr (Number m) (Number n) (Text z) h = refl
name_congr (Number m) (Text y) z h = never h
name_congr (Text x) (Number n) z h = never h
name_congr (Text x) (Text y) (Number k) h = refl
name_congr (Text x) (Text y) (Text z) h = nat_list_eq_equiv.congr x y z h

-- ---- packed or not

beq_itself : (p : Bool) → beq p p ≡ true
beq_itself true = refl
beq_itself false = refl

beq_symm : (p q : Bool) → beq p q ≡ beq q p
beq_symm true true = refl
beq_symm true false = refl
beq_symm false true = refl
beq_symm false false = refl

beq_congr : (p q h : Bool) → beq p q ≡ true → beq p h ≡ beq q h
beq_congr true true h e = refl
beq_congr true false h e = never e
beq_congr false true h e = never e
beq_congr false false h e = refl

-- ---- types

mutual
  type_itself : (t : Ty) → type_eq t t ≡ true
  type_itself (Int m) = nat_eq_equiv.refl m
  type_itself Ptr = refl
  type_itself (Array' m s ts) = λ i. nat_eq_equiv.refl m i && row_itself ts i
  type_itself (Struct' p s ts) = λ i. beq_itself p i && row_itself ts i
  type_itself (Named x) = name_itself x

  row_itself : {m : _} (ts : Row_of-Ty m) → row_eq ts ts ≡ true
  row_itself end_of-Ty = refl
  row_itself (more_of-Ty t ts) = λ i. type_itself t i && row_itself ts i

mutual
  type_symm : (t u : Ty) → type_eq t u ≡ type_eq u t
  type_symm (Int m) (Int n) = nat_eq_equiv.symm m n
  type_symm (Int m) Ptr = refl
  type_symm (Int m) (Array' n r us) = refl
  type_symm (Int m) (Struct' q r us) = refl
  type_symm (Int m) (Named y) = refl
  type_symm Ptr (Int n) = refl
  type_symm Ptr Ptr = refl
  type_symm Ptr (Array' n r us) = refl
  type_symm Ptr (Struct' q r us) = refl
  type_symm Ptr (Named y) = refl
  type_symm (Array' m s ts) (Int n) = refl
  type_symm (Array' m s ts) Ptr = refl
  type_symm (Array' m s ts) (Array' n r us) = λ i. nat_eq_equiv.symm m n i && row_symm ts us i
  type_symm (Array' m s ts) (Struct' q r us) = refl
  type_symm (Array' m s ts) (Named y) = refl
  type_symm (Struct' p s ts) (Int n) = refl
  type_symm (Struct' p s ts) Ptr = refl
  type_symm (Struct' p s ts) (Array' n r us) = refl
  type_symm (Struct' p s ts) (Struct' q r us) = λ i. beq_symm p q i && row_symm ts us i
  type_symm (Struct' p s ts) (Named y) = refl
  type_symm (Named x) (Int n) = refl
  type_symm (Named x) Ptr = refl
  type_symm (Named x) (Array' n r us) = refl
  type_symm (Named x) (Struct' q r us) = refl
  type_symm (Named x) (Named y) = name_symm x y

  row_symm : {m n : _} (ts : Row_of-Ty m) (us : Row_of-Ty n) → row_eq ts us ≡ row_eq us ts
  row_symm end_of-Ty end_of-Ty = refl
  row_symm end_of-Ty (more_of-Ty u us) = refl
  row_symm (more_of-Ty t ts) end_of-Ty = refl
  row_symm (more_of-Ty t ts) (more_of-Ty u us) = λ i. type_symm t u i && row_symm ts us i

mutual
  type_congr : (t u v : Ty) → type_eq t u ≡ true → type_eq t v ≡ type_eq u v
  type_congr (Int m) (Int n) (Int k) e = nat_eq_equiv.congr m n k e
  type_congr (Int m) (Int n) Ptr e = refl
  type_congr (Int m) (Int n) (Array' k u vs) e = refl
  type_congr (Int m) (Int n) (Struct' h u vs) e = refl
  type_congr (Int m) (Int n) (Named z) e = refl
  type_congr (Int m) Ptr v e = never e
  type_congr (Int m) (Array' n r us) v e = never e
  type_congr (Int m) (Struct' q r us) v e = never e
  type_congr (Int m) (Named y) v e = never e
  type_congr Ptr (Int n) v e = never e
  type_congr Ptr Ptr (Int k) e = refl
  type_congr Ptr Ptr Ptr e = refl
  type_congr Ptr Ptr (Array' k u vs) e = refl
  type_congr Ptr Ptr (Struct' h u vs) e = refl
  type_congr Ptr Ptr (Named z) e = refl
  type_congr Ptr (Array' n r us) v e = never e
  type_congr Ptr (Struct' q r us) v e = never e
  type_congr Ptr (Named y) v e = never e
  type_congr (Array' m s ts) (Int n) v e = never e
  type_congr (Array' m s ts) Ptr v e = never e
  type_congr (Array' m s ts) (Array' n r us) (Int k) e = refl
  type_congr (Array' m s ts) (Array' n r us) Ptr e = refl
  type_congr (Array' m s ts) (Array' n r us) (Array' k u vs) e = both (nat_eq m n) (row_eq ts us) e (nat_eq_equiv.congr m n k) (row_congr ts us vs)
  type_congr (Array' m s ts) (Array' n r us) (Struct' h u vs) e = refl
  type_congr (Array' m s ts) (Array' n r us) (Named z) e = refl
  type_congr (Array' m s ts) (Struct' q r us) v e = never e
  type_congr (Array' m s ts) (Named y) v e = never e
  type_congr (Struct' p s ts) (Int n) v e = never e
  type_congr (Struct' p s ts) Ptr v e = never e
  type_congr (Struct' p s ts) (Array' n r us) v e = never e
  type_congr (Struct' p s ts) (Struct' q r us) (Int k) e = refl
  type_congr (Struct' p s ts) (Struct' q r us) Ptr e = refl
  type_congr (Struct' p s ts) (Struct' q r us) (Array' k u vs) e = refl
  type_congr (Struct' p s ts) (Struct' q r us) (Struct' h u vs) e = both (beq p q) (row_eq ts us) e (beq_congr p q h) (row_congr ts us vs)
  type_congr (Struct' p s ts) (Struct' q r us) (Named z) e = refl
  type_congr (Struct' p s ts) (Named y) v e = never e
  type_congr (Named x) (Int n) v e = never e
  type_congr (Named x) Ptr v e = never e
  type_congr (Named x) (Array' n r us) v e = never e
  type_congr (Named x) (Struct' q r us) v e = never e
  type_congr (Named x) (Named y) (Int k) e = refl
  type_congr (Named x) (Named y) Ptr e = refl
  type_congr (Named x) (Named y) (Array' k u vs) e = refl
  type_congr (Named x) (Named y) (Struct' h u vs) e = refl
  type_congr (Named x) (Named y) (Named z) e = name_congr x y z e

  row_congr : {m n k : _} (ts : Row_of-Ty m) (us : Row_of-Ty n) (vs : Row_of-Ty k) → row_eq ts us ≡ true → row_eq ts vs ≡ row_eq us vs
  row_congr end_of-Ty end_of-Ty vs e = refl
  row_congr end_of-Ty (more_of-Ty u us) vs e = never e
  row_congr (more_of-Ty t ts) end_of-Ty vs e = never e
  row_congr (more_of-Ty t ts) (more_of-Ty u us) end_of-Ty e = refl
  row_congr (more_of-Ty t ts) (more_of-Ty u us) (more_of-Ty v vs) e = both (type_eq t u) (row_eq ts us) e (type_congr t u v) (row_congr ts us vs)

pub type_eq_equiv : IsEquivalence type_eq
type_eq_equiv = record { refl = type_itself; symm = type_symm; congr = type_congr }
