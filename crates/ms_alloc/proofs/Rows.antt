-- Rows of allocations: where each stands, and that a row grows and shrinks at its end.
use Rattle.std.proofs.Common.{◌≡◌, ℕ, zero, suc, ◌+◌, ◌-◌, ◌<◌, ◌≤◌, List, [], ◌∷◌, ◌++◌, length, get_or, arith, refl, sym, ap, ◌∙◌, set, subst, ◌^◌}
use Rattle.std.specs.List.Sorted.{IsNonDecreasingBy}
use Rattle.ms_alloc.specs.declared.kinds.AllocKind.{AllocKind}
use Rattle.ms_alloc.specs.declared.kinds.AllocKind.TheVariants.{Fixed, Heap, Stack}
use Rattle.ms_alloc.specs.declared.allocations.Allocation.{Allocation}
use Rattle.ms_alloc.specs.Layout.{room, area_base, area_limit}
use Rattle.ms_alloc.specs.Allocations.{IsRow, IsArea, used}

-- an allocation doesn't begin before its row does
pub row-from : (k : AllocKind) (b : ℕ) (xs : List Allocation) → IsRow k b xs → (i : ℕ) (d : Allocation) → i < length xs → b ≤ (get_or xs i d).base
row-from k b [] r i d h = absurd (omega arith)
row-from k b (a ∷ as') r zero d h = omega (arith, r.0)
row-from k b (a ∷ as') r (suc i) d h = omega (arith, row-from k (b + room a.size) as' r.2 i d (omega arith))

-- an allocation and what it takes end within the row
pub row-to : (k : AllocKind) (b : ℕ) (xs : List Allocation) → IsRow k b xs → (i : ℕ) (d : Allocation) → i < length xs → (get_or xs i d).base + room (get_or xs i d).size ≤ b + used xs
row-to k b [] r i d h = absurd (omega arith)
row-to k b (a ∷ as') r zero d h = omega (arith, r.0)
row-to k b (a ∷ as') r (suc i) d h = omega (arith, row-to k (b + room a.size) as' r.2 i d (omega arith))

-- a later allocation begins no earlier than where an earlier one ends
pub row-apart : (k : AllocKind) (b : ℕ) (xs : List Allocation) → IsRow k b xs → (i j : ℕ) (d : Allocation) → i < j → j < length xs → (get_or xs i d).base + room (get_or xs i d).size ≤ (get_or xs j d).base
row-apart k b [] r i j d h g = absurd (omega arith)
row-apart k b (a ∷ as') r i zero d h g = absurd (omega arith)
row-apart k b (a ∷ as') r zero (suc j) d h g = omega (arith, r.0, row-from k (b + room a.size) as' r.2 j d (omega arith))
row-apart k b (a ∷ as') r (suc i) (suc j) d h g = row-apart k (b + room a.size) as' r.2 i j d (omega arith) (omega arith)

-- the bases rise
pub row-rises : (k : AllocKind) (b : ℕ) (xs : List Allocation) → IsRow k b xs → IsNonDecreasingBy (λ a. a.base) xs
row-rises k b [] r i j d h g = absurd (omega arith)
row-rises k b (a ∷ as') r zero zero d h g = omega arith
row-rises k b (a ∷ as') r zero (suc j) d h g = omega (arith, r.0, row-from k (b + room a.size) as' r.2 j d (omega arith))
row-rises k b (a ∷ as') r (suc i) zero d h g = absurd (omega arith)
row-rises k b (a ∷ as') r (suc i) (suc j) d h g = row-rises k (b + room a.size) as' r.2 i j d (omega arith) (omega arith)

-- one more allocation, where the row ends
pub row-append : (k : AllocKind) (b : ℕ) (xs : List Allocation) (x : Allocation) → IsRow k b xs → x.base ≡ b + used xs → x.kind ≡ k → IsRow k b (xs ++ x ∷ [])
row-append k b [] x r e f = (omega (arith, e), f, tt)
row-append k b (a ∷ as') x r e f = (r.0, r.1, row-append k (b + room a.size) as' x r.2 (omega (arith, e)) f)

-- one less
pub row-front : (k : AllocKind) (b : ℕ) (xs : List Allocation) (x : Allocation) → IsRow k b (xs ++ x ∷ []) → IsRow k b xs
row-front k b [] x r = tt
row-front k b (a ∷ as') x r = (r.0, r.1, row-front k (b + room a.size) as' x r.2)

-- the last one begins where those before it end
pub row-last : (k : AllocKind) (b : ℕ) (xs : List Allocation) (j : ℕ) (d : Allocation) → IsRow k b xs → j + 1 ≡ length xs → (get_or xs j d).base + room (get_or xs j d).size ≡ b + used xs
row-last k b [] j d r h = absurd (omega arith)
row-last k b (a ∷ []) zero d r h = omega (arith, r.0)
row-last k b (a ∷ (a' ∷ as')) zero d r h = absurd (omega arith)
row-last k b (a ∷ as') (suc j) d r h = omega (arith, row-last k (b + room a.size) as' j d r.2 (omega arith))

-- no area takes more than the heap
pub limit-le : (k : AllocKind) → area_limit k ≤ 2 ^ 26
limit-le Fixed = omega arith
limit-le Heap = omega arith
limit-le Stack = omega arith

pub size-le : (n : ℕ) → n ≤ room n
size-le n = omega arith

-- what the last allocation of an area tells
pub record Ends (k : AllocKind) (xs : List Allocation) (l : Allocation) : Type 0 where
  pub above : area_base k ≤ l.base
  pub ends : l.base + room l.size ≡ area_base k + used xs
  pub small : l.size ≤ 2 ^ 26
  pub used_small : used xs ≤ 2 ^ 26

pub last-ends : (k : AllocKind) (xs : List Allocation) (l : Allocation) → IsArea k xs → 0 < length xs → l ≡ get_or xs (length xs - 1) l → Ends k xs l
last-ends k xs l area some is =
    let j : ℕ = length xs - 1 in
    let from : area_base k ≤ (get_or xs j l).base = row-from k _ xs area.row j l (omega arith) in
    let ends : (get_or xs j l).base + room (get_or xs j l).size ≡ area_base k + used xs = row-last k _ xs j l area.row (omega arith) in
    let P : Allocation → Type 0 = λ a. (area_base k ≤ a.base) × (a.base + room a.size ≡ area_base k + used xs) in
    let both : P l = subst P (sym is) (from, ends) in
    record {
      above = both.0;
      ends = both.1;
      small = omega (arith, both.0, both.1, size-le l.size, area.within, limit-le k);
      used_small = omega (arith, area.within, limit-le k);
    }

pub used-append : (xs : List Allocation) (x : Allocation) → used (xs ++ x ∷ []) ≡ used xs + room x.size
used-append [] x = omega arith
used-append (a ∷ as') x = omega (arith, used-append as' x)

-- an area with one more allocation, within its limit
pub area-append : (k : AllocKind) (xs : List Allocation) (x : Allocation) → IsArea k xs → x.base ≡ area_base k + used xs → x.kind ≡ k → used xs + room x.size ≤ area_limit k → IsArea k (xs ++ x ∷ [])
area-append k xs x area e f fits = record {
  row = row-append k _ xs x area.row e f;
  within = omega (arith, used-append xs x);
}

pub area-front : (k : AllocKind) (xs : List Allocation) (x : Allocation) → IsArea k (xs ++ x ∷ []) → IsArea k xs
area-front k xs x area = record {
  row = row-front k _ xs x area.row;
  within = omega (arith, used-append xs x, area.within);
}

-- an allocation of which neither place nor kind changes
pub row-set : (k : AllocKind) (b : ℕ) (xs : List Allocation) (i : ℕ) (d y : Allocation) → IsRow k b xs → y.base ≡ (get_or xs i d).base → y.size ≡ (get_or xs i d).size → y.kind ≡ (get_or xs i d).kind → IsRow k b (set xs i y)
row-set k b [] i d y r e f g = tt
row-set k b (a ∷ as') zero d y r e f g = (e ∙ r.0, g ∙ r.1, subst (λ n. IsRow k (b + room n) as') (sym f) r.2)
row-set k b (a ∷ as') (suc i) d y r e f g = (r.0, r.1, row-set k (b + room a.size) as' i d y r.2 e f g)

pub used-set : (xs : List Allocation) (i : ℕ) (d y : Allocation) → y.size ≡ (get_or xs i d).size → used (set xs i y) ≡ used xs
used-set [] i d y f = refl
used-set (a ∷ as') zero d y f = ap (λ n. room n + used as') f
used-set (a ∷ as') (suc i) d y f = ap (λ n. room a.size + n) (used-set as' i d y f)

pub area-set : (k : AllocKind) (xs : List Allocation) (i : ℕ) (d y : Allocation) → IsArea k xs → y.base ≡ (get_or xs i d).base → y.size ≡ (get_or xs i d).size → y.kind ≡ (get_or xs i d).kind → IsArea k (set xs i y)
area-set k xs i d y area e f g = record {
  row = row-set k _ xs i d y area.row e f g;
  within = omega (arith, used-set xs i d y f, area.within);
}
