-- Numbers of allocations, one for each 16 bytes that they take.
use Rattle.std.proofs.Common.{◌≡◌, ℕ, zero, suc, ◌+◌, ◌-◌, ◌*◌, ◌/◌, ◌^◌, ◌<◌, ◌≤◌, List, [], ◌∷◌, ◌++◌, length, get_or, set, take, replicate, arith, refl, sym, ap, subst, ◌∙◌, inr, ⊎_elim, false, Result, Ok, Err, is_ok, is_err, if◌then◌else◌}
use Rattle.std.proofs.lemmas.Bool.{cases_lt}
use Rattle.std.proofs.lemmas.List.{append-nil, append_assoc, length-append, length-replicate, take_all, get_or_default, get_or_append_left, get_or-append_right, get_or-replicate}
use Rattle.ms_alloc.specs.declared.kinds.AllocKind.{AllocKind}
use Rattle.ms_alloc.specs.declared.allocations.Allocation.{Allocation}
use Rattle.ms_alloc.specs.Layout.{room, area_base}
use Rattle.ms_alloc.specs.Allocations.{IsRow, IsArea, used}
use Rattle.ms_alloc.specs.Owners.{owners_of, IsOwned, Has, IsOutside}
use Rattle.ms_alloc.proofs.Rows.{used-append, used-set}

-- there is a number for each 16 bytes
pub owners-length : (i : ℕ) (xs : List Allocation) → 16 * length (owners_of i xs) ≡ used xs
owners-length i [] = refl
owners-length i (a ∷ as') =
    omega (arith, length-append (replicate (room a.size / 16) i) (owners_of (i + 1) as'), length-replicate (room a.size / 16) i, owners-length (i + 1) as')

-- and no more allocations than numbers
pub count-used : (xs : List Allocation) → 16 * length xs ≤ used xs
count-used [] = omega arith
count-used (a ∷ as') = omega (arith, count-used as')

-- a number names the allocation that takes the 16 bytes
pub record Names (xs : List Allocation) (i addr o : ℕ) : Type 0 where
  pub from : i ≤ o
  pub has : Has xs addr (o - i)

pub owner-has : (k : AllocKind) (b i : ℕ) (xs : List Allocation) (addr o : ℕ) → IsRow k b xs → b ≤ addr → (addr - b) / 16 < length (owners_of i xs) →
    o ≡ get_or (owners_of i xs) ((addr - b) / 16) 0 → Names xs i addr o
owner-has k b i [] addr o row from inside is = absurd (omega (arith, inside))
owner-has k b i (a ∷ as') addr o row from inside is =
    ⊎_elim
    (λ (lt : addr < b + room a.size).
    let place : (addr - b) / 16 < pieces = omega (arith, lt, from) in
    let here : o ≡ i = is ∙ get_or_append_left (replicate pieces i) rest 0 ((addr - b) / 16) (omega (arith, place, count)) ∙ get_or-replicate pieces ((addr - b) / 16) i 0 place in
    let first : 0 ≡ o - i = omega (arith, here) in
    let top : Has (a ∷ as') addr 0 = record { within = omega arith; above = λ d. omega (arith, row.0, from); below = λ d. omega (arith, row.0, lt) } in
    let n : Names (a ∷ as') i addr o = record { from = omega (arith, here); has = subst (Has (a ∷ as') addr) first top } in n)
    (λ (le : b + room a.size ≤ addr).
    let place : (addr - b) / 16 - pieces ≡ (addr - (b + room a.size)) / 16 = omega (arith, le, from) in
    let past : pieces ≤ (addr - b) / 16 = omega (arith, le, from) in
    later (owner-has k (b + room a.size) (i + 1) as' addr o row.2 le (omega (arith, inside, count, place, past, length-append (replicate pieces i) rest))
    (is ∙ get_or-append_right (replicate pieces i) rest pieces ((addr - b) / 16) 0 count past ∙ ap (λ (q : ℕ). get_or rest q 0) place)))
    (cases_lt addr (b + room a.size))
  where
    pieces : ℕ
    pieces = room a.size / 16

    rest : List ℕ
    rest = owners_of (i + 1) as'

    count : length (replicate pieces i) ≡ pieces
    count = length-replicate pieces i

    later : Names as' (i + 1) addr o → Names (a ∷ as') i addr o
    later n =
        let next : suc (o - (i + 1)) ≡ o - i = omega (arith, n.from) in
        let deep : Has (a ∷ as') addr (suc (o - (i + 1))) = record { within = omega (arith, n.has.within); above = n.has.above; below = n.has.below } in
        record { from = omega (arith, n.from); has = subst (Has (a ∷ as') addr) next deep }

pub owner-at : (k : AllocKind) (xs now : List Allocation) (owners : List ℕ) (addr piece o : ℕ) → IsOwned xs owners → xs ≡ now → IsArea k now → area_base k ≤ addr →
    piece ≡ (addr - area_base k) / 16 → piece < length owners → o ≡ get_or owners piece o → Has now addr o
owner-at k xs now owners addr piece o owned same area from at inside is =
    let numbers : owners ≡ owners_of 0 now = owned.same ∙ ap (owners_of 0) same in
    let n : Names now 0 addr o =
    owner-has k (area_base k) 0 now addr o area.row from (omega (arith, inside, at, ap (λ (l : List ℕ). length l) numbers))
    (is ∙ get_or_default owners piece o 0 inside ∙ ap (λ (l : List ℕ). get_or l piece 0) numbers ∙ ap (λ (q : ℕ). get_or (owners_of 0 now) q 0) at) in
    let whole : o - 0 ≡ o = omega arith in
    subst (Has now addr) whole n.has

-- past the numbers no allocation has anything
pub none-past : (k : AllocKind) (xs now : List Allocation) (owners : List ℕ) (addr piece : ℕ) → IsOwned xs owners → xs ≡ now → area_base k ≤ addr →
    piece ≡ (addr - area_base k) / 16 → length owners ≤ piece → IsOutside k now addr
none-past k xs now owners addr piece owned same from at past =
    inr (omega (arith, from, at, past, ap (λ (l : List ℕ). length l) owned.same, owners-length 0 xs, ap used same))

-- one more allocation
pub owners-append : (i : ℕ) (xs : List Allocation) (x : Allocation) → owners_of i (xs ++ x ∷ []) ≡ owners_of i xs ++ replicate (room x.size / 16) (i + length xs)
owners-append i [] x =
    append-nil (replicate (room x.size / 16) i) ∙ ap (λ (j : ℕ). replicate (room x.size / 16) j) (let e : i ≡ i + 0 = omega arith in e)
owners-append i (a ∷ as') x =
    ap (λ (r : List ℕ). replicate (room a.size / 16) i ++ r) (owners-append (i + 1) as' x)
    ∙ sym (append_assoc (replicate (room a.size / 16) i) (owners_of (i + 1) as') (replicate (room x.size / 16) (i + 1 + length as')))
    ∙ ap (λ (j : ℕ). (replicate (room a.size / 16) i ++ owners_of (i + 1) as') ++ replicate (room x.size / 16) j) (let e : i + 1 + length as' ≡ i + suc (length as') = omega arith in e)

pub owned-push : (xs : List Allocation) (x : Allocation) (owners : List ℕ) (n m c : ℕ) → IsOwned xs owners → length owners ≤ n → m ≡ room x.size / 16 → c ≡ length xs → used xs + room x.size ≤ 2 ^ 26 →
    IsOwned (xs ++ x ∷ []) (take n owners ++ replicate m c)
owned-push xs x owners n m c owned within pieces number small = record {
  same = ap (λ (l : List ℕ). l ++ replicate m c) (take_all n owners within ∙ owned.same)
      ∙ ap (λ (j : ℕ). owners_of 0 xs ++ replicate j c) pieces
      ∙ ap (λ (j : ℕ). owners_of 0 xs ++ replicate (room x.size / 16) j) (let e : c ≡ 0 + length xs = omega (arith, number) in e)
      ∙ sym (owners-append 0 xs x);
  small = omega (arith, small, used-append xs x);
}

pub made-ok : {T E : Type 0} (r : Result T E) (new a b : List Allocation) → false ≡ is_err r → new ≡ (if is_ok r then a else b) → new ≡ a
made-ok (Ok x) new a b f e = e
made-ok (Err x) new a b f e = absurd (cc)

-- the first allocations alone
pub take-past : (xs ys : List ℕ) (n j : ℕ) → length xs ≡ n → take (n + j) (xs ++ ys) ≡ xs ++ take j ys
take-past [] ys n j e = ap (λ (m : ℕ). take m ys) (omega (arith, e))
take-past (x ∷ xs) ys n j e =
    ap (λ (m : ℕ). take m (x ∷ (xs ++ ys))) (let f : n + j ≡ suc (length xs + j) = omega (arith, e) in f) ∙ ap (λ (l : List ℕ). x ∷ l) (take-past xs ys (length xs) j refl)

pub owners-take : (i m : ℕ) (xs : List Allocation) → take (used (take m xs) / 16) (owners_of i xs) ≡ owners_of i (take m xs)
owners-take i zero xs = refl
owners-take i (suc m) [] = refl
owners-take i (suc m) (a ∷ as') =
    ap (λ (j : ℕ). take j (replicate (room a.size / 16) i ++ owners_of (i + 1) as')) (let e : (room a.size + used (take m as')) / 16 ≡ room a.size / 16 + used (take m as') / 16 = omega arith in e)
    ∙ take-past (replicate (room a.size / 16) i) (owners_of (i + 1) as') (room a.size / 16) (used (take m as') / 16) (length-replicate (room a.size / 16) i)
    ∙ ap (λ (l : List ℕ). replicate (room a.size / 16) i ++ l) (owners-take (i + 1) m as')

pub used-take : (m : ℕ) (xs : List Allocation) → used (take m xs) ≤ used xs
used-take zero xs = omega arith
used-take (suc m) [] = omega arith
used-take (suc m) (a ∷ as') = omega (arith, used-take m as')

pub owned-front : (xs new : List Allocation) (owners : List ℕ) (m u : ℕ) → IsOwned xs owners → new ≡ take m xs → u ≡ used new → IsOwned new (take (u / 16) owners)
owned-front xs new owners m u owned front is = record {
  same = ap (λ (l : List ℕ). take (u / 16) l) owned.same
      ∙ ap (λ (j : ℕ). take (j / 16) (owners_of 0 xs)) (is ∙ ap used front)
      ∙ owners-take 0 m xs ∙ ap (owners_of 0) (sym front);
  small = omega (arith, owned.small, ap used front, used-take m xs);
}

-- an allocation whose size stays
pub owners-set : (i j : ℕ) (xs : List Allocation) (d y : Allocation) → y.size ≡ (get_or xs j d).size → owners_of i (set xs j y) ≡ owners_of i xs
owners-set i j [] d y f = refl
owners-set i zero (a ∷ as') d y f = ap (λ (n : ℕ). replicate (room n / 16) i ++ owners_of (i + 1) as') f
owners-set i (suc j) (a ∷ as') d y f = ap (λ (l : List ℕ). replicate (room a.size / 16) i ++ l) (owners-set (i + 1) j as' d y f)

pub owned-set : (xs : List Allocation) (j : ℕ) (d y : Allocation) (owners : List ℕ) → IsOwned xs owners → y.size ≡ (get_or xs j d).size → IsOwned (set xs j y) owners
owned-set xs j d y owners owned f = record {
  same = owned.same ∙ sym (owners-set 0 j xs d y f);
  small = omega (arith, owned.small, used-set xs j d y f);
}
