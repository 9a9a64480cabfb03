-- A good range lies within what the allocations of its area take.
use Rattle.std.proofs.Common.{◌≡◌, ℕ, ◌+◌, ◌-◌, ◌*◌, ◌/◌, ◌%◌, ◌^◌, ◌<◌, ◌≤◌, true, false, List, [], ◌∷◌, ◌++◌, get_or, refl, sym, ap, ◌∙◌, arith, ◌⊎◌, inl, inr, ⊎_elim, is_some, Option, Some, None, cond, leb, eqb, ltb, ◌&&◌, IsTrue, if◌then◌else◌}
use Rattle.std.specs.List.{find}
use Rattle.std.specs.Option.{option_or}
use Rattle.std.proofs.lemmas.Bool.{and_parts, or_cases, leb-true, eqb-true, cases_Bool, le-ltb}
use Rattle.std.proofs.lemmas.List.Folds.{find-append}
use Rattle.ms_alloc.specs.declared.kinds.AllocKind.{AllocKind}
use Rattle.ms_alloc.specs.declared.kinds.AllocKind.TheVariants.{Fixed, Heap, Stack}
use Rattle.ms_alloc.specs.declared.allocations.Allocation.{Allocation}
use Rattle.ms_alloc.specs.Layout.{room, area_base}
use Rattle.ms_alloc.specs.Allocations.{Allocations, IsRow, IsArea, IsLaidOut, used, covers, listed, is_good}

-- the areas begin 2^40 bytes apart, and stand in this order
abbrev pub area_of : ℕ → ℕ
area_of addr = if ltb addr (0x70 * 2 ^ 40) then 3 else addr / 2 ^ 40 - 0x70

-- what the allocations of each area take
abbrev pub taken : Allocations → List ℕ
taken t = used t.fixed ∷ used t.heap ∷ used t.stack ∷ []

-- which area an address has
area_at : (x : ℕ) → 0x70 * 2 ^ 40 ≤ x → area_of x ≡ x / 2 ^ 40 - 0x70
area_at x low = ap (λ b. if b then 3 else x / 2 ^ 40 - 0x70) (le-ltb x (0x70 * 2 ^ 40) low)

-- a range of at least one byte within what is taken
pub record Reaches (sizes : List ℕ) (addr n : ℕ) : Type 0 where
  pub some : 0 < n
  pub low : 0x70 * 2 ^ 40 ≤ addr
  pub area : addr < 0x73 * 2 ^ 40
  pub within : addr % 2 ^ 40 + n ≤ get_or sizes (area_of addr) 0
  pub apart : get_or sizes (area_of addr) 0 ≤ 2 ^ 26
  pub even : get_or sizes (area_of addr) 0 % 4 ≡ 0

pub some-or : (a b : Option Allocation) → is_some (option_or a b) ≡ true → (is_some a ≡ true) ⊎ (is_some b ≡ true)
some-or None b e = inr e
some-or (Some x) b e = inl refl

pub used-even : (xs : List Allocation) → used xs % 4 ≡ 0
used-even [] = refl
used-even (a ∷ as') = omega (arith, used-even as')

-- an allocation of a row that covers a range holds it within the row
pub row-found : (k : AllocKind) (b : ℕ) (xs : List Allocation) (addr n : ℕ) → IsRow k b xs → is_some (find (covers addr n) xs) ≡ true → (b ≤ addr) × (addr + n ≤ b + used xs)
row-found k b [] addr n r e = absurd (cc)
row-found k b (a ∷ as') addr n r e = ⊎_elim
    (λ (h : covers addr n a ≡ true).
    let parts : (a.live && leb a.base addr ≡ true) × (leb (addr + n) (a.base + a.size) ≡ true) = and_parts _ _ h in
    let low : a.base ≤ addr = leb-true _ _ (and_parts a.live (leb a.base addr) parts.0).1 in
    let high : addr + n ≤ a.base + a.size = leb-true _ _ parts.1 in
    (omega (arith, low, r.0), omega (arith, high, r.0)))
    (λ (h : covers addr n a ≡ false).
    let rest : (b + room a.size ≤ addr) × (addr + n ≤ b + room a.size + used as') =
    row-found k (b + room a.size) as' addr n r.2 (ap (λ c. is_some (cond c (Some a) (find (covers addr n) as'))) (sym h) ∙ e) in
    (omega (arith, rest.0), omega (arith, rest.1)))
    (cases_Bool (covers addr n a))

pub reaches-area : (k : AllocKind) (xs : List Allocation) (addr n : ℕ) → IsArea k xs → is_some (find (covers addr n) xs) ≡ true → (area_base k ≤ addr) × (addr + n ≤ area_base k + used xs)
reaches-area k xs addr n area e = row-found k (area_base k) xs addr n area.row e

pub good-reaches : (t : Allocations) (addr n : ℕ) → IsLaidOut t → 0 < n → IsTrue (is_good addr n t) → Reaches (taken t) addr n
good-reaches t addr n laid some good =
    ⊎_elim
    (λ (h : eqb n 0 ≡ true). absurd (omega (arith, eqb-true n 0 h)))
    (λ (h : is_some (find (covers addr n) (listed t)) ≡ true).
    ⊎_elim
    (λ (g : is_some (find (covers addr n) (t.fixed ++ t.heap)) ≡ true). ⊎_elim
    (λ (f : is_some (find (covers addr n) t.fixed) ≡ true).
    let b : (area_base Fixed ≤ addr) × (addr + n ≤ area_base Fixed + used t.fixed) = reaches-area Fixed t.fixed addr n laid.fixed f in
    let w : used t.fixed ≤ 2 ^ 24 = laid.fixed.within in
    let at : area_of addr ≡ 0 = area_at addr b.0 ∙ (let e : addr / 2 ^ 40 - 0x70 ≡ 0 = omega (arith, b.0, b.1, w) in e) in
    at-area 0 (used t.fixed) (omega arith) (used-even t.fixed) at refl b.0 b.1 (omega (arith, w)))
    (λ (f : is_some (find (covers addr n) t.heap) ≡ true).
    let b : (area_base Heap ≤ addr) × (addr + n ≤ area_base Heap + used t.heap) = reaches-area Heap t.heap addr n laid.heap f in
    let w : used t.heap ≤ 2 ^ 26 = laid.heap.within in
    let at : area_of addr ≡ 1 = area_at addr (omega (arith, b.0)) ∙ (let e : addr / 2 ^ 40 - 0x70 ≡ 1 = omega (arith, b.0, b.1, w) in e) in
    at-area 1 (used t.heap) (omega arith) (used-even t.heap) at refl b.0 b.1 (omega (arith, w)))
    (some-or _ _ (ap is_some (sym (find-append (covers addr n) t.fixed t.heap)) ∙ g)))
    (λ (f : is_some (find (covers addr n) t.stack) ≡ true).
    let b : (area_base Stack ≤ addr) × (addr + n ≤ area_base Stack + used t.stack) = reaches-area Stack t.stack addr n laid.stack f in
    let w : used t.stack ≤ 2 ^ 20 = laid.stack.within in
    let at : area_of addr ≡ 2 = area_at addr (omega (arith, b.0)) ∙ (let e : addr / 2 ^ 40 - 0x70 ≡ 2 = omega (arith, b.0, b.1, w) in e) in
    at-area 2 (used t.stack) (omega arith) (used-even t.stack) at refl b.0 b.1 (omega (arith, w)))
    (some-or _ _ (ap is_some (sym (find-append (covers addr n) (t.fixed ++ t.heap) t.stack)) ∙ h)))
    (or_cases _ _ good)
  where
    at-area : (i u : ℕ) → i < 3 → u % 4 ≡ 0 → area_of addr ≡ i → get_or (taken t) i 0 ≡ u → (0x70 + i) * 2 ^ 40 ≤ addr → addr + n ≤ (0x70 + i) * 2 ^ 40 + u → u ≤ 2 ^ 26 → Reaches (taken t) addr n
    at-area i u known even at is low high small = record {
      some = some;
      low = omega (arith, low);
      area = omega (arith, high, small, some, at, area_at addr (omega (arith, low)), known);
      within = omega (arith, high, low, small, here, at, area_at addr (omega (arith, low)));
      apart = omega (arith, here);
      even = ap (λ (v : ℕ). v % 4) here ∙ even;
    }
      where
        here : get_or (taken t) (area_of addr) 0 ≡ u
        here = ap (λ (j : ℕ). get_or (taken t) j 0) at ∙ is
