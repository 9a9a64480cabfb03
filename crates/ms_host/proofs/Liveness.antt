-- Parts of good accesses, and where live addresses stand.
use Rattle.std.proofs.Common.{◌≡◌, ℕ, ◌+◌, ◌<◌, ◌≤◌, ◌^◌, ◌*◌, Bool, true, false, List, [], ◌∷◌, ap, sym, refl, ◌∙◌, arith, ⊎_elim, is_some, Option, Some, cond, leb, eqb, ◌&&◌, ◌||◌, IsTrue}
use Rattle.std.specs.List.{find}
use Rattle.std.proofs.lemmas.Bool.{and_parts, and_from, or_cases, leb-true, le-leb, eqb-true, cases_Bool}
use Rattle.ms_alloc.specs.declared.allocations.Allocation.{Allocation as Entry}
use Rattle.ms_alloc.specs.Allocations.{Allocations, IsLaidOut, listed, covers as has_range, is_good as is_live}
use Rattle.ms_planes.proofs.Reaches.{good-reaches}

pass-on : (b : Bool) (a : Entry) (o : Option Entry) → is_some o ≡ true → is_some (cond b (Some a) o) ≡ true
pass-on true a o e = refl
pass-on false a o e = e

found-too : (p q : Entry → Bool) → ((a : Entry) → p a ≡ true → q a ≡ true) → (xs : List Entry) → is_some (find p xs) ≡ true → is_some (find q xs) ≡ true
found-too p q weaker [] e = absurd (cc)
found-too p q weaker (a ∷ as') e = ⊎_elim
    (λ (h : p a ≡ true). ap (λ (c : Bool). is_some (cond c (Some a) (find q as'))) (weaker a h))
    (λ (h : p a ≡ false). pass-on (q a) a (find q as') (found-too p q weaker as' (ap (λ (c : Bool). is_some (cond c (Some a) (find p as'))) (sym h) ∙ e)))
    (cases_Bool (p a))

covers-part : (addr n k : ℕ) → k < n → (a : Entry) → has_range addr n a ≡ true → has_range (addr + k) 1 a ≡ true
covers-part addr n k l a e =
    let parts : (a.live && leb a.base addr ≡ true) × (leb (addr + n) (a.base + a.size) ≡ true) = and_parts _ _ e in
    let front : (a.live ≡ true) × (leb a.base addr ≡ true) = and_parts _ _ parts.0 in
    and_from _ _
    (and_from _ _ front.0 (le-leb a.base (addr + k) (omega (arith, leb-true a.base addr front.1))))
    (le-leb (addr + k + 1) (a.base + a.size) (omega (arith, leb-true (addr + n) (a.base + a.size) parts.1)))

pub part-live : (t : Allocations) (addr n k : ℕ) → IsTrue (is_live addr n t) → k < n → IsTrue (is_live (addr + k) 1 t)
part-live t addr n k good l = ⊎_elim
    (λ (h : eqb n 0 ≡ true). absurd (omega (arith, eqb-true n 0 h)))
    (λ (h : is_some (find (has_range addr n) (listed t)) ≡ true). found-too (has_range addr n) (has_range (addr + k) 1) (covers-part addr n k l) (listed t) h)
    (or_cases _ _ good)

covers-range : (addr n k j : ℕ) → k + j ≤ n → (a : Entry) → has_range addr n a ≡ true → has_range (addr + k) j a ≡ true
covers-range addr n k j l a e =
    let parts : (a.live && leb a.base addr ≡ true) × (leb (addr + n) (a.base + a.size) ≡ true) = and_parts _ _ e in
    let front : (a.live ≡ true) × (leb a.base addr ≡ true) = and_parts _ _ parts.0 in
    and_from _ _
    (and_from _ _ front.0 (le-leb a.base (addr + k) (omega (arith, leb-true a.base addr front.1))))
    (le-leb (addr + k + j) (a.base + a.size) (omega (arith, l, leb-true (addr + n) (a.base + a.size) parts.1)))

-- some of the bytes of a good access
pub range-live : (t : Allocations) (addr n k j : ℕ) → IsTrue (is_live addr n t) → k + j ≤ n → IsTrue (is_live (addr + k) j t)
range-live t addr n k j good l = ⊎_elim
    (λ (h : eqb n 0 ≡ true). let none : j ≡ 0 = omega (arith, l, eqb-true n 0 h) in ap (λ i. eqb i 0 || is_some (find (has_range (addr + k) i) (listed t))) none)
    (λ (h : is_some (find (has_range addr n) (listed t)) ≡ true). either (eqb j 0) _ (found-too (has_range addr n) (has_range (addr + k) j) (covers-range addr n k j l) (listed t) h))
    (or_cases _ _ good)
  where
    either : (b c : Bool) → c ≡ true → (b || c) ≡ true
    either true c e = refl
    either false c e = e

-- a live address is below the end of the stack's area
pub live-low : (t : Allocations) (x : ℕ) → IsLaidOut t → IsTrue (is_live x 1 t) → x < 0x73 * 2 ^ 40
live-low t x laid live = (good-reaches t x 1 laid (omega arith) live).area

pub not-live : (t : Allocations) (x : ℕ) → IsLaidOut t → 2 ^ 64 ≤ x → is_live x 1 t ≡ false
not-live t x laid high = ⊎_elim
    (λ (e : is_live x 1 t ≡ true). absurd (omega (arith, live-low t x laid e)))
    (λ (e : is_live x 1 t ≡ false). e)
    (cases_Bool (is_live x 1 t))
