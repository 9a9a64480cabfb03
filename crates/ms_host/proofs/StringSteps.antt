-- Bytes one after the other, strings, and where allocations end.
use Rattle.std.proofs.Common.{◌≡◌, ◌≢◌, ℕ, zero, suc, ◌+◌, ◌-◌, ◌^◌, ◌<◌, ◌≤◌, Bool, true, false, List, [], ◌∷◌, ◌++◌, map, length, take, drop, get_or, min, refl, sym, ap, ◌∙◌, subst, arith, ⊎_elim, if◌then◌else◌, IsTrue, is_some, Option, Some, None, option_map, unwrap_or, cond, eqb, leb, ltb, append_assoc, ◌&&◌, ◌||◌}
use Rattle.std.specs.List.{find}
use Rattle.std.proofs.lemmas.Bool.{cases_lt, and_parts, and_from, le-leb, leb-true, ne_eqb, eq-eqb, lt-ltb, le-ltb}
use Rattle.std.proofs.lemmas.List.{length-drop, length-take-le, take_min}
use Rattle.std.proofs.Math.Seq.{drop-nil}
use Rattle.std.proofs.Math.ListN.{drop_of_length-le}
use Rattle.ms_alloc.specs.declared.kinds.AllocKind.{AllocKind}
use Rattle.ms_alloc.specs.declared.kinds.AllocKind.TheVariants as kind
use Rattle.ms_alloc.specs.declared.allocations.Allocation.{Allocation as Entry}
use Rattle.ms_alloc.specs.Layout.{area_base as base_of}
use Rattle.ms_alloc.specs.Allocations.{Allocations, IsLaidOut, listed, of_kind, covers as has_range, is_good as is_live, block_of as block_at}
use Rattle.ms_alloc.proofs.Places.{listed-fixed, listed-heap, listed-stack}
use Rattle.ms_planes.proofs.Reaches.{reaches-area}
use Rattle.ms_bits.specs.Maps.{bytes_at, string_within, with_range}
use Rattle.ms_host.specs.Shows.{area_of, allocation_of, in_area, Lists, Shows}
use Rattle.ms_host.proofs.Liveness.{part-live, live-low}
use Rattle.ms_runs.specs.World.{Allocation, World}
use Rattle.ms_ir.specs.Areas.{area_eq}
use Rattle.ms_runs.specs.Memory.{first_that, covers}
use Rattle.ms_runs.specs.Memory.{bytes_left}
use Rattle.ms_runs.specs.Externals.{compared}
use Rattle.ms_planes.specs.Memory.{Memory, bytes_of, shadow_of, origins_of}
use Rattle.ms_planes.proofs.Standing.{areas}
use Rattle.ms_runs.specs.Memory.{set_bytes}
use Rattle.ms_host.specs.State.{WorldState, Beside}
use Rattle.ms_host.proofs.Changes.{live-size, bytes-set}
use Rattle.ms_host.proofs.Tables.{covered-same, own, kind_of}

-- one byte more
pub bytes-more : (f : ℕ → ℕ) (a k : ℕ) → bytes_at f a (k + 1) ≡ bytes_at f a k ++ f (a + k) ∷ []
bytes-more f a zero = let e : a ≡ a + 0 = omega arith in ap (λ (x : ℕ). f x ∷ []) e
bytes-more f a (suc k) =
    let e : a + 1 + k ≡ a + suc k = omega arith in
    let s : suc k + 1 ≡ suc (k + 1) = omega arith in
    ap (bytes_at f a) s ∙ ap (λ (l : List ℕ). f a ∷ l) (bytes-more f (a + 1) k ∙ ap (λ (x : ℕ). bytes_at f (a + 1) k ++ f x ∷ []) e)

pub length-bytes : (f : ℕ → ℕ) (a k : ℕ) → length (bytes_at f a k) ≡ k
length-bytes f a zero = refl
length-bytes f a (suc k) = ap suc (length-bytes f (a + 1) k)

-- the first byte of a string, where it has one
pub string-next : (f : ℕ → ℕ) (a k room : ℕ) → k < room → f (a + k) ≢ 0 → string_within f a room ≡ option_map (λ rest. bytes_at f a k ++ rest) (string_within f (a + k) (room - k)) →
    string_within f a room ≡ option_map (λ rest. bytes_at f a (k + 1) ++ rest) (string_within f (a + (k + 1)) (room - (k + 1)))
string-next f a k room l some before =
    let n : room - k ≡ suc (room - (k + 1)) = omega (arith, l) in
    let b : a + k + 1 ≡ a + (k + 1) = omega arith in
    before ∙ ap (λ (m : ℕ). option_map (λ rest. bytes_at f a k ++ rest) (string_within f (a + k) m)) n
    ∙ ap (λ (c : Bool). option_map (λ rest. bytes_at f a k ++ rest) (if c then Some [] else option_map (λ rest. f (a + k) ∷ rest) (string_within f (a + k + 1) (room - (k + 1))))) (ne_eqb (f (a + k)) 0 some)
    ∙ ap (λ (x : ℕ). option_map (λ rest. bytes_at f a k ++ rest) (option_map (λ rest. f (a + k) ∷ rest) (string_within f x (room - (k + 1))))) b
    ∙ both (string_within f (a + (k + 1)) (room - (k + 1)))
  where
    both : (o : Option (List ℕ)) → option_map (λ rest. bytes_at f a k ++ rest) (option_map (λ rest. f (a + k) ∷ rest) o) ≡ option_map (λ rest. bytes_at f a (k + 1) ++ rest) o
    both None = refl
    both (Some r) = ap Some (sym (append_assoc (bytes_at f a k) (f (a + k) ∷ []) r) ∙ ap (λ (l : List ℕ). l ++ r) (sym (bytes-more f a k)))

pub string-here : (f : ℕ → ℕ) (a k room : ℕ) → k < room → f (a + k) ≡ 0 → string_within f a room ≡ option_map (λ rest. bytes_at f a k ++ rest) (string_within f (a + k) (room - k)) → string_within f a room ≡ Some (bytes_at f a k)
string-here f a k room l none' before =
    let n : room - k ≡ suc (room - (k + 1)) = omega (arith, l) in
    before ∙ ap (λ (m : ℕ). option_map (λ rest. bytes_at f a k ++ rest) (string_within f (a + k) m)) n
    ∙ ap (λ (c : Bool). option_map (λ rest. bytes_at f a k ++ rest) (if c then Some [] else option_map (λ rest. f (a + k) ∷ rest) (string_within f (a + k + 1) (room - (k + 1))))) (eq-eqb (f (a + k)) 0 none')
    ∙ ap Some (none (bytes_at f a k))
  where
    none : (xs : List ℕ) → xs ++ [] ≡ xs
    none [] = refl
    none (x ∷ xs) = ap (λ (ys : List ℕ). x ∷ ys) (none xs)

-- ---- comparing

pub compared-same : (f : ℕ → ℕ) (a b k n : ℕ) → k < n → f (a + k) ≡ f (b + k) →
    compared (bytes_at f (a + k) (n - k)) (bytes_at f (b + k) (n - k)) ≡ compared (bytes_at f (a + (k + 1)) (n - (k + 1))) (bytes_at f (b + (k + 1)) (n - (k + 1)))
compared-same f a b k n l same =
    let s : n - k ≡ suc (n - (k + 1)) = omega (arith, l) in
    let x : a + k + 1 ≡ a + (k + 1) = omega arith in
    let y : b + k + 1 ≡ b + (k + 1) = omega arith in
    ap (λ (m : ℕ). compared (bytes_at f (a + k) m) (bytes_at f (b + k) m)) s
    ∙ ap (λ (c : Bool). if c then 2 ^ 32 - 1 else (if ltb (f (b + k)) (f (a + k)) then 1 else compared (bytes_at f (a + k + 1) (n - (k + 1))) (bytes_at f (b + k + 1) (n - (k + 1))))) (le-ltb (f (a + k)) (f (b + k)) (omega (arith, same)))
    ∙ ap (λ (c : Bool). if c then 1 else compared (bytes_at f (a + k + 1) (n - (k + 1))) (bytes_at f (b + k + 1) (n - (k + 1)))) (le-ltb (f (b + k)) (f (a + k)) (omega (arith, same)))
    ∙ ap (λ (z : ℕ). compared (bytes_at f z (n - (k + 1))) (bytes_at f (b + k + 1) (n - (k + 1)))) x
    ∙ ap (λ (z : ℕ). compared (bytes_at f (a + (k + 1)) (n - (k + 1))) (bytes_at f z (n - (k + 1)))) y

pub compared-less : (f : ℕ → ℕ) (a b k n : ℕ) → k < n → f (a + k) < f (b + k) → compared (bytes_at f (a + k) (n - k)) (bytes_at f (b + k) (n - k)) ≡ 2 ^ 32 - 1
compared-less f a b k n l less =
    let s : n - k ≡ suc (n - (k + 1)) = omega (arith, l) in
    ap (λ (m : ℕ). compared (bytes_at f (a + k) m) (bytes_at f (b + k) m)) s
    ∙ ap (λ (c : Bool). if c then 2 ^ 32 - 1 else (if ltb (f (b + k)) (f (a + k)) then 1 else compared (bytes_at f (a + k + 1) (n - (k + 1))) (bytes_at f (b + k + 1) (n - (k + 1))))) (lt-ltb (f (a + k)) (f (b + k)) less)

pub compared-more : (f : ℕ → ℕ) (a b k n : ℕ) → k < n → f (b + k) < f (a + k) → compared (bytes_at f (a + k) (n - k)) (bytes_at f (b + k) (n - k)) ≡ 1
compared-more f a b k n l less =
    let s : n - k ≡ suc (n - (k + 1)) = omega (arith, l) in
    ap (λ (m : ℕ). compared (bytes_at f (a + k) m) (bytes_at f (b + k) m)) s
    ∙ ap (λ (c : Bool). if c then 2 ^ 32 - 1 else (if ltb (f (b + k)) (f (a + k)) then 1 else compared (bytes_at f (a + k + 1) (n - (k + 1))) (bytes_at f (b + k + 1) (n - (k + 1))))) (le-ltb (f (a + k)) (f (b + k)) (omega (arith, less)))
    ∙ ap (λ (c : Bool). if c then 1 else compared (bytes_at f (a + k + 1) (n - (k + 1))) (bytes_at f (b + k + 1) (n - (k + 1)))) (lt-ltb (f (b + k)) (f (a + k)) less)

-- ---- where allocations end

first-in : (p : Allocation → Bool) (k : AllocKind) (xs : List Allocation) → ((j : AllocKind) → is_some (first_that p (in_area (area_of j) xs)) ≡ true → j ≡ k) → first_that p xs ≡ first_that p (in_area (area_of k) xs)
first-in p k [] only = refl
first-in p k (a ∷ rest) only = by (p a) refl (first-in p k rest (λ j e. only j (after (area_eq (area_of j) a.area) (in_area (area_of j) rest) e)))
  where
    pass-on : (b : Bool) (o : Option Allocation) → is_some o ≡ true → is_some (if b then Some a else o) ≡ true
    pass-on true o e = refl
    pass-on false o e = e

    after : (c : Bool) (xs : List Allocation) → is_some (first_that p xs) ≡ true → is_some (first_that p (cond c (a ∷ xs) xs)) ≡ true
    after true xs e = pass-on (p a) (first_that p xs) e
    after false xs e = e

    skip : (c : Bool) (xs : List Allocation) → p a ≡ false → first_that p xs ≡ first_that p (cond c (a ∷ xs) xs)
    skip true xs e = ap (λ (d : Bool). if d then Some a else first_that p xs) (sym e)
    skip false xs e = refl

    by : (b : Bool) → p a ≡ b → first_that p rest ≡ first_that p (in_area (area_of k) rest) → (if b then Some a else first_that p rest) ≡ first_that p (cond (area_eq (area_of k) a.area) (a ∷ in_area (area_of k) rest) (in_area (area_of k) rest))
    by true e more =
        let here : kind_of a.area ≡ k = only (kind_of a.area)
        (ap (λ (c : Bool). is_some (first_that p (cond c (a ∷ in_area (area_of (kind_of a.area)) rest) (in_area (area_of (kind_of a.area)) rest)))) (own a.area)
        ∙ ap (λ (c : Bool). is_some (if c then Some a else first_that p (in_area (area_of (kind_of a.area)) rest))) e) in
        let yes' : area_eq (area_of k) a.area ≡ true = subst (λ (j : AllocKind). area_eq (area_of j) a.area ≡ true) here (own a.area) in
        ap (λ (d : Bool). if d then Some a else first_that p (in_area (area_of k) rest)) (sym e)
        ∙ ap (λ (c : Bool). first_that p (cond c (a ∷ in_area (area_of k) rest) (in_area (area_of k) rest))) (sym yes')
    by false e more = more ∙ skip (area_eq (area_of k) a.area) (in_area (area_of k) rest) e

-- the kind of a covered address, by its area
at-kind : (t : Allocations) (x : ℕ) (k : AllocKind) → IsLaidOut t → (base_of k ≤ x) × (x < base_of k + 2 ^ 40) → (j : AllocKind) → is_some (find (has_range x 1) (of_kind j t)) ≡ true → j ≡ k
at-kind t x k laid at j e = same j k (reaches-area j (of_kind j t) x 1 (areas t j laid) e).0 (upper j e) at.0 at.1
  where
    upper : (j : AllocKind) → is_some (find (has_range x 1) (of_kind j t)) ≡ true → x < base_of j + 2 ^ 40
    upper kind.Fixed e = omega (arith, (reaches-area kind.Fixed t.fixed x 1 laid.fixed e).1, laid.fixed.within)
    upper kind.Heap e = omega (arith, (reaches-area kind.Heap t.heap x 1 laid.heap e).1, laid.heap.within)
    upper kind.Stack e = omega (arith, (reaches-area kind.Stack t.stack x 1 laid.stack e).1, laid.stack.within)

    same : (j k : AllocKind) → base_of j ≤ x → x < base_of j + 2 ^ 40 → base_of k ≤ x → x < base_of k + 2 ^ 40 → j ≡ k
    same kind.Fixed kind.Fixed a b c d = refl
    same kind.Fixed kind.Heap a b c d = absurd (omega (arith, a, b, c, d))
    same kind.Fixed kind.Stack a b c d = absurd (omega (arith, a, b, c, d))
    same kind.Heap kind.Fixed a b c d = absurd (omega (arith, a, b, c, d))
    same kind.Heap kind.Heap a b c d = refl
    same kind.Heap kind.Stack a b c d = absurd (omega (arith, a, b, c, d))
    same kind.Stack kind.Fixed a b c d = absurd (omega (arith, a, b, c, d))
    same kind.Stack kind.Heap a b c d = absurd (omega (arith, a, b, c, d))
    same kind.Stack kind.Stack a b c d = refl

abbrev to-end : ℕ → Option Allocation → ℕ
to-end x o = unwrap_or (option_map (λ (b : Allocation). b.base + b.size - x) o) 0

abbrev to-end-in : ℕ → Option Entry → ℕ
to-end-in x o = unwrap_or (option_map (λ (b : Entry). b.base + b.size - x) o) 0

row-end : (x : ℕ) (xs : List Entry) → to-end x (first_that (covers x 1) (map allocation_of xs)) ≡ to-end-in x (find (has_range x 1) xs)
row-end x [] = refl
row-end x (a ∷ rest) = by (has_range x 1 a) (row-end x rest)
  where
    by : (b : Bool) → to-end x (first_that (covers x 1) (map allocation_of rest)) ≡ to-end-in x (find (has_range x 1) rest) →
        to-end x (if b then Some (allocation_of a) else first_that (covers x 1) (map allocation_of rest)) ≡ to-end-in x (cond b (Some a) (find (has_range x 1) rest))
    by true e = refl
    by false e = e

-- where an address is live, its allocation is that of one kind
end-of : (t : Allocations) (world : World) (x : ℕ) (k : AllocKind) → Lists t world.allocs → ((j : AllocKind) → is_some (find (has_range x 1) (of_kind j t)) ≡ true → j ≡ k) → bytes_left world x ≡ to-end-in x (find (has_range x 1) (of_kind k t))
end-of t world x k lists only =
    ap (to-end x) (first-in (covers x 1) k world.allocs (λ j e. only j (sym (covered-same x 1 (of_kind j t)) ∙ ap (λ (xs : List Allocation). is_some (first_that (covers x 1) xs)) (sym (lists j)) ∙ e)))
    ∙ ap (λ (xs : List Allocation). to-end x (first_that (covers x 1) xs)) (lists k)
    ∙ row-end x (of_kind k t)

-- the same of the table's whole list
pub room-same : (t : Allocations) (world : World) (x : ℕ) → IsLaidOut t → Lists t world.allocs → bytes_left world x ≡ to-end-in x (find (has_range x 1) (listed t))
room-same t world x laid lists = ⊎_elim
    (λ (low : x < 0x710000000000). end-of t world x kind.Fixed lists (first low) ∙ ap (to-end-in x) (sym (listed-fixed t x 1 (omega arith) laid low)))
    (λ (h : 0x710000000000 ≤ x). ⊎_elim
    (λ (mid : x < 0x720000000000). end-of t world x kind.Heap lists (at-kind t x kind.Heap laid (h, omega (arith, mid))) ∙ ap (to-end-in x) (sym (listed-heap t x 1 (omega arith) laid h mid)))
    (λ (s : 0x720000000000 ≤ x). end-of t world x kind.Stack lists (last s) ∙ ap (to-end-in x) (sym (listed-stack t x 1 (omega arith) laid s)))
    (cases_lt x 0x720000000000))
    (cases_lt x 0x710000000000)
  where
    first : x < 0x710000000000 → (j : AllocKind) → is_some (find (has_range x 1) (of_kind j t)) ≡ true → j ≡ kind.Fixed
    first low kind.Fixed e = refl
    first low kind.Heap e = absurd (omega (arith, low, (reaches-area kind.Heap t.heap x 1 laid.heap e).0))
    first low kind.Stack e = absurd (omega (arith, low, (reaches-area kind.Stack t.stack x 1 laid.stack e).0))

    last : 0x720000000000 ≤ x → (j : AllocKind) → is_some (find (has_range x 1) (of_kind j t)) ≡ true → j ≡ kind.Stack
    last s kind.Fixed e = absurd (omega (arith, s, (reaches-area kind.Fixed t.fixed x 1 laid.fixed e).1, laid.fixed.within))
    last s kind.Heap e = absurd (omega (arith, s, (reaches-area kind.Heap t.heap x 1 laid.heap e).1, laid.heap.within))
    last s kind.Stack e = refl

-- base and size of the allocation that has a byte
pub record Ending (t : Allocations) (x b s : ℕ) : Type 0 where
  pub from : b ≤ x
  pub to : x < b + s
  pub room : to-end-in x (find (has_range x 1) (listed t)) ≡ b + s - x
  pub good : IsTrue (is_live x (b + s - x) t)
  pub low : b + s < 2 ^ 64

ending-in : (x b s : ℕ) (xs : List Entry) → option_map {U = ℕ × ℕ} (λ (a : Entry). (a.base, a.size)) (find (has_range x 1) xs) ≡ Some (b, s) →
    (b ≤ x) × ((x < b + s) × ((to-end-in x (find (has_range x 1) xs) ≡ b + s - x) × (is_some (find (has_range x (b + s - x)) xs) ≡ true)))
ending-in x b s [] e = absurd (cc)
ending-in x b s (a ∷ rest) e = by (has_range x 1 a) refl (ending-in x b s rest) e
  where
    pass-on : (c : Bool) (o : Option Entry) → is_some o ≡ true → is_some (cond c (Some a) o) ≡ true
    pass-on true o e = refl
    pass-on false o e = e

    bases : (p q : ℕ × ℕ) → Some p ≡ Some q → p.0 ≡ q.0
    bases p q e = cc

    sizes : (p q : ℕ × ℕ) → Some p ≡ Some q → p.1 ≡ q.1
    sizes p q e = cc

    by : (c : Bool) → has_range x 1 a ≡ c → (option_map {U = ℕ × ℕ} (λ (a : Entry). (a.base, a.size)) (find (has_range x 1) rest) ≡ Some (b, s) →
        (b ≤ x) × ((x < b + s) × ((to-end-in x (find (has_range x 1) rest) ≡ b + s - x) × (is_some (find (has_range x (b + s - x)) rest) ≡ true)))) →
        option_map {U = ℕ × ℕ} (λ (a : Entry). (a.base, a.size)) (cond c (Some a) (find (has_range x 1) rest)) ≡ Some (b, s) →
        (b ≤ x) × ((x < b + s) × ((to-end-in x (cond c (Some a) (find (has_range x 1) rest)) ≡ b + s - x) × (is_some (cond (has_range x (b + s - x) a) (Some a) (find (has_range x (b + s - x)) rest)) ≡ true)))
    by true h more e =
        let base : a.base ≡ b = bases (a.base, a.size) (b, s) e in
        let size : a.size ≡ s = sizes (a.base, a.size) (b, s) e in
        let parts : (a.live && leb a.base x ≡ true) × (leb (x + 1) (a.base + a.size) ≡ true) = and_parts _ _ h in
        let front : (a.live ≡ true) × (leb a.base x ≡ true) = and_parts _ _ parts.0 in
        let low : b ≤ x = omega (arith, leb-true a.base x front.1, base) in
        let high : x < b + s = omega (arith, leb-true (x + 1) (a.base + a.size) parts.1, base, size) in
        let whole : has_range x (b + s - x) a ≡ true = and_from _ _ parts.0 (le-leb (x + (b + s - x)) (a.base + a.size) (omega (arith, low, high, base, size))) in
        (low, (high, ((omega (arith, base, size)), ap (λ (c : Bool). is_some (cond c (Some a) (find (has_range x (b + s - x)) rest))) whole)))
    by false h more e =
        let r = more e in
        (r.0, (r.1.0, (r.1.1.0, pass-on (has_range x (b + s - x) a) (find (has_range x (b + s - x)) rest) r.1.1.1)))

pub ending : (t : Allocations) (x b s : ℕ) → IsLaidOut t → block_at x t ≡ Some (b, s) → Ending t x b s
ending t x b s laid e =
    let r = ending-in x b s (listed t) e in
    let good : IsTrue (is_live x (b + s - x) t) = or-live (eqb (b + s - x) 0) _ r.1.1.1 in
    let few : b + s - x ≤ 2 ^ 26 = live-size t x (b + s - x) laid good in
    let one : IsTrue (is_live x 1 t) = let z : x + 0 ≡ x = omega arith in subst (λ (y : ℕ). IsTrue (is_live y 1 t)) z (part-live t x (b + s - x) 0 good (omega (arith, r.1.0, r.0))) in
    record { from = r.0; to = r.1.0; room = r.1.1.0; good = good; low = omega (arith, few, live-low t x laid one, r.0, r.1.0) }
  where
    or-live : (b c : Bool) → c ≡ true → (b || c) ≡ true
    or-live true c e = refl
    or-live false c e = e

pub no-ending : (t : Allocations) (x : ℕ) → block_at x t ≡ None → to-end-in x (find (has_range x 1) (listed t)) ≡ 0
no-ending t x e = none (find (has_range x 1) (listed t)) e
  where
    none : (o : Option Entry) → option_map {U = ℕ × ℕ} (λ (a : Entry). (a.base, a.size)) o ≡ None → to-end-in x o ≡ 0
    none None e = refl
    none (Some a) e = absurd (cc)

-- an address of a good range fits 64 bits
pub fits-word : (t : Allocations) (x n k : ℕ) → IsLaidOut t → IsTrue (is_live x n t) → k < n → x + k < 2 ^ 64
fits-word t x n k laid good l = omega (arith, live-low t (x + k) laid (part-live t x n k good l))

-- ---- the input

drop-drop : (a n : ℕ) (xs : List ℕ) → drop n (drop a xs) ≡ drop (a + n) xs
drop-drop zero n xs = let e : n ≡ 0 + n = omega arith in ap (λ (k : ℕ). drop k xs) e
drop-drop (suc a) n [] = drop-nil n ∙ sym (drop-nil (suc a + n))
drop-drop (suc a) n (x ∷ xs) = let e : suc (a + n) ≡ suc a + n = omega arith in drop-drop a n xs ∙ ap (λ (k : ℕ). drop k (x ∷ xs)) e

drop-min : (n : ℕ) (xs : List ℕ) → drop n xs ≡ drop (min n (length xs)) xs
drop-min n xs = ⊎_elim
    (λ (l : n < length xs). let e : n ≡ min n (length xs) = omega (arith, l) in ap (λ (k : ℕ). drop k xs) e)
    (λ (l : length xs ≤ n). drop_of_length-le xs l ∙ sym (drop_of_length-le xs (let e : length xs ≤ min n (length xs) = omega (arith, l) in e)))
    (cases_lt n (length xs))

-- what is taken of the input
pub record Takes (n count at to : ℕ) (input rest bs : List ℕ) : Type 0 where
  pub bytes : take n rest ≡ bs
  pub len : count ≡ length bs
  pub left : drop n rest ≡ drop to input
  pub few : count ≤ n

pub takes : (n count at to : ℕ) (input rest : List ℕ) → at ≤ length input → rest ≡ drop at input → count ≡ min n (length input - at) → to ≡ at + count → Takes n count at to input rest (take (to - at) (drop at input))
takes n count at to input rest low is few end' =
    let len : length (drop at input) ≡ length input - at = length-drop at input in
    let same : count ≡ min n (length (drop at input)) = few ∙ ap (min n) (sym len) in
    let here : to - at ≡ count = omega (arith, end') in
    record {
      bytes = ap (take n) is ∙ sym (take_min n (drop at input)) ∙ ap (λ (k : ℕ). take k (drop at input)) (sym same ∙ sym here);
      len = sym (ap (λ (k : ℕ). length (take k (drop at input))) here ∙ length-take-le count (drop at input) (let e : count ≤ length (drop at input) = omega (arith, few, len) in e));
      left = ap (drop n) is ∙ drop-min n (drop at input) ∙ ap (λ (k : ℕ). drop k (drop at input)) (sym same) ∙ drop-drop at count input ∙ ap (λ (k : ℕ). drop k input) (sym end');
      few = omega (arith, few);
    }

-- bytes of the input stand in memory
pub taken-shown : (w : WorldState) (beside : Beside) (world : World) (m : Memory) (addr n count to : ℕ) (bs : List ℕ) → Shows w beside world → Takes n count w.at to w.input world.input bs → m.table ≡ w.planes.table →
    bytes_of m ≡ with_range (bytes_of w.planes) addr (length bs) (λ k. get_or bs k 0) → shadow_of m ≡ shadow_of w.planes → origins_of m ≡ origins_of w.planes →
    (count ≡ length (take n world.input)) × Shows (record w { planes = m; at = to }) beside (record (set_bytes addr (length (take n world.input)) (λ k. get_or (take n world.input) k 0) world) { input = drop n world.input })
taken-shown w beside world m addr n count to bs shows t same b s o =
    subst (λ (ys : List ℕ). (count ≡ length ys) × Shows (record w { planes = m; at = to }) beside (record (set_bytes addr (length ys) (λ k. get_or ys k 0) world) { input = drop n world.input })) (sym t.bytes) (
      t.len,
      (let r = bytes-set w beside world m addr (length bs) (λ k. get_or bs k 0) shows same b s o in record {
        allocs = r.allocs;
        bytes = r.bytes;
        shadow = r.shadow;
        origins = r.origins;
        made = r.made;
        input = t.left;
        output = r.output;
        pairs = r.pairs;
        reports = r.reports;
        blind = r.blind;
        fibers = r.fibers;
      }),
    )
