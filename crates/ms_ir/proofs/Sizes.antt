-- Sizes, limited and whole.
use Rattle.std.proofs.Common.{◌≡◌, ◌<◌, ◌≤◌, ◌⊎◌, inl, inr, ℕ, zero, suc, ◌+◌, ◌-◌, ◌*◌, ◌^◌, max, Bool, true, false, List, [], ◌∷◌, map, Option, Some, None, refl, sym, ap, ◌∙◌, subst, arith, drop, length, get_or, add-one, if◌then◌else◌}
use Rattle.std.specs.Prelude.{option_map, option_and_then, unwrap_or, nat_le}
use Rattle.std.proofs.Math.Path.{ap₂}
use Rattle.std.proofs.Math.Seq.{drop-cons}
use Rattle.std.proofs.lemmas.Nat.{div-add-mod', mod_below}
use Rattle.std.proofs.lemmas.Bool.{cases_lt, le-leb, lt-leb}
use Rattle.std.proofs.lemmas.Option.{same_Some, none-some}
use Rattle.ms_ir.specs.declared.syntax.Name.{Name}
use denote.Param.Weighed.{most}
use Rattle.ms_ir.specs.declared.syntax.Ty.{Ty, Int, Ptr, Array', Struct', Named, Row_of-Ty, end_of-Ty, more_of-Ty, size-Ty}
use Rattle.ms_ir.specs.Names.{name_eq, lookup}
use Rattle.ms_ir.specs.Layout.{Extent, extent, Types, int_align, round_up, place_field, place_fields, array_extent, type_extent, row_extents, named_extent, extent_in, size_in, align_in, field_offset}
use Rattle.ms_ir.specs.Extents.{limited, limit_extent}

-- ---- rounding up

pub rounded_near : (n a : ℕ) → 1 ≤ a → (n ≤ round_up n a) × (round_up n a ≤ n + (a - 1))
rounded_near n a h =
    let e = div-add-mod' (n + (a - 1)) a in
    let l = mod_below (n + (a - 1)) a (omega arith) in
    (omega (arith, e, l, h), omega (arith, e))

-- ---- limits of numbers

-- numbers with the same limit are equal, or both above it
same_or_large : (a b : ℕ) → limited a ≡ limited b → (a ≡ b) ⊎ ((2 ^ 26 + 1 ≤ a) × (2 ^ 26 + 1 ≤ b))
same_or_large a b h = elim (cases_lt a (2 ^ 26 + 1)) [
  | inl low ↦ inl (omega (arith, low, h))
  | inr large ↦ inr (large, omega (arith, large, h))
]

large_same : (a b : ℕ) → 2 ^ 26 + 1 ≤ a → 2 ^ 26 + 1 ≤ b → limited a ≡ limited b
large_same a b h k = omega (arith, h, k)

pub limited_twice : (n : ℕ) → limited (limited n) ≡ limited n
limited_twice n = omega arith

limited_sum : (a b c d : ℕ) → limited a ≡ limited c → limited b ≡ limited d → limited (a + b) ≡ limited (c + d)
limited_sum a b c d h k = omega (arith, h, k)

pub limited_round : (a b n : ℕ) → 1 ≤ n → limited a ≡ limited b → limited (round_up a n) ≡ limited (round_up b n)
limited_round a b n p h = elim (same_or_large a b h) [
  | inl same ↦ ap (λ x. limited (round_up x n)) same
  | inr large ↦
      let x = rounded_near a n p in
      let y = rounded_near b n p in
      large_same (round_up a n) (round_up b n) (omega (arith, large.0, x.0)) (omega (arith, large.1, y.0))
]

product_large : (n a : ℕ) → 2 ^ 26 + 1 ≤ a → 2 ^ 26 + 1 ≤ suc n * a
product_large n a h = omega (arith, h)

pub limited_product : (n a b : ℕ) → limited a ≡ limited b → limited (n * a) ≡ limited (n * b)
limited_product zero a b h = omega arith
limited_product (suc n) a b h = elim (same_or_large a b h) [
  | inl same ↦ ap (λ x. limited (suc n * x)) same
  | inr large ↦ large_same (suc n * a) (suc n * b) (product_large n a large.0) (product_large n b large.1)
]

-- ---- limits of extents

sizes_same : (s t : Extent) → limit_extent s ≡ limit_extent t → limited s.size ≡ limited t.size
sizes_same s t h = ap (λ e. e.size) h

aligns_same : (s t : Extent) → limit_extent s ≡ limit_extent t → s.align ≡ t.align
aligns_same s t h = ap (λ e. e.align) h

pub limit_twice : (e : Extent) → limit_extent (limit_extent e) ≡ limit_extent e
limit_twice e = ap (λ n. extent n e.align) (limited_twice e.size)

pub place_limited : (packed : Bool) (s t e f : Extent) → limit_extent s ≡ limit_extent t → limit_extent e ≡ limit_extent f → 1 ≤ f.align
    → limit_extent (place_field packed s e) ≡ limit_extent (place_field packed t f)
place_limited true s t e f h k p = ap (λ n. extent n 1) (limited_sum s.size e.size t.size f.size (sizes_same s t h) (sizes_same e f k))
place_limited false s t e f h k p =
    let rounded = ap (λ a. limited (round_up s.size a)) (aligns_same e f k) ∙ limited_round s.size t.size f.align p (sizes_same s t h) in
    ap₂ extent (limited_sum (round_up s.size e.align) e.size (round_up t.size f.align) f.size rounded (sizes_same e f k)) (ap₂ max (aligns_same s t h) (aligns_same e f k))

pub place_positive : (packed : Bool) (s f : Extent) → 1 ≤ s.align → 1 ≤ (place_field packed s f).align
place_positive true s f h = omega arith
place_positive false s f h = omega (arith, h)

-- ---- alignments are not 0

abbrev pub Positive : Option Extent → Type 0
Positive None = Unit {0}
Positive (Some e) = 1 ≤ e.align

abbrev pub Positives : List (Option Extent) → Type 0
Positives [] = Unit {0}
Positives (o ∷ os) = Positive o × Positives os

int_positive : (n : ℕ) → 1 ≤ int_align n
int_positive n = by_tests (nat_le n 8) (nat_le n 16) (nat_le n 32)
  where
    by_tests : (a b c : Bool) → 1 ≤ (if a then 1 else (if b then 2 else (if c then 4 else 8)))
    by_tests true b c = omega arith
    by_tests false true c = omega arith
    by_tests false false true = omega arith
    by_tests false false false = omega arith

array_positive : (n : ℕ) (items : List (Option Extent)) → Positives items → Positive (array_extent n items)
array_positive n [] p = tt
array_positive n (None ∷ items) p = tt
array_positive n (Some e ∷ items) p = p.0

places_positive : (packed : Bool) (fs : List (Option Extent)) (s : Extent) → 1 ≤ s.align → Positive (place_fields packed s fs)
places_positive packed [] s h = h
places_positive packed (None ∷ fs) s h = tt
places_positive packed (Some f ∷ fs) s h = places_positive packed fs (place_field packed s f) (place_positive packed s f h)

mutual
  pub type_positive : (named : Name → Option Extent) → ((x : Name) → Positive (named x)) → (t : Ty) → Positive (type_extent named t)
  type_positive named h (Int n) = int_positive n
  type_positive named h Ptr = omega arith
  type_positive named h (Array' n shape item) = array_positive n (row_extents named item) (row_positive named h item)
  type_positive named h (Struct' packed shape fields) = places_positive packed (row_extents named fields) (extent 0 1) (omega arith)
  type_positive named h (Named x) = h x

  row_positive : (named : Name → Option Extent) → ((x : Name) → Positive (named x)) → {n : _} → (r : Row_of-Ty n) → Positives (row_extents named r)
  row_positive named h end_of-Ty = tt
  row_positive named h (more_of-Ty t ts) = (type_positive named h t, row_positive named h ts)

pub named_positive : (types : Name → Option Ty) (n : ℕ) (x : Name) → Positive (named_extent types n x)
named_positive types zero x = tt
named_positive types (suc n) x = by_type (λ y. named_positive types n y) (types x)
  where
    by_type : ((y : Name) → Positive (named_extent types n y)) → (o : Option Ty) → Positive (option_and_then (type_extent (named_extent types n)) o)
    by_type h None = tt
    by_type h (Some t) = type_positive (named_extent types n) h t

pub types_positive : (e : Ty → Option Extent) → ((t : Ty) → Positive (e t)) → (ts : List Ty) → Positives (map e ts)
types_positive e h [] = tt
types_positive e h (t ∷ ts) = (h t, types_positive e h ts)

-- ---- fields one after the other

pub places_same : (packed : Bool) (fs : List (Option Extent)) (s t : Extent) → 1 ≤ t.align → Positives fs → limit_extent s ≡ limit_extent t
    → option_map limit_extent (place_fields packed s fs) ≡ option_map limit_extent (place_fields packed t fs)
places_same packed [] s t p ps h =
    let rounded = ap (λ a. limited (round_up s.size a)) (aligns_same s t h) ∙ limited_round s.size t.size t.align p (sizes_same s t h) in
    ap Some (ap₂ extent rounded (aligns_same s t h))
places_same packed (None ∷ fs) s t p ps h = refl
places_same packed (Some f ∷ fs) s t p ps h =
    places_same packed fs (place_field packed s f) (place_field packed t f) (place_positive packed t f p) ps.1 (place_limited packed s t f f h refl ps.0)

-- what the first field has, and that it is none
pub field_placed : (packed : Bool) (o : Option Extent) (rest : List (Option Extent)) (s l after : Extent) (whole : Option Extent)
    → 1 ≤ s.align → Positive o → Positives rest → Some l ≡ option_map limit_extent o → after ≡ limit_extent (place_field packed s l)
    → option_map limit_extent (place_fields packed s (o ∷ rest)) ≡ whole → option_map limit_extent (place_fields packed after rest) ≡ whole
field_placed packed None rest s l after whole p q ps h k w = absurd (none-some l (sym h))
field_placed packed (Some f) rest s l after whole p q ps h k w =
    let e : l ≡ limit_extent f = same_Some l (limit_extent f) h in
    let same : limit_extent after ≡ limit_extent (place_field packed s f) =
    ap limit_extent k ∙ limit_twice (place_field packed s l) ∙ place_limited packed s s l f refl (ap limit_extent e ∙ limit_twice f) q in
    places_same packed rest after (place_field packed s f) (place_positive packed s f p) ps same ∙ w

pub field_without : (packed : Bool) (o : Option Extent) (rest : List (Option Extent)) (s : Extent) (whole : Option Extent)
    → None ≡ option_map limit_extent o → option_map limit_extent (place_fields packed s (o ∷ rest)) ≡ whole → None ≡ whole
field_without packed None rest s whole h w = w
field_without packed (Some f) rest s whole h w = absurd (none-some (limit_extent f) h)

-- an array's extent, of its item's limited one
pub array_limited : (n : ℕ) (item : Option Extent) → option_map limit_extent (array_extent n (option_map limit_extent item ∷ [])) ≡ option_map limit_extent (array_extent n (item ∷ []))
array_limited n None = refl
array_limited n (Some e) = ap (λ s. Some (extent s e.align)) (limited_product n (limited e.size) e.size (limited_twice e.size))

-- ---- what the calls answer

-- a size, where it is within the limit
abbrev within : Option Extent → Option ℕ
within o = option_and_then (λ whole. if nat_le whole.size (2 ^ 26) then Some whole.size else None) o

pub size_none : (o : Option Extent) → None ≡ option_map limit_extent o → None ≡ within o
size_none None h = refl
size_none (Some e) h = absurd (none-some (limit_extent e) h)

size_is : (e l : Extent) → Some l ≡ Some (limit_extent e) → l.size ≡ limited e.size
size_is e l h = ap (λ x. x.size) (same_Some l (limit_extent e) h)

pub size_some : (o : Option Extent) (l : Extent) → Some l ≡ option_map limit_extent o → l.size ≤ 2 ^ 26 → Some l.size ≡ within o
size_some None l h k = absurd (none-some l (sym h))
size_some (Some e) l h k =
    let is = size_is e l h in
    let low : e.size ≤ 2 ^ 26 = omega (arith, is, k) in
    let same : l.size ≡ e.size = omega (arith, is, k) in
    ap Some same ∙ ap (λ b. if b then Some e.size else None) (sym (le-leb e.size (2 ^ 26) low))

pub size_large : (o : Option Extent) (l : Extent) → Some l ≡ option_map limit_extent o → 2 ^ 26 < l.size → None ≡ within o
size_large None l h k = absurd (none-some l (sym h))
size_large (Some e) l h k =
    let is = size_is e l h in
    let large : 2 ^ 26 < e.size = omega (arith, is, k) in
    ap (λ b. if b then Some e.size else None) (sym (lt-leb e.size (2 ^ 26) large))

pub align_none : (o : Option Extent) → None ≡ option_map limit_extent o → 1 ≡ unwrap_or (option_map (λ whole. whole.align) o) 1
align_none None h = refl
align_none (Some e) h = absurd (none-some (limit_extent e) h)

pub align_some : (o : Option Extent) (l : Extent) → Some l ≡ option_map limit_extent o → l.align ≡ unwrap_or (option_map (λ whole. whole.align) o) 1
align_some None l h = absurd (none-some l (sym h))
align_some (Some e) l h = ap (λ x. x.align) (same_Some l (limit_extent e) h)

-- ---- places of fields

pub offsets_same : (types : Types) (packed : Bool) (ts : List Ty) (k : ℕ) (s t : Extent) → limit_extent s ≡ limit_extent t
    → ((u : Ty) → 1 ≤ align_in types u) → limited (field_offset types packed s ts k) ≡ limited (field_offset types packed t ts k)
offsets_same types packed [] k s t h p = sizes_same s t h
offsets_same types true (u ∷ ts) zero s t h p = sizes_same s t h
offsets_same types false (u ∷ ts) zero s t h p = limited_round s.size t.size (align_in types u) (p u) (sizes_same s t h)
offsets_same types packed (u ∷ ts) (suc k) s t h p =
    let f = extent (size_in types u) (align_in types u) in
    offsets_same types packed ts k (place_field packed s f) (place_field packed t f) (place_limited packed s t f f h refl (p u)) p

pub aligned_in : (types : Types) (u : Ty) → 1 ≤ align_in types u
aligned_in types u = by_extent (extent_in types u) (type_positive (named_extent (lookup types) 32) (named_positive (lookup types) 32) u)
  where
    by_extent : (o : Option Extent) → Positive o → 1 ≤ unwrap_or (option_map (λ whole. whole.align) o) 1
    by_extent None q = omega arith
    by_extent (Some e) q = q

-- after one more field, whose limited extent is l
pub field_passed : (types : Types) (packed : Bool) (u : Ty) (ts : List Ty) (k k' : ℕ) (s l after : Extent) (whole : ℕ)
    → l ≡ extent (limited (size_in types u)) (align_in types u) → after ≡ limit_extent (place_field packed s l) → k ≡ suc k'
    → limited (field_offset types packed s (u ∷ ts) k) ≡ whole → limited (field_offset types packed after ts k') ≡ whole
field_passed types packed u ts k k' s l after whole is placed next w =
    let f = extent (size_in types u) (align_in types u) in
    let same : limit_extent after ≡ limit_extent (place_field packed s f) =
    ap limit_extent placed ∙ limit_twice (place_field packed s l) ∙ place_limited packed s s l f refl (ap limit_extent is ∙ limit_twice f) (aligned_in types u) in
    offsets_same types packed ts k' after (place_field packed s f) same (aligned_in types) ∙ ap (λ n. limited (field_offset types packed s (u ∷ ts) n)) (sym next) ∙ w

-- at the field that is sought
pub field_reached : (types : Types) (packed : Bool) (u : Ty) (ts : List Ty) (k : ℕ) (s : Extent) (whole : ℕ) → k ≡ 0
    → limited (field_offset types packed s (u ∷ ts) k) ≡ whole → limited (if packed then s.size else round_up s.size (align_in types u)) ≡ whole
field_reached types packed u ts k s whole first w = ap (λ n. limited (field_offset types packed s (u ∷ ts) n)) (sym first) ∙ w

-- ---- the depth of named types

pub lookup_below : (types : Types) (x : Name) (u : Ty) → lookup types x ≡ Some u → size-Ty u ≤ most (λ p. size-Ty p.1) types
lookup_below [] x u h = absurd (none-some u h)
lookup_below (row ∷ rest) x u h = by_name (λ k. lookup_below rest x u k) (name_eq row.0 x) h
  where
    by_name : (lookup rest x ≡ Some u → size-Ty u ≤ most (λ p. size-Ty p.1) rest) → (b : Bool)
        → (if b then Some row.1 else lookup rest x) ≡ Some u → size-Ty u ≤ most (λ p. size-Ty p.1) (row ∷ rest)
    by_name below true k = let e : size-Ty row.1 ≡ size-Ty u = ap size-Ty (same_Some row.1 u k) in omega (arith, e)
    by_name below false k = omega (arith, below k)

pub chain_shorter : (c n m s : ℕ) → n ≡ suc c → s ≤ m → c * (2 * m + 4) + 2 * s + 2 < n * (2 * m + 4) + 1
chain_shorter c n m s h k = subst (λ z. c * (2 * m + 4) + 2 * s + 2 < z * (2 * m + 4) + 1) (sym h) (shorter c m s k)
  where
    shorter : (c m s : ℕ) → s ≤ m → c * (2 * m + 4) + 2 * s + 2 < suc c * (2 * m + 4) + 1
    shorter c m s k = omega (arith, k)

-- ---- a step of the loops

pub drop_next : {A : Type 0} (xs : List A) (i : ℕ) (x : A) → i < length xs → x ≡ get_or xs i x → drop i xs ≡ x ∷ drop (i + 1) xs
drop_next xs i x l is = drop-cons xs i x l ∙ ap (λ y. y ∷ drop (suc i) xs) (sym is) ∙ ap (λ n. x ∷ drop n xs) (sym (add-one i))

pub struct_passed : (packed : Bool) (e : Ty → Option Extent) → ((t : Ty) → Positive (e t)) → (fields : List Ty) (i : ℕ) (x : Ty) (s l after : Extent) (whole : Option Extent)
    → i < length fields → x ≡ get_or fields i x → 1 ≤ s.align → Some l ≡ option_map limit_extent (e x) → after ≡ limit_extent (place_field packed s l)
    → option_map limit_extent (place_fields packed s (map e (drop i fields))) ≡ whole
    → option_map limit_extent (place_fields packed after (map e (drop (i + 1) fields))) ≡ whole
struct_passed packed e positive fields i x s l after whole lt is p h k w =
    field_placed packed (e x) (map e (drop (i + 1) fields)) s l after whole p (positive x) (types_positive e positive (drop (i + 1) fields)) h k
    (ap (λ ts. option_map limit_extent (place_fields packed s (map e ts))) (sym (drop_next fields i x lt is)) ∙ w)

pub struct_without : (packed : Bool) (e : Ty → Option Extent) (fields : List Ty) (i : ℕ) (x : Ty) (s : Extent) (whole : Option Extent)
    → i < length fields → x ≡ get_or fields i x → None ≡ option_map limit_extent (e x)
    → option_map limit_extent (place_fields packed s (map e (drop i fields))) ≡ whole → None ≡ whole
struct_without packed e fields i x s whole lt is h w =
    field_without packed (e x) (map e (drop (i + 1) fields)) s whole h (ap (λ ts. option_map limit_extent (place_fields packed s (map e ts))) (sym (drop_next fields i x lt is)) ∙ w)

pub offset_passed : (types : Types) (packed : Bool) (fields : List Ty) (i k : ℕ) (x : Ty) (s l after : Extent) (whole : ℕ)
    → i < length fields → x ≡ get_or fields i x → l.size ≡ limited (size_in types x) → l.align ≡ align_in types x → after ≡ limit_extent (place_field packed s l) → 0 < k
    → limited (field_offset types packed s (drop i fields) k) ≡ whole → limited (field_offset types packed after (drop (i + 1) fields) (k - 1)) ≡ whole
offset_passed types packed fields i k x s l after whole lt is size align placed more w =
    let next : k ≡ suc (k - 1) = omega (arith, more) in
    field_passed types packed x (drop (i + 1) fields) k (k - 1) s l after whole (ap₂ extent size align) placed next
    (ap (λ ts. limited (field_offset types packed s ts k)) (sym (drop_next fields i x lt is)) ∙ w)

pub offset_reached : (types : Types) (packed : Bool) (fields : List Ty) (i k : ℕ) (x : Ty) (s : Extent) (whole : ℕ) → i < length fields → x ≡ get_or fields i x → k ≡ 0
    → limited (field_offset types packed s (drop i fields) k) ≡ whole → limited (if packed then s.size else round_up s.size (align_in types x)) ≡ whole
offset_reached types packed fields i k x s whole lt is first w =
    field_reached types packed x (drop (i + 1) fields) k s whole first (ap (λ ts. limited (field_offset types packed s ts k)) (sym (drop_next fields i x lt is)) ∙ w)
