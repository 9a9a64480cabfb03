-- Where parts begin is within their whole.
use Rattle.std.proofs.Common.{◌≡◌, ◌<◌, ◌≤◌, ℕ, zero, suc, ◌*◌, ◌^◌, Bool, true, false, List, [], ◌∷◌, map, Option, Some, None, refl, sym, ap, ◌∙◌, arith, length, if◌then◌else◌}
use Rattle.std.specs.Prelude.{option_map, option_and_then, unwrap_or, nat_le, IsSome}
use Rattle.std.proofs.Math.Nat.{mul-le-mul_right}
use Rattle.std.proofs.lemmas.Bool.{leb-true, false≢true}
use Rattle.std.proofs.lemmas.Option.{same_Some, none-some}
use Rattle.ms_ir.specs.declared.syntax.Name.{Name}
use Rattle.ms_ir.specs.declared.syntax.Ty.{Ty, Int, Ptr, Array', Struct', Named, Row_of-Ty, end_of-Ty, more_of-Ty}
use Rattle.ms_ir.specs.Names.{lookup}
use Rattle.ms_ir.specs.Layout.{Extent, extent, Types, round_up, place_field, place_fields, array_extent, type_extent, row_extents, named_extent, extent_in, size_of, size_in, resolved, row_types, type_at, field_offset, part_offset}
use Rattle.ms_ir.specs.Extents.{limited}
use Rattle.ms_ir.specs.Parts.{count_parts}
use Rattle.ms_ir.proofs.Sizes.{Positive, Positives, rounded_near, type_positive, named_positive, types_positive, place_positive}

-- ---- where longer chains are allowed, what has an extent keeps it

abbrev Extends : Option Extent → Option Extent → Type 0
Extends a b = (e : Extent) → a ≡ Some e → b ≡ Some e

abbrev RowExtends : List (Option Extent) → List (Option Extent) → Type 0
RowExtends [] [] = Unit {0}
RowExtends [] (b ∷ bs) = ⊥
RowExtends (a ∷ xs) [] = ⊥
RowExtends (a ∷ xs) (b ∷ bs) = Extends a b × RowExtends xs bs

array_extends : (n : ℕ) (xs ys : List (Option Extent)) → RowExtends xs ys → Extends (array_extent n xs) (array_extent n ys)
array_extends n [] ys r e h = absurd (none-some e h)
array_extends n (x ∷ xs) [] r e h = absurd r
array_extends n (None ∷ xs) (y ∷ ys) r e h = absurd (none-some e h)
array_extends n (Some x ∷ xs) (y ∷ ys) r e h = ap (λ o. array_extent n (o ∷ ys)) (r.0 x refl) ∙ h

places_extend : (packed : Bool) (xs ys : List (Option Extent)) (s : Extent) → RowExtends xs ys → Extends (place_fields packed s xs) (place_fields packed s ys)
places_extend packed [] [] s r e h = h
places_extend packed [] (y ∷ ys) s r e h = absurd r
places_extend packed (x ∷ xs) [] s r e h = absurd r
places_extend packed (None ∷ xs) (y ∷ ys) s r e h = absurd (none-some e h)
places_extend packed (Some x ∷ xs) (y ∷ ys) s r e h =
    ap (λ o. place_fields packed s (o ∷ ys)) (r.0 x refl) ∙ places_extend packed xs ys (place_field packed s x) r.1 e h

mutual
  type_extends : (a b : Name → Option Extent) → ((x : Name) → Extends (a x) (b x)) → (t : Ty) → Extends (type_extent a t) (type_extent b t)
  type_extends a b h (Int n) e k = k
  type_extends a b h Ptr e k = k
  type_extends a b h (Array' n shape item) e k = array_extends n (row_extents a item) (row_extents b item) (row_extends a b h item) e k
  type_extends a b h (Struct' packed shape fields) e k = places_extend packed (row_extents a fields) (row_extents b fields) (extent 0 1) (row_extends a b h fields) e k
  type_extends a b h (Named x) e k = h x e k

  row_extends : (a b : Name → Option Extent) → ((x : Name) → Extends (a x) (b x)) → {n : _} → (r : Row_of-Ty n) → RowExtends (row_extents a r) (row_extents b r)
  row_extends a b h end_of-Ty = tt
  row_extends a b h (more_of-Ty t ts) = (type_extends a b h t, row_extends a b h ts)

named_extends : (types : Name → Option Ty) (n : ℕ) (x : Name) → Extends (named_extent types n x) (named_extent types (suc n) x)
named_extends types zero x e h = absurd (none-some e h)
named_extends types (suc n) x e h = by_type (λ y f k. named_extends types n y f k) (types x) h
  where
    by_type : ((y : Name) → Extends (named_extent types n y) (named_extent types (suc n) y)) → (o : Option Ty)
        → option_and_then (type_extent (named_extent types n)) o ≡ Some e → option_and_then (type_extent (named_extent types (suc n))) o ≡ Some e
    by_type longer None k = absurd (none-some e k)
    by_type longer (Some t) k = type_extends (named_extent types n) (named_extent types (suc n)) longer t e k

-- ---- structs

pub place_grows : (packed : Bool) (s f : Extent) → 1 ≤ f.align → s.size ≤ (place_field packed s f).size
place_grows true s f p = omega arith
place_grows false s f p = omega (arith, (rounded_near s.size f.align p).0)

pub places_grow : (packed : Bool) (fs : List (Option Extent)) (s e : Extent) → 1 ≤ s.align → Positives fs → place_fields packed s fs ≡ Some e → s.size ≤ e.size
places_grow packed [] s e p ps h =
    let same : round_up s.size s.align ≡ e.size = ap (λ x. x.size) (same_Some (extent (round_up s.size s.align) s.align) e h) in
    omega (arith, same, (rounded_near s.size s.align p).0)
places_grow packed (None ∷ fs) s e p ps h = absurd (none-some e h)
places_grow packed (Some f ∷ fs) s e p ps h =
    let rest = places_grow packed fs (place_field packed s f) e (place_positive packed s f p) ps.1 h in
    omega (arith, rest, place_grows packed s f ps.0)

module _ (types : Types) where
  all_positive : (ts : List Ty) → Positives (map (extent_in types) ts)
  all_positive ts = types_positive (extent_in types) (type_positive (named_extent (lookup types) 32) (named_positive (lookup types) 32)) ts

  begins_within : (packed : Bool) (s f e : Extent) (fs : List (Option Extent)) → 1 ≤ s.align → 1 ≤ f.align → Positives fs
      → place_fields packed (place_field packed s f) fs ≡ Some e → (if packed then s.size else round_up s.size f.align) ≤ e.size
  begins_within true s f e fs p q ps h =
      let grown = places_grow true fs (place_field true s f) e (place_positive true s f p) ps h in omega (arith, grown, place_grows true s f q)
  begins_within false s f e fs p q ps h =
      let grown = places_grow false fs (place_field false s f) e (place_positive false s f p) ps h in omega (arith, grown)

  offset_within : (packed : Bool) (ts : List Ty) (k : ℕ) (s e : Extent) → k < length ts → 1 ≤ s.align
      → place_fields packed s (map (extent_in types) ts) ≡ Some e → field_offset types packed s ts k ≤ e.size
  offset_within packed [] k s e l p h = absurd (omega arith)
  offset_within packed (t ∷ ts) zero s e l p h = by_extent (extent_in types t) (all_positive (t ∷ ts)).0 h
    where
      by_extent : (o : Option Extent) → Positive o → place_fields packed s (o ∷ map (extent_in types) ts) ≡ Some e
          → (if packed then s.size else round_up s.size (unwrap_or (option_map (λ w. w.align) o) 1)) ≤ e.size
      by_extent None q k' = absurd (none-some e k')
      by_extent (Some f) q k' = begins_within packed s f e (map (extent_in types) ts) p q (all_positive ts) k'
  offset_within packed (t ∷ ts) (suc k) s e l p h = by_extent (λ r q w. offset_within packed ts k r e (omega arith) q w) (extent_in types t) h
    where
      by_extent : ((r : Extent) → 1 ≤ r.align → place_fields packed r (map (extent_in types) ts) ≡ Some e → field_offset types packed r ts k ≤ e.size) → (o : Option Extent)
          → place_fields packed s (o ∷ map (extent_in types) ts) ≡ Some e
          → field_offset types packed (place_field packed s (extent (unwrap_or (option_map (λ w. w.size) o) 0) (unwrap_or (option_map (λ w. w.align) o) 1))) ts k ≤ e.size
      by_extent rest None k' = absurd (none-some e k')
      by_extent rest (Some f) k' = rest (place_field packed s f) (place_positive packed s f p) k'

  -- ---- arrays

  array_within : (n k : ℕ) (us : List Ty) (e : Extent) → k < n → array_extent n (map (extent_in types) us) ≡ Some e → k * size_in types (type_at us 0) ≤ e.size
  array_within n k [] e l h = absurd (none-some e h)
  array_within n k (u ∷ us) e l h = by_extent (extent_in types u) h
    where
      by_extent : (o : Option Extent) → array_extent n (o ∷ map (extent_in types) us) ≡ Some e → k * unwrap_or (option_map (λ w. w.size) o) 0 ≤ e.size
      by_extent None k' = absurd (none-some e k')
      by_extent (Some f) k' =
          let same : n * f.size ≡ e.size = ap (λ x. x.size) (same_Some (extent (n * f.size) f.align) e k') in
          let few : k ≤ n = omega arith in
          omega (arith, same, mul-le-mul_right f.size few)

  -- ---- any part of a type with an extent

  row_is : (named : Name → Option Extent) {n : _} → (r : Row_of-Ty n) → row_extents named r ≡ map (type_extent named) (row_types r)
  row_is named end_of-Ty = refl
  row_is named (more_of-Ty t ts) = ap (λ es. type_extent named t ∷ es) (row_is named ts)

  part_within : (t : Ty) (k : ℕ) (e : Extent) → k < count_parts t → extent_in types t ≡ Some e → part_offset types t k ≤ e.size
  part_within (Array' n shape item) k e l h = array_within n k (row_types item) e l (sym (ap (array_extent n) (row_is (named_extent (lookup types) 32) item)) ∙ h)
  part_within (Struct' packed shape fields) k e l h =
      offset_within packed (row_types fields) k (extent 0 1) e l (omega arith) (sym (ap (place_fields packed (extent 0 1)) (row_is (named_extent (lookup types) 32) fields)) ∙ h)
  part_within (Int n) k e l h = absurd (omega arith)
  part_within Ptr k e l h = absurd (omega arith)
  part_within (Named x) k e l h = absurd (omega arith)

  resolved_extent : (t : Ty) (e : Extent) → extent_in types t ≡ Some e → extent_in types (resolved types t) ≡ Some e
  resolved_extent (Int n) e h = h
  resolved_extent Ptr e h = h
  resolved_extent (Array' n shape item) e h = h
  resolved_extent (Struct' packed shape fields) e h = h
  resolved_extent (Named x) e h = by_type (lookup types x) h
    where
      by_type : (o : Option Ty) → option_and_then (type_extent (named_extent (lookup types) 31)) o ≡ Some e → extent_in types (unwrap_or o Ptr) ≡ Some e
      by_type None k = absurd (none-some e k)
      by_type (Some t) k = type_extends (named_extent (lookup types) 31) (named_extent (lookup types) 32) (named_extends (lookup types) 31) t e k

  -- the bound that a type with a size gives its parts
  pub offset_bound : (t : Ty) (k : ℕ) → IsSome (size_of types t) → k < count_parts (resolved types t) → part_offset types (resolved types t) k ≤ 2 ^ 26
  offset_bound t k some l = by_extent (extent_in types t) refl some
    where
      by_test : (e : Extent) (b : Bool) → extent_in types t ≡ Some e → nat_le e.size (2 ^ 26) ≡ b → IsSome (if b then Some e.size else None) → part_offset types (resolved types t) k ≤ 2 ^ 26
      by_test e true h test there =
          let low = leb-true e.size (2 ^ 26) test in
          let within = part_within (resolved types t) k e l (resolved_extent t e h) in
          omega (arith, low, within)
      by_test e false h test there = absurd (false≢true there)

      by_extent : (o : Option Extent) → extent_in types t ≡ o
          → IsSome (option_and_then (λ whole. if nat_le whole.size (2 ^ 26) then Some whole.size else None) o) → part_offset types (resolved types t) k ≤ 2 ^ 26
      by_extent None h there = absurd (false≢true there)
      by_extent (Some e) h there = by_test e (nat_le e.size (2 ^ 26)) h refl there

  -- a limited number that is the limit of a low one is that number
  pub exact : (t u : Ty) (k r : ℕ) → IsSome (size_of types t) → k < count_parts (resolved types t) → u ≡ resolved types t
      → limited r ≡ limited (part_offset types u k) → r ≡ part_offset types (resolved types t) k
  exact t u k r some l same h =
      let low = offset_bound t k some l in
      let e : part_offset types u k ≡ part_offset types (resolved types t) k = ap (λ w. part_offset types w k) same in
      omega (arith, low, e, h)
