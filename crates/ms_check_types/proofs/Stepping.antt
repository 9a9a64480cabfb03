-- Steps from a type to its parts, as the definition has them and as the code takes them.
use Rattle.std.proofs.Common.{◌≡◌, ℕ, zero, suc, ◌^◌, min, ◌<◌, ◌≤◌, List, [], ◌∷◌, length, Bool, true, false, Option, Some, None, refl, sym, ap, ◌∙◌, arith, ◌+◌, drop, get_or, add-one}
use Rattle.std.specs.Prelude.{option_and_then, slice_get, if◌then◌else◌, ◌&&◌, nat_lt, is_none}
use Rattle.std.proofs.lemmas.Bool.{ltb-true, ltb-false}
use Rattle.std.proofs.lemmas.Option.{same_Some, none-some}
use Rattle.ms_ir.specs.declared.syntax.Ty.{Ty, Int, Ptr, Array', Struct', Named, Array, Struct}
use Rattle.ms_ir.specs.declared.syntax.Ty.TheBlock.{hidden-the_row-Ty-0, shape-the_row-Ty-0}
use Rattle.ms_ir.specs.declared.syntax.Operand.{Operand}
use Rattle.ms_ir.specs.declared.syntax.Operand.TheVariants as operand
use Rattle.ms_ir.specs.Layout.{Types, resolved, row_types, type_at, part_type}
use Rattle.ms_ir.specs.Equal.{type_eq}
use Rattle.ms_ir.proofs.Sizes.{drop_next}
use Rattle.ms_ir.proofs.TypeRows.{struct_types}
use Rattle.ms_check_valid.specs.TypesAgree.{leads_into, number_or_zero, is_below, first_misstep, constant_indices}
use Rattle.ms_check_types.specs.Parts.{constant_of, field_at, part_by}

-- ---- parts of arrays and structs

pub part-array : (n : ℕ) (t u : Ty) (k : Option ℕ) → part_by (Array n t) u k ≡ Some t
unfolding hidden-the_row-Ty-0 shape-the_row-Ty-0 denote.Hole.Carrier.hidden
part-array n t u k = refl

pub part-struct : (p : Bool) (ts : List Ty) (u : Ty) (k : Option ℕ) → part_by (Struct p ts) u k ≡ (if type_eq u (Int 32) then option_and_then (field_at ts) k else None)
part-struct p ts u k = ap (λ us. if type_eq u (Int 32) then option_and_then (field_at us) k else None) (struct_types ts)

-- ---- what an index leads to

get_within : (ts : List Ty) (k : ℕ) → k < length ts → slice_get ts k ≡ Some (type_at ts k)
get_within [] k l = absurd (omega arith)
get_within (t ∷ ts) zero l = refl
get_within (t ∷ ts) (suc k) l = get_within ts k (omega arith)

get_beyond : (ts : List Ty) (k : ℕ) → length ts ≤ k → slice_get ts k ≡ None
get_beyond [] k l = refl
get_beyond (t ∷ ts) zero l = absurd (omega arith)
get_beyond (t ∷ ts) (suc k) l = get_beyond ts k (omega arith)

get_at : (ts : List Ty) (k : ℕ) → field_at ts k ≡ (if nat_lt k (min (length ts) (2 ^ 31)) then Some (type_at ts k) else None)
get_at ts k = by_tests (nat_lt k (2 ^ 31)) (nat_lt k (min (length ts) (2 ^ 31))) refl refl
  where
    both : k < min (length ts) (2 ^ 31) → (k < length ts) × (k < 2 ^ 31)
    both l = (omega (arith, l), omega (arith, l))

    beyond : k < 2 ^ 31 → min (length ts) (2 ^ 31) ≤ k → length ts ≤ k
    beyond l g = omega (arith, l, g)

    apart : 2 ^ 31 ≤ k → k < 2 ^ 31 → ⊥
    apart g l = omega (arith, g, l)

    by_tests : (a b : Bool) → nat_lt k (2 ^ 31) ≡ a → nat_lt k (min (length ts) (2 ^ 31)) ≡ b
        → (if a then slice_get ts k else None) ≡ (if b then Some (type_at ts k) else None)
    by_tests true true e f = get_within ts k (both (ltb-true k (min (length ts) (2 ^ 31)) f)).0
    by_tests true false e f = get_beyond ts k (beyond (ltb-true k (2 ^ 31) e) (ltb-false k (min (length ts) (2 ^ 31)) f))
    by_tests false true e f = absurd (apart (ltb-false k (2 ^ 31) e) (both (ltb-true k (min (length ts) (2 ^ 31)) f)).1)
    by_tests false false e f = refl

field_told : (ts : List Ty) (b : Bool) (o : Operand)
    → (if b then option_and_then (field_at ts) (constant_of o) else None) ≡ (if b && is_below (min (length ts) (2 ^ 31)) o then Some (type_at ts (number_or_zero o)) else None)
field_told ts false o = refl
field_told ts true (operand.Int k) = get_at ts k
field_told ts true operand.Null = refl
field_told ts true operand.Undef = refl
field_told ts true operand.Poison = refl
field_told ts true (operand.Local x) = refl
field_told ts true (operand.Global x) = refl
field_told ts true (operand.Offset x steps) = refl

pub leads : (t u : Ty) (o : Operand) → part_by t u (constant_of o) ≡ (if leads_into t (u, o) then Some (part_type t (number_or_zero o)) else None)
leads (Int n) u o = refl
leads Ptr u o = refl
leads (Array' n shape item) u o = refl
leads (Struct' packed shape fields) u o = field_told (row_types fields) (type_eq u (Int 32)) o
leads (Named x) u o = refl

-- ---- a step of the first index at fault

module _ (fits : Ty × Operand → Bool) (types : Types) where
  pub step_on : (t : Ty) (k : ℕ) (index : Ty × Operand) (rest : List (Ty × Operand)) (p : Ty) → fits index ≡ true → Some p ≡ part_by (resolved types t) index.0 (constant_of index.1)
      → first_misstep fits types t k (index ∷ rest) ≡ first_misstep fits types p (suc k) rest
  step_on t k index rest p ok led = by_test (leads_into r index) refl (sym (leads r index.0 index.1) ∙ sym led)
    where
      r : Ty
      r = resolved types t

      by_test : (b : Bool) → leads_into (resolved types t) index ≡ b → (if b then Some (part_type (resolved types t) (number_or_zero index.1)) else None) ≡ Some p
          → first_misstep fits types t k (index ∷ rest) ≡ first_misstep fits types p (suc k) rest
      by_test true e h =
          ap (λ f. if f && leads_into (resolved types t) index then first_misstep fits types (part_type (resolved types t) (number_or_zero index.1)) (suc k) rest else Some k) ok
          ∙ ap (λ b. if b then first_misstep fits types (part_type (resolved types t) (number_or_zero index.1)) (suc k) rest else Some k) e
          ∙ ap (λ q. first_misstep fits types q (suc k) rest) (same_Some _ p h)
      by_test false e h = absurd (none-some p h)

  pub step_nowhere : (t : Ty) (k : ℕ) (index : Ty × Operand) (rest : List (Ty × Operand)) → fits index ≡ true → None ≡ part_by (resolved types t) index.0 (constant_of index.1)
      → first_misstep fits types t k (index ∷ rest) ≡ Some k
  step_nowhere t k index rest ok led = by_test (leads_into (resolved types t) index) refl (sym (leads (resolved types t) index.0 index.1) ∙ sym led)
    where
      by_test : (b : Bool) → leads_into (resolved types t) index ≡ b → (if b then Some (part_type (resolved types t) (number_or_zero index.1)) else None) ≡ None
          → first_misstep fits types t k (index ∷ rest) ≡ Some k
      by_test true e h = absurd (none-some _ (sym h))
      by_test false e h =
          ap (λ f. if f && leads_into (resolved types t) index then first_misstep fits types (part_type (resolved types t) (number_or_zero index.1)) (suc k) rest else Some k) ok
          ∙ ap (λ b. if b then first_misstep fits types (part_type (resolved types t) (number_or_zero index.1)) (suc k) rest else Some k) e

  pub step_misfit : (t : Ty) (k : ℕ) (index : Ty × Operand) (rest : List (Ty × Operand)) → fits index ≡ false → first_misstep fits types t k (index ∷ rest) ≡ Some k
  step_misfit t k index rest bad = ap (λ f. if f && leads_into (resolved types t) index then first_misstep fits types (part_type (resolved types t) (number_or_zero index.1)) (suc k) rest else Some k) bad

-- ---- a step of the loops

module _ (types : Types) (indices : List (Ty × ℕ)) where
  constants_next : (i : ℕ) (x : Ty × ℕ) → i < length indices → x ≡ get_or indices i x → constant_indices (drop i indices) ≡ (x.0, operand.Int x.1) ∷ constant_indices (drop (i + 1) indices)
  constants_next i x l is = ap constant_indices (drop_next indices i x l is)

  pub leads_stop : (i : ℕ) (x : Ty × ℕ) (whole : Ty) (all : Bool) → i < length indices → x ≡ get_or indices i x → None ≡ part_by (resolved types whole) x.0 (Some x.1)
      → is_none (first_misstep (λ j. true) types whole i (constant_indices (drop i indices))) ≡ all → false ≡ all
  leads_stop i x whole all l is nowhere inv =
      sym (ap is_none (ap (first_misstep (λ j. true) types whole i) (constants_next i x l is)
      ∙ step_nowhere (λ j. true) types whole i (x.0, operand.Int x.1) (constant_indices (drop (i + 1) indices)) refl nowhere)) ∙ inv

  pub leads_more : (i : ℕ) (x : Ty × ℕ) (whole p : Ty) (all : Bool) → i < length indices → x ≡ get_or indices i x → Some p ≡ part_by (resolved types whole) x.0 (Some x.1)
      → is_none (first_misstep (λ j. true) types whole i (constant_indices (drop i indices))) ≡ all → is_none (first_misstep (λ j. true) types p (i + 1) (constant_indices (drop (i + 1) indices))) ≡ all
  leads_more i x whole p all l is led inv =
      ap (λ n. is_none (first_misstep (λ j. true) types p n (constant_indices (drop (i + 1) indices)))) (add-one i)
      ∙ sym (ap is_none (ap (first_misstep (λ j. true) types whole i) (constants_next i x l is)
      ∙ step_on (λ j. true) types whole i (x.0, operand.Int x.1) (constant_indices (drop (i + 1) indices)) p refl led)) ∙ inv

module _ (fits : Ty × Operand → Bool) (types : Types) (indices : List (Ty × Operand)) where
  pub misstep_nowhere : (first i : ℕ) (x : Ty × Operand) (whole : Ty) (place : ℕ) (all : Option ℕ) → i < length indices → x ≡ get_or indices i x → place ≡ first + i → fits x ≡ true
      → None ≡ part_by (resolved types whole) x.0 (constant_of x.1) → first_misstep fits types whole (first + i) (drop i indices) ≡ all → Some place ≡ all
  misstep_nowhere first i x whole place all l is at ok nowhere inv =
      ap Some at ∙ sym (ap (first_misstep fits types whole (first + i)) (drop_next indices i x l is) ∙ step_nowhere fits types whole (first + i) x (drop (i + 1) indices) ok nowhere) ∙ inv

  pub misstep_on : (first i : ℕ) (x : Ty × Operand) (whole p : Ty) (all : Option ℕ) → i < length indices → x ≡ get_or indices i x → fits x ≡ true
      → Some p ≡ part_by (resolved types whole) x.0 (constant_of x.1) → first_misstep fits types whole (first + i) (drop i indices) ≡ all
      → first_misstep fits types p (first + (i + 1)) (drop (i + 1) indices) ≡ all
  misstep_on first i x whole p all l is ok led inv =
      let n : first + (i + 1) ≡ suc (first + i) = omega arith in
      ap (λ k. first_misstep fits types p k (drop (i + 1) indices)) n
      ∙ sym (ap (first_misstep fits types whole (first + i)) (drop_next indices i x l is) ∙ step_on fits types whole (first + i) x (drop (i + 1) indices) p ok led) ∙ inv

  pub misstep_misfit : (first i : ℕ) (x : Ty × Operand) (whole : Ty) (place : ℕ) (all : Option ℕ) → i < length indices → x ≡ get_or indices i x → place ≡ first + i → fits x ≡ false
      → first_misstep fits types whole (first + i) (drop i indices) ≡ all → Some place ≡ all
  misstep_misfit first i x whole place all l is at bad inv =
      ap Some at ∙ sym (ap (first_misstep fits types whole (first + i)) (drop_next indices i x l is) ∙ step_misfit fits types whole (first + i) x (drop (i + 1) indices) bad) ∙ inv
