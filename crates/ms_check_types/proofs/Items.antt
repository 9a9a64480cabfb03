-- The items of initialisers, as the definition has them and as the code takes them.
use Rattle.std.proofs.Common.{◌≡◌, ℕ, suc, List, [], ◌∷◌, length, replicate, Bool, true, false, Option, Some, None, refl, sym, ap, ◌∙◌}
use Rattle.std.specs.Prelude.{◌&&◌, nat_eq, if◌then◌else◌, ◌≢◌}
use Rattle.std.specs.Bool.{beq}
use Rattle.std.specs.List.{list_all}
use Rattle.std.proofs.lemmas.Bool.{eq-eqb}
use Rattle.ms_ir.specs.declared.syntax.Ty.{Ty, Int, Array, Struct}
use Rattle.ms_ir.specs.declared.syntax.Ty.TheBlock.{hidden-the_row-Ty-0, shape-the_row-Ty-0}
use Rattle.ms_ir.specs.declared.syntax.Operand.{Operand}
use Rattle.ms_ir.specs.declared.syntax.Init.{Init}
use Rattle.ms_ir.specs.declared.syntax.Init as initial
use Rattle.ms_ir.specs.Layout.{Types, resolved}
use Rattle.ms_ir.specs.Equal.{type_eq}
use Rattle.ms_ir.proofs.Differing.{and_true}
use Rattle.ms_ir.proofs.TypeRows.{struct_types}
use Rattle.ms_check_valid.specs.Initialisers.{item_types, field_types, is_text_type, init_fits}
use Rattle.ms_check_valid.proofs.TypeShapes.{list_fits, init_fits-array, init_fits-struct}
use Rattle.ms_check_types.specs.Items.{item_fits, each_fits, all_fit}

-- ---- what is asked for

pub item_types-array : (n : ℕ) (t : Ty) (count : ℕ) → item_types (Array n t) count ≡ (if nat_eq n count then Some (replicate count t) else None)
unfolding hidden-the_row-Ty-0 shape-the_row-Ty-0 denote.Hole.Carrier.hidden
item_types-array n t count = refl

pub field_types-struct : (own : Bool) (ts : List Ty) (packed : Bool) → field_types (Struct own ts) packed ≡ (if beq own packed then Some ts else None)
field_types-struct own ts packed = ap (λ us. if beq own packed then Some us else None) (struct_types ts)

pub is_text_type-array : (n : ℕ) (t : Ty) (count : ℕ) → is_text_type (Array n t) count ≡ (nat_eq n count && (type_eq t (Int 8) && true))
unfolding hidden-the_row-Ty-0 shape-the_row-Ty-0 denote.Hole.Carrier.hidden
is_text_type-array n t count = refl

-- ---- items

module _ (fits : Ty → Operand → Bool) (types : Types) where
  lists_same : (asked : Option (List Ty)) (xs : List (Ty × Init)) → list_fits fits types asked xs ≡ all_fit fits types asked xs
  lists_same None [] = refl
  lists_same None (x ∷ xs) = refl
  lists_same (Some []) [] = refl
  lists_same (Some []) (x ∷ xs) = refl
  lists_same (Some (t ∷ ts)) [] = refl
  lists_same (Some (t ∷ ts)) (x ∷ xs) = ap (λ b. item_fits fits types t x && b) (lists_same (Some ts) xs)

  pub array_items : (t : Ty) (i : Init) (xs : List (Ty × Init)) → i ≡ initial.Array xs → all_fit fits types (item_types t (length xs)) xs ≡ init_fits fits types t i
  array_items t i xs is = sym (ap (init_fits fits types t) is ∙ init_fits-array fits types t xs ∙ lists_same (item_types t (length xs)) xs)

  pub struct_fields : (t : Ty) (i : Init) (p : Bool) (xs : List (Ty × Init)) → i ≡ initial.Struct p xs → all_fit fits types (field_types (resolved types t) p) xs ≡ init_fits fits types t i
  struct_fields t i p xs is = sym (ap (init_fits fits types t) is ∙ init_fits-struct fits types t p xs ∙ lists_same (field_types (resolved types t) p) xs)

  pub one_type : (t : Ty) (xs : List (Ty × Init)) → list_all (item_fits fits types t) xs ≡ each_fits fits types (replicate (length xs) t) xs
  one_type t [] = refl
  one_type t (x ∷ xs) = ap (λ b. item_fits fits types t x && b) (one_type t xs)

  pub whole_array : (w : Ty) (n : ℕ) (t : Ty) (xs : List (Ty × Init)) → w ≡ Array n t → n ≡ length xs → list_all (item_fits fits types t) xs ≡ all_fit fits types (item_types w (length xs)) xs
  whole_array w n t xs is same =
      one_type t xs ∙ sym (ap (λ u. all_fit fits types (item_types u (length xs)) xs) is ∙ ap (λ o. all_fit fits types o xs) (item_types-array n t (length xs))
      ∙ ap (λ b. all_fit fits types (if b then Some (replicate (length xs) t) else None) xs) (eq-eqb n (length xs) same))

  pub other_array : (w : Ty) (n : ℕ) (t : Ty) (xs : List (Ty × Init)) → w ≡ Array n t → nat_eq n (length xs) ≡ false → false ≡ all_fit fits types (item_types w (length xs)) xs
  other_array w n t xs is other =
      sym (ap (λ u. all_fit fits types (item_types u (length xs)) xs) is ∙ ap (λ o. all_fit fits types o xs) (item_types-array n t (length xs))
      ∙ ap (λ b. all_fit fits types (if b then Some (replicate (length xs) t) else None) xs) other)

  pub whole_struct : (w : Ty) (own packed : Bool) (ts : List Ty) (xs : List (Ty × Init)) → w ≡ Struct own ts → beq own packed ≡ true → each_fits fits types ts xs ≡ all_fit fits types (field_types w packed) xs
  whole_struct w own packed ts xs is same =
      sym (ap (λ u. all_fit fits types (field_types u packed) xs) is ∙ ap (λ o. all_fit fits types o xs) (field_types-struct own ts packed)
      ∙ ap (λ b. all_fit fits types (if b then Some ts else None) xs) same)

  pub other_struct : (w : Ty) (own packed : Bool) (ts : List Ty) (xs : List (Ty × Init)) → w ≡ Struct own ts → beq own packed ≡ false → false ≡ all_fit fits types (field_types w packed) xs
  other_struct w own packed ts xs is other =
      sym (ap (λ u. all_fit fits types (field_types u packed) xs) is ∙ ap (λ o. all_fit fits types o xs) (field_types-struct own ts packed)
      ∙ ap (λ b. all_fit fits types (if b then Some ts else None) xs) other)

  pub other_count : (ts : List Ty) (xs : List (Ty × Init)) → length ts ≢ length xs → false ≡ each_fits fits types ts xs
  other_count [] [] other = absurd (other refl)
  other_count [] (x ∷ xs) other = refl
  other_count (t ∷ ts) [] other = refl
  other_count (t ∷ ts) (x ∷ xs) other = by_head (item_fits fits types t x) (other_count ts xs (λ e. other (ap suc e)))
    where
      by_head : (b : Bool) → false ≡ each_fits fits types ts xs → false ≡ (b && each_fits fits types ts xs)
      by_head true e = e
      by_head false e = refl

pub text_array : (w : Ty) (n : ℕ) (t : Ty) (count : ℕ) → w ≡ Array n t → n ≡ count → type_eq t (Int 8) ≡ is_text_type w count
text_array w n t count is same =
    sym (ap (λ u. is_text_type u count) is ∙ is_text_type-array n t count ∙ ap (λ b. b && (type_eq t (Int 8) && true)) (eq-eqb n count same) ∙ and_true (type_eq t (Int 8)))
