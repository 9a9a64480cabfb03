-- Rows of layouts beside the named types that they stand for.
use Rattle.std.proofs.Common.{◌≡◌, ℕ, suc, ◌+◌, Bool, true, false, List, [], ◌∷◌, map, Option, Some, None, refl, sym, ap, ◌∙◌, subst, add-one, if◌then◌else◌}
use Rattle.std.specs.Prelude.{All, IfSome, option_map, option_and_then}
use Rattle.std.proofs.lemmas.List.Elements.{All-map}
use Rattle.ms_ir.specs.declared.syntax.Name.{Name}
use Rattle.ms_ir.specs.declared.syntax.Ty.{Ty}
use Rattle.ms_ir.specs.Names.{name_eq, lookup}
use Rattle.ms_ir.specs.Layout.{Extent, Types, type_extent, named_extent}
use Rattle.ms_ir.specs.declared.layouts.Layout.{Layout}
use Rattle.ms_ir.specs.Extents.{IsLayout, limit_extent}
use Rattle.ms_check_tables.specs.FirstPlace.{first_place, at_place}
use Rattle.ms_check_tables.specs.Kept.{laid_rows, row_or_none, IsKept}

-- what stands beside the first type with a name
mapped_row : (e : Ty → Option Extent) (types : Types) (x : Name)
    → row_or_none (at_place (map (λ t. e t.1) types) (first_place (map (λ t. t.0) types) x)) ≡ option_and_then e (lookup types x)
mapped_row e [] x = refl
mapped_row e (t ∷ rest) x = split (name_eq t.0 x) (first_place (map (λ u. u.0) rest) x) (mapped_row e rest x)
  where
    split : (hit : Bool) (place : Option ℕ) → row_or_none (at_place (map (λ u. e u.1) rest) place) ≡ option_and_then e (lookup rest x)
        → row_or_none (at_place (e t.1 ∷ map (λ u. e u.1) rest) (if hit then Some 0 else option_map suc place)) ≡ option_and_then e (if hit then Some t.1 else lookup rest x)
    split true place h = refl
    split false (Some k) h = h
    split false None h = h

then_mapped : (f : Extent → Extent) (e : Ty → Option Extent) (o : Option Ty) → option_and_then (λ t. option_map f (e t)) o ≡ option_map f (option_and_then e o)
then_mapped f e None = refl
then_mapped f e (Some t) = refl

then_none : (o : Option Ty) → ◌≡◌ {A = Option Extent} (option_and_then (λ t. None) o) None
then_none None = refl
then_none (Some t) = refl

laid_none : (types : Types) → laid_rows (map (λ t. None) types) ≡ map (λ t. None) types
laid_none [] = refl
laid_none (t ∷ rest) = ap (λ rows. None ∷ rows) (laid_none rest)

row_at : (types : Types) (names : List Name) (rows : List (Option Extent)) (e : Ty → Option Extent) (x : Name) → names ≡ map (λ t. t.0) types → rows ≡ map (λ t. e t.1) types
    → row_or_none (at_place rows (first_place names x)) ≡ option_and_then e (lookup types x)
row_at types names rows e x h k =
    ap (λ ns. row_or_none (at_place rows (first_place ns x))) h ∙ ap (λ rs. row_or_none (at_place rs (first_place (map (λ t. t.0) types) x))) k ∙ mapped_row e types x

-- where chains have no link, no named type has an extent
pub none_kept : (types : Types) (names : List Name) (layouts : List (Option Layout)) → names ≡ map (λ t. t.0) types → layouts ≡ map (λ t. None) types
    → IsKept types names 0 layouts
none_kept types names layouts h k = record {
  names_are = h;
  known = λ x. row_at types names (laid_rows layouts) (λ t. None) x h (ap laid_rows k ∙ laid_none types) ∙ then_none (lookup types x);
  are_layouts = subst (λ rows. All (λ row. IfSome row IsLayout) rows) (sym k) (All-map (λ row. IfSome row IsLayout) (λ t. None) types (every types));
}
  where
    every : (ts : Types) → All (λ t. Unit {0}) ts
    every ts = λ k d lt. tt

-- the extents of the definitions, in which chains have so many links, are those where they have one more
pub longer_kept : (types : Types) (names : List Name) (links : ℕ) (layouts : List (Option Layout)) → names ≡ map (λ t. t.0) types
    → laid_rows layouts ≡ map (λ t. option_map limit_extent (type_extent (named_extent (lookup types) links) t.1)) types → All (λ row. IfSome row IsLayout) layouts
    → IsKept types names (links + 1) layouts
longer_kept types names links layouts h k all = record {
  names_are = h;
  known = λ x.
      row_at types names (laid_rows layouts) (λ t. option_map limit_extent (type_extent (named_extent (lookup types) links) t)) x h k
      ∙ then_mapped limit_extent (type_extent (named_extent (lookup types) links)) (lookup types x)
      ∙ ap (λ n. option_map limit_extent (named_extent (lookup types) n x)) (sym (add-one links));
  are_layouts = all;
}
