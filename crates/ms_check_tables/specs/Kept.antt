-- What stands for the extents of named types while they are laid out, one link of their chains after the other. What
-- `Extents` promises does not name this.
use Rattle.std.specs.Prelude.{◌≡◌, ℕ, List, All, map, Option, Some, None, option_map, option_and_then, IfSome, nat_le, ◌^◌, if◌then◌else◌}
use Rattle.ms_ir.specs.declared.syntax.Name.{Name}
use Rattle.ms_ir.specs.Names.{lookup}
use Rattle.ms_ir.specs.Layout.{Extent, Types, named_extent}
use Rattle.ms_ir.specs.declared.layouts.Layout.{Layout}
use Rattle.ms_ir.specs.Extents.{IsLayout, limit_extent, as_extent}
use Rattle.ms_check_tables.specs.FirstPlace.{first_place, at_place}

-- named types, and the greatest number of links of their chains
pub record Links : Type 0 where
  pub types : Types
  pub links : ℕ

abbrev pub links_of : Types → ℕ → Links
links_of types links = record { types = types; links = links }

-- the extents that rows of layouts stand for
abbrev pub laid_rows : List (Option Layout) → List (Option Extent)
laid_rows rows = map (option_map as_extent) rows

-- a row that may be missing, and may be empty
abbrev pub row_or_none : {A : Type 0} → Option (Option A) → Option A
row_or_none o = elim o [ Some row ↦ row | None ↦ None ]

-- names and layouts stand for the extents of the named types, with chains of so many links
pub record IsKept (types : Types) (names : List Name) (links : ℕ) (layouts : List (Option Layout)) : Type 0 where
  pub names_are : names ≡ map (λ t. t.0) types
  pub known : (x : Name) → row_or_none (at_place (laid_rows layouts) (first_place names x)) ≡ option_map limit_extent (named_extent (lookup types) links x)
  pub are_layouts : All (λ row. IfSome row IsLayout) layouts

-- the size of an extent, where there is one and its size is within the limit
abbrev pub size_within : Option Extent → Option ℕ
size_within o = option_and_then (λ whole. if nat_le whole.size (2 ^ 26) then Some whole.size else None) o
