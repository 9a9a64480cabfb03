-- Instructions by their places and sites (own).
use Rattle.std.specs.Prelude.{◌≡◌, ◌+◌, ◌<◌, ◌^◌, ℕ, false, length, Option, Some, slice_get}
use Rattle.ms_ir.specs.declared.syntax.Inst.{Inst}
use Rattle.ms_ir.specs.declared.syntax.Module.{Module}
use Rattle.ms_ir.specs.declared.places.Place.{Place}
use Rattle.ms_ir.specs.Instructions.{blocks_at, insts_at, over_funcs, one_unmarked, site_at}

-- the number of sites of a module: of its unmarked instructions
abbrev pub count_sites : Module → ℕ
count_sites m = over_funcs one_unmarked m.funcs

-- the instruction at a place
abbrev pub inst_at : Module → Place → Option Inst
inst_at m p = slice_get (insts_at m p.func p.block) p.inst

-- an unmarked instruction stands at a place
pub record IsUnmarkedAt (m : Module) (p : Place) : Type 0 where
  pub inst : Inst
  pub here : inst_at m p ≡ Some inst
  pub unmarked : inst.marked ≡ false

-- the place of an unmarked instruction with a site
pub record IsPlaceOf (m : Module) (site : ℕ) (p : Place) : Type 0 where
  pub unmarked : IsUnmarkedAt m p
  pub site_is : site_at m p.func p.block p.inst ≡ site

-- sites, and the numbers of functions, blocks and instructions in a block, have 32 bits; each module that is read has this
pub record HasSmallNumbers (m : Module) : Type 0 where
  pub sites : 1 + count_sites m < 2 ^ 32
  pub funcs : length m.funcs < 2 ^ 32
  pub blocks : (f : ℕ) → length (blocks_at m f) < 2 ^ 32
  pub insts : (f b : ℕ) → length (insts_at m f b) < 2 ^ 32
