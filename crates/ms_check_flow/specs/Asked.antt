-- What is asked of a function (own). What the crate promises does not name this file.
use Rattle.std.specs.Prelude.{◌≡◌, ◌≢◌, ℕ, ◌+◌, ◌^◌, ◌<◌, List, ◌∷◌, ◌++◌, length, All, AllPairs, IsTrue}
use Rattle.ms_flow.specs.Search.{StaysIn}
use Rattle.ms_ir.specs.declared.syntax.Func.{Func}
use Rattle.ms_ir.specs.Instructions.{over_blocks}
use Rattle.ms_ir.specs.Equal.{has_name}
use Rattle.ms_check_valid.specs.Formed.{count_written}
use Rattle.ms_ir.specs.Locals.{locals}
use Rattle.ms_check_valid.specs.Paths.{Misses}
use Rattle.ms_ir.specs.Spots.{over_block_spots}
use Rattle.ms_check_valid.specs.UsesDefined.{SiteUse, IsUseDefined, inst_uses}
use Rattle.ms_check_valid.specs.FlowGraph.{value_names, graph_of}

-- the uses of values in a function that begins at a site, in text order
abbrev pub func_uses : Func → ℕ → List SiteUse
func_uses f site = over_block_spots (λ at inst. inst_uses at inst.op) f 0 site f.blocks

-- a use of a value of the function, in one of its blocks
pub record IsWithin (u : SiteUse) : Type 0 where
  pub block : u.value.block < length u.func.blocks
  pub known : IsTrue (has_name (locals u.func) u.value.name)

-- the uses of a function that begins at a site can be asked about: it is small, its branches go to its blocks, and its uses
-- are of its values
pub record CanBeAsked (f : Func) (site : ℕ) : Type 0 where
  pub few_names : length (value_names f) < 2 ^ 32
  pub few_operands : site + over_blocks count_written f.blocks < 2 ^ 31
  pub branches : StaysIn (graph_of f)
  pub values : All IsWithin (func_uses f site)

-- the first of some uses that isn't defined on every path has a site, and a path shows it that visits no block twice
pub record IsFirstOf (all : List SiteUse) (site : ℕ) (path : List ℕ) : Type 0 where
  pub earlier : List SiteUse
  pub «use» : SiteUse
  pub later : List SiteUse
  pub splits : all ≡ earlier ++ «use» ∷ later
  pub defined : All IsUseDefined earlier
  pub misses : Misses «use».func «use».value path
  pub once : AllPairs (λ a b. a ≢ b) path
  pub stands : «use».site ≡ site
