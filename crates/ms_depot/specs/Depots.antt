-- What a depot holds, and what the numbers of its origins stand for (own, as the definitions of chained origins).
use Rattle.std.specs.Prelude.{◌≡◌, ◌≤◌, ◌<◌, ◌+◌, ◌-◌, ◌^◌, ℕ, List, length, get_or, slice_get, leb, if◌then◌else◌, Some}
use Rattle.ms_runs.specs.declared.runs.Origin.{Origin}
use Rattle.ms_runs.specs.declared.runs.Origin.TheVariants.{Root, Chain}
use Rattle.ms_runs.specs.World.{World, Setting}
use Rattle.ms_runs.specs.Origins.{chain, pair_limit}

-- what contracts see of a depot: the number of roots, and the pairs in the order in which they came
pub record DepotState : Type 0 where
  pub roots : ℕ
  pub pairs : List (ℕ × ℕ)

-- what a depot keeps: the depth of each pair beside it
pub record Rows : Type 0 where
  pub roots : ℕ
  pub pairs : List (ℕ × ℕ)
  pub depths : List ℕ

-- a number is that of a root or of one of so many pairs
abbrev pub IsNumber : (roots count id : ℕ) → Type 0
IsNumber roots count id = (0 < id) × (id ≤ roots + count)

-- what a number stands for
abbrev pub StandsFor : DepotState → ℕ → Origin → Type 0
StandsFor d id (Root number) = (number ≡ id) × ((0 < id) × (id ≤ d.roots))
StandsFor d id (Chain old site) = (d.roots < id) × (slice_get d.pairs (id - d.roots - 1) ≡ Some (old, site))

-- the number before an origin on its way to its root, 0 before the root
abbrev pub earlier_of : Origin → ℕ
earlier_of (Root number) = 0
earlier_of (Chain old site) = old

-- the depth of an origin: a root has 0
abbrev pub depth_in : ℕ → List ℕ → ℕ → ℕ
depth_in roots depths id = if leb id roots then 0 else get_or depths (id - roots - 1) 0

-- a pair's earlier origin is a root or an earlier pair, and it is one deeper
pub record IsPair (roots : ℕ) (depths : List ℕ) (k : ℕ) (p : ℕ × ℕ) : Type 0 where
  pub some : 0 < p.0
  pub earlier : p.0 ≤ roots + k
  pub depth : get_or depths k 0 ≡ depth_in roots depths p.0 + 1

-- what every depot has; a depth may be left over where a pair was wanting memory
pub record IsDepot (d : Rows) : Type 0 where
  pub pairs : (k : ℕ) (x : ℕ × ℕ) → k < length d.pairs → IsPair d.roots d.depths k (get_or d.pairs k x)
  pub depths : length d.pairs ≤ length d.depths
  pub few : length d.pairs ≤ pair_limit
  pub roots : d.roots < 2 ^ 30

-- an origin was chained at a site: the number, and the pairs after it
pub record IsChained (setting : Setting) (world : World) (old site new : ℕ) (d : DepotState) : Type 0 where
  pub id : new ≡ (chain setting old site world).id
  pub pairs : d.pairs ≡ (chain setting old site world).world.pairs
