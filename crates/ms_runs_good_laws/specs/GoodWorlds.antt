-- Worlds whose numbers have the ranges that memory, shadow, input and output have for them (own).
use Rattle.std.specs.Prelude.{◌<◌, ◌≤◌, ◌^◌, ℕ, length, All}
use Rattle.ms_runs.specs.declared.runs.Setup.{Setup}
use Rattle.ms_runs.specs.Origins.{pair_limit}
use Rattle.ms_runs.specs.World.{World, Effect, Gives, Does, Goes, Enters, Leaves, Ends}

-- the bytes of memory, shadow, input and output are bytes, origins of cells and of what fibers answered are as is asked of
-- them, no more pairs stand than may be made, and no allocation is greater than the greatest area
pub record GoodWorld (IsOrigin : ℕ → Type 0) (world : World) : Type 0 where
  pub bytes : (a : ℕ) → world.bytes a < 256
  pub shadow : (a : ℕ) → world.shadow a < 256
  pub origins : (cell : ℕ) → IsOrigin (world.origins cell)
  pub pairs : length world.pairs ≤ pair_limit
  pub input : All (λ b. b < 256) world.input
  pub output : All (λ b. b < 256) world.output
  pub sizes : All (λ a. a.size ≤ 2 ^ 26) world.allocs
  pub answers : (fiber : ℕ) → IsOrigin (world.answer_origins fiber)

-- a setup whose input and fill are bytes
pub record GivesBytes (setup : Setup) : Type 0 where
  pub input : All (λ b. b < 256) setup.input
  pub fill : All (λ b. b < 256) setup.fill

-- an origin of a plain run: marked code keeps it in 4 bytes
abbrev pub FitsCell : ℕ → Type 0
FitsCell origin = origin < 2 ^ 32

-- an origin of a shadow run, of which nothing is asked
abbrev pub AnyOrigin : ℕ → Type 0
AnyOrigin origin = Unit {0}

-- the world after an effect is good, also where the run ends
abbrev pub GoodAfter : (World → Type 0) → Effect → Type 0
GoodAfter good (Gives v world) = good world
GoodAfter good (Does world) = good world
GoodAfter good (Goes to world) = good world
GoodAfter good (Enters n world) = good world
GoodAfter good (Leaves world) = good world
GoodAfter good (Ends e world) = good world
