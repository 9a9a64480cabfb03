-- The edge that a jump takes (own).
use Rattle.std.specs.Prelude.{◌≡◌, ℕ, List}
use Rattle.ms_runs.specs.World.{World}
use Rattle.ms_machine_code.specs.declared.code.Edge.{Edge}
use Rattle.ms_machine_code.specs.declared.code.Code.{Code}
use Rattle.ms_machine_code.specs.declared.code.Code.TheVariants as code
use Rattle.ms_machine_code.specs.Fits.{IsSource}
use Rattle.ms_machine_frames.specs.Meaning.{Jumps, doing}

-- what a jump looks at is there, among n values
abbrev pub HasCondition : (n : ℕ) → Code → Type 0
HasCondition n (code.Branch c taken other) = IsSource n 64 c
HasCondition n (code.Switch v cases other) = IsSource n 64 v
HasCondition n k = Unit {0}

-- the machine takes this edge
abbrev pub IsTaken : (fill xs : List ℕ) → Code → Edge → Type 0
IsTaken fill xs k e = (site : ℕ) (cells : ℕ → ℕ) (world : World) → doing fill site cells k xs world ≡ Jumps e world
