-- A way from a root that the run has reached to what the use of its first report reads (own).
use Rattle.std.specs.Prelude.{◌≡◌, ◌<◌, ◌⊎◌, ℕ, List, Some}
use Rattle.ms_ir.specs.declared.syntax.Module.{Module}
use Rattle.ms_runs.specs.declared.runs.End.TheVariants as «end»
use Rattle.ms_runs.specs.declared.runs.Setup.{Setup}
use Rattle.ms_runs.specs.World.{World}
use Rattle.ms_runs.specs.Plain.{Stop, setting_of}
use Rattle.ms_runs.specs.Masks.{by_completions}
use Rattle.ms_runs.specs.Shadow.{shadow_step}
use Rattle.ms_runs_good_laws.specs.Reached.{Walk, walked, IsReached, IsOperand}
use Rattle.ms_trail_moves.specs.declared.moves.Source.{Source}
use Rattle.ms_trail_moves.specs.declared.moves.Move.{Move}
use Rattle.ms_trail_moves.specs.declared.moves.Hop.{Hop}
use Rattle.ms_trail_moves.specs.Leads.{LeadsFrom}

-- the run of a module with a setup comes to a report at its next step
pub record Reports (m : Module) (setup : Setup) (walk : Walk) : Type 0 where
  pub steps : ℕ
  pub left : steps < setup.steps
  pub came : walked by_completions m setup steps ≡ Some walk
  pub world : World
  pub ends : shadow_step by_completions (setting_of m setup) m walk.state ≡ Stop «end».Reported world

-- a way over moves to what the report's use reads, from a root that the run has reached; an undefined operand of the
-- instruction that is reported counts too
pub record FromReached (m : Module) (setup : Setup) (moves : List Move) (at : Source) : Type 0 where
  pub walk : Walk
  pub reports : Reports m setup walk
  pub hops : List Hop
  pub leads : LeadsFrom (λ id. IsReached m walk id ⊎ IsOperand m walk.state id) moves at hops
