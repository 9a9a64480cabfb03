-- What the use reads at which an instruction is reported (own).
use Rattle.std.specs.Prelude.{◌≡◌, ℕ, List, [], ◌∷◌, Option, Some, None}
use Rattle.ms_ir.specs.declared.syntax.Inst.{Inst}
use Rattle.ms_ir.specs.declared.syntax.Module.{Module}
use Rattle.ms_ir.specs.Instructions.{operands}
use Rattle.ms_runs.specs.declared.runs.End.TheVariants as «end»
use Rattle.ms_runs.specs.declared.runs.Setup.{Setup}
use Rattle.ms_runs.specs.World.{World, Setting}
use Rattle.ms_runs.specs.Control.{Frame, here, rest_of}
use Rattle.ms_runs.specs.Plain.{Stop, setting_of}
use Rattle.ms_runs.specs.Poisoned.{Poisoned}
use Rattle.ms_runs.specs.Masks.{by_formulas}
use Rattle.ms_runs.specs.Shadow.{shadow_step}
use Rattle.ms_trail_moves.specs.declared.moves.Source.{Source}
use Rattle.ms_trail_moves.specs.Sources.{sources}
use Rattle.ms_trail_moves.specs.Events.{Numbers, innermost}
use Rattle.ms_trail_moves.specs.Traces.{Traced, use_of}
use Rattle.ms_trail_uses.specs.declared.used.Used.{Used}
use Rattle.ms_trail_uses.specs.Used.{source_of}
use Rattle.ms_trail.specs.Following.{Passes}

-- what the operands of the instruction that is due are read from
abbrev pub inst_sources : Setting → Module → (frame : ℕ) → List Inst → Frame Poisoned → List Source
inst_sources s m frame [] fr = []
inst_sources s m frame (i ∷ is) fr = sources frame (operands i.op) (here s m fr).root

abbrev pub due_sources : Setting → Module → Numbers → List (Frame Poisoned) → List Source
due_sources s m numbers [] = []
due_sources s m numbers (fr ∷ below) = inst_sources s m (innermost numbers.standing) (rest_of m fr) fr

-- a use of the instruction that is due reads this
abbrev pub ReadsAt : Module → Setup → Traced → Used → Source → Type 0
ReadsAt m u t used s = s ≡ source_of (due_sources (setting_of m u) m t.numbers t.state.frames) (Some used)

-- the run is reported here, at a use that reads this, or its checks pass
abbrev pub FoundAt : Module → Setup → Traced → Option Source → Type 0
FoundAt m u t None = Passes m u t
FoundAt m u t (Some at) = (w : World) × ((shadow_step by_formulas (setting_of m u) m t.state ≡ Stop «end».Reported w) × (at ≡ use_of (setting_of m u) m t.numbers t.state))
