-- What a shadow run has reached, and that origins lead back there: each origin leads back, over stores that ran, to a root
-- that the run has reached (own; for modules without marks).
use Rattle.std.specs.Prelude.{◌≡◌, ◌≤◌, ◌<◌, ◌⊎◌, ℕ, zero, suc, ◌+◌, ◌/◌, nat_eq, true, List, [], ◌∷◌, Any, Contains, if◌then◌else◌, Option, Some, None, option_and_then, slice_get}
use Rattle.ms_ir.specs.declared.syntax.Name.{Name}
use Rattle.ms_ir.specs.declared.syntax.Ty.{Ty}
use Rattle.ms_ir.specs.declared.syntax.Operand.{Operand}
use Rattle.ms_ir.specs.declared.syntax.Op.TheVariants as op
use Rattle.ms_ir.specs.declared.syntax.Inst.{Inst}
use Rattle.ms_ir.specs.declared.syntax.Module.{Module}
use Rattle.ms_runs.specs.declared.runs.End.{End}
use Rattle.ms_runs.specs.declared.runs.Origin.{Origin}
use Rattle.ms_runs.specs.declared.runs.Origin.TheVariants.{Root, Chain}
use Rattle.ms_runs.specs.declared.runs.Report.{Report}
use Rattle.ms_runs.specs.declared.runs.Setup.{Setup}
use Rattle.ms_runs.specs.World.{World}
use Rattle.ms_runs.specs.Origins.{trail}
use Rattle.ms_ir.specs.Instructions.{operands, one_undef, count_undefs, is_root, func_index, insts_at, site_at, root_at}
use Rattle.ms_runs.specs.Control.{Frame, count_phis, read_edge, block_name}
use Rattle.ms_runs.specs.Plain.{Stepped, More, Stop, setting_of, start_world, start_frame}
use Rattle.ms_runs.specs.Poisoned.{Poisoned}
use Rattle.ms_runs.specs.Masks.{Rules}
use Rattle.ms_runs.specs.Shadow.{ShadowState, shadow_reading, shadow_step}
use Rattle.ms_ir.specs.Written.{targets}

-- ---- runs

-- a shadow run as far as it came: the state in which it is, and those in which it took its steps, the latest first
pub record Walk : Type 0 where
  pub state : ShadowState
  pub passed : List ShadowState

-- a run that took no step
abbrev pub walk_start : Module → Setup → Walk
walk_start m setup = record { state = record { frames = start_frame shadow_reading m ∷ []; world = start_world m setup }; passed = [] }

-- a run after what its next step comes to; none where that is the end
abbrev pub walked_on : Walk → Stepped ShadowState → Option Walk
walked_on walk (More next) = Some (record { state = next; passed = walk.state ∷ walk.passed })
walked_on walk (Stop e world) = None

-- the run of a module with a setup after so many steps; none where it ended before
abbrev pub walked : Rules → Module → Setup → ℕ → Option Walk
walked d m setup zero = Some (walk_start m setup)
walked d m setup (suc n) = option_and_then (λ walk. walked_on walk (shadow_step d (setting_of m setup) m walk.state)) (walked d m setup n)

-- ---- what is reached

-- the instruction that is due in a state: the one at which the innermost frame stands
pub record Due (m : Module) (state : ShadowState) : Type 0 where
  pub frame : Frame Poisoned
  pub below : List (Frame Poisoned)
  pub innermost : state.frames ≡ frame ∷ below
  pub inst : Inst
  pub stands : slice_get (insts_at m frame.func frame.block) frame.place ≡ Some inst

-- the site of the instruction that is due
abbrev pub due_site : (m : Module) → {state : ShadowState} → Due m state → ℕ
due_site m due = site_at m due.frame.func due.frame.block due.frame.place

-- the number of roots before the instruction that is due
abbrev pub due_root : (m : Module) → {state : ShadowState} → Due m state → ℕ
due_root m due = root_at (func_index m.funcs) m due.frame.func due.frame.block due.frame.place

-- a root is an undefined operand of the instruction that is due
pub record IsOperand (m : Module) (state : ShadowState) (id : ℕ) : Type 0 where
  pub due : Due m state
  pub above : due_root m due < id
  pub within : id ≤ due_root m due + count_undefs (operands due.inst.op)

-- a root is the instruction itself that is due, which makes uninitialised bytes
pub record IsItself (m : Module) (state : ShadowState) (id : ℕ) : Type 0 where
  pub due : Due m state
  pub makes : is_root (func_index m.funcs) due.inst.op ≡ true
  pub is : id ≡ due_root m due + count_undefs (operands due.inst.op) + 1

-- the number of the root that an operand is, where so many come before it; 0 where it is none
abbrev pub edge_root : ℕ → Operand → ℕ
edge_root n o = if nat_eq (one_undef o) 0 then 0 else n + 1

-- a root is an undefined operand of a phi whose edge is taken: a branch goes from the block of the instruction that is due
-- to the block at which the next state's innermost frame stands, and the phi is one of that block
pub record IsEdge (m : Module) (before after : ShadowState) (id : ℕ) : Type 0 where
  pub due : Due m before
  pub branches : ¬ (targets due.inst.op ≡ [])
  pub frame : Frame Poisoned
  pub below : List (Frame Poisoned)
  pub innermost : after.frames ≡ frame ∷ below
  pub place : ℕ
  pub leading : place < count_phis (insts_at m frame.func frame.block)
  pub phi : Inst
  pub stands : slice_get (insts_at m frame.func frame.block) place ≡ Some phi
  pub ty : Ty
  pub edges : List (Operand × Name)
  pub shape : phi.op ≡ op.Phi ty edges
  pub undefined : 0 < id
  pub taken : id
      ≡ read_edge (λ n t o. edge_root n o) 0 ty (block_name m due.frame.func due.frame.block) edges
      (root_at (func_index m.funcs) m frame.func frame.block place)

-- a step from one state to the next reaches a root: its instruction ran, or its edge was taken
pub data Reaches (m : Module) (before after : ShadowState) (id : ℕ) : Type 0 where
  AsOperand : IsOperand m before id → Reaches m before after id
  AsItself : IsItself m before id → Reaches m before after id
  AsEdge : IsEdge m before after id → Reaches m before after id

-- something holds of one of the steps to a state, given the states before it, the latest first
abbrev pub AnyStep : (ShadowState → ShadowState → Type 0) → ShadowState → List ShadowState → Type 0
AnyStep holds state [] = ⊥
AnyStep holds state (before ∷ rest) = holds before state ⊎ AnyStep holds before rest

-- a run has reached a root
abbrev pub IsReached : Module → Walk → ℕ → Type 0
IsReached m walk id = AnyStep (λ before after. Reaches m before after id) walk.state walk.passed

-- the instruction with a site is the one that is due
pub record StandsAt (m : Module) (site : ℕ) (state : ShadowState) : Type 0 where
  pub due : Due m state
  pub is : site ≡ due_site m due

-- the instruction with a site ran
abbrev pub HasRun : Module → Walk → ℕ → Type 0
HasRun m walk site = Any (StandsAt m site) walk.passed

-- ---- where poisoned bits come from

-- origins lead back over sites to a root
abbrev pub LeadsBack : (site root : ℕ → Type 0) → List Origin → Type 0
LeadsBack site root [] = ⊥
LeadsBack site root (Root id ∷ []) = root id
LeadsBack site root (Root id ∷ o ∷ rest) = ⊥
LeadsBack site root (Chain old at ∷ rest) = site at × LeadsBack site root rest

-- an origin's trail ends in a root that the run has reached, and each store on it ran
abbrev pub IsFromReached : Module → Setup → Walk → ℕ → Type 0
IsFromReached m setup walk id = LeadsBack (HasRun m walk) (IsReached m walk) (trail (setting_of m setup) walk.state.world id)

-- each word with a poisoned bit, and each cell of a byte with one, has such an origin
pub record HasReachedOrigins (m : Module) (setup : Setup) (walk : Walk) : Type 0 where
  pub words : (frame : Frame Poisoned) → Contains walk.state.frames frame → (x : Name) → ¬ ((frame.values x).mask ≡ 0)
      → IsFromReached m setup walk (frame.values x).origin
  pub cells : (addr : ℕ) → ¬ (walk.state.world.shadow addr ≡ 0) → IsFromReached m setup walk (walk.state.world.origins (addr / 4))

-- each report shows the trail of its origin, which has not changed since: it leads back, over stores that ran, to a root of
-- a kind
pub record ShowsTrails (m : Module) (setup : Setup) (walk : Walk) (root : ℕ → Type 0) : Type 0 where
  pub leads : (r : Report) → Contains walk.state.world.reports r → LeadsBack (HasRun m walk) root r.chain
  pub shown : (r : Report) → Contains walk.state.world.reports r → trail (setting_of m setup) walk.state.world r.origin ≡ r.chain

-- a root that the run has reached, or an undefined operand of the instruction that is due, whose checks may end the run
abbrev pub IsTold : Module → Walk → ℕ → Type 0
IsTold m walk id = IsReached m walk id ⊎ IsOperand m walk.state id

-- a run whose last step ended it with a world
abbrev pub ended : Walk → World → Walk
ended walk world = record walk { state = record walk.state { world = world } }

-- in every state of a run, and at its end, poisoned bits come from what the run has reached, and so do those that reports
-- tell of
pub record FromReached (d : Rules) (m : Module) (setup : Setup) : Type 0 where
  pub states : (n : ℕ) (walk : Walk) → walked d m setup n ≡ Some walk → HasReachedOrigins m setup walk × ShowsTrails m setup walk (IsReached m walk)
  pub ends : (n : ℕ) (walk : Walk) (e : End) (world : World) → walked d m setup n ≡ Some walk
      → shadow_step d (setting_of m setup) m walk.state ≡ Stop e world
      → HasReachedOrigins m setup (ended walk world) × ShowsTrails m setup (ended walk world) (IsTold m (ended walk world))
