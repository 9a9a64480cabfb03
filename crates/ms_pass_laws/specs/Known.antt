-- The modules that the pass takes, and what the states of a shadow run keep.
use Rattle.std.specs.Prelude.{◌≡◌, ◌≢◌, ◌≤◌, ◌<◌, ◌+◌, ◌^◌, ◌⊎◌, ℕ, List, [], ◌∷◌, false, Option, Some, None, unwrap_or}
use Rattle.ms_ir.specs.declared.syntax.Name.{Name}
use Rattle.ms_ir.specs.declared.syntax.Ty.{Ty}
use Rattle.ms_ir.specs.declared.syntax.Operand.{Operand}
use Rattle.ms_ir.specs.declared.syntax.Op.{Op}
use Rattle.ms_ir.specs.declared.syntax.Op.TheVariants as op
use Rattle.ms_ir.specs.Layout.{width_of}
use Rattle.ms_runs.specs.Act.{case_of}
use Rattle.ms_pass_tasks.specs.Known.{KnownParams, ArgsFit, AllApart, KnownInst, OneName, FewNumbers, KnownPhis, PhiRoots}
use Rattle.ms_ir.specs.declared.syntax.Inst.{Inst}
use Rattle.ms_ir.specs.declared.syntax.Module.{Module}
use Rattle.ms_runs.specs.declared.runs.Setup.{Setup}
use Rattle.ms_runs.specs.World.{Setting}
use Rattle.ms_ir.specs.Instructions.{operands, func_index, func_at, blocks_at, block_index, insts_at, root_at, strip, is_phi}
use Rattle.ms_runs.specs.Control.{Frame, here, rest_of, params_at}
use Rattle.ms_ir.specs.Names.{main_name}
use Rattle.ms_runs.specs.Plain.{More, steps, setting_of, start_world}
use Rattle.ms_runs.specs.Poisoned.{Poisoned}
use Rattle.ms_runs.specs.Masks.{by_formulas}
use Rattle.ms_runs.specs.Shadow.{ShadowState, shadow_start, shadow_step}
use Rattle.ms_runs.specs.Faithful.{Fair}
use Rattle.ms_pass_tasks.specs.Environments.{Given}
use Rattle.ms_pass_tasks.specs.Match.{RangedWorld, RangedHere, SlotAddresses}
use Rattle.ms_pass_tasks.specs.InstructionLaw.{given_of}
use Rattle.ms_pass_laws.specs.Pass.{Numbering, pass}
use Rattle.ms_pass_laws.specs.Law.{CleanFrames}
use Rattle.ms_runs.specs.Origins.{pair_limit}

-- the type that the function at a place answers
abbrev pub ret_at : Module → ℕ → Option Ty
ret_at m f = elim (func_at m f) [ Some g ↦ g.ret | None ↦ None ]

-- a call with a result has the type of its callee's answer, which is a word
abbrev pub AnswerFits : Option Name → Option Ty → Option Ty → Type 0
AnswerFits None ret own = Unit {0}
AnswerFits (Some x) (Some t) (Some u) = (width_of t ≡ width_of u) × (width_of t ≤ 64)
AnswerFits (Some x) ret own = ⊥

-- a function that answers a type returns a word of it
abbrev pub ReturnsAs : Option Ty → Option (Ty × Operand) → Type 0
ReturnsAs None v = Unit {0}
ReturnsAs (Some t) (Some v) = width_of v.0 ≡ width_of t
ReturnsAs (Some t) None = ⊥

-- where a terminator may go
abbrev pub GoesTo : Op → Name → Type 0
GoesTo (op.Br a) to = to ≡ a
GoesTo (op.CondBr c a b) to = (to ≡ a) ⊎ (to ≡ b)
GoesTo (op.Switch t v other cases) to = (words : ℕ) × (to ≡ case_of cases words other)
GoesTo _ to = ⊥

-- an argument list fits a called function, and its result the call's
pub record FitsCalled (m : Module) (n : ℕ) (x : Option Name) (ret : Option Ty) (args : List (Ty × Operand)) : Type 0 where
  pub fits : ArgsFit (params_at m n) args
  pub answer : AnswerFits x ret (ret_at m n)

-- what the pass must know of a module: each instruction that stands in it and is no phi is one that the pass takes, and
-- each phi is known; sites, roots and pairs are numbers of 32 bits; no two values of a function have one number; the
-- module has no inserted code of its own, and the setting is its own, with the slots in their places; parameters are
-- the first values, and a function that has some has a block; arguments and results of calls fit the function that is
-- called, and a function returns what it says; no jump goes to a function's first block
pub record KnownModule (s : Setting) (numbers : ℕ → Numbering) (m : Module) : Type 0 where
  pub known : (f : Frame Poisoned) (i : Inst) (is : List Inst) → rest_of m f ≡ i ∷ is → is_phi i.op ≡ false
      → KnownInst s.func (numbers f.func).env (numbers f.func).size i
  pub phis : (f b : ℕ) → KnownPhis (numbers f).env (numbers f).size (insts_at m f b)
  pub roots : (f b : ℕ) → PhiRoots s.func (insts_at m f b) (root_at s.func m f b 0)
  pub ranged : (f : Frame Poisoned) (i : Inst) (is : List Inst) → rest_of m f ≡ i ∷ is → RangedHere s (here s m f) i
  pub one_name : (k : ℕ) → OneName (numbers k).env
  pub few : (k : ℕ) → FewNumbers (numbers k).env (numbers k).size
  pub strips : strip (pass numbers m) ≡ m
  pub given : given_of s ≡ (let g : Given = record { types = m.types; func = func_index m.funcs } in g)
  pub slots : SlotAddresses s
  pub many : s.roots + pair_limit + 1 < 2 ^ 32
  pub params : (k : ℕ) → KnownParams (numbers k).env (numbers k).size 0 (params_at m k)
  pub bodies : (k : ℕ) → blocks_at m k ≡ [] → params_at m k ≡ []
  pub called : (f : Frame Poisoned) (i : Inst) (is : List Inst) → rest_of m f ≡ i ∷ is → (ret : Option Ty) (callee : Name) (args : List (Ty × Operand)) → i.op ≡ op.Call ret callee args
      → (n : ℕ) → s.func callee ≡ Some n → FitsCalled m n i.result ret args
  pub returned : (f : Frame Poisoned) (i : Inst) (is : List Inst) → rest_of m f ≡ i ∷ is → (v : Option (Ty × Operand)) → i.op ≡ op.Ret v → ReturnsAs (ret_at m f.func) v
  pub inner : (f : Frame Poisoned) (i : Inst) (is : List Inst) → rest_of m f ≡ i ∷ is → (to : Name) → GoesTo i.op to → block_index (blocks_at m f.func) to ≢ 0

-- what is due in the innermost frame has no operand that is its own result
abbrev pub ApartFrames : Module → List (Frame Poisoned) → Type 0
ApartFrames m [] = Unit {0}
ApartFrames m (f ∷ fs) = (i : Inst) (is : List Inst) → rest_of m f ≡ i ∷ is → is_phi i.op ≡ false → AllApart i.result (operands i.op)

-- in every state from one on, clean values have the mask 0, and what is due doesn't use its own result
pub record CleanRun (s : Setting) (numbers : ℕ → Numbering) (m : Module) (c : ShadowState) : Type 0 where
  pub masks : (n : ℕ) (c' : ShadowState) → steps (shadow_step by_formulas s m) n c ≡ More c' → CleanFrames s numbers m c'.frames
  pub apart : (n : ℕ) (c' : ShadowState) → steps (shadow_step by_formulas s m) n c ≡ More c' → ApartFrames m c'.frames

-- a module without inserted code that the pass takes, whose globals stand among the globals, and in whose runs what is
-- known to be clean has the mask 0
pub record IsTaken (numbers : ℕ → Numbering) (m : Module) : Type 0 where
  pub strips : strip m ≡ m
  pub starts : params_at m (unwrap_or (func_index m.funcs main_name) 0) ≡ []
  pub known : (setup : Setup) → Fair setup → KnownModule (setting_of m setup) numbers m
  pub placed : (setup : Setup) → Fair setup → RangedWorld (start_world m setup)
  pub clean : (setup : Setup) → Fair setup → CleanRun (setting_of m setup) numbers m (shadow_start m setup)
