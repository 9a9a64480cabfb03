-- When a state of the instrumented module follows a state of the shadow run, and that a step keeps it.
use Rattle.std.specs.Prelude.{◌≡◌, ◌≤◌, ℕ, ◌+◌, ◌*◌, true, List, [], ◌∷◌, ◌++◌, Option, Some}
use Rattle.ms_ir.specs.declared.syntax.Name.{Name}
use Rattle.ms_ir.specs.declared.syntax.Ty.{Ty}
use Rattle.ms_ir.specs.declared.syntax.Operand.{Operand}
use Rattle.ms_ir.specs.declared.syntax.Op.TheVariants as op
use Rattle.ms_ir.specs.declared.syntax.Inst.{Inst}
use Rattle.ms_ir.specs.declared.syntax.Module.{Module}
use Rattle.ms_runs.specs.declared.runs.End.{End}
use Rattle.ms_runs.specs.World.{World, Setting, result}
use Rattle.ms_runs.specs.Control.{Frame, here, rest_of, local_block}
use Rattle.ms_runs.specs.Plain.{PlainState, Stepped, More, Stop}
use Rattle.ms_runs.specs.Poisoned.{Poisoned}
use Rattle.ms_runs.specs.Shadow.{ShadowState}
use Rattle.ms_pass_tasks.specs.Meaning.{AllMarked, Values, Went, run_marked}
use Rattle.ms_pass_tasks.specs.Match.{Matches, RangedWorld, RangedValues}
use Rattle.ms_pass_tasks.specs.InstructionLaw.{given_of}
use Rattle.ms_pass_laws.specs.Pass.{Numbering, pass}
use Rattle.ms_pass_tasks.specs.PassLists.{emit_lists, next_here, pass_insts}

-- code that makes no heap block for its frame
abbrev pub MakesNoBlock : List Inst → Type 0
MakesNoBlock [] = Unit {0}
MakesNoBlock (i ∷ is) = ((v : ℕ) → local_block i.op v ≡ []) × MakesNoBlock is

module _ (s : Setting) (numbers : ℕ → Numbering) (m : Module) where
  -- a lower frame stands at its call of the function above it in both, with the list before the call done and the list
  -- after it to come; of the slots it knows nothing
  pub record AtCall (called : ℕ) (f : Frame Poisoned) (g : Frame ℕ) : Type 0 where
    pub same_func : g.func ≡ f.func
    pub same_block : g.block ≡ f.block
    pub same_mark : g.mark ≡ f.mark
    pub same_heap : g.heap ≡ f.heap
    pub stands : here s (pass numbers m) g ≡ here s m f
    pub call : Inst
    pub left : List Inst
    pub next : ℕ
    pub room : 2 * (numbers f.func).size + 1 ≤ next
    pub ret : Option Ty
    pub callee : Name
    pub args : List (Ty × Operand)
    pub calls : call.op ≡ op.Call ret callee args
    pub own : s.func callee ≡ Some called
    pub rest_m : rest_of m f ≡ call ∷ left
    pub rest_j : rest_of (pass numbers m) g
        ≡ call
        ∷ ((emit_lists (given_of s) (numbers f.func).env (here s m f) call next).after
        ++ (pass_insts (given_of s) (numbers f.func).env left (next_here (given_of s) (here s m f) call)
        (emit_lists (given_of s) (numbers f.func).env (here s m f) call next).next).code)
    pub matches : Matches (numbers f.func).env f.values g.values

  -- frames below one of the function `called`
  abbrev pub FramesFollow : (called : ℕ) → List (Frame Poisoned) → List (Frame ℕ) → Type 0
  FramesFollow called [] [] = Unit {0}
  FramesFollow called (f ∷ fs) (g ∷ gs) = AtCall called f g × FramesFollow f.func fs gs
  FramesFollow called [] (g ∷ gs) = ⊥
  FramesFollow called (f ∷ fs) [] = ⊥

  -- the innermost frames: some marked instructions of the step before are still waiting, and after them the words agree;
  -- cells are the slots' bytes, and w and z the two worlds
  pub record TopFollows (f : Frame Poisoned) (w : World) (g : Frame ℕ) (cells : ℕ → ℕ) (z : World) : Type 0 where
    pub same_func : g.func ≡ f.func
    pub same_block : g.block ≡ f.block
    pub same_mark : g.mark ≡ f.mark
    pub same_heap : g.heap ≡ f.heap
    pub stands : here s (pass numbers m) g ≡ here s m f
    pub waiting : List Inst
    pub marked : AllMarked waiting
    pub no_block : MakesNoBlock waiting
    pub next : ℕ
    pub room : 2 * (numbers f.func).size + 1 ≤ next
    pub rest : rest_of (pass numbers m) g ≡ waiting ++ (pass_insts (given_of s) (numbers f.func).env (rest_of m f) (here s m f) next).code
    pub after : Values
    pub runs : run_marked s (here s m f) waiting (record { names = g.values; slots = cells }) z ≡ Went after w
    pub matches : Matches (numbers f.func).env f.values after.names
    pub sees : (e : End) → result e z ≡ result e w

  -- the frames of the instrumented module follow those of the shadow run
  abbrev pub FollowsBy : List (Frame Poisoned) → World → List (Frame ℕ) → (ℕ → ℕ) → World → Type 0
  FollowsBy (f ∷ fs) w (g ∷ gs) cells z = TopFollows f w g cells z × FramesFollow f.func fs gs
  FollowsBy [] w gs cells z = ⊥
  FollowsBy (f ∷ fs) w [] cells z = ⊥

  -- a state of the instrumented module follows one of the shadow run
  abbrev pub Follows : ShadowState → PlainState → Type 0
  Follows c d = FollowsBy c.frames c.world d.frames d.slots d.world

  -- a step of one is a step of the other, or both end alike
  abbrev pub Steps : Stepped ShadowState → Stepped PlainState → Type 0
  Steps (More c) (More d) = Follows c d
  Steps (Stop e w) (Stop e' w') = (e' ≡ e) × (w' ≡ w)
  Steps (More c) (Stop e w) = ⊥
  Steps (Stop e w) (More d) = ⊥

  -- the innermost frame's clean values have the mask 0
  abbrev pub CleanFrames : List (Frame Poisoned) → Type 0
  CleanFrames [] = Unit {0}
  CleanFrames (f ∷ fs) = (x : Name) → (numbers f.func).env.clean x ≡ true → (f.values x).mask ≡ 0

  -- where the shadow run goes on, clean values have the mask 0
  pub record Sound (r : Stepped ShadowState) : Type 0 where
    pub masks : (c : ShadowState) → r ≡ More c → CleanFrames c.frames

-- origins are numbers of 32 bits in all frames
abbrev pub RangedFrames : List (Frame Poisoned) → Type 0
RangedFrames [] = Unit {0}
RangedFrames (f ∷ fs) = RangedValues f.values × RangedFrames fs

-- what every state of a shadow run has
pub record Ranged (c : ShadowState) : Type 0 where
  pub frames : RangedFrames c.frames
  pub world : RangedWorld c.world
