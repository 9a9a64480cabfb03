-- What is due in a run of the instrumented module and in the shadow run, with the checks done: where a fiber stands, or
-- returns.
use Rattle.std.specs.Prelude.{◌≡◌, ℕ, ◌+◌, ◌*◌, ◌≤◌, List, ◌∷◌, ◌++◌, map}
use Rattle.ms_ir.specs.declared.syntax.Ty.{Ty}
use Rattle.ms_ir.specs.declared.syntax.Operand.{Operand}
use Rattle.ms_ir.specs.declared.syntax.Inst.{Inst}
use Rattle.ms_ir.specs.declared.syntax.Module.{Module}
use Rattle.ms_ir.specs.declared.calls.Slot.TheVariants as slot
use Rattle.ms_ir.specs.Names.{slot_room}
use Rattle.ms_ir.specs.Layout.{width_of}
use Rattle.ms_ir.specs.Instructions.{operands}
use Rattle.ms_runs.specs.declared.runs.End.{End}
use Rattle.ms_runs.specs.World.{World, Setting, Gives, Does, Ends}
use Rattle.ms_runs.specs.Control.{Frame, here, rest_of}
use Rattle.ms_runs.specs.Plain.{PlainState, Stepped, More, Stop}
use Rattle.ms_runs.specs.Poisoned.{Poisoned}
use Rattle.ms_runs.specs.Masks.{by_formulas}
use Rattle.ms_runs.specs.Shadow.{poisoned_result}
use Rattle.ms_pass_tasks.specs.Meaning.{set_result, words_of}
use Rattle.ms_pass_tasks.specs.Emit.{emit_tasks}
use Rattle.ms_pass_tasks.specs.PassLists.{next_here, pass_insts}
use Rattle.ms_pass_tasks.specs.Match.{Handed, Saved, Matches, SlotsHold}
use Rattle.ms_pass_tasks.specs.InstructionLaw.{GoesOn, CallsOutside, given_of, words_at, checked_at, counted_at, acted_at, after_result}
use Rattle.ms_pass_laws.specs.Pass.{Numbering, pass}
use Rattle.ms_pass_laws.specs.Law.{FramesFollow}

-- a state with a frame above others
abbrev pub state_with : Frame ℕ → List (Frame ℕ) → (ℕ → ℕ) → World → PlainState
state_with g gs cells w = record { frames = g ∷ gs; slots = cells; world = w }

-- the argument of a fiber
abbrev pub argument_word : ℕ → Poisoned
argument_word a = record { value = a; mask = 0; origin = 0 }

module _ (s : Setting) (numbers : ℕ → Numbering) (m : Module) where
  -- an instruction is due in both, with its checks done, and next is the first number that was free before its list
  pub record DueBoth (f : Frame Poisoned) (fs : List (Frame Poisoned)) (g : Frame ℕ) (gs : List (Frame ℕ)) (cells : ℕ → ℕ) (i : Inst) (is : List Inst) (next : ℕ) : Type 0 where
    pub same_func : g.func ≡ f.func
    pub same_block : g.block ≡ f.block
    pub same_mark : g.mark ≡ f.mark
    pub same_heap : g.heap ≡ f.heap
    pub stands : here s (pass numbers m) g ≡ here s m f
    pub room : 2 * (numbers f.func).size + 1 ≤ next
    pub rest_m : rest_of m f ≡ i ∷ is
    pub rest_j : rest_of (pass numbers m) g
        ≡ i
        ∷ ((emit_tasks (given_of s) (numbers f.func).env (here s m f) i next).after
        ++ (pass_insts (given_of s) (numbers f.func).env is (next_here (given_of s) (here s m f) i) (emit_tasks (given_of s) (numbers f.func).env (here s m f) i next).next).code)
    pub lower : FramesFollow s numbers m f.func fs gs
    pub handed : Handed s.func (here s m f).main i.op (words_at s f.values (here s m f) i) cells
    pub words : words_of s g.values (operands i.op) ≡ map (λ p. p.value) (words_at s f.values (here s m f) i)
    pub answers : CallsOutside s.func i.op → (x : ℕ) (v : World)
        → Matches (numbers f.func).env (after_result f.values i.result (poisoned_result by_formulas i.op (words_at s f.values (here s m f) i) x v)) (set_result g.values i.result x)

  -- what both runs come to, up to what is due: an end by a check, an end by the list before it, as the instruction itself
  -- would end the shadow run, or what is due in both
  pub data Reaching (f : Frame Poisoned) (fs : List (Frame Poisoned)) (w : World) (i : Inst) (is : List Inst) : Stepped PlainState → Type 0 where
    Reported : (e : End) (u : World) → checked_at s f.values (here s m f) i w ≡ Ends e u → Reaching f fs w i is (Stop e u)
    Tried : (e : End) (u v : World) → (CallsOutside s.func i.op → ⊥) → checked_at s f.values (here s m f) i w ≡ Does u → acted_at s f.values (here s m f) i (counted_at s f.values (here s m f) i u) ≡ Ends e v
        → Reaching f fs w i is (Stop e v)
    Both : (u : World) (g : Frame ℕ) (gs : List (Frame ℕ)) (cells : ℕ → ℕ) (next : ℕ) → checked_at s f.values (here s m f) i w ≡ Does u
        → DueBoth f fs g gs cells i is next
        → Saved s.func next i.op (words_at s f.values (here s m f) i) (counted_at s f.values (here s m f) i u) g.values
        → ((x : ℕ) (v : World) → acted_at s f.values (here s m f) i (counted_at s f.values (here s m f) i u) ≡ Gives x v
        → Matches (numbers f.func).env (after_result f.values i.result (poisoned_result by_formulas i.op (words_at s f.values (here s m f) i) x v)) (set_result g.values i.result x))
        → (GoesOn (acted_at s f.values (here s m f) i (counted_at s f.values (here s m f) i u)) → Matches (numbers f.func).env f.values g.values)
        → Reaching f fs w i is (More (state_with g gs cells (counted_at s f.values (here s m f) i u)))

  -- a return is due in the instrumented module too, in the same world, and the slots hold what is returned
  pub record ReturnsBoth (f : Frame Poisoned) (fs : List (Frame Poisoned)) (w : World) (i : Inst) (is : List Inst) (v : Ty × Operand) (t : Stepped PlainState) : Type 0 where
    pub g : Frame ℕ
    pub gs : List (Frame ℕ)
    pub cells : ℕ → ℕ
    pub next : ℕ
    pub more : t ≡ More (state_with g gs cells w)
    pub due : DueBoth f fs g gs cells i is next
    pub held : (p : Poisoned) (ps : List Poisoned) → words_at s f.values (here s m f) i ≡ p ∷ ps
        → SlotsHold cells (slot_room slot.RetvalMask).0 (slot_room slot.RetvalOrigin).0 (width_of v.0) p
