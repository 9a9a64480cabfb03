-- In the instrumented form the same is due as in the module: after inserted code stands the module's next instruction.
use Rattle.std.proofs.Common.{◌≡◌, false, Option, Some, ℕ, List, [], ◌∷◌, ◌++◌, length, refl, sym, ap, ◌∙◌, arith}
use Rattle.std.specs.Prelude.{if◌then◌else◌, eqb}
use Rattle.ms_ir.specs.declared.syntax.Inst.{Inst}
use Rattle.ms_ir.specs.declared.syntax.Module.{Module}
use Rattle.ms_ir.specs.declared.syntax.Op.{Op}
use Rattle.ms_ir.specs.declared.syntax.Op.TheVariants as op
use Rattle.ms_ir.specs.declared.syntax.Name.{Name}
use Rattle.ms_ir.specs.Instructions.{operands}
use Rattle.ms_runs.specs.World.{World, Setting, Here, Effect, Gives, Does, Goes, Enters, Leaves, Ends}
use Rattle.ms_runs.specs.Control.{Frame, here, rest_of}
use Rattle.ms_runs.specs.Plain.{act_marked, slots_after}
use Rattle.ms_runs.specs.Poisoned.{Poisoned}
use Rattle.ms_runs.specs.Threads.{Fibers, fibers_of}
use Rattle.ms_runs_good_laws.proofs.FibersKept.{Kept, marked_keeps}
use Rattle.ms_pass_tasks.specs.Environments.{Env, Given}
use Rattle.ms_pass_tasks.specs.Meaning.{AllMarked, Values, Reach, Went, Over, run_marked, marked_next, words_of}
use Rattle.ms_pass_tasks.specs.Emit.{before_tasks, start}
use Rattle.ms_pass_tasks.specs.PassLists.{emit_op, pass_insts, next_here}
use Rattle.ms_pass_tasks.specs.InstructionLaw.{given_of}
use Rattle.ms_pass_laws.specs.Pass.{Numbering, pass}
use Rattle.ms_pass_laws.specs.Law.{TopFollows, FollowsBy}
use Rattle.ms_pass_laws.specs.Known.{KnownModule}
use Rattle.ms_pass_laws.proofs.Marked.{inserted_marked, tasks_inserted}
use Rattle.ms_pass_laws.proofs.Step.{same_length, unmarked_of}
use Rattle.ms_runs_threads.specs.PlainFibers.{due_inst, due_at, frames_due}

-- ---- after marked instructions

pub due_head : (i : Inst) (is : List Inst) → i.marked ≡ false → due_inst (i ∷ is) ≡ Some i
due_head i is e = ap (λ b. if b then due_inst is else Some i) e

-- an unmarked instruction is due that stands first
pub due_first : {l : List Inst} (i : Inst) {is : List Inst} → l ≡ i ∷ is → i.marked ≡ false → due_inst l ≡ Some i
due_first i {is} e u = ap due_inst e ∙ due_head i is u

pub due_past : (a b : List Inst) → AllMarked a → due_inst (a ++ b) ≡ due_inst b
due_past [] b m = refl
due_past (i ∷ a) b m = ap (λ k. if k then due_inst (a ++ b) else Some i) m.0 ∙ due_past a b m.2

before_marked : (given : Given) (env : Env) (h : Here) (i : Inst) (n : ℕ) (o : Op) → AllMarked (emit_op given env h i n o).before
before_marked given env h i n (op.Phi t es) = tt
before_marked given env h i n _ = inserted_marked _ (tasks_inserted (before_tasks given env h i n) (start given i n))

-- ---- marked instructions leave what the world has of fibers

world_kept : (s : Setting) (h : Here) (x : Option Name) (names : Name → ℕ) (cells : ℕ → ℕ) (w : World) (e : Effect) → Kept w e → (k : Values → World → Reach) (u : Values) (y : World)
    → ((v : Values) (z : World) → k v z ≡ Went u y → fibers_of y ≡ fibers_of z) → marked_next x names cells e k ≡ Went u y → fibers_of y ≡ fibers_of w
world_kept s h x names cells w (Gives v z) kept k u y rest q = rest _ z q ∙ kept.kept
world_kept s h x names cells w (Does z) kept k u y rest q = rest _ z q ∙ kept.kept
world_kept s h x names cells w (Goes to z) kept k u y rest q = grind arith
world_kept s h x names cells w (Enters f z) kept k u y rest q = grind arith
world_kept s h x names cells w (Leaves z) kept k u y rest q = grind arith
world_kept s h x names cells w (Ends e z) kept k u y rest q = grind arith

abbrev world_in : Reach → World → World
world_in (Went v w) z = w
world_in (Over e w) z = z

pub run_keeps : (s : Setting) (h : Here) (is : List Inst) (v : Values) (w : World) (u : Values) (y : World) → run_marked s h is v w ≡ Went u y → fibers_of y ≡ fibers_of w
run_keeps s h [] v w u y q = ap (λ r. fibers_of (world_in r w)) (sym q)
run_keeps s h (i ∷ is) v w u y q =
    world_kept s h i.result v.names (slots_after i.op (words_of s v.names (operands i.op)) v.slots) w
    (act_marked s h i.op (words_of s v.names (operands i.op)) v.slots w) (marked_keeps s h i.op (words_of s v.names (operands i.op)) v.slots w)
    (run_marked s h is) u y (λ x z. run_keeps s h is x z u y) q

-- ---- what is due

module _ (s : Setting) (numbers : ℕ → Numbering) (m : Module) (known : KnownModule s numbers m) where
  coded : (f : Frame Poisoned) (l : List Inst) (h : Here) (n : ℕ) → rest_of m f ≡ l → due_inst (pass_insts (given_of s) (numbers f.func).env l h n).code ≡ due_inst l
  coded f [] h n e = refl
  coded f (i ∷ is) h n e =
      let u = unmarked_of s numbers m known f i is e in
      let x = emit_op (given_of s) (numbers f.func).env h i n i.op in
      let rest = x.after ++ (pass_insts (given_of s) (numbers f.func).env is (next_here (given_of s) h i) x.next).code in
      due_past x.before (i ∷ rest) (before_marked (given_of s) (numbers f.func).env h i n i.op) ∙ due_head i rest u ∙ sym (due_head i is u)

  pub top_due_inst : (f : Frame Poisoned) (w : World) (g : Frame ℕ) (cells : ℕ → ℕ) (z : World) → TopFollows s numbers m f w g cells z
      → due_inst (rest_of (pass numbers m) g) ≡ due_inst (rest_of m f)
  top_due_inst f w g cells z t = ap due_inst t.rest ∙ due_past t.waiting _ t.marked ∙ coded f (rest_of m f) (here s m f) t.next refl

  pub due_same : (f : List (Frame Poisoned)) (w : World) (g : List (Frame ℕ)) (cells : ℕ → ℕ) (z : World) → FollowsBy s numbers m f w g cells z
      → frames_due s m f ≡ frames_due s (pass numbers m) g
  due_same [] w g cells z h = absurd h
  due_same (f ∷ fs) w [] cells z h = absurd h
  due_same (f ∷ fs) w (g ∷ gs) cells z h =
      ap (λ (n : ℕ). due_at s.func (here s m f).main (eqb n 0) (due_inst (rest_of m f))) (sym (same_length s numbers m known f.func fs gs h.1))
      ∙ ap (λ (k : Here). due_at s.func k.main (eqb (length gs) 0) (due_inst (rest_of m f))) (sym h.0.stands)
      ∙ ap (due_at s.func (here s (pass numbers m) g).main (eqb (length gs) 0)) (sym (top_due_inst f w g cells z h.0))

  pub turn_same : (f : List (Frame Poisoned)) (w : World) (g : List (Frame ℕ)) (cells : ℕ → ℕ) (z : World) → FollowsBy s numbers m f w g cells z → w.turn ≡ z.turn
  turn_same [] w g cells z h = absurd h
  turn_same (f ∷ fs) w [] cells z h = absurd h
  turn_same (f ∷ fs) w (g ∷ gs) cells z h =
      let t = h.0 in ap (λ (k : Fibers). k.turn) (run_keeps s (here s m f) t.waiting (record { names = g.values; slots = cells }) z t.after w t.runs)

  pub threads_same : (f : List (Frame Poisoned)) (w : World) (g : List (Frame ℕ)) (cells : ℕ → ℕ) (z : World) → FollowsBy s numbers m f w g cells z → w.threads ≡ z.threads
  threads_same [] w g cells z h = absurd h
  threads_same (f ∷ fs) w [] cells z h = absurd h
  threads_same (f ∷ fs) w (g ∷ gs) cells z h =
      let t = h.0 in ap (λ (k : Fibers). k.threads) (run_keeps s (here s m f) t.waiting (record { names = g.values; slots = cells }) z t.after w t.runs)
