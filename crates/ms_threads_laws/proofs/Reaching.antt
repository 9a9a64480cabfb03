-- What is due in both runs, with the checks done: the first half of the law of a step.
use Rattle.std.proofs.Common.{◌≡◌, Bool, ℕ, ◌+◌, ◌*◌, ◌≤◌, List, ◌∷◌, ◌++◌, length, true, false, Some, inl, inr, refl, sym, ap, ◌∙◌, subst, arith, ◌⊎◌}
use Rattle.std.specs.Prelude.{if◌then◌else◌}
use Rattle.std.proofs.Math.Path.{ap₂}
use Rattle.ms_ir.specs.declared.syntax.Name.{Name}
use Rattle.ms_ir.specs.declared.syntax.Inst.{Inst}
use Rattle.ms_ir.specs.declared.syntax.Module.{Module}
use Rattle.ms_ir.specs.declared.syntax.Op.{Op}
use Rattle.ms_ir.specs.declared.syntax.Op.TheVariants as op
use Rattle.ms_ir.specs.Instructions.{operands, is_phi}
use Rattle.ms_runs.specs.World.{World, Setting, Here, Gives, Does}
use Rattle.ms_runs.specs.Control.{Frame, here, rest_of, keeping, after_effect}
use Rattle.ms_runs.specs.Act.{act, plain_reading}
use Rattle.ms_runs.specs.Plain.{PlainState, Stepped, More, and_then, plain_state, plain_inst, act_marked, slots_after}
use Rattle.ms_runs.specs.Poisoned.{Poisoned}
use Rattle.ms_runs.specs.Masks.{by_formulas}
use Rattle.ms_runs.specs.Shadow.{poisoned_result}
use Rattle.ms_pass_tasks.specs.Meaning.{Reach, Went, Over as Done, run_marked, words_of, AllMarked}
use Rattle.ms_pass_tasks.specs.Emit.{before_tasks, start, emit_tasks}
use Rattle.ms_pass_tasks.specs.PassLists.{emit_op, next_here, pass_insts}
use Rattle.ms_pass_tasks.specs.Match.{Matches, RangedWorld, RangedValues}
use Rattle.ms_pass_tasks.specs.InstructionLaw.{given_of, words_at, checked_at, counted_at, acted_at, before_code, BeforeLaw, Checked, Failed, Due}
use Rattle.ms_pass_tasks.proofs.Before.{before_law}
use Rattle.ms_pass_laws.proofs.Marked.{marked_through, AllInserted, inserted_marked, inserted_no_block, tasks_inserted, GetsThrough, reach_step, state_of, read_words}
use Rattle.ms_pass_laws.proofs.Places.{frame_at, drop_many}
use Rattle.ms_pass_laws.proofs.Step.{here_marked}
use Rattle.ms_pass_laws.specs.Pass.{Numbering, pass}
use Rattle.ms_pass_laws.specs.Law.{MakesNoBlock, FramesFollow, TopFollows}
use Rattle.ms_pass_laws.specs.Known.{KnownModule}
use Rattle.ms_runs_threads.specs.PlainFibers.{through_marked}
use Rattle.ms_threads_laws.specs.Due.{DueBoth, Reaching, Reported, Tried, Both}

-- ---- the marked instructions up to the next unmarked one

abbrev inst_to : Setting → Module → Inst → List Inst → Here → List ℕ → Frame ℕ → List (Frame ℕ) → (ℕ → ℕ) → World → Bool → Stepped PlainState
inst_to s j i is h words g gs cells w k =
    if k
    then and_then (plain_state (if k then slots_after i.op words cells else cells)
    (after_effect plain_reading s j h.site i.result words (λ v w. v) (λ v w. w) (keeping i.op (if k then act_marked s h i.op words cells w else act s h i.op words w) g) gs
    (if k then act_marked s h i.op words cells w else act s h i.op words w))) (through_marked s j is)
    else More (state_of g gs cells w)

to_inst : (s : Setting) (j : Module) (i : Inst) (is : List Inst) (h : Here) (g : Frame ℕ) (gs : List (Frame ℕ)) (cells : ℕ → ℕ) (w : World) (k : Bool)
    → i.marked ≡ k → here s j g ≡ h → through_marked s j (i ∷ is) (state_of g gs cells w) ≡ inst_to s j i is h (words_of s g.values (operands i.op)) g gs cells w k
to_inst s j i is h g gs cells w k e f =
    ap₂ (λ x y. inst_to s j i is (here s j g) x g gs cells w y) (read_words s g.values (operands i.op) (here s j g).root) e
    ∙ ap (λ x. inst_to s j i is x (words_of s g.values (operands i.op)) g gs cells w k) f

pub to_marked : (s : Setting) (j : Module) (h : Here) (a b : List Inst) → AllMarked a → MakesNoBlock a → (g : Frame ℕ) (gs : List (Frame ℕ)) (cells : ℕ → ℕ) (w : World)
    → here s j g ≡ h → rest_of j g ≡ a ++ b → AllInserted a ⊎ GetsThrough (run_marked s h a (record { names = g.values; slots = cells }) w)
    → through_marked s j (a ++ b) (state_of g gs cells w)
    ≡ reach_step (run_marked s h a (record { names = g.values; slots = cells }) w) (λ u z. through_marked s j b (state_of (frame_at g (g.place + length a) u.names) gs u.slots z))
to_marked s j h a b = marked_through s j (through_marked s j) (λ i is k g gs cells w m f. to_inst s j i is k g gs cells w true m f) h a b

module _ (s : Setting) (numbers : ℕ → Numbering) (m : Module) (known : KnownModule s numbers m) where
  -- one instruction with the list before it
  inst_due : (f : Frame Poisoned) (fs : List (Frame Poisoned)) (w : World) (g : Frame ℕ) (gs : List (Frame ℕ)) (cells : ℕ → ℕ) (i : Inst) (is : List Inst) (next : ℕ)
      → g.func ≡ f.func → g.block ≡ f.block → g.mark ≡ f.mark → g.heap ≡ f.heap → here s (pass numbers m) g ≡ here s m f → 2 * (numbers f.func).size + 1 ≤ next → rest_of m f ≡ i ∷ is → is_phi i.op ≡ false
      → rest_of (pass numbers m) g
      ≡ before_code s (numbers f.func).env (here s m f) i next
      ++ (i
      ∷ ((emit_tasks (given_of s) (numbers f.func).env (here s m f) i next).after
      ++ (pass_insts (given_of s) (numbers f.func).env is (next_here (given_of s) (here s m f) i) (emit_tasks (given_of s) (numbers f.func).env (here s m f) i next).next).code))
      → FramesFollow s numbers m f.func fs gs → Matches (numbers f.func).env f.values g.values → RangedWorld w → RangedValues f.values
      → ((r : Name) (x : ℕ) (w1 w2 : World) → i.result ≡ Some r → (numbers f.func).env.clean r ≡ true → checked_at s f.values (here s m f) i w ≡ Does w1
      → acted_at s f.values (here s m f) i (counted_at s f.values (here s m f) i w1) ≡ Gives x w2
      → (poisoned_result by_formulas i.op (words_at s f.values (here s m f) i) x w2).mask ≡ 0)
      → Reaching s numbers m f fs w i is
      (through_marked s (pass numbers m) (before_code s (numbers f.func).env (here s m f) i next
      ++ (i
      ∷ ((emit_tasks (given_of s) (numbers f.func).env (here s m f) i next).after
      ++ (pass_insts (given_of s) (numbers f.func).env is (next_here (given_of s) (here s m f) i) (emit_tasks (given_of s) (numbers f.func).env (here s m f) i next).next).code))) (state_of g gs cells w))
  inst_due f fs w g gs cells i is next same_func same_block same_mark same_heap stands room rest_m no_phi rest_j lower matches in_world in_values cleans =
      by_law (before_law s (numbers f.func).env (numbers f.func).size next (here s m f) i f.values (record { names = g.values; slots = cells }) w
      (record { known = known.known f i is rest_m no_phi; one_name = known.one_name f.func; few = known.few f.func; room = room; ranged = known.ranged f i is rest_m; slots = known.slots })
      matches in_world in_values cleans)
    where
      before : List Inst
      before = before_code s (numbers f.func).env (here s m f) i next

      rest : List Inst
      rest =
          i
          ∷ ((emit_tasks (given_of s) (numbers f.func).env (here s m f) i next).after
          ++ (pass_insts (given_of s) (numbers f.func).env is (next_here (given_of s) (here s m f) i) (emit_tasks (given_of s) (numbers f.func).env (here s m f) i next).next).code)

      all : AllInserted (before_code s (numbers f.func).env (here s m f) i next)
      all = tasks_inserted (before_tasks (given_of s) (numbers f.func).env (here s m f) i next) (start (given_of s) i next)

      ran : (r : Reach) → run_marked s (here s m f) (before_code s (numbers f.func).env (here s m f) i next) (record { names = g.values; slots = cells }) w ≡ r
          → through_marked s (pass numbers m) (before ++ rest) (state_of g gs cells w)
          ≡ reach_step r (λ u z. through_marked s (pass numbers m) rest (state_of (frame_at g (g.place + length before) u.names) gs u.slots z))
      ran r e =
          to_marked s (pass numbers m) (here s m f) before rest (inserted_marked _ all) (inserted_no_block _ all) g gs cells w stands rest_j (inl all)
          ∙ ap (λ y. reach_step y (λ u z. through_marked s (pass numbers m) rest (state_of (frame_at g (g.place + length before) u.names) gs u.slots z))) e

      by_law : BeforeLaw s (numbers f.func).env next (here s m f) i f.values (record { names = g.values; slots = cells }) w
          → Reaching s numbers m f fs w i is (through_marked s (pass numbers m) (before ++ rest) (state_of g gs cells w))
      by_law (Checked e w1 r checks) = subst (Reaching s numbers m f fs w i is) (sym (ran (Done e w1) r)) (Reported e w1 checks)
      by_law (Failed e w1 w2 inside r checks acts) = subst (Reaching s numbers m f fs w i is) (sym (ran (Done e w2) r)) (Tried e w1 w2 inside checks acts)
      by_law (Due u w1 r checks handed size_saved words gives answers does) =
          let h = here s m f in
          let z1 = counted_at s f.values h i w1 in
          let g1 = frame_at g (g.place + length before) u.names in
          let due : DueBoth s numbers m f fs g1 gs u.slots i is next = record {
            same_func = same_func;
            same_block = same_block;
            same_mark = same_mark;
            same_heap = same_heap;
            stands = here_marked s (pass numbers m) before rest (inserted_marked _ all) g u.names rest_j ∙ stands;
            room = room;
            rest_m = rest_m;
            rest_j = drop_many _ g.place before rest rest_j;
            lower = lower;
            handed = handed;
            words = words;
            answers = answers;
          } in
          subst (Reaching s numbers m f fs w i is)
          (sym (ran (Went u z1) r ∙ ap (λ k. if k then and_then (plain_inst s (pass numbers m) i (state_of g1 gs u.slots z1) (g1 ∷ gs)) (through_marked s (pass numbers m) after_it) else More (state_of g1 gs u.slots z1)) (known.known f i is rest_m no_phi).unmarked))
          (Both w1 g1 gs u.slots next checks due size_saved gives does)
        where
          after_it : List Inst
          after_it =
              (emit_tasks (given_of s) (numbers f.func).env (here s m f) i next).after
              ++ (pass_insts (given_of s) (numbers f.func).env is (next_here (given_of s) (here s m f) i) (emit_tasks (given_of s) (numbers f.func).env (here s m f) i next).next).code

  -- from a state that follows one of the shadow run: what waits is done, and then the list before what is due
  pub top_due : (f : Frame Poisoned) (fs : List (Frame Poisoned)) (w : World) (g : Frame ℕ) (gs : List (Frame ℕ)) (cells : ℕ → ℕ) (z : World) (i : Inst) (is : List Inst)
      → TopFollows s numbers m f w g cells z → FramesFollow s numbers m f.func fs gs → RangedWorld w → RangedValues f.values → rest_of m f ≡ i ∷ is → is_phi i.op ≡ false
      → ((r : Name) (x : ℕ) (w1 w2 : World) → i.result ≡ Some r → (numbers f.func).env.clean r ≡ true → checked_at s f.values (here s m f) i w ≡ Does w1
      → acted_at s f.values (here s m f) i (counted_at s f.values (here s m f) i w1) ≡ Gives x w2
      → (poisoned_result by_formulas i.op (words_at s f.values (here s m f) i) x w2).mask ≡ 0)
      → Reaching s numbers m f fs w i is (through_marked s (pass numbers m) (rest_of (pass numbers m) g) (state_of g gs cells z))
  top_due f fs w g gs cells z i is t lower in_world in_values rest_m no_phi cleans =
      let env = (numbers f.func).env in
      let code = (pass_insts (given_of s) env (rest_of m f) (here s m f) t.next).code in
      let g1 = frame_at g (g.place + length t.waiting) t.after.names in
      let code_is = ap (λ l. (pass_insts (given_of s) env l (here s m f) t.next).code) rest_m ∙ plain_code i is t.next no_phi in
      subst (Reaching s numbers m f fs w i is)
      (sym (ap (λ l. through_marked s (pass numbers m) l (state_of g gs cells z)) t.rest
      ∙ to_marked s (pass numbers m) (here s m f) t.waiting code t.marked t.no_block g gs cells z t.stands t.rest (inr (subst GetsThrough (sym t.runs) tt))
      ∙ ap (λ y. reach_step y (λ u w. through_marked s (pass numbers m) code (state_of (frame_at g (g.place + length t.waiting) u.names) gs u.slots w))) t.runs
      ∙ ap (λ l. through_marked s (pass numbers m) l (state_of g1 gs t.after.slots w)) code_is))
      (inst_due f fs w g1 gs t.after.slots i is t.next t.same_func t.same_block t.same_mark t.same_heap
      (here_marked s (pass numbers m) t.waiting code t.marked g t.after.names t.rest ∙ t.stands) t.room rest_m no_phi
      (drop_many _ g.place t.waiting code t.rest ∙ code_is) lower t.matches in_world in_values cleans)
    where
      -- an instruction that is no phi stands between its lists
      plain_code : (i : Inst) (is : List Inst) (n : ℕ) → is_phi i.op ≡ false
          → (pass_insts (given_of s) (numbers f.func).env (i ∷ is) (here s m f) n).code
          ≡ before_code s (numbers f.func).env (here s m f) i n
          ++ (i
          ∷ ((emit_tasks (given_of s) (numbers f.func).env (here s m f) i n).after
          ++ (pass_insts (given_of s) (numbers f.func).env is (next_here (given_of s) (here s m f) i) (emit_tasks (given_of s) (numbers f.func).env (here s m f) i n).next).code))
      plain_code i is n e =
          ap (λ x. x.before ++ (i ∷ (x.after ++ (pass_insts (given_of s) (numbers f.func).env is (next_here (given_of s) (here s m f) i) x.next).code))) (lists i.op e)
        where
          lists : (o : Op) → is_phi o ≡ false → emit_op (given_of s) (numbers f.func).env (here s m f) i n o ≡ emit_tasks (given_of s) (numbers f.func).env (here s m f) i n
          lists (op.Phi t es) e = absurd (grind arith)
          lists _ e = refl
