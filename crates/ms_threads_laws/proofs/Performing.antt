-- A call outside that is due in both is done in both, in whatever world they stand by then.
use Rattle.std.proofs.Common.{◌≡◌, ◌≢◌, ℕ, ◌+◌, ◌*◌, ◌≤◌, List, ◌∷◌, ◌++◌, false, refl, sym, ap, ◌∙◌, subst}
use Rattle.std.specs.Prelude.{map, if◌then◌else◌}
use Rattle.ms_ir.specs.declared.syntax.Inst.{Inst}
use Rattle.ms_ir.specs.declared.syntax.Module.{Module}
use Rattle.ms_ir.specs.declared.syntax.Op.TheVariants as op
use Rattle.ms_ir.specs.Instructions.{operands, count_undefs, is_phi}
use Rattle.ms_runs.specs.World.{World, Setting}
use Rattle.ms_runs.specs.Control.{Frame, here, rest_of, keeping, after_effect}
use Rattle.ms_runs.specs.Act.{act, plain_reading}
use Rattle.ms_runs.specs.Plain.{More, and_then, plain_state, through}
use Rattle.ms_runs.specs.Poisoned.{Poisoned}
use Rattle.ms_runs.specs.Masks.{by_formulas}
use Rattle.ms_runs.specs.Shadow.{shadow_reading, shadow_moved, poisoned_result, planes}
use Rattle.ms_pass_tasks.specs.Match.{Handed, Saved, Matches, RangedWorld, RangedValues}
use Rattle.ms_pass_tasks.specs.Known.{AllApart}
use Rattle.ms_pass_tasks.specs.InstructionLaw.{GoesOn, CallsOutside, words_at, acted_at}
use Rattle.ms_pass_laws.proofs.Marked.{state_of, through_inst}
use Rattle.ms_pass_laws.proofs.Built.{act_tells}
use Rattle.ms_pass_laws.proofs.Step.{AtInst, keeping_both, effect_step}
use Rattle.ms_pass_laws.specs.Pass.{Numbering, pass}
use Rattle.ms_pass_laws.specs.Law.{Steps, Sound}
use Rattle.ms_pass_laws.specs.Known.{KnownModule}
use Rattle.ms_threads_laws.specs.Due.{DueBoth}

module _ (s : Setting) (numbers : ℕ → Numbering) (m : Module) (known : KnownModule s numbers m) where
  pub performs_both : (f : Frame Poisoned) (fs : List (Frame Poisoned)) (g : Frame ℕ) (gs : List (Frame ℕ)) (cells : ℕ → ℕ) (i : Inst) (is : List Inst) (next : ℕ) (w : World)
      → DueBoth s numbers m f fs g gs cells i is next → (other : ℕ → ℕ) → RangedWorld w → RangedValues f.values → AllApart i.result (operands i.op) → is_phi i.op ≡ false
      → CallsOutside s.func i.op
      → Handed s.func (here s m f).main i.op (words_at s f.values (here s m f) i) other
      → Saved s.func next i.op (words_at s f.values (here s m f) i) w g.values
      → (GoesOn (acted_at s f.values (here s m f) i w) → Matches (numbers f.func).env f.values g.values)
      → Sound s numbers m (shadow_moved (after_effect shadow_reading s m (here s m f).site i.result (words_at s f.values (here s m f) i)
      (poisoned_result by_formulas i.op (words_at s f.values (here s m f) i))
      (planes s (here s m f).site ((here s m f).root + count_undefs (operands i.op) + 1) i.op (words_at s f.values (here s m f) i) w) (keeping i.op (acted_at s f.values (here s m f) i w) f) fs (acted_at s f.values (here s m f) i w)))
      → Steps s numbers m
      (shadow_moved (after_effect shadow_reading s m (here s m f).site i.result (words_at s f.values (here s m f) i)
      (poisoned_result by_formulas i.op (words_at s f.values (here s m f) i))
      (planes s (here s m f).site ((here s m f).root + count_undefs (operands i.op) + 1) i.op (words_at s f.values (here s m f) i) w) (keeping i.op (acted_at s f.values (here s m f) i w) f) fs (acted_at s f.values (here s m f) i w)))
      (through s (pass numbers m) (rest_of (pass numbers m) g) (state_of g gs other w))
  performs_both f fs g gs cells i is next w due other in_world in_values apart no_phi outside handed size_saved does sound =
      let h = here s m f in
      let ps = words_at s f.values h i in
      let x = acted_at s f.values h i w in
      let at : AtInst s numbers m known f fs g gs i is next = record {
        same_func = due.same_func;
        same_block = due.same_block;
        same_mark = due.same_mark;
        same_heap = due.same_heap;
        stands = due.stands;
        room = due.room;
        rest_m = due.rest_m;
        no_phi = no_phi;
        rest_j = due.rest_j;
        lower = due.lower;
      } in
      subst (Steps s numbers m (shadow_moved (after_effect shadow_reading s m h.site i.result ps (poisoned_result by_formulas i.op ps)
      (planes s h.site (h.root + count_undefs (operands i.op) + 1) i.op ps w) (keeping i.op (acted_at s f.values h i w) f) fs (acted_at s f.values h i w))))
      (sym (ap (λ l. through s (pass numbers m) l (state_of g gs other w)) due.rest_j
      ∙ through_inst s (pass numbers m) i _ h g gs other w false (known.known f i is due.rest_m no_phi).unmarked due.stands
      ∙ ap (λ l. and_then (plain_state other (after_effect plain_reading s (pass numbers m) h.site i.result l (λ v w. v) (λ v w. w) (keeping i.op (act s h i.op l w) g) gs (act s h i.op l w))) More) due.words))
      (effect_step s numbers m known (keeping i.op x f) fs (keeping i.op x g) gs i is next (keeping_both s numbers m known f fs g gs i is next i.op x at) other w in_world in_values apart handed size_saved (λ v u e. due.answers outside v u) does (acted_at s f.values h i w) refl
      (act_tells s h i.op (map (λ p. p.value) ps) w) sound)
