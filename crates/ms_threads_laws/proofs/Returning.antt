-- A return outside `main` that is due in both runs: the slots hold the mask and the origin of what is returned.
use Rattle.std.proofs.Common.{◌≡◌, ◌≢◌, Bool, Option, Some, ℕ, ◌+◌, ◌*◌, ◌≤◌, List, [], ◌∷◌, true, false, refl, sym, ap, ◌∙◌, subst, arith, true≢false}
use Rattle.std.specs.Prelude.{map, if◌then◌else◌, eqb}
use Rattle.ms_ir.specs.declared.syntax.Name.{Name}
use Rattle.ms_ir.specs.declared.syntax.Inst.{Inst}
use Rattle.ms_ir.specs.declared.syntax.Module.{Module}
use Rattle.ms_ir.specs.declared.syntax.Op.TheVariants as op
use Rattle.ms_ir.specs.declared.syntax.Ty.{Ty}
use Rattle.ms_ir.specs.declared.syntax.Operand.{Operand}
use Rattle.ms_runs.specs.declared.runs.End.TheVariants as «end»
use Rattle.ms_runs.specs.World.{World, Setting, Effect, Does, Leaves, Ends, word}
use Rattle.ms_runs.specs.Control.{Frame, here}
use Rattle.ms_runs.specs.Plain.{PlainState, Stepped, More}
use Rattle.ms_runs.specs.Poisoned.{Poisoned}
use Rattle.ms_runs.specs.Uses.{Word, check_uses}
use Rattle.ms_pass_tasks.specs.Match.{ResultHeld}
use Rattle.ms_pass_tasks.specs.InstructionLaw.{words_at, checked_at, counted_at, acted_at}
use Rattle.ms_pass_laws.proofs.Marked.{state_of}
use Rattle.ms_pass_laws.specs.Pass.{Numbering}
use Rattle.ms_threads_laws.specs.Due.{Reaching, Reported, Tried, Both, ReturnsBoth}

-- an origin that counts where a bit is poisoned alone
pub kept_same : (m n a b : ℕ) → m ≡ n → (n ≢ 0 → a ≡ b) → (if eqb m 0 then 0 else a) ≡ (if eqb n 0 then 0 else b)
kept_same m n a b e h = ap (λ k. if eqb k 0 then 0 else a) e ∙ by_zero (eqb n 0) refl
  where
    by_zero : (t : Bool) → eqb n 0 ≡ t → (if t then 0 else a) ≡ (if t then 0 else b)
    by_zero true z = refl
    by_zero false z = h (λ q. true≢false (sym (ap (λ k. eqb k 0) q) ∙ z))

module _ (s : Setting) (numbers : ℕ → Numbering) (m : Module) where
  pub returns_both : (f : Frame Poisoned) (fs : List (Frame Poisoned)) (w : World) (x : Option Name) (b : Bool) (is : List Inst) (v : Ty × Operand) (t : Stepped PlainState)
      → (here s m f).main ≡ false
      → Reaching s numbers m f fs w (record { op = op.Ret (Some v); result = x; marked = b }) is t
      → ReturnsBoth s numbers m f fs w (record { op = op.Ret (Some v); result = x; marked = b }) is v t
  returns_both f fs w x b is v t outside r = by_reaching t r
    where
      i : Inst
      i = record { op = op.Ret (Some v); result = x; marked = b }

      none_checked : checked_at s f.values (here s m f) (record { op = op.Ret (Some v); result = x; marked = b }) w ≡ Does w
      none_checked = ap (λ k. check_uses s (here s m f).site (v ∷ []) (words_at s f.values (here s m f) (record { op = op.Ret (Some v); result = x; marked = b })) (if k then Word 8 0 ∷ [] else []) w) outside

      leaves : (u : World) → acted_at s f.values (here s m f) (record { op = op.Ret (Some v); result = x; marked = b }) u ≡ Leaves u
      leaves u = ap (λ k. if k then Ends («end».Exit (word 0 (map (λ p. p.value) (words_at s f.values (here s m f) (record { op = op.Ret (Some v); result = x; marked = b }))))) u else Leaves u) outside

      world_in : Effect → World → World
      world_in (Does u) z = u
      world_in _ z = z

      by_reaching : (t : Stepped PlainState) → Reaching s numbers m f fs w (record { op = op.Ret (Some v); result = x; marked = b }) is t
          → ReturnsBoth s numbers m f fs w (record { op = op.Ret (Some v); result = x; marked = b }) is v t
      by_reaching _ (Reported e u c) = absurd (let q = sym none_checked ∙ c in grind (arith, q))
      by_reaching _ (Tried e u z inside c a) = absurd (let q = sym (leaves (counted_at s f.values (here s m f) (record { op = op.Ret (Some v); result = x; marked = b }) u)) ∙ a in grind (arith, q))
      by_reaching _ (Both u g gs cells next c due size_saved gives does) = record {
        g = g;
        gs = gs;
        cells = cells;
        next = next;
        more = ap (λ k. More (state_of g gs cells k)) (ap (λ k. world_in k w) (sym c ∙ none_checked));
        due = due;
        held = λ p ps e. subst (λ l. ResultHeld false cells (v ∷ []) l) e (subst (λ k. ResultHeld k cells (v ∷ []) (words_at s f.values (here s m f) (record { op = op.Ret (Some v); result = x; marked = b }))) outside due.handed);
      }
