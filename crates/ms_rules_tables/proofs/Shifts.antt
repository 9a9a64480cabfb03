-- The tasks of an operation on two words, by whether it is a shift or a sum.
use Rattle.std.proofs.Common.{◌≡◌, ℕ, List, [], ◌∷◌, ◌⊎◌, inl, inr, refl, sym, subst}
use Rattle.ms_bits.specs.declared.operations.BinOp.{BinOp}
use Rattle.ms_bits.specs.declared.operations.BinOp.TheVariants as binary
use Rattle.ms_bits.specs.declared.operations.Flags.{Flags}
use Rattle.ms_ir.specs.declared.syntax.Name.{Name}
use Rattle.ms_ir.specs.declared.syntax.Ty.{Ty, Int}
use Rattle.ms_ir.specs.declared.syntax.Operand.{Operand}
use Rattle.ms_ir.specs.declared.syntax.Op.{Op}
use Rattle.ms_ir.specs.declared.syntax.Op.TheVariants as op
use Rattle.ms_ir.specs.Layout.{width_of}
use Rattle.ms_pass_tasks.specs.Tasks.{Sets}
use Rattle.ms_pass_tasks.specs.Environments.{Tracked, tracked_at}
use Rattle.ms_pass_tasks.specs.ResultMasks.{origin_expr, sum_expr, first_last}
use Rattle.ms_pass_tasks.specs.ResultTasks.{binary_tasks, word_tasks, shift_task}

module _ (mask origin : Name) (p : Op) (w : ℕ) (ts : List Tracked) where
  pub of_a_shift : (o : BinOp) → (o ≡ binary.Shl) ⊎ ((o ≡ binary.Lshr) ⊎ (o ≡ binary.Ashr))
      → binary_tasks mask origin o p w ts ≡ Sets origin (Int 32) (origin_expr p ts) ∷ shift_task mask o w (tracked_at 0 ts) (tracked_at 1 ts) ∷ []
  of_a_shift o (inl e) = subst (λ (x : BinOp). binary_tasks mask origin x p w ts ≡ Sets origin (Int 32) (origin_expr p ts) ∷ shift_task mask x w (tracked_at 0 ts) (tracked_at 1 ts) ∷ []) (sym e) refl
  of_a_shift o (inr (inl e)) = subst (λ (x : BinOp). binary_tasks mask origin x p w ts ≡ Sets origin (Int 32) (origin_expr p ts) ∷ shift_task mask x w (tracked_at 0 ts) (tracked_at 1 ts) ∷ []) (sym e) refl
  of_a_shift o (inr (inr e)) = subst (λ (x : BinOp). binary_tasks mask origin x p w ts ≡ Sets origin (Int 32) (origin_expr p ts) ∷ shift_task mask x w (tracked_at 0 ts) (tracked_at 1 ts) ∷ []) (sym e) refl

  pub of_no_shift : (o : BinOp) → (o ≡ binary.Shl → ⊥) → (o ≡ binary.Lshr → ⊥) → (o ≡ binary.Ashr → ⊥) → binary_tasks mask origin o p w ts ≡ word_tasks mask origin p ts
  of_no_shift binary.Shl a b c = absurd (a refl)
  of_no_shift binary.Lshr a b c = absurd (b refl)
  of_no_shift binary.Ashr a b c = absurd (c refl)
  of_no_shift _ a b c = refl

-- of a sum, a difference or a product, of a width
module _ (mask origin : Name) (f : Flags) (t : Ty) (a b : Operand) (w : ℕ) (ts : List Tracked) where
  abbrev summed : BinOp → Type 0
  summed o =
      binary_tasks mask origin o (op.Binary o f t a b) w ts
      ≡ Sets origin (Int 32) (first_last ts) ∷ Sets mask (Int (width_of t)) (sum_expr (width_of t) (tracked_at 0 ts ∷ tracked_at 1 ts ∷ [])) ∷ []

  pub of_a_sum : (o : BinOp) → (o ≡ binary.Add) ⊎ ((o ≡ binary.Sub) ⊎ (o ≡ binary.Mul)) → summed o
  of_a_sum o (inl e) = subst summed (sym e) refl
  of_a_sum o (inr (inl e)) = subst summed (sym e) refl
  of_a_sum o (inr (inr e)) = subst summed (sym e) refl
