-- A fiber begins in both runs.
use Rattle.std.proofs.Common.{◌≡◌, ◌≢◌, Bool, ℕ, ◌+◌, ◌*◌, ◌≤◌, List, [], ◌∷◌, true, false, refl, ◌∙◌, arith}
use Rattle.std.specs.Prelude.{if◌then◌else◌}
use Rattle.ms_ir.specs.declared.syntax.Name.{Name}
use Rattle.ms_ir.specs.declared.syntax.Ty.{Ty, Ptr}
use Rattle.ms_ir.specs.declared.syntax.Operand.TheVariants as operand
use Rattle.ms_ir.specs.declared.syntax.Module.{Module}
use Rattle.ms_ir.specs.Names.{name_eq}
use Rattle.ms_runs.specs.World.{World, Setting}
use Rattle.ms_runs.specs.Control.{bind, params_at, entered}
use Rattle.ms_runs.specs.Act.{plain_reading}
use Rattle.ms_runs.specs.Poisoned.{clean}
use Rattle.ms_runs.specs.Shadow.{shadow_reading}
use Rattle.ms_pass_tasks.specs.Known.{ArgsFit}
use Rattle.ms_pass_laws.proofs.Step.{entered_follows}
use Rattle.ms_pass_laws.specs.Pass.{Numbering, pass}
use Rattle.ms_pass_laws.specs.Law.{TopFollows}
use Rattle.ms_pass_laws.specs.Known.{KnownModule}
use Rattle.ms_runs.specs.Threads.{first_clean}
use Rattle.ms_threads_laws.specs.Due.{argument_word}

bound_clean : (ps : List (Ty × Name)) (a : ℕ) (x : Name) → (bind clean ps (argument_word a ∷ []) x).mask ≡ 0
bound_clean [] a x = refl
bound_clean (p ∷ ps) a x = by_name (name_eq x p.1) (none ps)
  where
    none : (ps : List (Ty × Name)) → (bind clean ps [] x).mask ≡ 0
    none [] = refl
    none (p ∷ ps) = refl

    by_name : (b : Bool) → (bind clean ps [] x).mask ≡ 0 → (if b then argument_word a else bind clean ps [] x).mask ≡ 0
    by_name true h = refl
    by_name false h = h

module _ (s : Setting) (numbers : ℕ → Numbering) (m : Module) (known : KnownModule s numbers m) where
  pub begins_both : (n a : ℕ) (cells : ℕ → ℕ) (w : World) → ArgsFit (params_at m n) ((Ptr, operand.Int a) ∷ [])
      → TopFollows s numbers m (entered shadow_reading m n (argument_word a ∷ []) w) w (entered plain_reading (pass numbers m) n (a ∷ []) w) (first_clean cells) w
  begins_both n a cells w fit =
      entered_follows s numbers m known n (argument_word a ∷ []) ((Ptr, operand.Int a) ∷ []) (first_clean cells) w fit (omega arith)
      (record { mask = refl; origin = λ ne. absurd (ne refl) }, tt) tt (λ x c. bound_clean (params_at m n) a x)
