-- The instrumented form of a module in which nothing is computed of values that are clean in every run (own).
use Rattle.std.specs.Prelude.{◌≡◌, ℕ, Bool, Some, option_map}
use Rattle.ms_ir.specs.declared.syntax.Name.{Name}
use Rattle.ms_ir.specs.declared.syntax.Func.{Func}
use Rattle.ms_ir.specs.declared.syntax.Module.{Module}
use Rattle.ms_ir.specs.Instructions.{func_at}
use Rattle.ms_pass_laws.specs.Pass.{pass}
use Rattle.ms_pass_form_laws.specs.Eliding.{eliding, SaysExactly}
use Rattle.ms_pass_form_laws.specs.Checks.{check_calls, unclean_checks}

-- j is the instrumented form of m by the numbering in text order, where exactly the clean values are said to be clean
pub record IsElided (m j : Module) : Type 0 where
  pub clean : ℕ → Name → Bool
  pub exact : SaysExactly m clean
  pub is_pass : j ≡ pass (eliding clean m) m

-- in each function of j stand as many checks of words as the function of m has checked uses of words that aren't clean
pub record ChecksUnclean (m j : Module) : Type 0 where
  pub clean : ℕ → Name → Bool
  pub exact : SaysExactly m clean
  pub counted : (n : ℕ) (f : Func) → func_at m n ≡ Some f → option_map check_calls (func_at j n) ≡ Some (unclean_checks (clean n) m f)
