-- Numberings by which the pass computes nothing of values that are clean in every run, and makes no check of them (own).
use Rattle.std.specs.Prelude.{◌≡◌, ℕ, Bool, true, length, Some}
use Rattle.ms_ir.specs.declared.syntax.Name.{Name}
use Rattle.ms_ir.specs.declared.syntax.Func.{Func}
use Rattle.ms_ir.specs.declared.syntax.Module.{Module}
use Rattle.ms_ir.specs.Instructions.{func_at}
use Rattle.ms_check_valid.specs.CleanValues.{IsClean}
use Rattle.ms_pass_laws.specs.Pass.{Numbering}
use Rattle.ms_pass_laws.specs.Numbers.{value_index, values_at}

-- the values of each function in text order, where it is said which values of the function at a place are clean
abbrev pub eliding : (ℕ → Name → Bool) → Module → ℕ → Numbering
eliding clean m n = record { env = record { number = value_index (values_at m n); clean = clean n }; size = length (values_at m n) }

-- what is said to be clean is clean
abbrev pub SaysClean : Module → (ℕ → Name → Bool) → Type 0
SaysClean m clean = (n : ℕ) (f : Func) → func_at m n ≡ Some f → (x : Name) → clean n x ≡ true → IsClean m f x

-- exactly what is clean is said to be
pub record SaysExactly (m : Module) (clean : ℕ → Name → Bool) : Type 0 where
  pub sound : SaysClean m clean
  pub whole : (n : ℕ) (f : Func) → func_at m n ≡ Some f → (x : Name) → IsClean m f x → clean n x ≡ true
