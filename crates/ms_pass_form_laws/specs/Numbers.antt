-- Numberings of values by which a module can be instrumented.
use Rattle.std.specs.Prelude.{ℕ}
use Rattle.ms_pass_tasks.specs.Known.{OneName, FewNumbers}
use Rattle.ms_pass_laws.specs.Pass.{Numbering}

-- no two values of a function have one number, and each number is below their count
pub record GoodNumbers (numbers : ℕ → Numbering) : Type 0 where
  pub one : (n : ℕ) → OneName (numbers n).env
  pub few : (n : ℕ) → FewNumbers (numbers n).env (numbers n).size
