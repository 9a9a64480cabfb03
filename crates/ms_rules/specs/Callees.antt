-- What operations call.
use Rattle.std.specs.Prelude.{◌≡◌, ℕ, Option}
use Rattle.ms_ir.specs.declared.syntax.Name.{Name}
use Rattle.ms_ir.specs.declared.syntax.Op.{Op}
use Rattle.ms_rules_builder.specs.Called.{calls_own, called_external}
use Rattle.ms_rules.specs.declared.callees.CalleeKind.{CalleeKind}

-- what an operation calls
pub record IsCallee (func : Name → Option ℕ) (o : Op) (c : CalleeKind) : Type 0 where
  pub own : calls_own func o ≡ c.own
  pub external : called_external func o ≡ c.external
