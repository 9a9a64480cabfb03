-- Operands with what is known of their masks and origins.
use Rattle.std.specs.Prelude.{◌≡◌, ℕ, ◌+◌, List, get_or, map}
use Rattle.ms_ir.specs.declared.syntax.Op.{Op}
use Rattle.ms_ir.specs.declared.syntax.Ty.{Ty, Ptr}
use Rattle.ms_ir.specs.declared.syntax.Operand.{Operand}
use Rattle.ms_ir.specs.declared.syntax.Operand.TheVariants as constant
use Rattle.ms_ir.specs.Instructions.{count_undefs, operands}
use Rattle.ms_ir.specs.Layout.{width_of}
use Rattle.ms_pass_tasks.specs.Environments.{Env, Tracked, mask_operand, origin_operand, tracked}
use Rattle.ms_rules_builder.specs.Steps.{tracked_of}
use Rattle.ms_rules.specs.declared.tracked.Tracking.{Tracking}

-- an operand before which so many roots stand
abbrev pub tracked_one : Env → ℕ → Ty × Operand → Tracked
tracked_one env root o = record { ty = o.0; operand = o.1; mask = mask_operand env (width_of o.0) o.1; origin = origin_operand env root o.1 }

-- the operands of an operation, with the roots before and after them
pub record IsTracked (env : Env) (o : Op) (t : Tracking) : Type 0 where
  pub are : map tracked_of t.operands.items ≡ tracked env t.before (operands o)
  pub after : t.after ≡ t.before + count_undefs (operands o)

-- the operand at a place
abbrev pub operand_at : List (Ty × Operand) → ℕ → Ty × Operand
operand_at os k = get_or os k (Ptr, constant.Null)
