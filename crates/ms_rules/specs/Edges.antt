-- The edges of the phis of masks and origins.
use Rattle.std.specs.Prelude.{ℕ, List, [], ◌∷◌, Some, map, unwrap_or}
use Rattle.ms_ir.specs.declared.syntax.Name.{Name}
use Rattle.ms_ir.specs.declared.syntax.Inst.{Inst}
use Rattle.ms_ir.specs.declared.syntax.Ty.{Ty, Int}
use Rattle.ms_ir.specs.declared.syntax.Op.TheVariants as op
use Rattle.ms_ir.specs.declared.syntax.Operand.{Operand}
use Rattle.ms_ir.specs.declared.syntax.Operand.TheVariants as constant
use Rattle.ms_check_tables.specs.FirstPlace.{first_place, at_place}
use Rattle.ms_pass_tasks.specs.Environments.{mask_type}
use Rattle.ms_pass_tasks.specs.Tasks.{inserted, mask_name, origin_name}
use Rattle.ms_rules_builder.specs.Steps.{shadow_mask, shadow_origin}
use Rattle.ms_rules_builder.specs.declared.tracked.TrackedOperand.{TrackedOperand}

-- the operands that hold masks
abbrev pub masks : List TrackedOperand → List Operand
masks ts = map (λ t. shadow_mask t.shadow) ts

-- the operands that hold origins
abbrev pub origins : List TrackedOperand → List Operand
origins ts = map (λ t. shadow_origin t.shadow) ts

-- edges with other operands
abbrev pub with_operands : List Operand → List (Operand × Name) → List (Operand × Name)
with_operands os [] = []
with_operands [] (e ∷ es) = []
with_operands (o ∷ os) (e ∷ es) = (o, e.1) ∷ with_operands os es

-- the operand at the first place of a label
abbrev pub first_operand : List Operand → List Name → Name → Operand
first_operand os labels x = unwrap_or (at_place os (first_place labels x)) (constant.Int 0)

-- edges with the operand of the first one that has the same label
abbrev pub with_first : List Operand → List Name → List (Operand × Name) → List (Operand × Name)
with_first os labels es = map (λ e. (first_operand os labels e.1, e.1)) es

-- the phis of the mask and the origin of the value with a number
abbrev pub shadow_phis : (v : ℕ) → Ty → (masks origins : List (Operand × Name)) → List Inst
shadow_phis v t ms os = inserted (Some (mask_name v)) (op.Phi (mask_type t) ms) ∷ inserted (Some (origin_name v)) (op.Phi (Int 32) os) ∷ []
