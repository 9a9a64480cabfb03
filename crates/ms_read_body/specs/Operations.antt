-- The operations that a line may have, each with its piece of the grammar.
use Rattle.ms_lex.specs.Grammar.{give}
use Rattle.ms_ir.specs.declared.syntax.Op.{Op}
use Rattle.ms_ir.specs.declared.syntax.Op.TheVariants as op
use Rattle.ms_ir.specs.declared.forms.Form.{Form}
use Rattle.ms_text_grammar.specs.Steps.{Rule}
use Rattle.ms_text_grammar.specs.Insts.{binary_rule, compare_rule, cast_rule, select_rule, freeze_rule, load_rule, store_rule, branch_rule, switch_rule, ret_rule}
use Rattle.ms_read_body.specs.declared.operation_rules.EffectOperation.{EffectOperation}
use Rattle.ms_read_body.specs.declared.operation_rules.EffectOperation.TheVariants as effect
use Rattle.ms_read_body.specs.declared.operation_rules.ValueOperation.{ValueOperation}
use Rattle.ms_read_body.specs.declared.operation_rules.ValueOperation.TheVariants as value

-- an operation with a result, after its word
abbrev pub value_rule : Form → ValueOperation → Rule Op
value_rule form (value.Binary binary) = binary_rule form binary
value_rule form (value.Cast cast) = cast_rule form cast
value_rule form value.Compare = compare_rule form
value_rule form value.Select = select_rule form
value_rule form value.Freeze = freeze_rule form
value_rule form value.Load = load_rule form

-- an operation without one
abbrev pub effect_rule : Form → EffectOperation → Rule Op
effect_rule form effect.Store = store_rule form
effect_rule form effect.Branch = branch_rule form
effect_rule form effect.Switch = switch_rule form
effect_rule form effect.Ret = ret_rule form
effect_rule form effect.Unreachable = give op.Unreachable
