-- The words of instructions, by what a line adds.
use Rattle.std.specs.Prelude.{Option, Some, None}
use Rattle.ms_ir.specs.declared.syntax.Name.{Name}
use Rattle.ms_ir.specs.declared.forms.Form.{Form}
use Rattle.ms_text_grammar.specs.declared.states.BodySoFar.{BodySoFar}
use Rattle.ms_text_grammar.specs.declared.symbols.Symbol.{Symbol}
use Rattle.ms_text_grammar.specs.declared.symbols.Symbol.TheVariants as s
use Rattle.ms_text_grammar.specs.Insts.{alloca_rule, gep_rule, store_rule}
use Rattle.ms_text_grammar.specs.Lines.{marked_line, phi_line, call_line, effect_line}
use Rattle.ms_text_grammar.specs.Steps.{Rule, refuse}
use Rattle.ms_read_body.specs.declared.operation_rules.EffectOperation.{EffectOperation}
use Rattle.ms_read_body.specs.declared.operation_rules.EffectOperation.TheVariants as effect
use Rattle.ms_read_body.specs.declared.operation_rules.ValueOperation.{ValueOperation}
use Rattle.ms_read_body.specs.declared.operation_rules.ValueOperation.TheVariants as value

-- an operation with a result that takes any suffix
abbrev pub value_operation : Symbol → Option ValueOperation
value_operation s.Icmp = Some value.Compare
value_operation s.Select = Some value.Select
value_operation s.Freeze = Some value.Freeze
value_operation s.Load = Some value.Load
value_operation symbol = None

-- a terminator
abbrev pub end_operation : Symbol → Option EffectOperation
end_operation s.Br = Some effect.Branch
end_operation s.Switch = Some effect.Switch
end_operation s.Ret = Some effect.Ret
end_operation s.Unreachable = Some effect.Unreachable
end_operation symbol = None

-- after any other word
abbrev pub further_instruction : Form → BodySoFar → Option Name → Symbol → Rule BodySoFar
further_instruction form body result s.Phi = phi_line form body result
further_instruction form body result s.Alloca = marked_line body result (alloca_rule form)
further_instruction form body result s.Store = effect_line form body (store_rule form)
further_instruction form body result s.GetElementPtr = marked_line body result (gep_rule form)
further_instruction form body result s.Tail = call_line form body result s.Tail
further_instruction form body result s.MustTail = call_line form body result s.MustTail
further_instruction form body result s.NoTail = call_line form body result s.NoTail
further_instruction form body result s.Call = call_line form body result s.Call
further_instruction form body result symbol = refuse
