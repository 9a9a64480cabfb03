-- With the limits of an instrumented text it is the grammar of instrumented texts.
use Rattle.std.proofs.Common.{◌≡◌, refl}
use Rattle.ms_ir.specs.declared.forms.Form.TheVariants.{Instrumented}
use Rattle.ms_text_grammar.specs.Names as names
use Rattle.ms_text_grammar.specs.Types as types
use Rattle.ms_text_grammar.specs.Values as values
use Rattle.ms_text_grammar.specs.Insts as insts
use Rattle.ms_text_grammar.specs.Bodies as bodies
use Rattle.ms_text_grammar.specs.Lines as lines
use Rattle.ms_text_grammar.specs.Functions as functions
use Rattle.ms_text_grammar.specs.Modules as modules
use Rattle.ms_text_laws.proofs.Limited.{standard, local, global, type_to, struct_type, constant_index, constant_indices, gep_from, base_to, offset, simple_value, value_within, init_to, binary_rule, compare_rule, cast_rule, select_rule, freeze_rule, address, load_rule, store_rule, index_turn, gep_rule, alloca_rule, callee, argument, arguments, call_rule, edge, edge_turn, phi_rule, target, branch_on, branch_rule, case_rest, switch_rule, ret_rule, line_begins, phi_line, call_line, instruction, named_line, line, blocks, parameter_name, typed_parameter, parameter, parameters, declaration, function, named_type, global_variable, entity_begins, entity, module_rule}

pub same_rule : module_rule standard ≡ modules.module_rule Instrumented
unfolding local global type_to struct_type constant_index constant_indices gep_from base_to offset simple_value value_within init_to binary_rule compare_rule cast_rule select_rule freeze_rule address load_rule store_rule index_turn gep_rule alloca_rule callee argument arguments call_rule edge edge_turn phi_rule target branch_on branch_rule case_rest switch_rule ret_rule line_begins phi_line call_line instruction named_line line blocks parameter_name typed_parameter parameter parameters declaration function named_type global_variable entity_begins entity module_rule names.name_fits bodies.max_instructions names.local names.global types.type_to types.struct_type values.constant_index values.constant_indices values.gep_from values.base_to values.offset values.simple_value values.value_within values.init_to insts.binary_rule insts.compare_rule insts.cast_rule insts.select_rule insts.freeze_rule insts.address insts.load_rule insts.store_rule insts.index_turn insts.gep_rule insts.alloca_rule insts.callee insts.argument insts.arguments insts.call_rule insts.edge insts.edge_turn insts.phi_rule insts.target insts.branch_on insts.branch_rule insts.case_rest insts.switch_rule insts.ret_rule bodies.line_begins lines.phi_line lines.call_line lines.instruction lines.named_line lines.line lines.blocks functions.parameter_name functions.typed_parameter functions.parameter functions.parameters functions.declaration functions.function modules.named_type modules.global_variable modules.entity_begins modules.entity modules.module_rule
same_rule = refl
