-- The pieces of the grammar stay folded in proofs about code; here is one name that opens them all.
use Rattle.std.specs.Prelude.{ℕ}
use Rattle.ms_bits.specs.Signed.{wrap}
use Rattle.ms_lex.specs.Tokens.{one_of, followed_by, or_else, run, run_that, up_to_quote, string, name, label, c_text, first_fit, token_at, cut_of, tokens_of}
use Rattle.ms_text_grammar.specs.Lexemes.{word_symbol, symbol_of, same_symbol}
use Rattle.ms_text_grammar.specs.Steps.{outside_of, refusal, word, listed, items, binary_op, cast_op}
use Rattle.ms_text_grammar.specs.Names.{reserved_global, reserved_local, name_fits, local, global}
use Rattle.ms_text_grammar.specs.Types.{int_type, value_type, result_type, count, packed_brace, array_rest, struct_rest, packed_rest, type_to, struct_type}
use Rattle.ms_text_grammar.specs.Values.{number, gep_words, constant_index, constant_indices, gep_from, base_to, offset, simple_value, value_within, array_init, struct_init, packed_init, init_to}
use Rattle.ms_text_grammar.specs.Skipped.{balanced, in_parens, string_value, attributes, meta, attachments, attached, suffix, suffixes, suffixes_from}
use Rattle.ms_text_grammar.specs.Insts.{with_suffixes, binary_carries, cast_carries, flags_of, binary_rule, predicate_by, predicate_word, compare_rule, cast_rule, bit_type, same_type, select_rule, freeze_rule, address, load_rule, store_rule, index_turn, gep_rule, alloca_rule, variadic_type, callee_type, callee, argument, arguments, debug_rest, call_end, call_rule, edge, edge_turn, phi_rule, target, branch_on, branch_rule, case_rest, switch_rule, ret_rule}
use Rattle.ms_text_grammar.specs.Bodies.{opened, max_instructions, line_begins}
use Rattle.ms_text_grammar.specs.Lines.{value_line, marked_line, phi_line, call_line, effect_line, end_line, instruction, named_line, record_line, line, blocks}
use Rattle.ms_text_grammar.specs.Functions.{parameter_name, typed_parameter, parameter, parameters, linkage, declaration, function_tail, function}
use Rattle.ms_text_grammar.specs.Modules.{source_filename, target_entity, attribute_group, metadata_entity, named_type, global_suffix, global_variable, entity_begins, entity, module_rule}
use Rattle.ms_text_grammar.specs.Texts.{max_bytes, max_tokens}
use Rattle.ms_text_grammar.specs.Answers.{answer_of}

-- opened by `unfolding pieces`, it lets readings compute; its value says nothing
unfoldable pub pieces : ℕ
unfolding wrap one_of followed_by or_else run run_that up_to_quote string name label c_text first_fit token_at cut_of tokens_of word_symbol symbol_of same_symbol outside_of refusal word listed items binary_op cast_op reserved_global reserved_local name_fits local global int_type value_type result_type count packed_brace array_rest struct_rest packed_rest type_to struct_type number gep_words constant_index constant_indices gep_from base_to offset simple_value value_within array_init struct_init packed_init init_to balanced in_parens string_value attributes meta attachments attached suffix suffixes suffixes_from with_suffixes binary_carries cast_carries flags_of binary_rule predicate_by predicate_word compare_rule cast_rule bit_type same_type select_rule freeze_rule address load_rule store_rule index_turn gep_rule alloca_rule variadic_type callee_type callee argument arguments debug_rest call_end call_rule edge edge_turn phi_rule target branch_on branch_rule case_rest switch_rule ret_rule opened max_instructions line_begins value_line marked_line phi_line call_line effect_line end_line instruction named_line record_line line blocks parameter_name typed_parameter parameter parameters linkage declaration function_tail function source_filename target_entity attribute_group metadata_entity named_type global_suffix global_variable entity_begins entity module_rule max_bytes max_tokens answer_of
pieces = 0
