-- The pieces of the layout stay folded in proofs about code; here is one name that opens them all.
use Rattle.std.specs.Prelude.{ℕ}
use Rattle.std.specs.Fmt.{digits}
use Rattle.ms_bits.specs.Signed.{signed}
use Rattle.ms_text_grammar.specs.LayoutPieces.{are_close}
use Rattle.ms_text_grammar.specs.LayoutNames.{string_byte, quoted, name_text, number_token}
use Rattle.ms_text_grammar.specs.LayoutValues.{offset_tokens, value_tokens}
use Rattle.ms_text_grammar.specs.LayoutInsts.{binary_word, cast_word, predicate_text, flag_tokens, op_tokens, inst_tokens}
use Rattle.ms_text_grammar.specs.LayoutModules.{type_line, global_line, is_dotted, declaration_line, head_line, block_lines, function_lines, has_dots, has_mark, module_lines, mark_pieces, module_pieces, written}

-- opened by `unfolding layout`, it lets texts compute; its value says nothing
unfoldable pub layout : ℕ
unfolding digits signed are_close string_byte quoted name_text number_token offset_tokens value_tokens binary_word cast_word predicate_text flag_tokens op_tokens inst_tokens type_line global_line is_dotted declaration_line head_line block_lines function_lines has_dots has_mark module_lines mark_pieces module_pieces written
layout = 0
