use Rattle.std.proofs.Common.{◌≡◌, ◌+◌, ◌*◌, map, drop}
use denote.Param.Weighed.{most}
use Rattle.ms_ir.specs.declared.syntax.Ty.{size-Ty}
use Rattle.ms_text_grammar.specs.LayoutPieces.{after_commas}
use Rattle.ms_text_grammar.specs.LayoutTypes.{type_tokens}
use Rattle.ms_write_values.specs.Sheets.{put}
use Rattle.ms_write_values.proofs.writer.Writer.+types.Given as goal

abbrev pub decreases-ty : goal.decreases-ty
decreases-ty l = 4 * size-Ty l.ty.now

abbrev pub decreases-array_type : goal.decreases-array_type
decreases-array_type l = 4 * size-Ty l.item.now + 1

abbrev pub decreases-struct_type : goal.decreases-struct_type
decreases-struct_type l = 4 * most size-Ty l.fields.now + 3

abbrev pub decreases-types : goal.decreases-types
decreases-types l = 4 * most size-Ty l.types.now + 2

abbrev pub decreases-more_types : goal.decreases-more_types
decreases-more_types l = 4 * most size-Ty l.types.now + 1

abbrev pub invariant-more_types-loop-ty : goal.invariant-more_types-loop-ty
invariant-more_types-loop-ty l = put l.self (after_commas (map type_tokens (drop l.ty-index l.types))) ≡ put l.fn.self (after_commas (map type_tokens l.types))
