use Rattle.std.proofs.Common.{◌≡◌, map, drop}
use Rattle.ms_text_grammar.specs.LayoutPieces.{after_commas}
use Rattle.ms_text_grammar.specs.LayoutValues.{constant_index_tokens}
use Rattle.ms_write_values.specs.Sheets.{put}
use Rattle.ms_write_values.proofs.writer.Writer.constant_indices.Given as goal

abbrev pub invariant-loop-index : goal.invariant-loop-index
invariant-loop-index l = put l.self (after_commas (map constant_index_tokens (drop l.index-index l.indices))) ≡ put l.fn.self (after_commas (map constant_index_tokens l.indices))
