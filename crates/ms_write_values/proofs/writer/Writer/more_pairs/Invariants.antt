use Rattle.std.proofs.Common.{◌≡◌, map, drop}
use Rattle.ms_text_grammar.specs.LayoutPieces.{after_commas}
use Rattle.ms_text_grammar.specs.LayoutValues.{pair_tokens}
use Rattle.ms_write_values.specs.Sheets.{put}
use Rattle.ms_write_values.proofs.writer.Writer.more_pairs.Given as goal

abbrev pub invariant-loop-pair : goal.invariant-loop-pair
invariant-loop-pair l = put l.self (after_commas (map pair_tokens (drop l.pair-index l.pairs))) ≡ put l.fn.self (after_commas (map pair_tokens l.pairs))
