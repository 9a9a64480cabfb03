use Rattle.std.proofs.Common.{◌≡◌, map, drop}
use Rattle.ms_text_grammar.specs.LayoutModules.{parameter_tokens}
use Rattle.ms_text_grammar.specs.LayoutPieces.{after_commas}
use Rattle.ms_write_values.specs.Sheets.{put}
use Rattle.ms_write.proofs.functions.write_more_parameters.Given as goal

abbrev pub invariant-loop-parameter : goal.invariant-loop-parameter
invariant-loop-parameter l =
    put l.writer (after_commas (map parameter_tokens (drop l.parameter-index l.parameters))) ≡ put l.fn.writer (after_commas (map parameter_tokens l.parameters))
