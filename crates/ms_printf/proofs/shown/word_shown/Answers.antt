use Rattle.std.proofs.Common.{◌∙◌, ap}
use Rattle.ms_runs.specs.declared.formats.Piece.{Piece}
use Rattle.ms_runs.specs.Formats.{piece_text}
use Rattle.ms_runs.specs.Externals.{string_at}
use Rattle.ms_printf.proofs.shown.word_shown.Goals as goal

pub returns-in-Str-clause-value : goal.returns-in-Str-clause-value
returns-in-Str-clause-value c beside meant shows =
    ap (λ (p : Piece). piece_text (string_at meant) p c.args.word) c.in-Str.is ∙ c.string_shown.ensures.value beside meant shows
