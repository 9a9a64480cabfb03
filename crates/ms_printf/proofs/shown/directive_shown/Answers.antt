use Rattle.std.proofs.Common.{◌≡◌, ◌∙◌, ℕ, List, true, Option, option_map, Result, IfOk, sym, ap, subst}
use Rattle.ms_bits.specs.declared.traps.Trap.{Trap}
use Rattle.ms_ir.specs.declared.syntax.Ty.{Ty}
use Rattle.ms_runs.specs.Formats.{piece_text, shown}
use Rattle.ms_runs.specs.Externals.{string_at}
use Rattle.ms_printf.specs.declared.arguments.Argument.{Argument}
use Rattle.ms_printf.specs.Walks.{given, shown_of}
use Rattle.ms_printf.proofs.Steps.{present}
use Rattle.ms_printf.proofs.shown.directive_shown.Goals as goal

pub returns-then-has_type_of-clause-value : goal.returns-then-has_type_of-clause-value
returns-then-has_type_of-clause-value c beside meant shows =
    let same : shown (string_at meant) (c.args.piece.now, option_map {U = Ty × ℕ} given c.args.argument) ≡ piece_text (string_at meant) c.args.piece.now c.in-Some.argument.word =
    ap (λ (o : Option Argument). shown (string_at meant) (c.args.piece.now, option_map {U = Ty × ℕ} given o)) c.in-Some.is
    ∙ present (string_at meant) c.args.piece.now (given c.in-Some.argument) true c.requires (sym c.has_type_of.ensures ∙ c.if-has_type_of.true) in
    subst (λ (r : Result (List ℕ) Trap). IfOk c.word_shown.result (λ s. r ≡ shown_of meant s)) (sym same) (c.word_shown.ensures.value beside meant shows)
