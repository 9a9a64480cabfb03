use Rattle.std.proofs.Common.{◌≡◌, ◌∷◌, ℕ, arith, take, drop, Some}
use Rattle.std.proofs.lemmas.Grind.{common_steps}
use Rattle.ms_runs.specs.declared.formats.Piece.TheVariants.{Text}
use Rattle.ms_runs.specs.Formats.{directive, plain_bytes}
use Rattle.ms_printf.proofs.Cuts.{by_directive, by_text}
use Rattle.ms_printf.proofs.cutting.first_piece.Goals as goal

pub returns-in-Some-clause-value : goal.returns-in-Some-clause-value
returns-in-Some-clause-value c =
    let found : directive c.args.after.now ≡ Some (c.in-Some.piece, drop c.in-Some.n c.args.after.now) = grind (arith, common_steps) in
    by_directive c.args.format.now c.args.after.now c.args.first c.in-Some.piece c.in-Some.n c.requires (grind (arith, common_steps)) found

pub returns-clause-value : goal.returns-clause-value
returns-clause-value c =
    let is : c.in_ok-piece-2.piece ≡ Text (take c.plain_length-n.result c.args.format.now) = grind (arith, common_steps) in
    by_text c.args.format.now c.args.after.now c.args.first c.in_ok-piece-2.piece c.plain_length-n.result c.requires (λ e. grind (arith, common_steps)) c.plain_length-n.ensures.value is
