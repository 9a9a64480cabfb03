use Rattle.std.proofs.Common.{◌≡◌, ◌+◌, ◌∙◌, ◌∷◌, ◌++◌, [], List, ℕ, Ok, IfOk, arith, decimal}
use Rattle.std.proofs.lemmas.Grind.{common_steps}
use Rattle.std.specs.Fmt.{signed_decimal}
use Rattle.ms_bits.specs.Signed.{signed}
use Rattle.ms_printf.proofs.Signs.{positive, negative}
use Rattle.ms_printf.proofs.texts.signed_text.Goals as goal

pub returns-then-word-most : goal.returns-then-word-most
returns-then-word-most c width most =
    let e = positive width c.args.most c.args.word most c.if-word-most.true in grind (arith, common_steps)

pub returns : goal.returns
returns c width most =
    let text : c.extend_from_slice.new.self.items ≡ 45 ∷ decimal (c.saturating_sub-size.result + 1) = grind (arith, common_steps) in
    text ∙ negative width c.args.most c.args.word (c.saturating_sub-size.result + 1) most c.if-word-most.false (omega (arith, c.saturating_sub-size.ensures))
