use Rattle.std.proofs.Common.{◌∙◌, ap, ap₂}
use Rattle.ms_bits.specs.WordFunctions.{bits_of, moved_by}
use Rattle.ms_bits.proofs.word_answers.move_bits.Goals as goal

pub returns : goal.returns
returns c = c.moved_by.ensures ∙ ap₂ (λ f n. moved_by f n c.args.a c.args.b c.args.c) c.function.ensures (c.bits.ensures.value ∙ ap bits_of c.width.ensures)
