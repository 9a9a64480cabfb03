use Rattle.std.proofs.Common.{refl, arith}
use Rattle.std.proofs.lemmas.Grind.{common_steps}
use Rattle.ms_printf.proofs.texts.word_text.Goals as goal

pub returns-in-Dec32 : goal.returns-in-Dec32
returns-in-Dec32 c strings = let e = c.signed_text.ensures 31 refl in grind (arith, common_steps)

pub returns-in-Dec64 : goal.returns-in-Dec64
returns-in-Dec64 c strings = let e = c.signed_text-in-Dec64.ensures 63 refl in grind (arith, common_steps)
