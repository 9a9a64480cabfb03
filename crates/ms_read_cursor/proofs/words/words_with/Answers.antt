use Rattle.std.proofs.Common.{refl, arith}
use Rattle.ms_read_cursor.proofs.FirstBytes.{nothing, no_letter}
use Rattle.ms_read_cursor.proofs.words.words_with.Goals as goal

pub returns-in-110 : goal.returns-in-110
returns-in-110 c = rw c.in-110.is refl

pub returns-in_default : goal.returns-in_default
returns-in_default c =
    nothing c.args.first (no_letter c.args.first (grind arith) (grind arith) (grind arith) (grind arith) (grind arith) (grind arith) (grind arith) (grind arith) (grind arith) (grind arith) (grind arith) (grind arith) (grind arith) (grind arith) (grind arith) (grind arith) (grind arith) (grind arith) (grind arith) (grind arith) (grind arith))
