-- Checks that found nothing.
use Rattle.std.specs.Prelude.{◌≡◌, List, [], ◌∷◌, None, true}
use Rattle.ms_bits.specs.Maps.{first_nonzero}
use Rattle.ms_runs.specs.World.{World}
use Rattle.ms_runs.specs.Memory.{is_good}
use Rattle.ms_runs.specs.Origins.{first_in_string, asks_string_at}
use Rattle.ms_runs.specs.Memory.{bytes_left}
use Rattle.ms_runs.specs.Poisoned.{Poisoned}
use Rattle.ms_runs.specs.Masks.{word_at}
use Rattle.ms_runs.specs.Uses.{CheckedUse, Word, Bytes, Line, Asked}

-- a check that found nothing
abbrev pub Passed : World → List Poisoned → CheckedUse → Type 0
Passed w ps (Word kind k) = (word_at k ps).mask ≡ 0
Passed w ps (Bytes kind a n) = is_good w (word_at a ps).value (word_at n ps).value ≡ true → first_nonzero w.shadow (word_at a ps).value (word_at n ps).value ≡ None
Passed w ps (Line a) = first_in_string w (word_at a ps).value (bytes_left w (word_at a ps).value) ≡ None
Passed w ps (Asked a) = asks_string_at w (word_at 0 ps).value a ≡ true → first_in_string w (word_at a ps).value (bytes_left w (word_at a ps).value) ≡ None

-- all checks found nothing
abbrev pub AllPassed : World → List Poisoned → List CheckedUse → Type 0
AllPassed w ps [] = Unit {0}
AllPassed w ps (u ∷ us) = Passed w ps u × AllPassed w ps us
