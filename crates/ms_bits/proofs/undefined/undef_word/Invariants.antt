use Rattle.std.proofs.Common.{◌≡◌, ◌<◌, ◌^◌}
use Rattle.ms_bits.specs.Fill.{undef_word_of}
use Rattle.ms_bits.proofs.undefined.undef_word.Given as goal

abbrev pub invariant-loop-i : goal.invariant-loop-i
invariant-loop-i l = record { so_far : l.value ≡ undef_word_of l.fill l.i; fits : l.value < 2 ^ l.i }
