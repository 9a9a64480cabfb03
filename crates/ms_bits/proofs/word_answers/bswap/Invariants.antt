use Rattle.std.proofs.Common.{◌≡◌, ◌+◌, ◌-◌, ◌*◌, ◌/◌, ◌%◌, ◌<◌, ◌^◌}
use Rattle.std.specs.Int.{bit_at}
use Rattle.ms_bits.specs.Fill.{number_of_bits}
use Rattle.ms_bits.proofs.word_answers.bswap.Given as goal

abbrev pub invariant-loop-i : goal.invariant-loop-i
invariant-loop-i l = record { so_far : l.value ≡ number_of_bits (λ i. bit_at l.a (l.width - 8 - i / 8 * 8 + i % 8)) l.i; fits : l.value < 2 ^ l.i }
