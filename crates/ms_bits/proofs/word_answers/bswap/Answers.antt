use Rattle.std.proofs.Common.{◌≡◌, ◌+◌, ◌-◌, ◌*◌, ◌/◌, ◌%◌, ◌^◌, ◌<◌, ℕ, ap, lit<, arith, bit_and}
use Rattle.std.specs.Int.{bit_at}
use Rattle.ms_bits.specs.Fill.{number_of_bits}
use Rattle.ms_bits.proofs.Powers.{no_bits, one_more, one_more_fits}
use Rattle.ms_bits.proofs.word_answers.bswap.Goals as goal

-- the bits in their other places
abbrev moved : (w a : ℕ) → ℕ → ℕ
moved w a i = bit_at a (w - 8 - i / 8 * 8 + i % 8)

one_bit : (w a n v j : ℕ) → n < 64 → v ≡ number_of_bits (moved w a) n → j ≡ w - 8 - n / 8 * 8 + n % 8
    → v + bit_and (a / 2 ^ j) 1 * (1 * 2 ^ n % 2 ^ 64) ≡ number_of_bits (moved w a) (n + 1)
one_bit w a n v j l e p = one_more (moved w a) n v a j l e (ap (bit_at a) p)

pub loop-i-init : goal.loop-i-init
loop-i-init c = record { so_far = no_bits (moved c.args.width c.args.a); fits = lit< tt }

pub loop-i-preserved : goal.loop-i-preserved
loop-i-preserved c = record {
  so_far = one_bit c.args.width c.args.a c.loop-i.i c.loop-i.value _ (omega arith) c.loop-i.invariant.so_far (ap (λ k. k + c.loop-i.i % 8) c.saturating_sub.ensures);
  fits = one_more_fits c.loop-i.i c.loop-i.value _ _ (omega arith) c.loop-i.invariant.fits;
}
