use Rattle.std.proofs.Common.{◌≡◌, ◌+◌, ◌*◌, ◌/◌, ◌%◌, ◌^◌, ◌<◌, ℕ, List, refl, lit<, arith, bit_and, length, slice_index}
use Rattle.ms_bits.specs.Fill.{undef_word_of, undef_bit, made_byte}
use Rattle.ms_bits.proofs.Powers.{no_bits, one_more, one_more_fits}
use Rattle.ms_bits.proofs.undefined.undef_word.Goals as goal

no_word : (fill : List ℕ) → 0 ≡ undef_word_of fill 0
unfolding undef_word_of
no_word fill = no_bits (undef_bit fill)

one_bit : (fill : List ℕ) (n v : ℕ) → n < 64 → v ≡ undef_word_of fill n
    → v + bit_and (slice_index fill (n / 8 % length fill) / 2 ^ (n % 8)) 1 * (1 * 2 ^ n % 2 ^ 64) ≡ undef_word_of fill (n + 1)
unfolding undef_word_of undef_bit made_byte
one_bit fill n v l e = one_more (undef_bit fill) n v _ _ l e refl

pub loop-i-init : goal.loop-i-init
loop-i-init c = record { so_far = no_word c.args.fill.now; fits = lit< tt }

pub loop-i-preserved : goal.loop-i-preserved
loop-i-preserved c = record {
  so_far = one_bit c.args.fill.now c.loop-i.i c.loop-i.value (omega arith) c.loop-i.invariant.so_far;
  fits = one_more_fits c.loop-i.i c.loop-i.value _ _ (omega arith) c.loop-i.invariant.fits;
}
