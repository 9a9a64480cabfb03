-- The definitions on words stay folded in proofs about code; here is one name that opens them all.
use Rattle.std.specs.Prelude.{ℕ}
use Rattle.ms_bits.specs.Signed.{signed, wrap, fits_signed, negative}
use Rattle.ms_bits.specs.Arithmetic.{add_of, sub_of, mul_of, shl_of, udiv_of, quotient_overflows, sdiv_of, lshr_of, ashr_of, urem_of, srem_of, or_of, binary_of}
use Rattle.ms_bits.specs.Conversions.{holds, compare_of, cast_of, select_of}
use Rattle.ms_bits.specs.Fill.{number_of_bits, made_byte, undef_bit, undef_word_of}

-- opened by `unfolding words`, it lets runs compute; its value says nothing
unfoldable pub words : ℕ
unfolding signed wrap fits_signed negative quotient_overflows add_of sub_of mul_of udiv_of sdiv_of urem_of srem_of shl_of lshr_of ashr_of or_of binary_of holds compare_of cast_of select_of number_of_bits made_byte undef_bit undef_word_of
words = 0
