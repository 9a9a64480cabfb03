use Rattle.std.proofs.Common.{refl}
use Rattle.ms_bits.specs.Words.{words}
use Rattle.ms_runs_examples.proofs.plain_runs.words.Goals as goal

pub returns-clause-add : goal.returns-clause-add
unfolding words
returns-clause-add c = refl

pub returns-clause-add_both_flags : goal.returns-clause-add_both_flags
unfolding words
returns-clause-add_both_flags c = refl

pub returns-clause-add_signed : goal.returns-clause-add_signed
unfolding words
returns-clause-add_signed c = refl

pub returns-clause-sub : goal.returns-clause-sub
unfolding words
returns-clause-sub c = refl

pub returns-clause-sub_unsigned : goal.returns-clause-sub_unsigned
unfolding words
returns-clause-sub_unsigned c = refl

pub returns-clause-sub_signed : goal.returns-clause-sub_signed
unfolding words
returns-clause-sub_signed c = refl

pub returns-clause-mul : goal.returns-clause-mul
unfolding words
returns-clause-mul c = refl

pub returns-clause-mul_unsigned : goal.returns-clause-mul_unsigned
unfolding words
returns-clause-mul_unsigned c = refl

pub returns-clause-mul_signed : goal.returns-clause-mul_signed
unfolding words
returns-clause-mul_signed c = refl

pub returns-clause-shl_by_the_width : goal.returns-clause-shl_by_the_width
unfolding words
returns-clause-shl_by_the_width c = refl

pub returns-clause-shl_unsigned : goal.returns-clause-shl_unsigned
unfolding words
returns-clause-shl_unsigned c = refl

pub returns-clause-shl_signed : goal.returns-clause-shl_signed
unfolding words
returns-clause-shl_signed c = refl

pub returns-clause-shl_signed_fits : goal.returns-clause-shl_signed_fits
unfolding words
returns-clause-shl_signed_fits c = refl

pub returns-clause-udiv_by_zero : goal.returns-clause-udiv_by_zero
unfolding words
returns-clause-udiv_by_zero c = refl

pub returns-clause-udiv_exact : goal.returns-clause-udiv_exact
unfolding words
returns-clause-udiv_exact c = refl

pub returns-clause-sdiv : goal.returns-clause-sdiv
unfolding words
returns-clause-sdiv c = refl

pub returns-clause-sdiv_overflow : goal.returns-clause-sdiv_overflow
unfolding words
returns-clause-sdiv_overflow c = refl

pub returns-clause-sdiv_exact : goal.returns-clause-sdiv_exact
unfolding words
returns-clause-sdiv_exact c = refl

pub returns-clause-urem : goal.returns-clause-urem
unfolding words
returns-clause-urem c = refl

pub returns-clause-srem : goal.returns-clause-srem
unfolding words
returns-clause-srem c = refl

pub returns-clause-srem_overflow : goal.returns-clause-srem_overflow
unfolding words
returns-clause-srem_overflow c = refl

pub returns-clause-lshr : goal.returns-clause-lshr
unfolding words
returns-clause-lshr c = refl

pub returns-clause-ashr : goal.returns-clause-ashr
unfolding words
returns-clause-ashr c = refl

pub returns-clause-ashr_exact : goal.returns-clause-ashr_exact
unfolding words
returns-clause-ashr_exact c = refl

pub returns-clause-or_disjoint : goal.returns-clause-or_disjoint
unfolding words
returns-clause-or_disjoint c = refl

pub returns-clause-trunc_both_flags : goal.returns-clause-trunc_both_flags
unfolding words
returns-clause-trunc_both_flags c = refl

pub returns-clause-trunc_signed : goal.returns-clause-trunc_signed
unfolding words
returns-clause-trunc_signed c = refl

pub returns-clause-trunc_signed_fits : goal.returns-clause-trunc_signed_fits
unfolding words
returns-clause-trunc_signed_fits c = refl

pub returns-clause-zext_negative : goal.returns-clause-zext_negative
unfolding words
returns-clause-zext_negative c = refl

pub returns-clause-sext : goal.returns-clause-sext
unfolding words
returns-clause-sext c = refl

pub returns-clause-icmp_signs : goal.returns-clause-icmp_signs
unfolding words
returns-clause-icmp_signs c = refl

pub returns-clause-icmp_signed : goal.returns-clause-icmp_signed
unfolding words
returns-clause-icmp_signed c = refl

pub returns-clause-icmp_unsigned : goal.returns-clause-icmp_unsigned
unfolding words
returns-clause-icmp_unsigned c = refl

pub returns-clause-undefined_word : goal.returns-clause-undefined_word
unfolding words
returns-clause-undefined_word c = refl

pub returns-clause-sdiv_of_one_bit : goal.returns-clause-sdiv_of_one_bit
unfolding words
returns-clause-sdiv_of_one_bit c = refl

pub returns-clause-sdiv_of_zero_by_one_bit : goal.returns-clause-sdiv_of_zero_by_one_bit
unfolding words
returns-clause-sdiv_of_zero_by_one_bit c = refl
