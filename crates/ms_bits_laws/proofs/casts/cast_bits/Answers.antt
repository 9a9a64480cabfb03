use Rattle.ms_bits_laws.proofs.OperationAgreement.{trunc_bit, ptrtoint_bit, sext_bit_of, zext_number, inttoptr_number, bitcast_number}
use Rattle.ms_bits_laws.proofs.casts.cast_bits.Goals as goal

pub returns-clause-trunc : goal.returns-clause-trunc
returns-clause-trunc c = λ f w a to i r e l. trunc_bit f w a to i r e l

pub returns-clause-ptrtoint : goal.returns-clause-ptrtoint
returns-clause-ptrtoint c = λ f w a to i r e l. ptrtoint_bit f w a to i r e l

pub returns-clause-zext : goal.returns-clause-zext
returns-clause-zext c = λ f w a to r e. zext_number f w a to r e

pub returns-clause-inttoptr : goal.returns-clause-inttoptr
returns-clause-inttoptr c = λ f w a to r e. inttoptr_number f w a to r e

pub returns-clause-bitcast : goal.returns-clause-bitcast
returns-clause-bitcast c = λ f w a to r e. bitcast_number f w a to r e

pub returns-clause-sext : goal.returns-clause-sext
returns-clause-sext c = λ f w a to i r s g p e l. sext_bit_of f w a to i r s g p e l
