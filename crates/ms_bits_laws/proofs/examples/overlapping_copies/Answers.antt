use Rattle.std.proofs.Common.{refl}
use Rattle.ms_bits_laws.proofs.examples.overlapping_copies.Goals as goal

pub returns-clause-bytes : goal.returns-clause-bytes
returns-clause-bytes c = refl

pub returns-clause-origins : goal.returns-clause-origins
returns-clause-origins c = refl

pub returns-clause-clean : goal.returns-clause-clean
returns-clause-clean c = refl
