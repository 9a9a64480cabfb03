use Rattle.std.proofs.Common.{arith}
use Rattle.ms_ir.specs.declared.forms.Form.TheVariants.{Plain}
use Rattle.ms_check_tests.proofs.Reading.{formed}
use Rattle.ms_check_tests.proofs.pauses.agrees.Goals as goal

pub is_checked-requires : goal.is_checked-requires
is_checked-requires g c = formed Plain c.args.text.now c.read.result c.in-Ok.m (λ i. omega (arith, c.type_inv.text i)) c.read.ensures.«module» c.in-Ok.is
