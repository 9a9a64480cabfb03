use Rattle.std.proofs.Common.{arith}
use Rattle.ms_ir.specs.declared.forms.Form.TheVariants.{Instrumented}
use Rattle.ms_check_tests.proofs.Reading.{formed}
use Rattle.ms_check_tests.proofs.answers.agrees.Goals as goal

pub is_answered-requires : goal.is_answered-requires
is_answered-requires g c = formed Instrumented c.args.text.now c.read.result c.in-Ok.m (λ i. omega (arith, c.type_inv.text i)) c.read.ensures.«module» c.in-Ok.is
