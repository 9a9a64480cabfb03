use Rattle.std.proofs.Common.{arith}
use Rattle.ms_ir.specs.declared.forms.Form.TheVariants.{Plain}
use Rattle.ms_check_tests.proofs.Reading.{formed, uninstrumented}
use Rattle.ms_check_tests.proofs.inserted.agrees.Goals as goal

pub is_checked-requires-clause-formed : goal.is_checked-requires-clause-formed
is_checked-requires-clause-formed g c = formed Plain c.args.text.now c.read.result c.in-Ok.m (λ i. omega (arith, c.type_inv.text i)) c.read.ensures.«module» c.in-Ok.is

pub is_checked-requires-clause-plain : goal.is_checked-requires-clause-plain
is_checked-requires-clause-plain g c = uninstrumented c.args.text.now c.read.result c.in-Ok.m c.read.ensures.«module» c.in-Ok.is
