use Rattle.std.proofs.Common.{arith}
use Rattle.ms_ir.specs.declared.forms.Form.TheVariants.{Plain}
use Rattle.ms_top.proofs.Answering.{formed}
use Rattle.ms_top_tests.proofs.texts.agrees.Goals as goal

pub all_are_printed-requires : goal.all_are_printed-requires
all_are_printed-requires g c = formed Plain c.args.text.now c.read.result c.in-Ok.m (λ i. omega (arith, c.type_inv.text i))
    (record { «module» = c.read.ensures.«module»; lex = c.read.ensures.lex; refused = c.read.ensures.refused; wanting = c.read.ensures.wanting }) c.in-Ok.is
