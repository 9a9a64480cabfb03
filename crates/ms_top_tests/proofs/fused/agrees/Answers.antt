use Rattle.std.proofs.Common.{[], refl, arith}
use Rattle.ms_ir.specs.declared.forms.Form.TheVariants.{Plain}
use Rattle.ms_words.specs.declared.commands.Command.TheVariants.{Instrument}
use Rattle.ms_top.proofs.Answering.{formed, ready}
use Rattle.ms_top_tests.proofs.fused.agrees.Goals as goal

pub is_checked-requires-clause-formed : goal.is_checked-requires-clause-formed
is_checked-requires-clause-formed g c κs within = formed Plain c.args.text.now c.read.result c.in-Ok.m (λ i. omega (arith, c.type_inv.text i))
    (record { «module» = c.read.ensures.«module»; lex = c.read.ensures.lex; refused = c.read.ensures.refused; wanting = c.read.ensures.wanting }) c.in-Ok.is

pub is_checked-requires-clause-plain : goal.is_checked-requires-clause-plain
is_checked-requires-clause-plain g c κs within = ready (Instrument []) Plain c.args.text.now c.read.result c.in-Ok.m refl
    (record { «module» = c.read.ensures.«module»; lex = c.read.ensures.lex; refused = c.read.ensures.refused; wanting = c.read.ensures.wanting }) c.in-Ok.is
