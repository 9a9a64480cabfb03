use Rattle.std.proofs.Common.{subst, sym, ◌≤◌, length, arith}
use Rattle.ms_text_grammar.specs.Texts.{Reads, max_bytes}
use Rattle.ms_top.specs.OnFile.{command_of}
use Rattle.ms_top.proofs.Answering.{ready, formed, has_line, module_answer, refusal_answer}
use Rattle.ms_top.proofs.jobs.Job.read_module.Goals as goal
use Rattle.ms_runtime.proofs.Fitting.{if_ok, if_ok_both}

pub read-requires : goal.read-requires
read-requires g c = subst (λ f. length c.args.text.now ≤ max_bytes f) (sym c.form.ensures) c.requires.fits

pub locate_sites-requires-clause-reads : goal.locate_sites-requires-clause-reads
locate_sites-requires-clause-reads g c κs within = subst (λ f. Reads f c.args.text.now c.in-Ok.module) c.form.ensures ((c.read.ensures.«module» c.in-Ok.module).0 c.in-Ok.is)

pub locate_sites-requires-clause-ready : goal.locate_sites-requires-clause-ready
locate_sites-requires-clause-ready g c κs within = ready (command_of c.args.command.now) c.form.result c.args.text.now c.read.result c.in-Ok.module c.form.ensures
    (record { «module» = c.read.ensures.«module»; lex = c.read.ensures.lex; refused = c.read.ensures.refused; wanting = c.read.ensures.wanting }) c.in-Ok.is

pub locate_sites-requires-clause-formed : goal.locate_sites-requires-clause-formed
locate_sites-requires-clause-formed g c κs within = formed c.form.result c.args.text.now c.read.result c.in-Ok.module (λ i. omega (arith, c.type_inv.text i))
    (record { «module» = c.read.ensures.«module»; lex = c.read.ensures.lex; refused = c.read.ensures.refused; wanting = c.read.ensures.wanting }) c.in-Ok.is

pub refused-requires : goal.refused-requires
refused-requires g c = has_line c.form.result c.args.text.now c.read.result c.in-Err.cause
    (record { «module» = c.read.ensures.«module»; lex = c.read.ensures.lex; refused = c.read.ensures.refused; wanting = c.read.ensures.wanting }) c.in-Err.is

pub returns-in-Ok : goal.returns-in-Ok
returns-in-Ok g c = if_ok c.locate_sites.result (λ a is. module_answer g.P.Pass.gives (command_of c.args.command.now) c.args.inputs.now c.form.result c.args.text.now c.read.result c.in-Ok.module a c.form.ensures
    (record { «module» = c.read.ensures.«module»; lex = c.read.ensures.lex; refused = c.read.ensures.refused; wanting = c.read.ensures.wanting }) c.in-Ok.is is) c.locate_sites.ensures

pub returns-in-Err : goal.returns-in-Err
returns-in-Err g c = if_ok_both c.refused.result (λ a h is. refusal_answer g.P.Pass.gives (command_of c.args.command.now) c.args.inputs.now c.form.result c.args.text.now c.read.result c.in-Err.cause a c.form.ensures
    (record { «module» = c.read.ensures.«module»; lex = c.read.ensures.lex; refused = c.read.ensures.refused; wanting = c.read.ensures.wanting }) c.in-Err.is h is) c.refused.ensures.reason c.refused.ensures.line
