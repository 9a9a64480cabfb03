use Rattle.std.proofs.Common.{subst, sym}
use Rattle.ms_text_grammar.specs.Texts.{HasTokens, Reads}
use Rattle.ms_where_places.specs.Marks.{AreMarks}
use Rattle.ms_report.specs.WithLines.{no_lines}
use Rattle.ms_where.specs.Lines.{lines_at}
use Rattle.ms_top.specs.OnFile.{command_of}
use Rattle.ms_top.proofs.Answering.{lines_shown, none_shown}
use Rattle.ms_top.proofs.jobs.Job.locate_sites.Goals as goal
use Rattle.ms_runtime.proofs.Fitting.{if_ok}

pub of-requires : goal.of-requires
of-requires g c = (c.args.m, subst (λ f. Reads f c.args.text.now c.args.m) (sym c.form.ensures) c.requires.reads)

pub returns-in-None : goal.returns-in-None
returns-in-None g c =
    if_ok c.check_module.result (λ a is. (no_lines, none_shown (command_of c.args.command.now) c.args.text.now c.args.m (c.located.ensures.unnamed c.in-None.is), is)) c.check_module.ensures

pub returns-in_ok-located-in-Some : goal.returns-in_ok-located-in-Some
returns-in_ok-located-in-Some g c =
    let text = c.args.text.now in
    let places = c.in_ok-places-in-Some.places in
    let under = lines_at c.in_ok-located-in-Some.located.map in
    if_ok c.check_module-in-Some.result (λ a is. (
      under,
      lines_shown (command_of c.args.command.now) c.in-Some.file.now text places.tokens.items places.marks.items c.args.m under c.in-Some.ensures.named
          (subst (λ f. HasTokens f text places.tokens.items) c.form.ensures c.in_ok-places-in-Some.ensures.tokens)
          (subst (λ f. AreMarks f text places.tokens.items places.marks.items) c.form.ensures c.in_ok-places-in-Some.ensures.marks)
          c.in_ok-located-in-Some.ensures,
      is,
    )) c.check_module-in-Some.ensures
