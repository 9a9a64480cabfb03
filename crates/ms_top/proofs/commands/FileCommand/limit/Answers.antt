use Rattle.std.proofs.Common.{sym, ap, ◌∙◌}
use Rattle.ms_text_grammar.specs.Texts.{max_bytes}
use Rattle.ms_top.proofs.commands.FileCommand.limit.Goals as goal

pub returns-in-Plain : goal.returns-in-Plain
unfolding max_bytes
returns-in-Plain c = ap max_bytes (sym c.in-Plain.is ∙ c.form.ensures)

pub returns-in-Instrumented : goal.returns-in-Instrumented
unfolding max_bytes
returns-in-Instrumented c = ap max_bytes (sym c.in-Instrumented.is ∙ c.form.ensures)
