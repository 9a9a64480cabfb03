use Rattle.std.proofs.Common.{sym, ◌∙◌}
use Rattle.ms_ir.specs.declared.syntax.Name.TheVariants.{Text}
use Rattle.ms_ir.specs.Names.{word_externals}
use Rattle.ms_ir.proofs.Tables.{lookup_front, lookup_back, other_externals}
use Rattle.ms_ir.proofs.calls.External.spelled.Goals as goal

pub returns-in-Some : goal.returns-in-Some
returns-in-Some c = sym (lookup_front other_externals word_externals (Text c.args.text.now) c.in-Some.external (sym c.in-Some.ensures))

pub returns-in-None : goal.returns-in-None
returns-in-None c = c.spelled.ensures ∙ sym (lookup_back other_externals word_externals (Text c.args.text.now) (sym c.in-None.ensures))
