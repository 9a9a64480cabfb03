use Rattle.std.proofs.Common.{sym, ◌∙◌}
use Rattle.ms_ir.specs.declared.syntax.Name.TheVariants.{Text}
use Rattle.ms_check_tables.proofs.index.Index.put_text.Goals as goal

pub returns-in-Ok-clause-found : goal.returns-in-Ok-clause-found
returns-in-Ok-clause-found c = sym c.in-Ok.ensures.placed ∙ c.mark_many.ensures (Text c.args.text.now)

pub returns-in_ok-insert_text-in-Err-clause-found : goal.returns-in_ok-insert_text-in-Err-clause-found
returns-in_ok-insert_text-in-Err-clause-found c = sym c.in-Err.ensures.absent ∙ c.mark_many.ensures (Text c.args.text.now)
