use Rattle.std.proofs.Common.{◌≡◌, drop}
use Rattle.ms_ir.specs.declared.syntax.Name.TheVariants as spelling
use Rattle.ms_ir.specs.Names.{lookup}
use Rattle.ms_ir.specs.Rows.{word_rows}
use Rattle.ms_ir.proofs.word_externals.find.Given as goal

abbrev pub invariant-loop-row : goal.invariant-loop-row
invariant-loop-row l = lookup (word_rows (drop l.row-index l.rows)) (spelling.Text l.text) ≡ lookup (word_rows l.rows) (spelling.Text l.text)
