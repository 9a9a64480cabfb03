use Rattle.ms_where.proofs.Indents.{of_site}
use Rattle.ms_where.proofs.laws.law_lines_are_indented.Goals as goal

pub returns : goal.returns
returns c = of_site
