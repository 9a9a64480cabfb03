use Rattle.ms_text_grammar.proofs.LinesApart.{lines_apart}
use Rattle.ms_text_grammar.proofs.layout_laws.law_lines_stand_apart.Goals as goal

pub returns : goal.returns
returns c = lines_apart
