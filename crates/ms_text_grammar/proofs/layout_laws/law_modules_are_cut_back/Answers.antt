use Rattle.ms_text_grammar.specs.LayoutModules.{module_pieces, written}
use Rattle.ms_text_grammar.proofs.CutBack.{tokens_back, lexemes_back}
use Rattle.ms_text_grammar.proofs.WholeModules.{module_apart}
use Rattle.ms_text_grammar.proofs.layout_laws.law_modules_are_cut_back.Goals as goal

pub returns-clause-apart : goal.returns-clause-apart
returns-clause-apart c = module_apart

pub returns-clause-tokens : goal.returns-clause-tokens
unfolding written
returns-clause-tokens c = λ m limit few. tokens_back (module_pieces m) limit (module_apart m) few

pub returns-clause-lexemes : goal.returns-clause-lexemes
unfolding written
returns-clause-lexemes c = λ m. lexemes_back (module_pieces m) (module_apart m)
