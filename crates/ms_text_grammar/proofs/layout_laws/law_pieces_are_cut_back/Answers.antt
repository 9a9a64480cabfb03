use Rattle.ms_text_grammar.proofs.CutBack.{tokens_back, lexemes_back}
use Rattle.ms_text_grammar.proofs.layout_laws.law_pieces_are_cut_back.Goals as goal

pub returns-clause-tokens : goal.returns-clause-tokens
returns-clause-tokens c = tokens_back

pub returns-clause-lexemes : goal.returns-clause-lexemes
returns-clause-lexemes c = lexemes_back
