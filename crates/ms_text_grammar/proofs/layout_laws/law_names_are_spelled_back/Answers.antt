use Rattle.ms_text_grammar.proofs.SpelledBack.{string_back, name_back}
use Rattle.ms_text_grammar.proofs.layout_laws.law_names_are_spelled_back.Goals as goal

pub returns-clause-strings : goal.returns-clause-strings
returns-clause-strings c = string_back

pub returns-clause-names : goal.returns-clause-names
returns-clause-names c = name_back
