use Rattle.std.proofs.Common.{rules, sym, ◌∙◌}
use denote.Enum.Bare.{same_true}
use Rattle.ms_text_grammar.specs.contracts.symbols.Symbol.{the_type}
use Rattle.ms_text_grammar.specs.Lexemes.{same_symbol}
use Rattle.ms_read_cursor.proofs.symbols.same_symbol.Goals as goal

pub returns-clause-value : goal.returns-clause-value
unfolding same_symbol
returns-clause-value c = search rules

pub returns-clause-same : goal.returns-clause-same
returns-clause-same c is = same_true the_type (search rules) _ _ (sym c.eq.ensures ∙ is)
