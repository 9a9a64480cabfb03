use Rattle.std.proofs.Common.{get_or, refl, ap, ◌∙◌, arith}
use Rattle.ms_text_grammar.specs.Lexemes.{keywords, symbol_in, type_or_plain, word_symbol}
use Rattle.ms_read_cursor.specs.Words.{beginning}
use Rattle.ms_read_cursor.proofs.FirstBytes.{by_first}
use Rattle.ms_read_cursor.proofs.symbols.word_symbol.Goals as goal

pub returns-in-len1-up : goal.returns-in-len1-up
unfolding word_symbol
returns-in-len1-up c =
    let word = c.args.word.now in
    let first = by_first word (get_or word 0 0) keywords (type_or_plain word) (omega (arith, c.in-len1-up.len_at_least)) refl in
    c.lookup.ensures ∙ ap (λ rows. symbol_in rows c.type_or_plain.result word) c.words_with.ensures
    ∙ ap (λ fallback. symbol_in (beginning (get_or word 0 0) keywords) fallback word) c.type_or_plain.ensures ∙ first
