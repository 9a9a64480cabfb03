use Rattle.std.proofs.Common.{◌≡◌, length}
use Rattle.ms_text_grammar.specs.Lexemes.{symbol_in}
use Rattle.ms_read_cursor.specs.Words.{rows_of}
use Rattle.ms_read_cursor.proofs.symbols.lookup.Given as goal

abbrev pub invariant-loop-table : goal.invariant-loop-table
invariant-loop-table l = symbol_in (rows_of l.table) l.other l.word ≡ symbol_in (rows_of l.initial.table) l.other l.word

abbrev pub decreases-loop-table : goal.decreases-loop-table
decreases-loop-table l = length l.table
