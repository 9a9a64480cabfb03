-- The words that mean something by themselves, by their first bytes.
use Rattle.std.specs.Prelude.{ℕ, Bool, false, ◌==◌, if◌then◌else◌, List, [], ◌∷◌, map}
use denote.Ref.{Bor}
use Rattle.ms_lex.specs.Tokens.{Text}
use Rattle.ms_text_grammar.specs.declared.symbols.Symbol.{Symbol}
use Rattle.ms_text_grammar.specs.Lexemes.{Row}

-- the rows of a table in the code
abbrev pub rows_of : List (Bor Text × Symbol) → List Row
rows_of = map (λ row. (row.0.now, row.1))

-- the byte is the first of a word
abbrev pub begins : ℕ → Text → Bool
begins first [] = false
begins first (b ∷ rest) = b == first

-- the rows whose words begin with a byte
abbrev pub beginning : ℕ → List Row → List Row
beginning first [] = []
beginning first (row ∷ rest) = if begins first row.0 then row ∷ beginning first rest else beginning first rest
