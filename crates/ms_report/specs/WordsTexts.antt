-- The line of words that are no command, as bytes.
use Rattle.std.specs.Prelude.{ℕ, List, ◌++◌, codes, decimal}

-- what is wrong, and the number of the word where it is, counted from 0
abbrev pub words_text : List ℕ → ℕ → List ℕ
words_text name place = codes "words: " ++ name ++ codes " at " ++ decimal place ++ codes "\n"
