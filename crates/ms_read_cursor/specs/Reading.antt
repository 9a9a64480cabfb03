-- What a function that reads tokens ensures, what one that adds to a value besides, and what one that only judges a token does.
use Rattle.std.specs.Prelude.{◌≡◌, ◌≢◌, List, Result, Ok, Err}
use Rattle.ms_lex.specs.Grammar.{Outcome, done, fails, head}
use Rattle.ms_lex.specs.Grammar as grammar
use Rattle.ms_text_grammar.specs.declared.refusals.Cause.{Cause}
use Rattle.ms_text_grammar.specs.declared.refusals.Cause.TheVariants.{NoMemory}
use Rattle.ms_text_grammar.specs.Lexemes.{Lexeme, end_of_text}
use Rattle.ms_text_grammar.specs.Steps.{Rule, Verdict}

-- the next token, and the end of the text after the last one
abbrev pub front : List Lexeme → Lexeme
front = head end_of_text

-- what a piece of the grammar makes of tokens
abbrev pub run : {A : Type 0} → Rule A → List Lexeme → Outcome Lexeme Cause A
run = grammar.run end_of_text

-- What a function returned, and the tokens that it left, are this outcome. Only running out of memory is free.
abbrev pub Gives : {A : Type 0} → Outcome Lexeme Cause A → Result A Cause → List Lexeme → Type 0
Gives outcome (Ok a) left = outcome ≡ done a left
Gives outcome (Err e) left = e ≢ NoMemory → outcome ≡ fails e left

-- What a function returned, and the value and the tokens that it left, are this outcome. Only running out of memory is free, and a
-- value after an error says nothing.
abbrev pub Leaves : {A : Type 0} → Outcome Lexeme Cause A → Result (Unit {0}) Cause → A → List Lexeme → Type 0
Leaves outcome (Ok u) value left = outcome ≡ done value left
Leaves outcome (Err e) value left = e ≢ NoMemory → outcome ≡ fails e left

-- what a function returned is this verdict; only running out of memory is free
abbrev pub Judges : {A : Type 0} → Verdict A → Result A Cause → Type 0
Judges verdict (Ok a) = verdict ≡ Ok a
Judges verdict (Err e) = e ≢ NoMemory → verdict ≡ Err e
