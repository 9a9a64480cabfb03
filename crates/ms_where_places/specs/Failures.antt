-- Why the marks of a text may not be found.
use Rattle.std.specs.Prelude.{◌≡◌, List}
use Rattle.ms_text_grammar.specs.declared.refusals.Cause.{Cause}
use Rattle.ms_text_grammar.specs.declared.refusals.Cause.TheVariants.{NoMemory}
use Rattle.ms_text_grammar.specs.Lexemes.{Lexeme}
use Rattle.ms_text_grammar.specs.Steps.{Rule}
use Rattle.ms_text_grammar.specs.Texts.{ReadsUpTo}

-- where a piece of the grammar reads something from the tokens, the cause is that memory ran out
pub record OnlyMemory {A : Type 0} (rule : Rule A) (ts : List Lexeme) (cause : Cause) : Type 0 where
  pub memory : (a : A) (rest : List Lexeme) → ReadsUpTo rule ts a rest → cause ≡ NoMemory
