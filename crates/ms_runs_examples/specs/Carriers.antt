-- Of words with texts, those whose text is read; and the operations that carry a flag.
use Rattle.std.specs.Prelude.{Bool, true, false, if◌then◌else◌, List, [], ◌∷◌, map}
use Rattle.ms_lex.specs.Tokens.{Text}
use Rattle.ms_ir.specs.declared.forms.Form.{Form}
use Rattle.ms_ir.specs.declared.forms.Form.TheVariants.{Plain}
use Rattle.ms_runs_examples.specs.Texts.{operations, flagged}
use Rattle.ms_text_grammar.specs.Answers.{Answer, reads, answer_of}

-- whether a text is read
abbrev pub is_read : Answer → Bool
is_read (reads m) = true
is_read _ = false

-- of words with texts, those of which the text is read
abbrev pub read_ones : Form → List (Text × Text) → List Text
read_ones form [] = []
read_ones form (row ∷ rest) = if is_read (answer_of form row.1) then row.0 ∷ read_ones form rest else read_ones form rest

-- the operations whose text with a flag is read
abbrev pub carriers : Text → List Text
carriers flag = read_ones Plain (map (λ o. (o.0, flagged flag o)) operations)
