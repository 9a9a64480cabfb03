-- What contracts see of a text with what stands in it.
use Rattle.std.specs.Prelude.{length}
use Rattle.ms_lex.specs.Tokens.{InOrder}
use Rattle.ms_where_places.specs.Told.{Told}
use Rattle.ms_where_places.specs.declared.marked_texts.MarkedText.TheInside.{Inside}

abbrev pub told : Inside → Told
told s = record { text = s.text.now; tokens = s.tokens.now; marks = s.marks.now }

-- its tokens lie in the text
abbrev pub LiesInText : Inside → Type 0
LiesInText s = InOrder s.tokens.now (length s.text.now)
