-- Lists after their first item.
use Rattle.std.specs.Prelude.{Bool, true, List}
use Rattle.ms_lex.specs.Grammar.{loop}
use Rattle.ms_text_grammar.specs.Steps.{Rule, comma_begins, with_item}

-- further items after commas
unfoldable pub further : {S : Type 0} → (S → Bool) → (S → Rule S) → S → Rule S
further more item state = loop (comma_begins more) (λ state comma. item state) state

-- further items of a list
unfoldable pub further_items : {A : Type 0} → Rule A → List A → Rule (List A)
further_items item = further (λ found. true) (with_item item)
