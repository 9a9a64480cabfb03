-- Lists with commas, as a loop reads them.
use Rattle.std.proofs.Common.{◌≡◌, ◌<◌, true, false, List, [], ◌∷◌, ◌++◌, length, refl}
use Rattle.ms_lex.specs.Grammar.{tail, done, fails}
use Rattle.ms_text_grammar.specs.declared.symbols.Symbol.{Symbol}
use Rattle.ms_text_grammar.specs.declared.symbols.Symbol.TheVariants.{Comma}
use Rattle.ms_text_grammar.specs.declared.refusals.Cause.{Cause}
use Rattle.ms_text_grammar.specs.Lexemes.{Lexeme, is}
use Rattle.ms_text_grammar.specs.Steps.{Rule, with_item, items, word}
use Rattle.ms_read_cursor.specs.Reading.{front, run}
use Rattle.ms_read_cursor.specs.Lists.{further_items}
use Rattle.ms_read_cursor.proofs.Further as series

module _ {A : Type 0} (item : Rule A) where
  item_goes : (found : List A) (ts : List Lexeme) (x : A) (mid : List Lexeme) → run item ts ≡ done x mid → run (with_item item found) ts ≡ done (found ++ x ∷ []) mid
  item_goes found ts x mid e = rw e refl

  item_stops : (found : List A) (ts : List Lexeme) (d : Cause) (k : List Lexeme) → run item ts ≡ fails d k → run (with_item item found) ts ≡ fails d k
  item_stops found ts d k e = rw e refl

  pub more_goes : (found : List A) (ts : List Lexeme) (x : A) (mid : List Lexeme) → is Comma (front ts) ≡ true → run item (tail ts) ≡ done x mid → run (further_items item found) ts ≡ run (further_items item (found ++ x ∷ [])) mid
  unfolding further_items
  more_goes found ts x mid h e = series.more_goes (λ found. true) (with_item item) found ts (found ++ x ∷ []) mid refl h (item_goes found (tail ts) x mid e)

  pub more_stops : (found : List A) (ts : List Lexeme) (d : Cause) (k : List Lexeme) → is Comma (front ts) ≡ true → run item (tail ts) ≡ fails d k → run (further_items item found) ts ≡ fails d k
  unfolding further_items
  more_stops found ts d k h e = series.more_stops (λ found. true) (with_item item) found ts d k refl h (item_stops found (tail ts) d k e)

  pub more_ends : (found : List A) (ts : List Lexeme) → is Comma (front ts) ≡ false → run (further_items item found) ts ≡ done found ts
  unfolding further_items
  more_ends found ts h = series.more_ends (λ found. true) (with_item item) found ts refl h

  pub items_empty : (closing : Symbol) (ts : List Lexeme) → is closing (front ts) ≡ true → run (items closing item) ts ≡ done [] (tail ts)
  unfolding items
  items_empty closing ts h = series.listed_empty (λ found. true) (with_item item) closing [] ts h

  pub items_stop : (closing : Symbol) (ts : List Lexeme) (d : Cause) (k : List Lexeme) → is closing (front ts) ≡ false → run item ts ≡ fails d k → run (items closing item) ts ≡ fails d k
  unfolding items
  items_stop closing ts d k h e = series.listed_stops (λ found. true) (with_item item) closing [] ts d k h (item_stops [] ts d k e)

  -- a list that was read up to its closing symbol, one in which a further item stops, and one without that symbol
  pub items_whole : (closing : Symbol) (ts : List Lexeme) (x : A) (mid : List Lexeme) (all : List A) (after : List Lexeme) (u : Unit {0}) (left : List Lexeme) → is closing (front ts) ≡ false → run item ts ≡ done x mid
      → run (further_items item (x ∷ [])) mid ≡ done all after → run (word closing) after ≡ done u left → run (items closing item) ts ≡ done all left
  unfolding items further_items
  items_whole closing ts x mid all after u left h e f w =
      series.listed_whole (λ found. true) (with_item item) closing [] ts (x ∷ []) mid all after u left h (item_goes [] ts x mid e) f w

  pub items_cut : (closing : Symbol) (ts : List Lexeme) (x : A) (mid : List Lexeme) (d : Cause) (k : List Lexeme) → is closing (front ts) ≡ false → run item ts ≡ done x mid
      → run (further_items item (x ∷ [])) mid ≡ fails d k → run (items closing item) ts ≡ fails d k
  unfolding items further_items
  items_cut closing ts x mid d k h e f = series.listed_cut (λ found. true) (with_item item) closing [] ts (x ∷ []) mid d k h (item_goes [] ts x mid e) f

  pub items_open : (closing : Symbol) (ts : List Lexeme) (x : A) (mid : List Lexeme) (all : List A) (after : List Lexeme) (d : Cause) (k : List Lexeme) → is closing (front ts) ≡ false → run item ts ≡ done x mid
      → run (further_items item (x ∷ [])) mid ≡ done all after → run (word closing) after ≡ fails d k → run (items closing item) ts ≡ fails d k
  unfolding items further_items
  items_open closing ts x mid all after d k h e f w =
      series.listed_open (λ found. true) (with_item item) closing [] ts (x ∷ []) mid all after d k h (item_goes [] ts x mid e) f w

  pub turn_shorter : (ts : List Lexeme) (x : A) (mid : List Lexeme) → is Comma (front ts) ≡ true → run item (tail ts) ≡ done x mid → length mid < length ts
  turn_shorter ts x mid h e = series.turn_shorter (λ found. true) (with_item item) [] ts (x ∷ []) mid h (item_goes [] (tail ts) x mid e)
