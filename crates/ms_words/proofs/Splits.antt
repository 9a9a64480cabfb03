-- Words cut at dashes and at the first `=`.
use Rattle.std.proofs.Common.{◌≡◌, ◌≢◌, ◌∙◌, ◌<◌, ◌+◌, ◌&&◌, ◌||◌, ◌⊎◌, inl, inr, ℕ, suc, Bool, true, false, not, List, [], ◌∷◌, length, Option, Some, None, Err, option_map, find, refl, ap, arith, cond}
use Rattle.std.proofs.Math.Seq.{take-length}
use Rattle.std.proofs.lemmas.Bool.{eqb-true, cases_Bool}
use Rattle.std.specs.Prelude.{◌==◌}
use Rattle.std.specs.List.{list_any, before_first, after_first, position_or_len}
use Rattle.ms_words.specs.declared.names.CommandName.{CommandName}
use Rattle.ms_words.specs.declared.names.OptionName.{OptionName}
use Rattle.ms_words.specs.declared.commands.WordsError.TheVariants.{UnknownOption}
use Rattle.ms_words.specs.Table.{Word, option_word, takes, options_of}
use Rattle.ms_words.specs.Reading.{Given, after_dash, name_and_value, same, takes_nothing, known_option, read_plain, read_option, read_file, option_in}

-- ---- dashes

no_dash : (word : Word) → ((rest : Word) → word ≢ 45 ∷ rest) → after_dash word ≡ None
no_dash [] none = refl
no_dash (b ∷ rest) none = go (cases_Bool (b == 45))
  where
    go : (b == 45 ≡ true) ⊎ (b == 45 ≡ false) → after_dash (b ∷ rest) ≡ None
    go (inl e) = absurd (none rest (ap (λ x. x ∷ rest) (eqb-true b 45 e)))
    go (inr e) = rw e refl

pub plain_file : (c : CommandName) (place : ℕ) (word : Word) (g : Given) → ((rest : Word) → word ≢ 45 ∷ rest)
    → read_plain c (after_dash word) place word g ≡ read_file c place word g
plain_file c place word g none = ap (λ rest. read_plain c rest place word g) (no_dash word none)

pub plain_unknown : (c : CommandName) (place : ℕ) (word rest : Word) (g : Given) → word ≡ 45 ∷ rest → rest ≢ [] → ((text : Word) → rest ≢ 45 ∷ text)
    → read_plain c (after_dash word) place word g ≡ Err (UnknownOption place)
plain_unknown c place word [] g is some none = absurd (some refl)
plain_unknown c place word (b ∷ rest) g is some none =
    ap (λ w. read_plain c (after_dash w) place word g) is ∙ ap (λ text. read_option (option_in c text) place g) (no_dash (b ∷ rest) none)

pub plain_option : (c : CommandName) (place : ℕ) (word rest text : Word) (g : Given) → word ≡ 45 ∷ rest → rest ≡ 45 ∷ text
    → read_plain c (after_dash word) place word g ≡ read_option (known_option c (name_and_value text)) place g
plain_option c place word rest text g is more =
    ap (λ w. read_plain c (after_dash w) place word g) (is ∙ ap (λ r. 45 ∷ r) more)

-- ---- the first `=`

module _ (p : ℕ → Bool) where
  first_at : (b : Bool) (xs : List ℕ) → (position_or_len p xs < length xs → list_any p xs ≡ true)
      → cond (not b) (1 + position_or_len p xs) 0 < suc (length xs) → (b || list_any p xs) ≡ true
  first_at true xs rest h = refl
  first_at false xs rest h = rest (omega (arith, h))

  has_first : (xs : List ℕ) → position_or_len p xs < length xs → list_any p xs ≡ true
  has_first [] lt = absurd (omega (arith, lt))
  has_first (x ∷ xs) lt = first_at (p x) xs (has_first xs) lt

  none_at : (b : Bool) (xs : List ℕ) → (position_or_len p xs ≡ length xs → list_any p xs ≡ false)
      → cond (not b) (1 + position_or_len p xs) 0 ≡ suc (length xs) → (b || list_any p xs) ≡ false
  none_at true xs rest h = absurd (omega (arith, h))
  none_at false xs rest h = rest (omega (arith, h))

  has_none : (xs : List ℕ) → position_or_len p xs ≡ length xs → list_any p xs ≡ false
  has_none [] eq = refl
  has_none (x ∷ xs) eq = none_at (p x) xs (has_none xs) eq

-- the option with a name, with a value or without
abbrev pub named : CommandName → Word → Bool → Option OptionName
named c name has_value = find (λ o. same (option_word o) name && not (takes_nothing (takes o) && has_value)) (options_of c)

abbrev pub cut_at_first : (text name value : Word) → Type 0
cut_at_first text name value = (position_or_len (λ b. b == 61) text < length text)
    × (name ≡ before_first (λ b. b == 61) text) × (value ≡ after_first (λ b. b == 61) text)

pub known_with_value : (c : CommandName) (text name value : Word) → cut_at_first text name value
    → known_option c (name_and_value text) ≡ option_map (λ o. (o, Some value)) (named c name true)
known_with_value c text name value cut =
    rw (cut.1, cut.2, has_first (λ b. b == 61) text cut.0) refl

pub known_alone : (c : CommandName) (text : Word) → position_or_len (λ b. b == 61) text ≡ length text
    → known_option c (name_and_value text) ≡ option_map (λ o. (o, None)) (named c text false)
known_alone c text none =
    rw (has_none (λ b. b == 61) text none, none, take-length text) refl
