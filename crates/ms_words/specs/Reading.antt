-- The words after the command, read from left to right to the first fault (own).
use Rattle.std.specs.Prelude.{◌≡◌, ◌⊎◌, ℕ, ◌+◌, ◌==◌, ◌&&◌, Bool, true, false, not, List, [], ◌∷◌, ◌++◌, length, Option, Some, None, option_map, is_some, Result, Ok, Err, find, nat_lt, nat_eq, if◌then◌else◌, codes}
use Rattle.std.specs.List.{list_all, list_any, before_first, after_first}
use Rattle.std.specs.Cmp.Lexicographic.{pointwise}
use Rattle.std.specs.Option.{option_map_or}
use Rattle.ms_words.specs.declared.names.CommandName.{CommandName}
use Rattle.ms_words.specs.declared.names.OptionName.{OptionName}
use Rattle.ms_words.specs.declared.names.OptionName.TheVariants.{Workers}
use Rattle.ms_words.specs.declared.names.Takes.{Takes}
use Rattle.ms_words.specs.declared.names.Takes.TheVariants.{Nothing}
use Rattle.ms_words.specs.declared.reading.Next.{Next}
use Rattle.ms_words.specs.declared.reading.Next.TheVariants.{AnOption, AValue, AFile}
use Rattle.ms_words.specs.declared.commands.WordsError.{WordsError}
use Rattle.ms_words.specs.declared.commands.WordsError.TheVariants.{NoMemory, UnknownOption, MissingValue, MissingFile, MissingOption, Extra, Repeated, Excluded}
use Rattle.ms_words.specs.Table.{Word, option_word, takes, options_of, wanted_with_workers, excluded_by, least_files, most_files}
use Rattle.ms_words.specs.Values.{value_fault}

-- what the words so far have given, in their order
pub record Given : Type 0 where
  pub options : List (OptionName × Word)
  pub files : List Word

-- nothing is given
abbrev pub nothing : Given
nothing = record { options = []; files = [] }

-- two words have the same bytes
abbrev pub same : Word → Word → Bool
same = pointwise nat_eq

-- what a word comes to: what may come next, and what is given by then, or a fault
abbrev pub Outcome : Type 0
Outcome = Result (Next × Given) WordsError

-- what a call returns: what is expected of it, or that memory runs out
abbrev pub Answers : Outcome → Result Next WordsError → Given → Type 0
Answers expected (Ok next) g = expected ≡ Ok (next, g)
Answers expected (Err e) g = (e ≡ NoMemory) ⊎ (expected ≡ Err e)

-- ---- options

-- what stands after a first dash, 45
abbrev pub after_dash : Word → Option Word
after_dash [] = None
after_dash (b ∷ rest) = if b == 45 then Some rest else None

-- what stands before the first `=`, 61, and after it where there is one
abbrev pub name_and_value : Word → Word × Option Word
name_and_value text = (before_first (λ b. b == 61) text, if list_any (λ b. b == 61) text then Some (after_first (λ b. b == 61) text) else None)

-- an option that takes no value
abbrev pub takes_nothing : Takes → Bool
takes_nothing Nothing = true
takes_nothing _ = false

-- the option of a command that has the name; one that takes no value isn't known with a value
abbrev pub known_option : CommandName → Word × Option Word → Option (OptionName × Option Word)
known_option c parts = option_map (λ o. (o, parts.1))
    (find (λ o. same (option_word o) parts.0 && not (takes_nothing (takes o) && is_some parts.1)) (options_of c))

-- the same of what stands after two dashes
abbrev pub option_in : CommandName → Option Word → Option (OptionName × Option Word)
option_in c None = None
option_in c (Some text) = known_option c (name_and_value text)

abbrev pub option_eq : OptionName → OptionName → Bool
option_eq a b = same (option_word a) (option_word b)

-- whether an option is given: options are told by their words
abbrev pub is_given : OptionName → Given → Bool
is_given o g = list_any (λ p. option_eq p.0 o) g.options

-- whether one is given that it can't stand beside
abbrev pub is_excluded : OptionName → Given → Bool
is_excluded o g = option_map_or (λ other. is_given other g) (excluded_by o) false

abbrev pub with_option : OptionName → Word → Given → Given
with_option o value g = record g { options = g.options ++ (o, value) ∷ [] }

-- the option has its value, unless there is something wrong with it
abbrev pub with_value_if : Option WordsError → OptionName → Word → Given → Outcome
with_value_if (Some fault) o value g = Err fault
with_value_if None o value g = Ok (AnOption, with_option o value g)

-- a value at a place
abbrev pub read_value : OptionName → ℕ → Word → Given → Outcome
read_value o place value g = with_value_if (value_fault (takes o) place value) o value g

-- a value after `=`, or else the next word where the option takes a value
abbrev pub begin_option : OptionName → Option Word → ℕ → Given → Outcome
begin_option o (Some value) place g = read_value o place value g
begin_option o None place g = if takes_nothing (takes o) then Ok (AnOption, with_option o [] g) else Ok (AValue o, g)

-- an option where one is known, each once, and none beside one that excludes it
abbrev pub read_option : Option (OptionName × Option Word) → ℕ → Given → Outcome
read_option None place g = Err (UnknownOption place)
read_option (Some p) place g =
    if is_given p.0 g then Err (Repeated place) else if is_excluded p.0 g then Err (Excluded place) else begin_option p.0 p.1 place g

-- ---- files

abbrev pub with_file : Word → Given → Given
with_file word g = record g { files = g.files ++ word ∷ [] }

-- a file at a place, unless the command has all of its files
abbrev pub read_file : CommandName → ℕ → Word → Given → Outcome
read_file c place word g =
    if nat_lt (length g.files) (most_files c) then Ok (AFile, with_file word g) else Err (Extra place)

-- ---- all words

-- a word that isn't `--`, with what stands after its first dash: `-` is a file, `-x` an unknown option, `--x` an option
abbrev pub read_plain : CommandName → Option Word → ℕ → Word → Given → Outcome
read_plain c None place word g = read_file c place word g
read_plain c (Some []) place word g = read_file c place word g
read_plain c (Some (b ∷ rest)) place word g = read_option (option_in c (after_dash (b ∷ rest))) place g

-- one word, at its place
abbrev pub read_word : CommandName → Next → ℕ → Word → Given → Outcome
read_word c AnOption place word g = if same word (codes "--") then Ok (AFile, g) else read_plain c (after_dash word) place word g
read_word c (AValue o) place word g = read_value o place word g
read_word c AFile place word g = read_file c place word g

-- the options that a command must have beside those that are given
abbrev pub wanted_in : CommandName → Given → List OptionName
wanted_in c g = wanted_with_workers c (is_given Workers g)

-- the end of the words: what is missing there
abbrev pub end_words : CommandName → ℕ → Given → Result Given WordsError
end_words c place g =
    if not (list_all (λ o. is_given o g) (wanted_in c g)) then Err (MissingOption place)
    else if nat_lt (length g.files) (least_files c) then Err (MissingFile place)
    else Ok g

-- the same where a value may be missing
abbrev pub read_end : CommandName → Next → ℕ → Given → Result Given WordsError
read_end c (AValue o) place g = Err (MissingValue place)
read_end c _ place g = end_words c place g

-- the first fault is the answer
abbrev pub and_then : {X : Type 0} → Result X WordsError → (X → Result Given WordsError) → Result Given WordsError
and_then (Ok x) f = f x
and_then (Err e) f = Err e

-- the words from a place on
abbrev pub read_words_from : CommandName → Next → ℕ → Given → List Word → Result Given WordsError
read_words_from c next place g [] = read_end c next place g
read_words_from c next place g (word ∷ rest) =
    and_then (read_word c next place word g) (λ r. read_words_from c r.0 (place + 1) r.1 rest)

-- what reading all words answers
abbrev pub AnswersAll : Result Given WordsError → Result Given WordsError → Type 0
AnswersAll expected (Ok g) = expected ≡ Ok g
AnswersAll expected (Err e) = (e ≡ NoMemory) ⊎ (expected ≡ Err e)
