-- The values that `clap` found, and what makes fields of them (own).
use Rattle.std.specs.Prelude.{◌≡◌, ◌≤◌, ◌^◌, ◌-◌, ℕ, Bool, true, false, Option, Some, None, IfSome, [], if◌then◌else◌, codes, List, drop, option_map, unwrap_or, ⊤}
use Rattle.std.specs.Char.{is_ascii_hexdigit}
use Rattle.std.specs.List.{list_all}
use Rattle.clap.specs.Words.{first_value, matched_of, raw_values}
use Rattle.clap.specs.declared.parser.matches.Found.{Found}
use Rattle.ms_words.specs.declared.names.CommandName.{CommandName}
use Rattle.ms_words.specs.declared.names.CommandName.TheVariants.{Instrument, Run, Check, Explain, Corpus, Gen}
use Rattle.ms_words.specs.declared.names.OptionName.{OptionName}
use Rattle.ms_words.specs.declared.names.OptionName.TheVariants as option
use Rattle.ms_words.specs.declared.names.Takes.{Takes}
use Rattle.ms_words.specs.declared.names.Takes.TheVariants.{Nothing}
use Rattle.ms_words.specs.Table.{Word, option_word, takes}
use Rattle.ms_words.specs.Values.{is_number, number}
use Rattle.ms_words.specs.Reading.{same}

-- an option that takes no value is found as `true` or `false`
abbrev pub is_set : Option Word → Bool
is_set None = false
is_set (Some text) = same text (codes "true")

abbrev pub found_by : Takes → Option Word → Option Word
found_by Nothing text = if is_set text then Some [] else None
found_by _ text = text

abbrev pub found_value : Found → OptionName → Option Word
found_value f o = found_by (takes o) (first_value f (option_word o))

abbrev pub found_file : Found → Word
found_file f = unwrap_or (first_value f (codes "files")) []

-- the files after the first one
abbrev pub found_inputs : Found → List Word
found_inputs f = drop 1 (unwrap_or (option_map raw_values (matched_of f (codes "files"))) [])

-- a number up to a most one, or none
abbrev pub IsNumber : ℕ → Option Word → Type 0
IsNumber most value = IfSome value (λ word. (is_number word ≡ true) × (number word ≤ most))

abbrev pub IsHex : Option Word → Type 0
IsHex value = IfSome value (λ word. list_all is_ascii_hexdigit word ≡ true)

-- the values can be made fields
pub record FitsRun (value : OptionName → Option Word) : Type 0 where
  pub fill : IsHex (value option.Fill)
  pub steps : IsNumber (2 ^ 64 - 1) (value option.Steps)

pub record FitsReports (value : OptionName → Option Word) : Type 0 where
  pub run : FitsRun value
  pub reports : IsNumber 1000 (value option.Reports)

pub record FitsScheduled (value : OptionName → Option Word) : Type 0 where
  pub run : FitsReports value
  pub schedule : IsHex (value option.Schedule)

pub record FitsCheck (value : OptionName → Option Word) : Type 0 where
  pub run : FitsScheduled value
  pub schedules : IsNumber 1000000 (value option.Schedules)
  pub workers : IsNumber 8 (value option.Workers)

pub record FitsCorpus (value : OptionName → Option Word) : Type 0 where
  pub run : FitsReports value
  pub workers : IsNumber 8 (value option.Workers)

pub record FitsGen (value : OptionName → Option Word) : Type 0 where
  pub seed : IsNumber (2 ^ 64 - 1) (value option.Seed)
  pub functions : IsNumber 1000 (value option.Functions)

abbrev pub Fits : CommandName → (OptionName → Option Word) → Type 0
Fits Instrument value = ⊤
Fits Run value = FitsScheduled value
Fits Check value = FitsCheck value
Fits Explain value = FitsRun value
Fits Corpus value = FitsCorpus value
Fits Gen value = FitsGen value
