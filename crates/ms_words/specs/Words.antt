-- What a list of words asks for: a command, or the first fault with its place (own).
use Rattle.std.specs.Prelude.{◌≡◌, ◌⊎◌, ◌||◌, ℕ, Bool, false, List, [], ◌∷◌, Option, Some, None, option_map, is_some, Result, Ok, Err, find, slice_get, drop, unwrap_or, codes}
use Rattle.std.specs.Option.{option_map_or}
use Rattle.ms_words.specs.declared.names.CommandName.{CommandName}
use Rattle.ms_words.specs.declared.names.CommandName.TheVariants as name
use Rattle.ms_words.specs.declared.names.OptionName.{OptionName}
use Rattle.ms_words.specs.declared.names.OptionName.TheVariants as option
use Rattle.ms_words.specs.declared.commands.Command.{Command}
use Rattle.ms_words.specs.declared.commands.Command.TheVariants.{Instrument, Run, Check, CheckSchedules, Explain, Corpus, Gen, Help, Version}
use Rattle.ms_words.specs.declared.commands.Options.{Options}
use Rattle.ms_words.specs.declared.commands.WordsError.{WordsError}
use Rattle.ms_words.specs.declared.commands.WordsError.TheVariants.{NoMemory, UnknownCommand, UnknownOption, MissingValue, MissingFile, MissingOption, Extra, BadNumber, BadHex, Repeated, Excluded, OutOfRange}
use Rattle.ms_words.specs.declared.reading.Next.TheVariants.{AnOption}
use Rattle.ms_words.specs.declared.topics.Topic.{Topic}
use Rattle.ms_words.specs.declared.topics.Topic.TheVariants as topic
use Rattle.ms_words.specs.Table.{Word, commands, command_word, default_of, topics, topic_word, topic_long, topic_short}
use Rattle.ms_words.specs.Values.{number, hex_bytes}
use Rattle.ms_words.specs.Reading.{Given, nothing, same, option_eq, read_words_from}

-- the value that an option was given, or else its default
abbrev pub or_default : Option Word → Option Word → Option Word
or_default None given = given
or_default (Some default) given = Some (unwrap_or given default)

-- the value of an option, where it has one
abbrev pub value_of : OptionName → Given → Option Word
value_of o g = or_default (default_of o) (option_map (λ p. p.1) (find (λ p. option_eq p.0 o) g.options))

-- the fields of a command, by the values of its options
abbrev pub number_by : Option Word → ℕ
number_by value = option_map_or number value 0

abbrev pub options_by : (OptionName → Option Word) → Options
options_by value = record {
  input = value option.Input;
  fill = option_map_or hex_bytes (value option.Fill) [];
  steps = number_by (value option.Steps);
  reports = number_by (value option.Reports);
  schedule = option_map_or hex_bytes (value option.Schedule) [];
  locations = is_some (value option.Where);
  calls = is_some (value option.Calls);
  once = is_some (value option.Once);
}

-- the schedule of a command that takes none: it runs no module with threads
abbrev pub no_schedule : List ℕ
no_schedule = 0 ∷ []

-- what is explained is the first report
abbrev pub explain_options_by : (OptionName → Option Word) → Options
explain_options_by value = record (options_by value) { reports = 1; schedule = no_schedule; once = false }

-- the options of a corpus have no input, since each of its runs has its own
abbrev pub corpus_options_by : (OptionName → Option Word) → Options
corpus_options_by value = record (options_by value) { input = None; schedule = no_schedule }

-- what is given where no option is: no input, the fill a5, ten million steps, one report, the schedule 00, neither locations nor calls, and each use as often as it is met
abbrev pub defaults : Options
defaults = options_by (λ o. value_of o nothing)

-- a check under one schedule, or under several where the option is given
abbrev pub check_by : Option Word → Options → (runs workers : ℕ) → Word → Command
check_by None options runs workers file = Check file options
check_by (Some word) options runs workers file = CheckSchedules file options runs workers

-- a command by the values of its options, its first file and the files after it
abbrev pub command_by : CommandName → (OptionName → Option Word) → Word → List Word → Command
command_by name.Instrument value file inputs = Instrument file
command_by name.Run value file inputs = Run file (options_by value)
command_by name.Check value file inputs =
    check_by (value option.Schedules) (options_by value) (number_by (value option.Schedules)) (number_by (value option.Workers)) file
command_by name.Explain value file inputs = Explain file (explain_options_by value)
command_by name.Corpus value file inputs = Corpus file inputs (corpus_options_by value) (number_by (value option.Workers))
command_by name.Gen value file inputs = Gen (number_by (value option.Seed)) (number_by (value option.Functions)) (is_some (value option.Run))

-- a command by all that its words give
abbrev pub command_given : CommandName → Given → Command
command_given c g = command_by c (λ o. value_of o g) (unwrap_or (slice_get g.files 0) []) (drop 1 g.files)

abbrev pub command_in : CommandName → Result Given WordsError → Result Command WordsError
command_in c (Ok g) = Ok (command_given c g)
command_in c (Err fault) = Err fault

abbrev pub command_named : Option CommandName → List Word → Result Command WordsError
command_named None rest = Err (UnknownCommand 0)
command_named (Some c) rest = command_in c (read_words_from c AnOption 1 nothing rest)

-- a question about the program itself is a command, whatever words follow
abbrev pub asks : Word → Topic → Bool
asks word t = same word (topic_word t) || (same word (topic_long t) || same word (topic_short t))

abbrev pub asked : Topic → Command
asked topic.Help = Help
asked topic.Version = Version

abbrev pub asked_or : Option Topic → Word → List Word → Result Command WordsError
asked_or (Some t) word rest = Ok (asked t)
asked_or None word rest = command_named (find (λ c. same word (command_word c)) commands) rest

-- what words ask for; the first word, at place 0, names the command
abbrev pub command_of : List Word → Result Command WordsError
command_of [] = Err (UnknownCommand 0)
command_of (word ∷ rest) = asked_or (find (asks word) topics) word rest

-- the answer to words: what they ask for, or that memory runs out
abbrev pub IsAnswer : List Word → Result Command WordsError → Type 0
IsAnswer words answer = (answer ≡ Err NoMemory) ⊎ (answer ≡ command_of words)

-- ---- how a fault is printed

-- the name of the fault
abbrev pub name_of : WordsError → Word
name_of (UnknownCommand place) = codes "UnknownCommand"
name_of (UnknownOption place) = codes "UnknownOption"
name_of (MissingValue place) = codes "MissingValue"
name_of (MissingFile place) = codes "MissingFile"
name_of (MissingOption place) = codes "MissingOption"
name_of (Extra place) = codes "Extra"
name_of (BadNumber place) = codes "BadNumber"
name_of (BadHex place) = codes "BadHex"
name_of (Repeated place) = codes "Repeated"
name_of (Excluded place) = codes "Excluded"
name_of (OutOfRange place) = codes "OutOfRange"
name_of NoMemory = codes "NoMemory"

-- the place of the word at fault; running out of memory has none
abbrev pub place_of : WordsError → ℕ
place_of (UnknownCommand place) = place
place_of (UnknownOption place) = place
place_of (MissingValue place) = place
place_of (MissingFile place) = place
place_of (MissingOption place) = place
place_of (Extra place) = place
place_of (BadNumber place) = place
place_of (BadHex place) = place
place_of (Repeated place) = place
place_of (Excluded place) = place
place_of (OutOfRange place) = place
place_of NoMemory = 0
