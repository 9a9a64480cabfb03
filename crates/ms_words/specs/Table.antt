-- The commands and their options, and the questions about the program itself: one row each (own).
use Rattle.std.specs.Prelude.{ℕ, ◌^◌, ◌-◌, Bool, if◌then◌else◌, List, [], ◌∷◌, Option, Some, None, codes}
use Rattle.ms_words.specs.declared.topics.Topic.{Topic}
use Rattle.ms_words.specs.declared.topics.Topic.TheVariants.{Help, Version}
use Rattle.ms_words.specs.declared.names.CommandName.{CommandName}
use Rattle.ms_words.specs.declared.names.CommandName.TheVariants.{Instrument, Run, Check, Explain, Corpus, Gen}
use Rattle.ms_words.specs.declared.names.OptionName.{OptionName}
use Rattle.ms_words.specs.declared.names.OptionName.TheVariants as option
use Rattle.ms_words.specs.declared.names.Takes.{Takes}
use Rattle.ms_words.specs.declared.names.Takes.TheVariants.{Nothing, Anything, Hex, Number}

-- a word, by its bytes
abbrev pub Word : Type 0
Word = List ℕ

-- the commands
abbrev pub commands : List CommandName
commands = Instrument ∷ Run ∷ Check ∷ Explain ∷ Corpus ∷ Gen ∷ []

-- the word that names a command
abbrev pub command_word : CommandName → Word
command_word Instrument = codes "instrument"
command_word Run = codes "run"
command_word Check = codes "check"
command_word Explain = codes "explain"
command_word Corpus = codes "corpus"
command_word Gen = codes "gen"

-- the options, in the order of the usage
abbrev pub options : List OptionName
options =
    option.Input ∷ option.Fill ∷ option.Steps ∷ option.Reports ∷ option.Schedule ∷ option.Schedules ∷ option.Workers ∷ option.Seed ∷ option.Functions ∷ option.Run
    ∷ option.Where ∷ option.Calls ∷ option.Once ∷ []

-- the word that names an option, after two dashes
abbrev pub option_word : OptionName → Word
option_word option.Input = codes "input"
option_word option.Fill = codes "fill"
option_word option.Steps = codes "steps"
option_word option.Reports = codes "reports"
option_word option.Schedule = codes "schedule"
option_word option.Schedules = codes "schedules"
option_word option.Workers = codes "workers"
option_word option.Seed = codes "seed"
option_word option.Functions = codes "functions"
option_word option.Run = codes "run"
option_word option.Where = codes "where"
option_word option.Calls = codes "calls"
option_word option.Once = codes "once"

-- what an option takes: no value, any word, so many bytes at most, or a number within these
abbrev pub takes : OptionName → Takes
takes option.Input = Anything
takes option.Fill = Hex 2048
takes option.Steps = Number 0 1000000000
takes option.Reports = Number 1 1000
takes option.Schedule = Hex 2048
takes option.Schedules = Number 1 1000000
takes option.Workers = Number 1 8
takes option.Seed = Number 0 (2 ^ 64 - 1)
takes option.Functions = Number 1 1000
takes option.Run = Nothing
takes option.Where = Nothing
takes option.Calls = Nothing
takes option.Once = Nothing

-- the value of an option that isn't given
abbrev pub default_of : OptionName → Option Word
default_of option.Fill = Some (codes "a5")
default_of option.Steps = Some (codes "10000000")
default_of option.Reports = Some (codes "1")
default_of option.Schedule = Some (codes "00")
default_of option.Workers = Some (codes "2")
default_of _ = None

-- the options that a command may have
abbrev pub options_of : CommandName → List OptionName
options_of Instrument = []
options_of Run = option.Input ∷ option.Fill ∷ option.Steps ∷ option.Reports ∷ option.Schedule ∷ option.Where ∷ option.Calls ∷ option.Once ∷ []
options_of Check =
    option.Input ∷ option.Fill ∷ option.Steps ∷ option.Reports ∷ option.Schedule ∷ option.Schedules ∷ option.Workers ∷ option.Where ∷ option.Calls
    ∷ option.Once ∷ []
options_of Explain = option.Input ∷ option.Fill ∷ option.Steps ∷ option.Where ∷ option.Calls ∷ []
options_of Corpus = option.Workers ∷ option.Fill ∷ option.Steps ∷ option.Reports ∷ option.Where ∷ option.Calls ∷ option.Once ∷ []
options_of Gen = option.Seed ∷ option.Functions ∷ option.Run ∷ []

-- the options that it must have
abbrev pub wanted_of : CommandName → List OptionName
wanted_of Gen = option.Seed ∷ option.Functions ∷ []
wanted_of _ = []

-- those that it must have beside the ones that are given, by whether the number of workers is: a check of one schedule has no use for it
abbrev pub wanted_with_workers : CommandName → (workers : Bool) → List OptionName
wanted_with_workers Check workers = if workers then option.Schedules ∷ [] else []
wanted_with_workers c workers = wanted_of c

-- the option that can't be given beside one
abbrev pub excluded_by : OptionName → Option OptionName
excluded_by option.Schedule = Some option.Schedules
excluded_by option.Schedules = Some option.Schedule
excluded_by _ = None

-- how many files it has, at least and at most: a corpus has 1 to 256 inputs after its module
abbrev pub least_files : CommandName → ℕ
least_files Corpus = 2
least_files Gen = 0
least_files _ = 1

abbrev pub most_files : CommandName → ℕ
most_files Corpus = 257
most_files Gen = 0
most_files _ = 1

-- what the program is asked about itself
abbrev pub topics : List Topic
topics = Help ∷ Version ∷ []

-- the three first words that ask for it
abbrev pub topic_word : Topic → Word
topic_word Help = codes "help"
topic_word Version = codes "version"

abbrev pub topic_long : Topic → Word
topic_long Help = codes "--help"
topic_long Version = codes "--version"

abbrev pub topic_short : Topic → Word
topic_short Help = codes "-h"
topic_short Version = codes "-V"
