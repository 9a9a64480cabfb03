-- The usage, made from the rows of commands and options, and the version (own).
use Rattle.std.specs.Prelude.{ℕ, ◌-◌, ◌++◌, Bool, List, [], ◌∷◌, Option, Some, None, length, drop, nat_lt, if◌then◌else◌, codes, decimal}
use Rattle.std.specs.List.{list_any}
use Rattle.ms_words.specs.declared.names.CommandName.{CommandName}
use Rattle.ms_words.specs.declared.names.CommandName.TheVariants.{Instrument, Run, Check, Explain, Corpus, Gen}
use Rattle.ms_words.specs.declared.names.OptionName.{OptionName}
use Rattle.ms_words.specs.declared.names.OptionName.TheVariants as option
use Rattle.ms_words.specs.declared.names.Takes.{Takes}
use Rattle.ms_words.specs.declared.names.Takes.TheVariants.{Nothing, Anything, Hex, Number}
use Rattle.ms_words.specs.declared.topics.Topic.{Topic}
use Rattle.ms_words.specs.declared.topics.Topic.TheVariants.{Help, Version}
use Rattle.ms_words.specs.Table.{Word, commands, command_word, options, option_word, takes, default_of, options_of, wanted_of, least_files, most_files, topics, topic_word, topic_long, topic_short}
use Rattle.ms_words.specs.Reading.{option_eq}

-- ---- what is said of each row

abbrev pub about_command : CommandName → Word
about_command Instrument = codes "write the module in FILE with inserted code, which run takes"
about_command Run = codes "run the module in FILE as it is"
about_command Check = codes "run the module in FILE with inserted code and report uses of uninitialised memory"
about_command Explain = codes "check the module in FILE and print the way that the bits of the first report took"
about_command Corpus = codes "check the module in FILE with each INPUT as its standard input"
about_command Gen = codes "write a generated module"

abbrev pub about_option : OptionName → Word
about_option option.Input = codes "file with the bytes of standard input, which is empty without it"
about_option option.Fill = codes "bytes of uninitialised memory, two digits each"
about_option option.Steps = codes "greatest number of steps of a run"
about_option option.Reports = codes "number of reports at which a run ends"
about_option option.Schedule = codes "bytes that pick the threads that go on, two digits each"
about_option option.Schedules = codes "greatest number of schedules that are tried, one run each"
about_option option.Workers = codes "inputs or schedules that are run at once"
about_option option.Seed = codes "number that the module is made from"
about_option option.Functions = codes "number of functions beside main"
about_option option.Run = codes "check the module instead of writing it"
about_option option.Where = codes "below each line that names a site, print where it stands in FILE and in the source"
about_option option.Calls = codes "below each report and trap, print the calls that stand there, the innermost first"
about_option option.Once = codes "neither report nor count a use of the same site, kind and part as one before it"

abbrev pub about_topic : Topic → Word
about_topic Help = codes "print this text"
about_topic Version = codes "print the version"

abbrev pub statuses : List Word
statuses =
    codes "   0  done: a run ended without a report, or a text is written" ∷ codes "   2  the words are no command" ∷ codes "   3  a run trapped" ∷ codes "   4  a run used up its steps"
    ∷ codes "   5  the module is refused" ∷ codes "   6  a file can't be read" ∷ codes "   7  writing failed" ∷ codes "   8  out of memory" ∷ codes "   9  a file is too long"
    ∷ codes "  10  the system doesn't give the words" ∷ codes "  77  a run has a report" ∷ []

-- ---- options

-- the name of a value, the numbers that bound it, and what it is by default
abbrev pub value_name : Takes → Word
value_name Nothing = []
value_name Anything = codes " FILE"
value_name (Hex most) = codes " HEX"
value_name (Number least most) = codes " N"

abbrev pub bounds_text : Takes → Word
bounds_text Nothing = []
bounds_text Anything = []
bounds_text (Hex most) = codes ": 1 to " ++ decimal most ++ codes " bytes"
bounds_text (Number least most) = codes ": " ++ decimal least ++ codes " to " ++ decimal most

abbrev pub default_text : Option Word → Word
default_text None = []
default_text (Some value) = codes ", default " ++ value

-- an option with the name of its value
abbrev pub option_form : OptionName → Word
option_form o = codes "--" ++ option_word o ++ value_name (takes o)

-- the second column begins after spaces up to the 18th byte
abbrev pub up_to_column : ℕ → Word
up_to_column n = drop n (codes "                ")

abbrev pub first_column : OptionName → Word
first_column o = option_form o ++ up_to_column (length (option_form o))

abbrev pub option_about : OptionName → Word
option_about o = about_option o ++ bounds_text (takes o) ++ default_text (default_of o) ++ codes "\n"

abbrev pub option_line : OptionName → Word
option_line o = codes "  " ++ first_column o ++ option_about o

abbrev pub option_lines : List OptionName → Word
option_lines [] = []
option_lines (o ∷ rest) = option_line o ++ option_lines rest

-- ---- commands

abbrev pub is_wanted : CommandName → OptionName → Bool
is_wanted c o = list_any (λ w. option_eq w o) (wanted_of c)

-- an option of a command: in brackets, unless the command must have it
abbrev pub option_use : Bool → OptionName → Word
option_use wanted o = if wanted then codes " " ++ option_form o else codes " [" ++ option_form o ++ codes "]"

abbrev pub option_uses : CommandName → List OptionName → Word
option_uses c [] = []
option_uses c (o ∷ rest) = option_use (is_wanted c o) o ++ option_uses c rest

-- the files by the greatest number of them
abbrev pub files_text : ℕ → Word
files_text most = if nat_lt 1 most then codes " FILE INPUT..." else if nat_lt 0 most then codes " FILE" else []

-- how many inputs there may be after the first file
abbrev pub inputs_text : (least most : ℕ) → Word
inputs_text least most = if nat_lt 1 most then codes ": " ++ decimal (least - 1) ++ codes " to " ++ decimal (most - 1) ++ codes " inputs" else []

abbrev pub synopsis : CommandName → Word
synopsis c = codes "  msan " ++ command_word c ++ option_uses c (options_of c) ++ files_text (most_files c) ++ codes "\n"

abbrev pub command_about : CommandName → Word
command_about c = codes "      " ++ about_command c ++ inputs_text (least_files c) (most_files c) ++ codes "\n"

abbrev pub command_lines : CommandName → Word
command_lines c = synopsis c ++ command_about c

abbrev pub all_command_lines : List CommandName → Word
all_command_lines [] = []
all_command_lines (c ∷ rest) = command_lines c ++ all_command_lines rest

abbrev pub topic_words : Topic → Word
topic_words t = topic_word t ++ codes ", " ++ topic_long t ++ codes ", " ++ topic_short t

abbrev pub topic_line : Topic → Word
topic_line t = codes "  msan " ++ topic_words t ++ codes ": " ++ about_topic t ++ codes "\n"

abbrev pub topic_lines : List Topic → Word
topic_lines [] = []
topic_lines (t ∷ rest) = topic_line t ++ topic_lines rest

-- ---- what is printed

abbrev pub lines_of : List Word → Word
lines_of [] = []
lines_of (line ∷ rest) = line ++ codes "\n" ++ lines_of rest

abbrev pub commands_text : Word
commands_text =
    codes "msan finds uses of uninitialised memory in modules of LLVM assembly.\n\nCommands:\n" ++ all_command_lines commands ++ topic_lines topics

abbrev pub options_text : Word
options_text = codes "\nOptions:\n" ++ option_lines options

abbrev pub statuses_text : Word
statuses_text = codes "\nStatus:\n" ++ lines_of statuses

unfoldable pub usage : Word
usage = commands_text ++ options_text ++ statuses_text

abbrev pub version_line : Word
version_line = codes "msan 0.2.0\n"
