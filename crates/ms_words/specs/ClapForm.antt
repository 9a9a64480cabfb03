-- The command of `clap` that reads accepted words, and the form of these words (own).
use Rattle.std.specs.Prelude.{List, [], ◌∷◌, ◌++◌, Option, Some, None, if◌then◌else◌, codes}
use Rattle.clap.specs.Walk.{Rule}
use Rattle.clap.specs.Simple.{App, new_app, new_rule, with_rule}
use Rattle.clap.specs.declared.builder.action.ArgAction.TheVariants.{SetTrue}
use Rattle.clap.specs.Lexer.{usize_max}
use Rattle.ms_words.specs.declared.names.CommandName.{CommandName}
use Rattle.ms_words.specs.declared.names.OptionName.{OptionName}
use Rattle.ms_words.specs.declared.names.Takes.{Takes}
use Rattle.ms_words.specs.declared.names.Takes.TheVariants.{Nothing}
use Rattle.ms_words.specs.Reading.{Given, takes_nothing}
use Rattle.ms_words.specs.Words.{value_of}
use Rattle.ms_words.specs.Table.{Word, command_word, option_word, takes, options_of}

-- an option, by its long name
abbrev pub rule_by : Takes → Word → Rule
rule_by Nothing word = record (new_rule word) { long = Some word; action = Some SetTrue }
rule_by _ word = record (new_rule word) { long = Some word }

abbrev pub option_rule : OptionName → Rule
option_rule o = rule_by (takes o) (option_word o)

-- the files, one or more
abbrev pub files_rule : Rule
files_rule = record (new_rule (codes "files")) { range = Some (record { start_inclusive = 1; end_inclusive = usize_max }) }

abbrev pub with_options : App → List OptionName → App
with_options app [] = app
with_options app (o ∷ rest) = with_options (with_rule app (option_rule o)) rest

abbrev pub app_for : CommandName → App
app_for c = with_rule (with_options (new_app (command_word c)) (options_of c)) files_rule

-- ---- the form of accepted words

-- `--name=VALUE`, or `--name` where the option takes no value
abbrev pub spelled_option : OptionName → Option Word → List Word
spelled_option o None = []
spelled_option o (Some value) = (codes "--" ++ option_word o ++ (if takes_nothing (takes o) then [] else 61 ∷ value)) ∷ []

abbrev pub spelled_options : List OptionName → Given → List Word
spelled_options [] g = []
spelled_options (o ∷ rest) g = spelled_option o (value_of o g) ++ spelled_options rest g

-- the command, each option with its value or its default, `--`, and the files
abbrev pub spelled : CommandName → Given → List Word
spelled c g = command_word c ∷ (spelled_options (options_of c) g ++ codes "--" ∷ g.files)
