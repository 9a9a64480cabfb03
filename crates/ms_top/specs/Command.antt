-- What belongs to a command: its files, and the setup of its run.
use Rattle.std.specs.Prelude.{ℕ, ◌^◌, List, [], ◌∷◌, if◌then◌else◌, map, Option, Some, None, option_to_list}
use Rattle.ms_runs.specs.declared.runs.Setup.{Setup}
use Rattle.ms_ir.specs.declared.forms.Form.{Form}
use Rattle.ms_ir.specs.declared.forms.Form.TheVariants.{Plain, Instrumented}
use Rattle.ms_text_grammar.specs.Texts.{max_bytes}
use Rattle.ms_words.specs.declared.commands.Command.{Command}
use Rattle.ms_words.specs.declared.commands.Command.TheVariants.{Instrument, Run, Check, CheckSchedules, Explain, Corpus, Gen, Help, Version}
use Rattle.ms_words.specs.declared.commands.Options.{Options}
use Rattle.ms_corpus.specs.declared.wanted.Wanted.{Wanted}

-- ---- parts of a command

-- the name of the module's file; `gen` makes its module, `help` and `version` have none
abbrev pub module_file : Command → Option (List ℕ)
module_file (Instrument file) = Some file
module_file (Run file options) = Some file
module_file (Check file options) = Some file
module_file (CheckSchedules file options runs workers) = Some file
module_file (Explain file options) = Some file
module_file (Corpus file inputs options workers) = Some file
module_file (Gen seed functions run) = None
module_file Help = None
module_file Version = None

-- the form in which the module is read
abbrev pub form_of : Command → Form
form_of (Instrument file) = Plain
form_of (Run file options) = Instrumented
form_of (Check file options) = Plain
form_of (CheckSchedules file options runs workers) = Plain
form_of (Explain file options) = Plain
form_of (Corpus file inputs options workers) = Plain
form_of (Gen seed functions run) = Plain
form_of Help = Plain
form_of Version = Plain

-- the most bytes that the module's text may have: as many as its form takes
abbrev pub module_limit : Command → ℕ
module_limit command = max_bytes (form_of command)

-- the names of the inputs' files; `instrument` runs nothing, and what is generated reads nothing
abbrev pub input_names : Command → List (List ℕ)
input_names (Instrument file) = []
input_names (Run file options) = option_to_list options.input
input_names (Check file options) = option_to_list options.input
input_names (CheckSchedules file options runs workers) = option_to_list options.input
input_names (Explain file options) = option_to_list options.input
input_names (Corpus file inputs options workers) = inputs
input_names (Gen seed functions run) = []
input_names Help = []
input_names Version = []

-- the name of the module's file, where each line that names a site is to be followed by where it stands
abbrev pub located_file : Command → Option (List ℕ)
located_file (Run file options) = if options.locations then Some file else None
located_file (Check file options) = if options.locations then Some file else None
located_file (CheckSchedules file options runs workers) = if options.locations then Some file else None
located_file (Explain file options) = if options.locations then Some file else None
located_file (Corpus file inputs options workers) = if options.locations then Some file else None
located_file command = None

-- ---- files

-- the most bytes that an input file may have
abbrev pub input_limit : ℕ
input_limit = 2 ^ 20

abbrev pub input_files : List (List ℕ) → List (List ℕ × ℕ)
input_files names = map (λ name. (name, input_limit)) names

-- the files that a command reads, in order: their names, and the most bytes that each may have
abbrev pub files_of : Command → List (List ℕ × ℕ)
files_of command = elim (module_file command) [ Some file ↦ (file, module_limit command) ∷ input_files (input_names command) | None ↦ [] ]

-- ---- runs

-- what a run is given, with the bytes of its input
abbrev pub setup_of : Options → List ℕ → Setup
setup_of o input = record { input = input; fill = o.fill; steps = o.steps; reports = o.reports; once = o.once }

-- what is wanted of what is told of a run: places of blind uses are shown beside those of the other lines
abbrev pub wanted_of : Options → Wanted
wanted_of o = record { calls = o.calls; places = o.locations }

-- the input of a run that has one at most
abbrev pub only_input : List (List ℕ) → List ℕ
only_input [] = []
only_input (input ∷ rest) = input
