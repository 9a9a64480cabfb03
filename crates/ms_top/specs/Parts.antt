-- What the parts of the code say of files and modules. What `msan` promises does not name them.
use Rattle.std.specs.Prelude.{◌≡◌, ◌≤◌, ℕ, Bool, true, false, List, [], ◌∷◌, All, length, map, codes}
use Rattle.ms_io.specs.declared.traits.FileError.{FileError}
use Rattle.ms_io.specs.declared.traits.FileError.TheVariants.{Failed, Absent, TooLong, NoMemory}
use Rattle.ms_ir.specs.declared.syntax.Module.{Module}
use Rattle.ms_ir.specs.declared.forms.Form.{Form}
use Rattle.ms_text_grammar.specs.Texts.{Reads}
use Rattle.ms_runs.specs.declared.runs.Setup.{Setup}
use Rattle.ms_runs.specs.Plain.{plain}
use Rattle.ms_ir.specs.ThreadCalls.{is_threaded}
use Rattle.ms_check_valid.specs.Uninstrumented.{CanInstrument}
use Rattle.ms_report.specs.RunTexts.{line}
use Rattle.ms_top.specs.declared.output.Output.{Output}
use Rattle.ms_words.specs.declared.commands.Command.{Command}
use Rattle.ms_words.specs.declared.commands.Command.TheVariants.{Instrument, Run, Check, CheckSchedules, Explain, Corpus, Gen, Help, Version}
use Rattle.ms_words.specs.declared.commands.WordsError.{WordsError}
use Rattle.ms_words.specs.declared.commands.WordsError.TheVariants.{NoMemory as WantsMemory}
use Rattle.ms_runs.specs.Limits.{WithinLimits}
use Rattle.ms_runtime.specs.declared.runs.ToldRun.{ToldRun}
use Rattle.ms_corpus.specs.declared.wanted.Wanted.{Wanted}
use Rattle.ms_corpus.specs.Wanted.{plain_wanted}
use Rattle.ms_corpus.specs.Jobs.{with_input}
use Rattle.ms_top.specs.declared.schedules.ToldBeside.{ToldBeside}
use Rattle.ms_top.specs.Command.{input_names, input_files, input_limit}
use Rattle.ms_top.specs.Files.{Counted, CanRead, FilesRead, after}
use Rattle.ms_threads_explore.specs.declared.explorer.Explored.{Explored}
use Rattle.ms_threads_explore.specs.Explorations.{IsExplored}
use Rattle.ms_top.specs.Runs.{plain_under, plain_picks_under, plain_told_under}
use Rattle.ms_top.specs.Said.{explored_told, says, IsAnswerToFiles}
use Rattle.ms_top.specs.Statuses as statuses

-- the answer for why a file isn't read whole; running out of memory has an answer of its own
abbrev pub IsAnswerToFault : FileError → List ℕ → Output → Type 0
IsAnswerToFault Failed name a = a ≡ says statuses.file_fault (line (codes "file fault") name)
IsAnswerToFault Absent name a = a ≡ says statuses.file_fault (line (codes "file fault") name)
IsAnswerToFault (TooLong taken) name a = a ≡ says statuses.too_long (line (codes "file too long") name)
IsAnswerToFault NoMemory name a = ⊥

-- the answer to a command whose module's file has this text, for what reading the other files comes to
abbrev pub IsAnswerAfter : (Module → Module → Type 0) → Counted → Command → List ℕ → Output → Type 0
IsAnswerAfter Gives c command text a =
    (r : FilesRead) × CanRead c (input_files (input_names command)) r × IsAnswerToFiles Gives command (after text r) a

-- a text that reads as a module
abbrev pub IsModuleText : Form → List ℕ → Type 0
IsModuleText form text = (m : Module) × Reads form text m

-- a module that is read for a command can be instrumented, but where the command runs it as it stands
abbrev pub IsReady : Command → Module → Type 0
IsReady (Instrument file) m = CanInstrument m
IsReady (Run file options) m = Unit {0}
IsReady (Check file options) m = CanInstrument m
IsReady (CheckSchedules file options runs workers) m = CanInstrument m
IsReady (Explain file options) m = CanInstrument m
IsReady (Corpus file inputs options workers) m = CanInstrument m
IsReady (Gen seed functions run) m = CanInstrument m
IsReady Help m = CanInstrument m
IsReady Version m = CanInstrument m

-- the fault in words is running out of memory
abbrev pub is_want_of_memory : WordsError → Bool
is_want_of_memory WantsMemory = true
is_want_of_memory fault = false

-- the plain run of a module that a pass gives; where the module has threads, under a schedule
abbrev pub IsRunOfGiven : (Module → Module → Type 0) → Module → Setup → (schedule : List ℕ) → Wanted → ToldRun → Type 0
IsRunOfGiven Gives m s schedule wanted t = (j : Module) × Gives m j × (t ≡ plain_told_under wanted (is_threaded m) j s schedule)

-- what is told of a run beside its result, and such a run that exploring tells with this beside it
abbrev pub beside_of : ToldRun → ToldBeside
beside_of t = record { calls = t.calls; end_calls = t.end_calls; places = t.places }

abbrev pub told_with : Explored → ToldBeside → ToldRun
told_with e b = record { result = e.result; calls = b.calls; end_calls = b.end_calls; places = b.places }

-- what exploring its schedules tells, and what is wanted of the run that is told
abbrev pub IsExploredOfGiven : (Module → Module → Type 0) → Module → Setup → (runs : ℕ) → Wanted → Explored → ToldBeside → Type 0
IsExploredOfGiven Gives m s runs wanted e beside =
    (j : Module) × Gives m j × IsExplored (plain_picks_under (is_threaded m) j s) (plain_under (is_threaded m) j s) runs e × (beside ≡ beside_of (explored_told wanted (is_threaded m) j s e))

-- the only run of a module without threads, as exploring would tell it
abbrev pub only_run : Module → Setup → Explored
only_run m s = record { result = plain m s; schedule = 0 ∷ []; tried = 1; outcomes = 1; all = true }

-- the runs of such a module on inputs
abbrev pub AreRunsOfGiven : (Module → Module → Type 0) → Module → Setup → Wanted → List (List ℕ) → List ToldRun → Type 0
AreRunsOfGiven Gives m s wanted inputs rs = (j : Module) × Gives m j × (rs ≡ map (λ input. plain_wanted wanted j (with_input s input)) inputs)

-- inputs have no more bytes than they may have
abbrev pub AreShort : List (List ℕ) → Type 0
AreShort inputs = All (λ input. length input ≤ input_limit) inputs

-- with each of the inputs a setup is within its limits
abbrev pub AreWithinLimits : Setup → List (List ℕ) → Type 0
AreWithinLimits s inputs = All (λ input. WithinLimits (with_input s input)) inputs
