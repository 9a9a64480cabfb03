-- What a call is to say: its status and its two texts, for the words and the files that it was given. `Gives m j` is what
-- is known of the module j that the pass makes of m.
use Rattle.std.specs.Prelude.{◌≡◌, ℕ, suc, Bool, true, false, not, List, [], ◌∷◌, ◌++◌, length, map, Option, Result, Ok, Err, eqb, if◌then◌else◌, codes, decimal, ◌⊎◌}
use Rattle.std.specs.List.{list_any}
use Rattle.ms_io.specs.Writing.{with_appended, AppendsPrefix}
use Rattle.ms_ir.specs.declared.syntax.Module.{Module}
use Rattle.ms_ir.specs.ThreadCalls.{is_threaded}
use Rattle.ms_runs.specs.declared.runs.End.{End}
use Rattle.ms_runs.specs.declared.runs.End.TheVariants as ends
use Rattle.ms_runs.specs.declared.runs.RunResult.{RunResult}
use Rattle.ms_runs.specs.declared.runs.Setup.{Setup}
use Rattle.ms_runtime.specs.declared.runs.ToldRun.{ToldRun}
use Rattle.ms_corpus.specs.declared.wanted.Wanted.{Wanted}
use Rattle.ms_corpus.specs.Wanted.{told_as, plain_wanted}
use Rattle.ms_runs.specs.Verdict.{verdict_of}
use Rattle.ms_read_body.specs.declared.errors.ReadError.{ReadError}
use Rattle.ms_read_body.specs.declared.errors.ReadError.TheVariants as e
use Rattle.ms_read_top.specs.Reading.{IsReading}
use Rattle.ms_check_valid.specs.Valid.{Valid}
use Rattle.ms_check_valid.specs.Refusals.{Fault as ModuleFault, Undefined, IsRefused}
use Rattle.ms_text_grammar.specs.LayoutModules.{written}
use Rattle.ms_report.specs.declared.refusals.Refusal.TheVariants.{Read}
use Rattle.ms_report.specs.RunTexts.{line}
use Rattle.ms_report.specs.SchedulesTexts.{schedules_text}
use Rattle.ms_report.specs.SummaryTexts.{summary_of}
use Rattle.ms_report.specs.BlindTexts.{places_with}
use Rattle.ms_report.specs.CallTexts.{reports_calling, closing_calling}
use Rattle.ms_report.specs.WithLines.{Lines}
use Rattle.ms_report.specs.RefusalTexts.{refusal_text, threads_text}
use Rattle.ms_report.specs.WordsTexts.{words_text}
use Rattle.ms_threads_schedules_laws.specs.Promise.{is_clean}
use Rattle.ms_threads_explore.specs.declared.explorer.Explored.{Explored}
use Rattle.ms_threads_explore.specs.Explorations.{IsExplored}
use Rattle.ms_top.specs.declared.output.Output.{Output}
use Rattle.ms_gen.specs.Generator.{generated}
use Rattle.ms_words.specs.declared.commands.Command.{Command}
use Rattle.ms_words.specs.declared.commands.Command.TheVariants.{Instrument, Run, Check, CheckSchedules, Explain, Corpus, Gen, Help, Version}
use Rattle.ms_words.specs.declared.commands.WordsError.{WordsError}
use Rattle.ms_words.specs.Usage.{usage, version_line}
use Rattle.ms_words.specs.Words.{command_of, defaults, name_of, place_of}
use Rattle.ms_words.specs.declared.commands.Options.{Options}
use Rattle.ms_top.specs.Command.{form_of, files_of, only_input, setup_of, wanted_of}
use Rattle.ms_top.specs.Explained.{explained_with}
use Rattle.ms_top.specs.Files.{Counted, CanRead, FilesRead, Whole, Fault, Long}
use Rattle.ms_top.specs.Lines.{AreLines, fault_text_with}
use Rattle.ms_top.specs.Runs.{plain_under, plain_picks_under, plain_calls_under, plain_end_calls_under, plain_places_under, plain_told_under}
use Rattle.ms_top.specs.Statuses as statuses

abbrev pub answer_of : ℕ → List ℕ → List ℕ → Output
answer_of status out err = record { status = status; out = out; err = err }

-- an answer with nothing on the standard output
abbrev pub says : ℕ → List ℕ → Output
says status err = answer_of status [] err

-- both say that a use of a value isn't defined at one site, each with a path that shows it and the same lines under it
abbrev pub DifferInPath : Output → Output → Type 0
DifferInPath a b =
    (under : Lines) × (site : ℕ) × (p : List ℕ) × (q : List ℕ)
    × (a ≡ says statuses.refused (fault_text_with under (Undefined site p))) × (b ≡ says statuses.refused (fault_text_with under (Undefined site q)))

-- ---- the program itself

-- the answer of `help` is the usage
abbrev pub answer_of_help : Output
answer_of_help = answer_of statuses.done usage []

-- the answer of `version` is its line
abbrev pub answer_of_version : Output
answer_of_version = answer_of statuses.done version_line []

-- ---- a run

-- the status of a run without a report, which doesn't end as reported
abbrev pub end_status : End → ℕ
end_status (ends.Exit n) = statuses.done
end_status (ends.Trap kind site) = statuses.trapped
end_status ends.Reported = statuses.done
end_status ends.Spent = statuses.spent

-- a report decides first, then how the run ended
abbrev pub status_of : RunResult → ℕ
status_of r = if eqb (length r.reports) 0 then end_status r.«end» else statuses.reported

-- the closing lines, with those of the calls where it ended, with or without the verdict, and then those of the places of blind uses that
-- are told; `under` are the lines under each site
abbrev pub closing_text : Lines → (verdict : Bool) → Module → ToldRun → List ℕ
closing_text under verdict m t = closing_calling under m t.result t.end_calls verdict ++ places_with under m t.places

-- the lines of a run's reports, each with those of its calls that are told, and then these
abbrev pub run_text : Lines → (verdict : Bool) → Module → ToldRun → List ℕ
run_text under verdict m t = reports_calling under m t.calls 0 t.result.reports ++ closing_text under verdict m t

-- the answer for what is told of a module's run: its output, and those lines
abbrev pub answer_of_result : Lines → (verdict : Bool) → Module → ToldRun → Output
answer_of_result under verdict m t = answer_of (status_of t.result) t.result.output (run_text under verdict m t)

-- the answer that explains what is told of a module's run with a setup: its report with the way of the bits that this is about, where
-- calls are wanted with those at its root, and the closing lines with the verdict
abbrev pub answer_of_explained : Lines → (calls : Bool) → Module → Setup → ToldRun → Output
answer_of_explained under calls m s t = answer_of (status_of t.result) (explained_with under calls m s t) (closing_text under true m t)

-- ---- many schedules

-- the lines on the schedules that were tried; that of the run that is told is shown where the run isn't clean
abbrev pub tried_text : Explored → List ℕ
tried_text e = schedules_text e.tried e.all e.outcomes (not (is_clean (verdict_of e.result))) e.schedule

-- what is wanted of what is told of the run that exploring the schedules of a module tells
abbrev pub explored_told : Wanted → (threads : Bool) → Module → Setup → Explored → ToldRun
explored_told wanted threads m s e =
    told_as wanted e.result (plain_calls_under threads m s e.schedule) (plain_end_calls_under threads m s e.schedule) (plain_places_under threads m s e.schedule)

-- the answer for what exploring schedules tells: that for what is told of one run, with those lines
abbrev pub answer_of_explored : Lines → Module → Explored → ToldRun → Output
answer_of_explored under m e t = answer_of (status_of e.result) e.result.output (run_text under true m t ++ tried_text e)

-- ---- many runs

-- the first line of the section of a run: its number, how many bytes were output, and the name of its input
abbrev pub heading_of : (number : ℕ) → (name : List ℕ) → RunResult → List ℕ
heading_of number name r = codes "input " ++ decimal number ++ codes ", " ++ decimal (length r.output) ++ codes " bytes: " ++ name ++ codes "\n"

-- the section: that line, the output, a newline, the reports and the closing lines
abbrev pub section_of : Lines → Module → (number : ℕ) → (name : List ℕ) → ToldRun → List ℕ
section_of under m number name t = heading_of number name t.result ++ t.result.output ++ codes "\n" ++ run_text under true m t

-- the sections of runs with numbers from one on
abbrev pub sections_of : Lines → Module → (number : ℕ) → (names : List (List ℕ)) → List ToldRun → List ℕ
sections_of under m number [] rs = []
sections_of under m number names [] = []
sections_of under m number (name ∷ names) (r ∷ rs) = section_of under m number name r ++ sections_of under m (suc number) names rs

-- one of the runs has a status
abbrev pub has_status : ℕ → List ToldRun → Bool
has_status status rs = list_any (λ t. eqb (status_of t.result) status) rs

-- a report decides first, then a trap, then that a run is spent
abbrev pub status_of_all : List ToldRun → ℕ
status_of_all rs =
    if has_status statuses.reported rs then statuses.reported else if has_status statuses.trapped rs then statuses.trapped else if has_status statuses.spent rs then statuses.spent else statuses.done

-- the answer for the results of many runs
abbrev pub answer_of_results : Lines → Module → (names : List (List ℕ)) → List ToldRun → Output
answer_of_results under m names rs = answer_of (status_of_all rs) (sections_of under m 1 names rs) []

-- ---- threads

-- the answer of a command that takes no schedule: it refuses a module with threads
abbrev pub UnlessThreaded : (threads : Bool) → Output → Type 0 → Type 0
UnlessThreaded true a Is = a ≡ says statuses.refused threads_text
UnlessThreaded false a Is = Is

-- ---- from the words to the answer, for a pass that gives modules so

module _ (Gives : Module → Module → Type 0) where
  -- the answer of `instrument`: the text of a module that the pass gives
  abbrev pub IsAnswerOfInstrument : Module → Output → Type 0
  IsAnswerOfInstrument m a = (j : Module) × Gives m j × (a ≡ answer_of statuses.done (written j) [])

  -- the answer of `check`: of what is wanted of the run of a module that the pass gives, with the verdict; where the module has threads,
  -- under a schedule
  abbrev pub IsAnswerOfCheck : Lines → Wanted → Setup → (schedule : List ℕ) → Module → Output → Type 0
  IsAnswerOfCheck under wanted s schedule m a = (j : Module) × Gives m j × (a ≡ answer_of_result under true m (plain_told_under wanted (is_threaded m) j s schedule))

  -- the answer of `check` under several schedules: of what exploring tells of the runs of a module that the pass gives; where there are
  -- no threads there is one run
  abbrev pub IsAnswerOfSchedules : Lines → Wanted → Setup → (runs : ℕ) → Module → Output → Type 0
  IsAnswerOfSchedules under wanted s runs m a =
      (j : Module) × Gives m j × (e : Explored) × IsExplored (plain_picks_under (is_threaded m) j s) (plain_under (is_threaded m) j s) runs e
      × (a ≡ answer_of_explored under m e (explored_told wanted (is_threaded m) j s e))

  -- what explains a run of a module that the pass gives, and the moves of the shadow run of the module itself
  abbrev pub IsExplanation : Lines → Wanted → Setup → Module → Output → Type 0
  IsExplanation under wanted s m a = (j : Module) × Gives m j × (a ≡ answer_of_explained under wanted.calls m s (plain_wanted wanted j s))

  -- the answer of `explain`
  abbrev pub IsAnswerOfExplain : Lines → Wanted → Setup → Module → Output → Type 0
  IsAnswerOfExplain under wanted s m a = UnlessThreaded (is_threaded m) a (IsExplanation under wanted s m a)

  -- the sections of the runs on the inputs of a module that the pass gives
  abbrev pub AreSections : Lines → (names : List (List ℕ)) → Options → (inputs : List (List ℕ)) → Module → Output → Type 0
  AreSections under names options inputs m a =
      (j : Module) × Gives m j × (a ≡ answer_of_results under m names (map (λ input. plain_wanted (wanted_of options) j (setup_of options input)) inputs))

  -- the answer of `corpus`
  abbrev pub IsAnswerOfCorpus : Lines → (names : List (List ℕ)) → Options → (inputs : List (List ℕ)) → Module → Output → Type 0
  IsAnswerOfCorpus under names options inputs m a = UnlessThreaded (is_threaded m) a (AreSections under names options inputs m a)

  -- the answer of `gen` for the module that it makes: the module's text, or the summary of the run of a module that the
  -- pass gives, with no option given
  abbrev pub IsAnswerOfGen : (run : Bool) → Module → Output → Type 0
  IsAnswerOfGen false m a = a ≡ answer_of statuses.done (written m) []
  IsAnswerOfGen true m a =
      (j : Module) × Gives m j × (let r = plain_under (is_threaded m) j (setup_of defaults []) defaults.schedule in a ≡ answer_of (status_of r) (summary_of m r) [])

  -- the answer for a valid module, with these lines under each site; `run` runs it as it stands
  abbrev pub IsAnswerToValid : Lines → Command → List (List ℕ) → Module → Output → Type 0
  IsAnswerToValid under (Instrument file) inputs m a = IsAnswerOfInstrument m a
  IsAnswerToValid under (Run file options) inputs m a =
      a ≡ answer_of_result under false m (plain_told_under (wanted_of options) (is_threaded m) m (setup_of options (only_input inputs)) options.schedule)
  IsAnswerToValid under (Check file options) inputs m a = IsAnswerOfCheck under (wanted_of options) (setup_of options (only_input inputs)) options.schedule m a
  IsAnswerToValid under (CheckSchedules file options runs workers) inputs m a = IsAnswerOfSchedules under (wanted_of options) (setup_of options (only_input inputs)) runs m a
  IsAnswerToValid under (Explain file options) inputs m a = IsAnswerOfExplain under (wanted_of options) (setup_of options (only_input inputs)) m a
  IsAnswerToValid under (Corpus file names options workers) inputs m a = IsAnswerOfCorpus under names options inputs m a
  IsAnswerToValid under (Gen seed functions run) inputs m a = IsAnswerOfGen run m a
  IsAnswerToValid under Help inputs m a = a ≡ answer_of_help
  IsAnswerToValid under Version inputs m a = a ≡ answer_of_version

  -- the answer for a module: why it isn't valid, or else the answer for a valid one
  abbrev pub IsAnswerToModule : Lines → Command → List (List ℕ) → Module → Output → Type 0
  IsAnswerToModule under command inputs m a =
      ((fault : ModuleFault) × IsRefused m fault × (a ≡ says statuses.refused (fault_text_with under fault))) ⊎ (Valid m × IsAnswerToValid under command inputs m a)

  -- the answer for what reading a text comes to: a module, with the lines under its sites that the command asks for, or why
  -- there is none; running out of memory has an answer of its own
  abbrev pub IsAnswerToReading : Command → List (List ℕ) → List ℕ → Result Module ReadError → Output → Type 0
  IsAnswerToReading command inputs text (Ok m) a = (under : Lines) × AreLines command text m under × IsAnswerToModule under command inputs m a
  IsAnswerToReading command inputs text (Err e.NoMemory) a = ⊥
  IsAnswerToReading command inputs text (Err cause) a = a ≡ says statuses.refused (refusal_text (Read cause))

  -- the answer for a module's text: what it reads as in the form of the command, or why it isn't read, decides
  abbrev pub IsAnswerToText : Command → List (List ℕ) → List ℕ → Output → Type 0
  IsAnswerToText command inputs text a = (r : Result Module ReadError) × IsReading (form_of command) text r × IsAnswerToReading command inputs text r a

  -- the answer without a file, which `gen`, `help` and `version` have
  abbrev pub IsAnswerWithoutFile : Command → Output → Type 0
  IsAnswerWithoutFile (Gen seed functions run) a = IsAnswerOfGen run (generated seed functions) a
  IsAnswerWithoutFile Help a = a ≡ answer_of_help
  IsAnswerWithoutFile Version a = a ≡ answer_of_version
  IsAnswerWithoutFile command a = ⊥

  -- the answer for the texts of a command's files, the module's first
  abbrev pub IsAnswerToTexts : Command → List (List ℕ) → Output → Type 0
  IsAnswerToTexts command [] a = IsAnswerWithoutFile command a
  IsAnswerToTexts command (text ∷ inputs) a = IsAnswerToText command inputs text a

  -- the answer for what reading the files comes to
  abbrev pub IsAnswerToFiles : Command → FilesRead → Output → Type 0
  IsAnswerToFiles command (Whole texts) a = IsAnswerToTexts command texts a
  IsAnswerToFiles command (Fault name) a = a ≡ says statuses.file_fault (line (codes "file fault") name)
  IsAnswerToFiles command (Long name) a = a ≡ says statuses.too_long (line (codes "file too long") name)

  abbrev pub IsAnswerToCommand : Counted → Command → Output → Type 0
  IsAnswerToCommand c command a = (r : FilesRead) × CanRead c (files_of command) r × IsAnswerToFiles command r a

  -- the answer for what words come to: a command, or the first fault in them
  abbrev pub IsAnswerFor : Counted → Result Command WordsError → Output → Type 0
  IsAnswerFor c (Ok command) a = IsAnswerToCommand c command a
  IsAnswerFor c (Err fault) a = a ≡ says statuses.bad_words (words_text (name_of fault) (place_of fault))

  -- what a call with these words and these files is to say, but for running out of memory
  abbrev pub IsAnswer : Counted → List (List ℕ) → Output → Type 0
  IsAnswer c words a = IsAnswerFor c (command_of words) a

-- the answer where memory runs out
abbrev pub no_memory : Output
no_memory = says statuses.no_memory (codes "out of memory\n")

-- ---- what the sinks have then

-- what is written to two sinks: before, and after
pub record Written : Type 0 where
  pub out : Option (List ℕ)
  pub err : Option (List ℕ)
  pub out_after : Option (List ℕ)
  pub err_after : Option (List ℕ)

abbrev pub between : (out err out_after err_after : Option (List ℕ)) → Written
between out err out_after err_after = record { out = out; err = err; out_after = out_after; err_after = err_after }

-- both texts were written whole
pub record WritesWhole (w : Written) (a : Output) : Type 0 where
  pub out : w.out_after ≡ with_appended w.out a.out
  pub err : w.err_after ≡ with_appended w.err a.err

-- a first part of the two texts was written, the standard output's before the standard error's
abbrev pub WritesPart : Written → Output → Type 0
WritesPart w a =
    (AppendsPrefix w.out w.out_after a.out × (w.err_after ≡ w.err))
    ⊎ ((w.out_after ≡ with_appended w.out a.out) × AppendsPrefix w.err w.err_after a.err)

-- ---- the whole call

-- an answer of which so much is known, or running out of memory, was written whole, and has this status
abbrev pub IsWritten : (Output → Type 0) → Written → ℕ → Type 0
IsWritten Is w status = (a : Output) × ((Is a ⊎ (a ≡ no_memory)) × (a.status ≡ status) × WritesWhole w a)

-- a first part of such an answer was written
abbrev pub IsPartlyWritten : (Output → Type 0) → Written → Type 0
IsPartlyWritten Is w = (a : Output) × ((Is a ⊎ (a ≡ no_memory)) × WritesPart w a)

-- what these words ask for was said
abbrev pub IsSaid : (Module → Module → Type 0) → Counted → Written → List (List ℕ) → ℕ → Type 0
IsSaid Gives c w words status = IsWritten (IsAnswer Gives c words) w status

abbrev pub IsPartlySaid : (Module → Module → Type 0) → Counted → Written → List (List ℕ) → Type 0
IsPartlySaid Gives c w words = IsPartlyWritten (IsAnswer Gives c words) w

-- what a command asks for was said
abbrev pub IsDone : (Module → Module → Type 0) → Counted → Written → Command → ℕ → Type 0
IsDone Gives c w command status = IsWritten (IsAnswerToCommand Gives c command) w status

abbrev pub IsPartlyDone : (Module → Module → Type 0) → Counted → Written → Command → Type 0
IsPartlyDone Gives c w command = IsPartlyWritten (IsAnswerToCommand Gives c command) w

-- an answer that was found, or running out of memory where none was
abbrev pub IsFound : {E : Type 0} → Result Output E → Output → Type 0
IsFound (Ok b) a = a ≡ b
IsFound (Err e) a = a ≡ no_memory

-- it was written whole, and has this status
abbrev pub IsTold : {E : Type 0} → Result Output E → Written → ℕ → Type 0
IsTold r w status = (a : Output) × (IsFound r a × (a.status ≡ status) × WritesWhole w a)

-- a first part of it was written
abbrev pub IsPartlyTold : {E : Type 0} → Result Output E → Written → Type 0
IsPartlyTold r w = (a : Output) × (IsFound r a × WritesPart w a)
