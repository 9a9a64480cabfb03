-- What `check` and `explain` promise of the program, from what they are to say alone.
use Rattle.std.specs.Prelude.{◌≡◌, ◌≢◌, ◌<◌, ◌≤◌, ◌⊎◌, ℕ, Bool, true, false, All, List, [], ◌∷◌, ◌++◌, length, map, if◌then◌else◌, codes}
use Rattle.ms_ir.specs.declared.forms.Form.TheVariants.{Plain}
use Rattle.ms_ir.specs.declared.syntax.Module.{Module}
use Rattle.ms_ir.specs.Instructions.{NoMarks}
use Rattle.ms_ir.specs.ThreadCalls.{is_threaded}
use Rattle.ms_runs.specs.Calls.{shadow_calls}
use Rattle.ms_runs.specs.Faithful.{Fair}
use Rattle.ms_runs.specs.Masks.{by_completions}
use Rattle.ms_runs.specs.Plain.{PlainState, Stepped, plain_start, setting_of}
use Rattle.ms_runs.specs.Shadow.{shadow, shadow_start, shadow_step}
use Rattle.ms_runs.specs.Verdict.{Clean, verdict_of}
use Rattle.ms_runs.specs.declared.runs.Setup.{Setup}
use Rattle.ms_text_grammar.specs.Texts.{Reads}
use Rattle.ms_check_valid.specs.Formed.{Formed}
use Rattle.ms_check_valid.specs.Valid.{Valid}
use Rattle.ms_runs_fills_laws.specs.Changing.{ComesTo, shown_by}
use Rattle.ms_runs_fills_laws.specs.CallsAlike.{CallsUnderFills}
use Rattle.ms_runs_fills_laws.specs.Checked.{HoldsUnderFills}
use Rattle.ms_runs_fills_laws.specs.Chosen.{HoldsUnderChoices}
use Rattle.ms_runs_good_laws.specs.Fills.{SameShown, to_first_report}
use Rattle.ms_trail_moves.specs.declared.moves.Source.{Source}
use Rattle.ms_trail_moves.specs.declared.moves.Move.{Move}
use Rattle.ms_trail_moves.specs.declared.moves.Hop.{Hop}
use Rattle.ms_trail_moves.specs.Leads.{Leads}
use Rattle.ms_trail_moves.specs.Traces.{trace, Found}
use Rattle.ms_trail_laws.specs.FromReached.{FromReached}
use Rattle.ms_trail_laws.specs.Staying.{ReadsToReport}
use Rattle.ms_threads_schedules_laws.specs.Promise.{RunsAsOne, schedules_tried}
use Rattle.ms_threads_explore.specs.declared.explorer.Explored.{Explored}
use Rattle.ms_threads_explore.specs.Explorations.{IsExplored}
use Rattle.ms_report.specs.RunTexts.{line}
use Rattle.ms_report.specs.TrailTexts.{trail_calling}
use Rattle.ms_report.specs.WithLines.{Lines}
use Rattle.ms_report.specs.CallTexts.{reports_calling}
use Rattle.ms_corpus.specs.Wanted.{told_as, shadow_wanted}
use Rattle.ms_report.specs.RefusalTexts.{threads_text}
use Rattle.ms_words.specs.declared.commands.Command.{Command}
use Rattle.ms_words.specs.declared.commands.Command.TheVariants.{Check, CheckSchedules, Corpus, Explain}
use Rattle.ms_words.specs.declared.commands.Options.{Options}
use Rattle.ms_top.specs.declared.output.Output.{Output}
use Rattle.ms_top.specs.Command.{files_of, only_input, setup_of, wanted_of}
use Rattle.ms_top.specs.Files.{Counted, CanRead, Whole, Fault, Long}
use Rattle.ms_top.specs.Lines.{AreLines}
use Rattle.ms_top.specs.Explained.{too_long, no_report, root_calls}
use Rattle.ms_top.specs.Runs.{shadow_under, shadow_picks_under, shadow_calls_under, shadow_end_calls_under, shadow_places_under, shadow_told_under, HoldsUnder, CallsHoldUnder}
use Rattle.ms_top.specs.Said.{answer_of_result, answer_of_results, answer_of_explained, answer_of_explored, says}
use Rattle.ms_top.specs.Statuses as statuses

-- the answer that a file can't be read: the first of these files that isn't read whole is at fault, and the answer names it
abbrev pub IsFileFault : Counted → List (List ℕ × ℕ) → Output → Type 0
IsFileFault c files a = (name : List ℕ) × CanRead c files (Fault name) × (a ≡ says statuses.file_fault (line (codes "file fault") name))

-- the answer that a file is too long: the first of these files that isn't read whole has more bytes than its limit, and the
-- answer names it
abbrev pub IsFileTooLong : Counted → List (List ℕ × ℕ) → Output → Type 0
IsFileTooLong c files a = (name : List ℕ) × CanRead c files (Long name) × (a ≡ says statuses.too_long (line (codes "file too long") name))

-- the answer that a text is refused: the files were read, and the first text isn't that of a valid module
abbrev pub IsTextRefused : Counted → List (List ℕ × ℕ) → Output → Type 0
IsTextRefused c files a =
    (a.status ≡ statuses.refused) × ((text : List ℕ) × (inputs : List (List ℕ)) × CanRead c files (Whole (text ∷ inputs)) × ((m : Module) → Reads Plain text m → Valid m → ⊥))

-- nothing was run and nothing printed on the standard output, for one of these three reasons
pub record NothingRan (c : Counted) (files : List (List ℕ × ℕ)) (a : Output) : Type 0 where
  pub out : a.out ≡ []
  pub why : IsFileFault c files a ⊎ (IsFileTooLong c files a ⊎ IsTextRefused c files a)

-- where the verdict of a shadow run is clean, the program itself prints the same and ends in the same way, also where uninitialised
-- bits change before each step
abbrev pub HoldsUnderChanges : Module → Setup → Type 0
HoldsUnderChanges m s =
    verdict_of (shadow m s) ≡ Clean → (z : Stepped PlainState) → ComesTo (shadow_step by_completions (setting_of m s) m) m s s.steps (shadow_start m s) (plain_start m s) z
    → SameShown (shown_by z) (shadow m s)

-- A text was read as a valid module, and the answer a says what the module's shadow run with a fair setup is, with the lines that
-- are asked for; where it has threads, under the schedule that is asked for. A clean verdict and a first report with its calls hold under
-- every fill, a clean verdict without threads also where each step has a fill of its own, and where uninitialised bits change between
-- steps
pub record ShadowShown (c : Counted) (file : List ℕ) (o : Options) (a : Output) : Type 0 where
  pub text : List ℕ
  pub inputs : List (List ℕ)
  pub read : CanRead c (files_of (Check file o)) (Whole (text ∷ inputs))
  pub module_read : Module
  pub reads : Reads Plain text module_read
  pub formed : Formed module_read
  pub valid : Valid module_read
  pub unmarked : NoMarks module_read
  pub under : Lines
  pub lines : AreLines (Check file o) text module_read under
  pub fair : Fair (setup_of o (only_input inputs))
  pub shown : a ≡ answer_of_result under true module_read (shadow_told_under (wanted_of o) (is_threaded module_read) module_read (setup_of o (only_input inputs)) o.schedule)
  pub fills : HoldsUnder (is_threaded module_read) module_read (setup_of o (only_input inputs)) o.schedule
      (shadow_under (is_threaded module_read) module_read (setup_of o (only_input inputs)) o.schedule)
  pub calls_hold : CallsHoldUnder (is_threaded module_read) module_read (setup_of o (only_input inputs)) o.schedule
  pub choices : is_threaded module_read ≡ false → HoldsUnderChoices module_read (setup_of o (only_input inputs)) (shadow module_read (setup_of o (only_input inputs)))
  pub changes : is_threaded module_read ≡ false → HoldsUnderChanges module_read (setup_of o (only_input inputs))

-- A text was read as a valid module, and the answer a says what exploring the schedules of its shadow runs with a fair setup tells, with
-- the lines that are asked for: at most so many runs were made, up to the first that isn't clean. The run that is told is the one under
-- the schedule that is told, and what its verdict and its first report say holds under every fill. Where these are all schedules that
-- there are and that run is clean, the program runs under each schedule and under every fill as one of those runs does, with no report
-- and no blind use
pub record SchedulesShown (c : Counted) (file : List ℕ) (o : Options) (runs workers : ℕ) (a : Output) : Type 0 where
  pub text : List ℕ
  pub inputs : List (List ℕ)
  pub read : CanRead c (files_of (CheckSchedules file o runs workers)) (Whole (text ∷ inputs))
  pub module_read : Module
  pub reads : Reads Plain text module_read
  pub formed : Formed module_read
  pub valid : Valid module_read
  pub unmarked : NoMarks module_read
  pub under : Lines
  pub lines : AreLines (CheckSchedules file o runs workers) text module_read under
  pub fair : Fair (setup_of o (only_input inputs))
  pub explored : Explored
  pub explores : IsExplored (shadow_picks_under (is_threaded module_read) module_read (setup_of o (only_input inputs)))
      (shadow_under (is_threaded module_read) module_read (setup_of o (only_input inputs))) runs explored
  pub shown : a ≡ answer_of_explored under module_read explored (told_as (wanted_of o) explored.result
      (shadow_calls_under (is_threaded module_read) module_read (setup_of o (only_input inputs)) explored.schedule)
      (shadow_end_calls_under (is_threaded module_read) module_read (setup_of o (only_input inputs)) explored.schedule)
      (shadow_places_under (is_threaded module_read) module_read (setup_of o (only_input inputs)) explored.schedule))
  pub repeats : shadow_under (is_threaded module_read) module_read (setup_of o (only_input inputs)) explored.schedule ≡ explored.result
  pub fills : HoldsUnder (is_threaded module_read) module_read (setup_of o (only_input inputs)) explored.schedule explored.result
  pub calls_hold : CallsHoldUnder (is_threaded module_read) module_read (setup_of o (only_input inputs)) explored.schedule
  pub all : is_threaded module_read ≡ true → explored.all ≡ true → verdict_of explored.result ≡ Clean
      → RunsAsOne module_read (setup_of o (only_input inputs)) (schedules_tried module_read (setup_of o (only_input inputs)) runs)

-- A text was read as a valid module with threads, which a command refuses
pub record ThreadsRefused (c : Counted) (command : Command) (a : Output) : Type 0 where
  pub text : List ℕ
  pub inputs : List (List ℕ)
  pub read : CanRead c (files_of command) (Whole (text ∷ inputs))
  pub module_read : Module
  pub reads : Reads Plain text module_read
  pub valid : Valid module_read
  pub threads : is_threaded module_read ≡ true
  pub refused : a ≡ says statuses.refused threads_text

-- the lines of the report of a shadow run, with those of its calls where they are wanted
abbrev pub told_reports : Lines → (calls : Bool) → Module → Setup → List ℕ
told_reports under calls m setup = reports_calling under m (if calls then shadow_calls m setup else []) 0 (shadow m setup).reports

-- The text that explains a run with a report: the moves before it are too many, or it shows a way over them. That begins at a root
-- which the run had reached, each hop's target is what the next hop reads, and the last is what the report's use reads. The same bits
-- of each place stay poisoned until the next hop, or the use, reads it
pub record ShowsWay (under : Lines) (calls : Bool) (m : Module) (setup : Setup) (text : List ℕ) : Type 0 where
  pub moves : List Move
  pub at : Source
  pub traced : trace m setup ≡ Found moves at
  pub shown : ((4194304 < length moves) × (text ≡ told_reports under calls m setup ++ too_long))
      ⊎ ((length moves ≤ 4194304) × (way : FromReached m (to_first_report setup) moves at) × (text ≡ told_reports under calls m setup ++ trail_calling under m moves at way.hops (root_calls calls m setup moves way.hops)))
  pub stays : (hops : List Hop) → Leads moves at hops → ReadsToReport m (to_first_report setup) moves at hops

-- The answer a explains what `check` says of the same files with the same options, and shows the way of a report's bits where there
-- is one
pub record WayShown (c : Counted) (file : List ℕ) (o : Options) (a : Output) : Type 0 where
  pub checked : Output
  pub shadow_shown : ShadowShown c file o checked
  pub alone : is_threaded shadow_shown.module_read ≡ false
  pub explained : a ≡ answer_of_explained shadow_shown.under o.calls shadow_shown.module_read (setup_of o (only_input shadow_shown.inputs)) (shadow_wanted (wanted_of o) shadow_shown.module_read (setup_of o (only_input shadow_shown.inputs)))
  pub way : (shadow shadow_shown.module_read (setup_of o (only_input shadow_shown.inputs))).reports ≢ [] → ShowsWay shadow_shown.under o.calls shadow_shown.module_read (setup_of o (only_input shadow_shown.inputs)) a.out
  pub none : (shadow shadow_shown.module_read (setup_of o (only_input shadow_shown.inputs))).reports ≡ [] → a.out ≡ no_report

-- what is said of one of the inputs of a corpus holds: under every fill, also where each step has one of its own, and where
-- uninitialised bits change between steps
pub record InputHolds (m : Module) (setup : Setup) : Type 0 where
  pub fair : Fair setup
  pub fills : HoldsUnderFills m setup (shadow m setup)
  pub calls_hold : CallsUnderFills m setup (shadow m setup).blind (shadow_calls m setup)
  pub choices : HoldsUnderChoices m setup (shadow m setup)
  pub changes : HoldsUnderChanges m setup

-- A text was read as a valid module, and the answer a has a section for the module's shadow run on each input, with a fair setup
pub record CorpusShown (c : Counted) (file : List ℕ) (names : List (List ℕ)) (o : Options) (workers : ℕ) (a : Output) : Type 0 where
  pub text : List ℕ
  pub inputs : List (List ℕ)
  pub read : CanRead c (files_of (Corpus file names o workers)) (Whole (text ∷ inputs))
  pub module_read : Module
  pub reads : Reads Plain text module_read
  pub formed : Formed module_read
  pub valid : Valid module_read
  pub unmarked : NoMarks module_read
  pub alone : is_threaded module_read ≡ false
  pub under : Lines
  pub lines : AreLines (Corpus file names o workers) text module_read under
  pub shown : a ≡ answer_of_results under module_read names (map (λ input. shadow_wanted (wanted_of o) module_read (setup_of o input)) inputs)
  pub holds : All (λ input. InputHolds module_read (setup_of o input)) inputs
