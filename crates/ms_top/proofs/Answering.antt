-- From what the parts of an answer are to what the answer is.
use Rattle.std.proofs.Common.{◌≡◌, ◌≢◌, ℕ, Bool, suc, ◌^◌, ◌<◌, ◌≤◌, true, false, List, [], ◌∷◌, ◌++◌, length, append-nil, Option, Some, None, Result, Ok, Err, refl, ap, ap₂, sym, ◌∙◌, subst, inl, inr, arith}
use Rattle.std.specs.Prelude.{get_or, map, slice_index_or, nat_lt, is_none, IfSome, IsTrue}
use Rattle.std.proofs.lemmas.Bool.{true≢false, and_from, lt-ltb}
use Rattle.ms_lex.specs.declared.errors.LexError.{LexError}
use Rattle.ms_lex.specs.declared.errors.LexError.TheVariants as lexing
use Rattle.ms_lex.specs.declared.kinds.Token.{Token}
use Rattle.ms_lex.specs.Tokens.{tokens_of}
use Rattle.ms_ir.specs.declared.syntax.Module.{Module}
use Rattle.ms_ir.specs.ThreadCalls.{is_threaded}
use Rattle.ms_runtime.specs.declared.runs.ToldRun.{ToldRun}
use Rattle.ms_corpus.specs.declared.wanted.Wanted.{Wanted}
use Rattle.ms_corpus.specs.Wanted.{plain_wanted}
use Rattle.ms_runs.specs.declared.runs.Setup.{Setup}
use Rattle.ms_runs.specs.Limits.{WithinLimits as RunFits}
use Rattle.ms_ir.specs.declared.forms.Form.{Form}
use Rattle.ms_ir.specs.declared.forms.Form.TheVariants.{Plain}
use Rattle.ms_text_grammar.specs.declared.refusals.Cause.{Cause}
use Rattle.ms_text_grammar.specs.declared.refusals.Cause.TheVariants as refusal
use Rattle.ms_text_grammar.specs.Causes.{printed_number}
use Rattle.ms_text_grammar.specs.Texts.{HasTokens, Reads, max_tokens}
use Rattle.ms_read_body.specs.Calls.{what_of}
use Rattle.ms_read_body.specs.declared.errors.What.{What}
use Rattle.ms_read_body.specs.declared.errors.ReadError.{ReadError}
use Rattle.ms_read_body.specs.declared.errors.ReadError.TheVariants as e
use Rattle.ms_read_top.specs.Reading.{IsTextRefused, AnswersExactly, IsReading}
use Rattle.ms_check_valid.specs.Formed.{Formed}
use Rattle.ms_check_valid.specs.FormedNames.{are_bytes}
use Rattle.ms_check_valid.specs.Refusals.{Fault, IsRefused}
use Rattle.ms_check.specs.declared.errors.CheckError.{CheckError}
use Rattle.ms_check.specs.Faults.{fault_of}
use Rattle.ms_check_valid.specs.Uninstrumented.{CanInstrument}
use Rattle.ms_text_laws.proofs.FormedModules.{read_formed}
use Rattle.ms_text_laws.proofs.SmallLimits.{can_instrument}
use Rattle.ms_top.specs.declared.output.Output.{Output}
use Rattle.ms_top.specs.declared.schedules.ToldBeside.{ToldBeside}
use Rattle.ms_words.specs.declared.commands.Command.{Command}
use Rattle.ms_words.specs.declared.commands.Command.TheVariants.{Instrument, Run, Check, CheckSchedules, Explain, Corpus, Gen, Help, Version}
use Rattle.ms_words.specs.declared.commands.Options.{Options}
use Rattle.ms_report.specs.declared.refusals.Refusal.TheVariants.{Read as Of, Check as OfCheck}
use Rattle.ms_words.specs.Limits.{RunsWithinLimits}
use Rattle.ms_where_places.specs.declared.marks.Mark.{Mark}
use Rattle.ms_where_places.specs.Marks.{AreMarks}
use Rattle.ms_where.specs.Lines.{lines_of_site}
use Rattle.ms_top.specs.Command.{form_of, located_file, input_limit, only_input, setup_of, wanted_of}
use Rattle.ms_top.specs.Lines.{AreLinesIn, AreLines}
use Rattle.ms_corpus.specs.Jobs.{with_input}
use Rattle.ms_threads_explore.specs.declared.explorer.Explored.{Explored}
use Rattle.ms_threads_explore.specs.Explorations.{IsExplored}
use Rattle.ms_top.specs.Parts.{beside_of, told_with, AreShort, AreWithinLimits, IsExploredOfGiven, IsReady, IsRunOfGiven, AreRunsOfGiven}
use Rattle.ms_report.specs.FaultTexts.{fault_line}
use Rattle.ms_report.specs.WithLines.{Lines, no_lines, under_line, fault_site, refusal_text_with}
use Rattle.ms_report.specs.RefusalTexts.{IsNumbered, IsReadRefusal, refusal_text, threads_text, wants_memory}
use Rattle.ms_words.specs.Words.{defaults}
use Rattle.ms_threads.specs.Faithful.{IsSchedule}
use Rattle.ms_top.specs.Runs.{plain_under, plain_picks_under, plain_told_under}
use Rattle.ms_report.specs.SummaryTexts.{summary_of}
use Rattle.ms_top.specs.Said.{says, answer_of, answer_of_explored, answer_of_result, answer_of_results, explored_told, status_of, UnlessThreaded, IsAnswerOfCheck, IsAnswerOfSchedules, AreSections, IsAnswerOfGen, IsAnswerToValid, IsAnswerToModule, IsAnswerToReading, IsAnswerToText}

-- ---- runs

-- the setup of options within the limits is within them, with an input of at most the limit
pub within : (o : Options) (input : List ℕ) (s : Setup) → RunsWithinLimits o → length input ≤ input_limit → s ≡ setup_of o input → RunFits s
within o input s fit short is = subst RunFits (sym is) (record {
  input = omega (arith, short);
  filled = fit.filled;
  fill = fit.fill;
  steps = fit.steps;
  some_reports = fit.some_reports;
  reports = fit.reports;
})

-- so is the one input of a run, where all inputs are short
pub short_input : (inputs : List (List ℕ)) → AreShort inputs → length (only_input inputs) ≤ input_limit
short_input [] short = omega arith
short_input (input ∷ rest) short = short 0 [] (omega arith)

-- its schedule isn't empty
pub scheduled : (o : Options) (schedule : List ℕ) → RunsWithinLimits o → schedule ≡ o.schedule → IsSchedule schedule
scheduled o schedule fit is = let some : 1 ≤ length schedule = subst (λ bytes. 1 ≤ length bytes) (sym is) fit.scheduled in omega (arith, some)

-- ---- threads

-- a module with threads is refused, and one without is answered
pub threads_refused : (m : Module) (a : Output) (Is : Type 0) → is_threaded m ≡ true → a ≡ says 5 threads_text → UnlessThreaded (is_threaded m) a Is
threads_refused m a Is threads is = subst (λ t. UnlessThreaded t a Is) (sym threads) is

pub alone_answered : (m : Module) (a : Output) (Is : Type 0) → is_threaded m ≡ false → Is → UnlessThreaded (is_threaded m) a Is
alone_answered m a Is alone is = subst (λ t. UnlessThreaded t a Is) (sym alone) is

-- ---- valid modules

-- the run of the module as it is
pub run_answer : (under : Lines) (m n : Module) (wanted : Wanted) (threads : Bool) (s t : Setup) (schedule picks : List ℕ) (r : ToldRun) (a : Output) → n ≡ m → threads ≡ is_threaded m → s ≡ t → schedule ≡ picks
    → r ≡ plain_told_under wanted threads m s schedule → a ≡ answer_of_result under false n r → a ≡ answer_of_result under false m (plain_told_under wanted (is_threaded m) m t picks)
run_answer under m n wanted threads s t schedule picks r a same known given alike runs is =
    let run : r ≡ plain_told_under wanted (is_threaded m) m t picks = runs ∙ ap (λ b. plain_told_under wanted b m s schedule) known ∙ ap₂ (plain_told_under wanted (is_threaded m) m) given alike in
    is ∙ ap (λ k. answer_of_result under false k r) same ∙ ap (answer_of_result under false m) run

-- what is said of a module for a command is said for the same command
pub same_valid : (Gives : Module → Module → Type 0) (under : Lines) (command other : Command) (inputs : List (List ℕ)) (m : Module) (a : Output) → command ≡ other
    → IsAnswerToValid Gives under other inputs m a → IsAnswerToValid Gives under command inputs m a
same_valid Gives under command other inputs m a is answers = subst (λ c. IsAnswerToValid Gives under c inputs m a) (sym is) answers

pub check_answer : (Gives : Module → Module → Type 0) (under : Lines) (m n : Module) (wanted : Wanted) (s t : Setup) (schedule picks : List ℕ) (r : ToldRun) (a : Output) → n ≡ m → s ≡ t → schedule ≡ picks
    → IsRunOfGiven Gives m s schedule wanted r → a ≡ answer_of_result under true n r → IsAnswerOfCheck Gives under wanted t picks m a
check_answer Gives under m n wanted s t schedule picks r a same given alike q is =
    (q.0, q.1, is ∙ ap (λ k. answer_of_result under true k r) same ∙ ap (answer_of_result under true m) (q.2 ∙ ap₂ (plain_told_under wanted (is_threaded m) q.0) given alike))

-- what exploring tells
pub schedules_answer : (Gives : Module → Module → Type 0) (under : Lines) (m n : Module) (wanted : Wanted) (s t : Setup) (runs : ℕ) (e : Explored) (beside : ToldBeside) (a : Output) → n ≡ m → s ≡ t
    → IsExploredOfGiven Gives m s runs wanted e beside → a ≡ answer_of_explored under n e (told_with e beside) → IsAnswerOfSchedules Gives under wanted t runs m a
schedules_answer Gives under m n wanted s t runs e beside a same given q is = (
  q.0,
  q.1,
  e,
  subst (λ (setup : Setup). IsExplored (plain_picks_under (is_threaded m) q.0 setup) (plain_under (is_threaded m) q.0 setup) runs e) given q.2,
  is ∙ ap (λ (k : Module). answer_of_explored under k e (told_with e beside)) same
      ∙ ap (λ (b : ToldBeside). answer_of_explored under m e (told_with e b)) (q.3 ∙ ap (λ (setup : Setup). beside_of (explored_told wanted (is_threaded m) q.0 setup e)) given),
)

-- the runs on many inputs
pub corpus_answer : (Gives : Module → Module → Type 0) (under : Lines) (m n : Module) (names : List (List ℕ)) (o : Options) (s : Setup) (inputs : List (List ℕ)) (rs : List ToldRun) (a : Output) → n ≡ m → s ≡ setup_of o []
    → AreRunsOfGiven Gives m s (wanted_of o) inputs rs → a ≡ answer_of_results under n names rs → AreSections Gives under names o inputs m a
corpus_answer Gives under m n names o s inputs rs a same given q is =
    let runs : rs ≡ map (λ input. plain_wanted (wanted_of o) q.0 (setup_of o input)) inputs = q.2 ∙ ap (λ t. map (λ input. plain_wanted (wanted_of o) q.0 (with_input t input)) inputs) given in
    (q.0, q.1, is ∙ ap (λ k. answer_of_results under k names rs) same ∙ ap (answer_of_results under m names) runs)

-- with each of some short inputs options within the limits are within them
pub all_within : (o : Options) (s : Setup) (inputs : List (List ℕ)) → RunsWithinLimits o → AreShort inputs → s ≡ setup_of o [] → AreWithinLimits s inputs
all_within o s inputs fit short is n d below = within o (get_or inputs n d) (with_input s (get_or inputs n d)) fit (short n d below) (ap (λ t. with_input t (get_or inputs n d)) is)

-- the summary of that run
pub summary_answer : (Gives : Module → Module → Type 0) (m n : Module) (s : Setup) (schedule : List ℕ) (told : ToldRun) (a : Output) → n ≡ m → s ≡ setup_of defaults [] → schedule ≡ defaults.schedule
    → IsRunOfGiven Gives m s schedule (record { calls = false; places = false }) told → a ≡ answer_of (status_of told.result) (summary_of n told.result) [] → IsAnswerOfGen Gives true m a
summary_answer Gives m n s schedule told a same given picks q is =
    let r = told.result in
    let run : r ≡ plain_under (is_threaded m) q.0 (setup_of defaults []) defaults.schedule = ap (λ (t : ToldRun). t.result) q.2 ∙ ap₂ (plain_under (is_threaded m) q.0) given picks in
    (q.0, q.1, is ∙ ap (λ k. answer_of (status_of r) (summary_of k r) []) same ∙ ap (λ x. answer_of (status_of x) (summary_of m x) []) run)

-- ---- validity

faulty : (Gives : Module → Module → Type 0) (under : Lines) (command : Command) (inputs : List (List ℕ)) (m : Module) (o : Option Fault) (a : Output) → IfSome o (IsRefused m) → is_none o ≡ false
    → a ≡ says 5 (fault_line o ++ under_line under (fault_site o)) → IsAnswerToModule Gives under command inputs m a
faulty Gives under command inputs m None a refused h is = absurd (true≢false h)
faulty Gives under command inputs m (Some fault) a refused h is = inl (fault, refused, is)

pub invalid_answer : (Gives : Module → Module → Type 0) (under : Lines) (command : Command) (inputs : List (List ℕ)) (m : Module) (cause : CheckError) (a : Output)
    → IfSome (fault_of cause) (IsRefused m) → wants_memory (OfCheck cause) ≡ false → a ≡ says 5 (refusal_text_with under (OfCheck cause)) → IsAnswerToModule Gives under command inputs m a
invalid_answer Gives under command inputs m cause a refused h is = faulty Gives under command inputs m (fault_of cause) a refused h is

-- ---- texts

-- what reading a text answers
pub record Read (form : Form) (text : List ℕ) (r : Result Module ReadError) : Type 0 where
  pub «module» : (m : Module) → AnswersExactly r (Ok m) (Reads form text m)
  pub lex : (cause : LexError) → AnswersExactly r (Err (e.Lex cause)) (tokens_of text (max_tokens form) ≡ Err cause)
  pub refused : (number : ℕ) (w : What) (token place : ℕ) → AnswersExactly r (Err (e.Refused number w token place)) (IsTextRefused form text number w token place)
  pub wanting : r ≢ Err (e.Lex lexing.NoMemory)

reading_is : (form : Form) (text : List ℕ) (r : Result Module ReadError) → Read form text r → IsReading form text r
reading_is form text (Ok m) read = (read.«module» m).0 refl
reading_is form text (Err (e.Lex cause)) read = ((read.lex cause).0 refl, λ none. read.wanting (ap (λ c. Err (e.Lex c)) none))
reading_is form text (Err (e.Refused number w token place)) read = (read.refused number w token place).0 refl
reading_is form text (Err e.NoMemory) read = tt

-- a module that is read in the plain form can be instrumented
read_plain : (form : Form) (text : List ℕ) (r : Result Module ReadError) (m : Module) → form ≡ Plain → Read form text r → r ≡ Ok m → CanInstrument m
read_plain form text r m same read is = can_instrument text m (subst (λ f. Reads f text m) same ((read.«module» m).0 is))

-- so what is read for a command is as the command needs it
pub ready : (command : Command) (form : Form) (text : List ℕ) (r : Result Module ReadError) (m : Module) → form ≡ form_of command → Read form text r → r ≡ Ok m
    → IsReady command m
ready (Instrument file) form text r m same read is = read_plain form text r m same read is
ready (Run file o) form text r m same read is = tt
ready (Check file o) form text r m same read is = read_plain form text r m same read is
ready (CheckSchedules file o runs workers) form text r m same read is = read_plain form text r m same read is
ready (Explain file o) form text r m same read is = read_plain form text r m same read is
ready (Corpus file inputs o workers) form text r m same read is = read_plain form text r m same read is
ready (Gen seed functions run) form text r m same read is = read_plain form text r m same read is
ready Help form text r m same read is = read_plain form text r m same read is
ready Version form text r m same read is = read_plain form text r m same read is

-- numbers that are bytes pass the test for it
bytes_pass : (text : List ℕ) → ((i : ℕ) → slice_index_or text i 0 < 2 ^ 8) → IsTrue (are_bytes text)
bytes_pass [] fit = refl
bytes_pass (b ∷ rest) fit = and_from (nat_lt b 256) (are_bytes rest) (lt-ltb b 256 (fit 0)) (bytes_pass rest (λ i. fit (suc i)))

-- a module that is read from bytes is formed
pub formed : (form : Form) (text : List ℕ) (r : Result Module ReadError) (m : Module) → ((i : ℕ) → slice_index_or text i 0 < 2 ^ 8) → Read form text r → r ≡ Ok m → Formed m
formed form text r m fit read is = read_formed form text m (bytes_pass text fit) ((read.«module» m).0 is)

same_number : {m n : ℕ} → Some m ≡ Some n → m ≡ n
same_number h = cc

-- the number of a cause fits what it names
fits : (cause : Cause) (number : ℕ) → printed_number cause ≡ Some number → IsNumbered number (what_of cause)
fits refusal.Syntax number h = inl (sym (same_number h))
fits (refusal.Outside construct) number h = sym (same_number h)
fits (refusal.Limit limit) number h = sym (same_number h)
fits refusal.Numbering number h = inr (inl (sym (same_number h)))
fits refusal.Reserved number h = inr (inr (sym (same_number h)))
fits refusal.NoMemory number h = absurd cc

numbered : (form : Form) (text : List ℕ) (number : ℕ) (w : What) (token place : ℕ) → IsTextRefused form text number w token place → IsNumbered number w
numbered form text number w token place is = subst (IsNumbered number) (sym is.named) (fits is.cause number is.numbered)

lexer_has_line : (cause : LexError) → cause ≢ lexing.NoMemory → IsReadRefusal (e.Lex cause)
lexer_has_line (lexing.BadByte place) some = tt
lexer_has_line (lexing.OpenString place) some = tt
lexer_has_line lexing.TooManyTokens some = tt
lexer_has_line lexing.NoMemory some = some refl

error_has_line : (form : Form) (text : List ℕ) (cause : ReadError) → IsReading form text (Err cause) → wants_memory (Of cause) ≡ false → IsReadRefusal cause
error_has_line form text (e.Lex cause) is some = lexer_has_line cause is.1
error_has_line form text (e.Refused number w token place) is some = numbered form text number w token place is
error_has_line form text e.NoMemory is some = absurd (true≢false some)

pub has_line : (form : Form) (text : List ℕ) (r : Result Module ReadError) (cause : ReadError) → Read form text r → r ≡ Err cause → wants_memory (Of cause) ≡ false → IsReadRefusal cause
has_line form text r cause read is some = error_has_line form text cause (subst (IsReading form text) is (reading_is form text r read)) some

-- the lines under each site of the module that a text reads as, where the command asks for none
pub none_shown : (command : Command) (text : List ℕ) (m : Module) → located_file command ≡ None → AreLines command text m no_lines
none_shown command text m none = subst (λ o. AreLinesIn o (form_of command) text m no_lines) (sym none) refl

-- where it asks for them
pub lines_shown : (command : Command) (file text : List ℕ) (tokens : List Token) (marks : List Mark) (m : Module) (under : Lines) → located_file command ≡ Some file
    → HasTokens (form_of command) text tokens → AreMarks (form_of command) text tokens marks → under ≡ lines_of_site file (record { text = text; tokens = tokens; marks = marks }) m
    → AreLines command text m under
lines_shown command file text tokens marks m under named has are is = subst (λ o. AreLinesIn o (form_of command) text m under) (sym named) (tokens, has, marks, are, is)

pub module_answer : (Gives : Module → Module → Type 0) (command : Command) (inputs : List (List ℕ)) (form : Form) (text : List ℕ) (r : Result Module ReadError) (m : Module) (a : Output)
    → form ≡ form_of command → Read form text r → r ≡ Ok m → IsAnswerToReading Gives command inputs text (Ok m) a → IsAnswerToText Gives command inputs text a
module_answer Gives command inputs form text r m a same read is answers =
    (Ok m, subst (λ f. IsReading f text (Ok m)) same (subst (IsReading form text) is (reading_is form text r read)), answers)

error_answer : (Gives : Module → Module → Type 0) (command : Command) (inputs : List (List ℕ)) (text : List ℕ) (cause : ReadError) (a : Output) → wants_memory (Of cause) ≡ false
    → a ≡ says 5 (refusal_text (Of cause)) → IsAnswerToReading Gives command inputs text (Err cause) a
error_answer Gives command inputs text (e.Lex cause) a some is = is
error_answer Gives command inputs text (e.Refused number w token place) a some is = is
error_answer Gives command inputs text e.NoMemory a some is = absurd (true≢false some)

pub refusal_answer : (Gives : Module → Module → Type 0) (command : Command) (inputs : List (List ℕ)) (form : Form) (text : List ℕ) (r : Result Module ReadError) (cause : ReadError) (a : Output)
    → form ≡ form_of command → Read form text r → r ≡ Err cause → wants_memory (Of cause) ≡ false → a ≡ says 5 (refusal_text_with no_lines (Of cause)) → IsAnswerToText Gives command inputs text a
refusal_answer Gives command inputs form text r cause a same read is some answers =
    let line : a ≡ says 5 (refusal_text (Of cause)) = answers ∙ ap (says 5) (append-nil (refusal_text (Of cause))) in
    (Err cause, subst (λ f. IsReading f text (Err cause)) same (subst (IsReading form text) is (reading_is form text r read)), error_answer Gives command inputs text cause a some line)
