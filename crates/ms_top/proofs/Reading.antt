-- From what reading files answers to what the answer is.
use Rattle.std.proofs.Common.{◌≡◌, ◌⊎◌, ℕ, ◌+◌, ◌^◌, ◌<◌, ◌≤◌, List, [], ◌∷◌, ◌++◌, length, get_or, drop, append_assoc, append-nil, codes, Option, Some, None, Result, Ok, Err, refl, ap, sym, ◌∙◌, subst, inl, inr, arith}
use Rattle.std.specs.Prelude.{false, Bool}
use Rattle.std.proofs.lemmas.Bool.{true≢false}
use Rattle.std.proofs.lemmas.List.{drop_all, get_or_read}
use Rattle.std.proofs.lemmas.List.Elements.{All-nil, All-cons, All-append, All-same}
use Rattle.ms_io.specs.declared.traits.FileError.{FileError}
use Rattle.ms_io.specs.declared.traits.FileError.TheVariants.{Failed, Absent, TooLong, NoMemory}
use Rattle.ms_io.specs.Counts.{Rose, RoseBy}
use Rattle.ms_io.specs.Reading.{Holdings, IsWholeFile, IsAbsent, IsTooLong, IfFailed, IfAbsent, IfTooLong}
use Rattle.ms_report.specs.RunTexts.{line}
use Rattle.ms_top.specs.declared.output.Output.{Output}
use Rattle.ms_words.specs.declared.commands.Command.{Command}
use Rattle.ms_words.specs.declared.commands.Command.TheVariants.{Gen, Help, Version}
use Rattle.ms_words.specs.declared.commands.WordsError.{WordsError}
use Rattle.ms_words.specs.declared.commands.WordsError.TheVariants.{NoMemory as WantsMemory}
use Rattle.ms_words.specs.Words.{command_of, name_of, place_of, IsAnswer as IsRead}
use Rattle.ms_gen.specs.Generator.{generated}
use Rattle.ms_ir.specs.declared.syntax.Module.{Module}
use Rattle.ms_ir.proofs.Sizes.{drop_next}
use Rattle.ms_text_grammar.specs.Texts.{max_bytes}
use Rattle.ms_read_top.proofs.Told.{short_text}
use Rattle.ms_top.specs.Command.{form_of, input_names, module_file, module_limit, input_limit, input_files, files_of}
use Rattle.ms_top.specs.declared.commands.Action.{Action}
use Rattle.ms_top.specs.declared.commands.Action.TheVariants as actions
use Rattle.ms_top.specs.OnFile.{command_with}
use Rattle.ms_top.specs.Unread.{CauseShows}
use Rattle.ms_top.specs.Files.{Counted, counted, FilesRead, Whole, Fault, Long, after, IsAtFault, IsLong, CanRead}
use Rattle.ms_top.specs.Instrumented.{IsInstrumented}
use Rattle.ms_top.specs.Parts.{AreShort, IsAnswerAfter, IsAnswerToFault, is_want_of_memory}
use Rattle.ms_report.specs.WordsTexts.{words_text}
use Rattle.ms_top.specs.Said.{says, answer_of_help, answer_of_version, IsAnswerOfGen, IsAnswerToText, IsAnswerToFiles, IsAnswerToCommand, IsAnswerFor, IsAnswer}

-- ---- words

pub command_answer : (c : Counted) (words : List (List ℕ)) (r : Result Command WordsError) (command : Command) (a : Output) → IsRead words r → r ≡ Ok command
    → IsAnswerToCommand IsInstrumented c command a → IsAnswer IsInstrumented c words a
command_answer c words r command a (inl none) is answers = absurd cc
command_answer c words r command a (inr read) is answers = subst (λ o. IsAnswerFor IsInstrumented c o a) (sym is ∙ read) answers

by_fault : (c : Counted) (words : List (List ℕ)) (fault : WordsError) (a : Output) → IsRead words (Err fault) → is_want_of_memory fault ≡ false
    → a ≡ says 2 (words_text (name_of fault) (place_of fault)) → IsAnswer IsInstrumented c words a
by_fault c words fault a (inl none) some answers = let wants : fault ≡ WantsMemory = cc in absurd (true≢false (ap is_want_of_memory (sym wants) ∙ some))
by_fault c words fault a (inr read) some answers = subst (λ o. IsAnswerFor IsInstrumented c o a) read answers

pub fault_answer : (c : Counted) (words : List (List ℕ)) (r : Result Command WordsError) (fault : WordsError) (a : Output) → IsRead words r → r ≡ Err fault → is_want_of_memory fault ≡ false
    → a ≡ says 2 (words_text (name_of fault) (place_of fault)) → IsAnswer IsInstrumented c words a
fault_answer c words r fault a read is some answers = by_fault c words fault a (subst (IsRead words) is read) some answers

-- words that are no command aren't read as one
pub no_command : (words : List (List ℕ)) (r : Result Command WordsError) (command : Command) (fault : WordsError) → IsRead words r → r ≡ Ok command → command_of words ≡ Err fault → ⊥
no_command words r command fault (inl none) is wrong = absurd cc
no_command words r command fault (inr read) is wrong = absurd cc

-- ---- by the parts of a command

-- a command on a file names that file
pub named : (file : List ℕ) (action : Action) → module_file (command_with file action) ≡ Some file
named file actions.Instrument = refl
named file (actions.Run options) = refl
named file (actions.Check options) = refl
named file (actions.CheckSchedules options runs workers) = refl
named file (actions.Explain options) = refl
named file (actions.Corpus inputs options workers) = refl

-- the limit of a module's file fits 32 bits
pub limit_fits : (command : Command) → module_limit command < 2 ^ 32
limit_fits command =
    let most = max_bytes (form_of command) in
    let own : most ≤ most = omega arith in
    let short : most ≤ 2 ^ 27 = short_text (form_of command) most own in
    omega (arith, short)

-- what is said for a command is said for the same command
pub same_command : (Gives : Module → Module → Type 0) (c : Counted) (command other : Command) (a : Output) → command ≡ other
    → IsAnswerToCommand Gives c other a → IsAnswerToCommand Gives c command a
same_command Gives c command other a is answers = subst (λ x. IsAnswerToCommand Gives c x a) (sym is) answers

-- ---- without a file

pub generated_answer : (Gives : Module → Module → Type 0) (c : Counted) (command : Command) (seed functions : ℕ) (run : Bool) (a : Output) → command ≡ Gen seed functions run
    → IsAnswerOfGen Gives run (generated seed functions) a → IsAnswerToCommand Gives c command a
generated_answer Gives c command seed functions run a is answers = subst (λ x. IsAnswerToCommand Gives c x a) (sym is) (Whole [], refl, answers)

pub help_answer : (Gives : Module → Module → Type 0) (c : Counted) (command : Command) (a : Output) → command ≡ Help → a ≡ answer_of_help
    → IsAnswerToCommand Gives c command a
help_answer Gives c command a is answers = subst (λ x. IsAnswerToCommand Gives c x a) (sym is) (Whole [], refl, answers)

pub version_answer : (Gives : Module → Module → Type 0) (c : Counted) (command : Command) (a : Output) → command ≡ Version → a ≡ answer_of_version
    → IsAnswerToCommand Gives c command a
version_answer Gives c command a is answers = subst (λ x. IsAnswerToCommand Gives c x a) (sym is) (Whole [], refl, answers)

-- ---- the first file

-- counts that rose in a part of a call rose in the call
rose_by_earlier : (n a b d : ℕ) → a ≤ b → RoseBy n b d → RoseBy n a d
rose_by_earlier n a b d l h = omega (arith, l, h)

absent_earlier : (t : Option Holdings) (name : List ℕ) (a b d : ℕ) → a ≤ b → IsAbsent t name b d → IsAbsent t name a d
absent_earlier None name a b d l h = rose_by_earlier 1 a b d l h
absent_earlier (Some files) name a b d l h = h

too_long_earlier : (t : Option Holdings) (name : List ℕ) (limit n a b d : ℕ) → a ≤ b → IsTooLong t name limit n b d → IsTooLong t name limit n a d
too_long_earlier None name limit n a b d l (is, rose) = (is, rose_by_earlier n a b d l rose)
too_long_earlier (Some files) name limit n a b d l h = h

-- the files of a command whose module stands in a file
files_named : (command : Command) (file : List ℕ) → module_file command ≡ Some file → files_of command ≡ (file, module_limit command) ∷ input_files (input_names command)
files_named command file named = ap (λ o. elim o [ Some f ↦ (f, module_limit command) ∷ input_files (input_names command) | None ↦ [] ]) named

-- the counts of the same files, from an earlier time on
pub record IsEarlier (c d : Counted) : Type 0 where
  pub told : c.told ≡ d.told
  pub faults : c.faults ≤ d.faults
  pub faults_after : c.faults_after ≡ d.faults_after
  pub taken : c.taken ≤ d.taken
  pub taken_after : c.taken_after ≡ d.taken_after

module _ (c d : Counted) (e : IsEarlier c d) where
  fault_earlier : (name : List ℕ) → IsAtFault d name → IsAtFault c name
  fault_earlier name (inl absent) =
      inl (subst (λ t. IsAbsent t name c.faults c.faults_after) (sym e.told) (subst (λ n. IsAbsent d.told name c.faults n) (sym e.faults_after) (absent_earlier d.told name c.faults d.faults d.faults_after e.faults absent)))
  fault_earlier name (inr rose) = inr (subst (λ n. Rose c.faults n) (sym e.faults_after) (rose_by_earlier 1 c.faults d.faults d.faults_after e.faults rose))

  long_earlier : (name : List ℕ) (limit : ℕ) → IsLong d name limit → IsLong c name limit
  long_earlier name limit (n, long) =
      (n, subst (λ t. IsTooLong t name limit n c.taken c.taken_after) (sym e.told) (subst (λ k. IsTooLong d.told name limit n c.taken k) (sym e.taken_after) (too_long_earlier d.told name limit n c.taken d.taken d.taken_after e.taken long)))

  can_read_earlier : (files : List (List ℕ × ℕ)) (r : FilesRead) → CanRead d files r → CanRead c files r
  can_read_earlier [] r h = h
  can_read_earlier ((name, limit) ∷ rest) r (inl (fault, is)) = inl (fault_earlier name fault, is)
  can_read_earlier ((name, limit) ∷ rest) r (inr (inl (long, is))) = inr (inl (long_earlier name limit long, is))
  can_read_earlier ((name, limit) ∷ rest) r (inr (inr (text, whole, later, read, is))) =
      inr (inr (text, subst (λ t. IsWholeFile t name limit text) (sym e.told) whole, later, can_read_earlier rest later read, is))

  -- the module's file is read whole, and then the others
  pub after_first : (Gives : Module → Module → Type 0) (command : Command) (file text bytes : List ℕ) (a : Output) → module_file command ≡ Some file → IsWholeFile c.told file (module_limit command) text → bytes ≡ text
      → IsAnswerAfter Gives d command bytes a → IsAnswerToCommand Gives c command a
  after_first Gives command file text bytes a named whole same (r, read, is) = (
    after text r,
    subst (λ fs. CanRead c fs (after text r)) (sym (files_named command file named)) (inr (inr (text, whole, r, can_read_earlier (input_files (input_names command)) r read, refl))),
    subst (λ t. IsAnswerToFiles Gives command (after t r) a) same is,
  )

-- ---- a file that isn't read

-- what reading a file answered in a call
pub record Answered (c : Counted) (name : List ℕ) (limit : ℕ) {A : Type 0} (r : Result A FileError) : Type 0 where
  pub failed : IfFailed r (Rose c.faults c.faults_after)
  pub absent : IfAbsent r (IsAbsent c.told name c.faults c.faults_after)
  pub too_long : IfTooLong r (λ n. IsTooLong c.told name limit n c.taken c.taken_after)

-- why a file isn't read whole, with the answer
abbrev pub Unread : Counted → List ℕ → ℕ → Output → Type 0
Unread c name limit a =
    (IsAtFault c name × (a ≡ says 6 (line (codes "file fault") name))) ⊎ (IsLong c name limit × (a ≡ says 9 (line (codes "file too long") name)))

by_cause : {A : Type 0} (c : Counted) (name : List ℕ) (limit : ℕ) (cause : FileError) (a : Output) → Answered c name limit {A = A} (Err cause) → IsAnswerToFault cause name a → Unread c name limit a
by_cause c name limit Failed a h is = inl (inr h.failed, is)
by_cause c name limit Absent a h is = inl (inl h.absent, is)
by_cause c name limit (TooLong n) a h is = inr ((n, h.too_long), is)
by_cause c name limit NoMemory a h is = absurd is

pub unread : {A : Type 0} (c : Counted) (name : List ℕ) (limit : ℕ) (r : Result A FileError) (cause : FileError) (a : Output) → Answered c name limit r → r ≡ Err cause
    → IsAnswerToFault cause name a → Unread c name limit a
unread c name limit r cause a h same is = by_cause c name limit cause a (subst (Answered c name limit) same h) is

pub unread_first : (Gives : Module → Module → Type 0) (c : Counted) (command : Command) (file : List ℕ) (a : Output) → module_file command ≡ Some file → Unread c file (module_limit command) a
    → IsAnswerToCommand Gives c command a
unread_first Gives c command file a named (inl (fault, is)) = (Fault file, subst (λ fs. CanRead c fs (Fault file)) (sym (files_named command file named)) (inl (fault, refl)), is)
unread_first Gives c command file a named (inr (long, is)) = (Long file, subst (λ fs. CanRead c fs (Long file)) (sym (files_named command file named)) (inr (inl (long, refl))), is)

-- ---- the inputs

-- after files that are read whole
pub after_all : List (List ℕ) → FilesRead → FilesRead
after_all texts (Whole more) = Whole (texts ++ more)
after_all texts (Fault name) = Fault name
after_all texts (Long name) = Long name

all_after : (texts : List (List ℕ)) (text : List ℕ) (r : FilesRead) → after_all texts (after text r) ≡ after_all (texts ++ text ∷ []) r
unfolding after_all
all_after texts text (Whole more) = ap Whole (sym (append_assoc texts (text ∷ []) more))
all_after texts text (Fault name) = refl
all_after texts text (Long name) = refl

none_after : (r : FilesRead) → after_all [] r ≡ r
unfolding after_all
none_after (Whole more) = refl
none_after (Fault name) = refl
none_after (Long name) = refl

-- the files from one on, where those before were read whole: what reading them comes to from these counts on
abbrev pub ReadSoFar : Option Holdings → (faults taken faults_now taken_now : ℕ) → (texts names left : List (List ℕ)) → Type 0
ReadSoFar held faults taken faults_now taken_now texts names left = (faults_after taken_after : ℕ) (r : FilesRead)
    → CanRead (counted held faults_now faults_after taken_now taken_after) (input_files left) r → CanRead (counted held faults faults_after taken taken_after) (input_files names) (after_all texts r)

-- at the first, none is read
pub read_none : (held : Option Holdings) (faults taken : ℕ) (texts names : List (List ℕ)) → texts ≡ [] → ReadSoFar held faults taken faults taken texts names names
read_none held faults taken texts names none = λ faults_after taken_after r can.
    subst (λ l. CanRead (counted held faults faults_after taken taken_after) (input_files names) (after_all l r)) (sym none)
    (subst (CanRead (counted held faults faults_after taken taken_after) (input_files names)) (sym (none_after r)) can)

one_after : (held : Option Holdings) (faults taken faults_now taken_now faults_next taken_next : ℕ) (texts names left : List (List ℕ)) (name text : List ℕ)
    → IsWholeFile held name input_limit text → faults_now ≤ faults_next → taken_now ≤ taken_next
    → ReadSoFar held faults taken faults_now taken_now texts names (name ∷ left) → ReadSoFar held faults taken faults_next taken_next (texts ++ text ∷ []) names left
one_after held faults taken faults_now taken_now faults_next taken_next texts names left name text whole more later before = λ faults_after taken_after r can.
    let now = counted held faults_now faults_after taken_now taken_after in
    let next = counted held faults_next faults_after taken_next taken_after in
    let earlier : IsEarlier now next = record { told = refl; faults = more; faults_after = refl; taken = later; taken_after = refl } in
    subst (CanRead (counted held faults faults_after taken taken_after) (input_files names)) (all_after texts text r)
    (before faults_after taken_after (after text r) (inr (inr (text, whole, r, can_read_earlier now next earlier (input_files left) r can, refl))))

whole_is_short : (held : Option Holdings) (name text : List ℕ) → IsWholeFile held name input_limit text → length text ≤ input_limit
whole_is_short None name text whole = whole.0
whole_is_short (Some files) name text whole = whole.1

pub short_next : (held : Option Holdings) (name text bytes : List ℕ) (texts more : List (List ℕ)) → IsWholeFile held name input_limit bytes → text ≡ bytes → more ≡ texts ++ text ∷ [] → AreShort texts → AreShort more
short_next held name text bytes texts more whole got grown short =
    let brief : length text ≤ input_limit = subst (λ t. length t ≤ input_limit) (sym got) (whole_is_short held name bytes whole) in
    let fits = λ (input : List ℕ). length input ≤ input_limit in
    All-same fits more (texts ++ text ∷ []) grown (All-append fits texts (text ∷ []) short (All-cons fits text [] brief (All-nil fits)))

-- a loop over the inputs, at the one of this index and name; `held_now` is what is held then, which stays
module _ (held held_now : Option Holdings) (faults taken faults_now taken_now : ℕ) (texts names : List (List ℕ)) (i : ℕ) (same : held_now ≡ held) where
  left_from : (name : List ℕ) → i < length names → name ≡ get_or names i name → ReadSoFar held faults taken faults_now taken_now texts names (drop i names)
      → ReadSoFar held faults taken faults_now taken_now texts names (name ∷ drop (i + 1) names)
  left_from name below is before = subst (ReadSoFar held faults taken faults_now taken_now texts names) (drop_next names i name below is) before

  -- it is read
  pub read_next : (name text bytes : List ℕ) (more : List (List ℕ)) (faults_next taken_next : ℕ) → i < length names → name ≡ get_or names i name → IsWholeFile held_now name input_limit bytes → text ≡ bytes
      → more ≡ texts ++ text ∷ [] → faults_now ≤ faults_next → taken_now ≤ taken_next → ReadSoFar held faults taken faults_now taken_now texts names (drop i names)
      → ReadSoFar held faults taken faults_next taken_next more names (drop (i + 1) names)
  read_next name text bytes more faults_next taken_next below is whole got grown rose later before =
      let told : IsWholeFile held name input_limit text = subst (λ t. IsWholeFile t name input_limit text) same (subst (IsWholeFile held_now name input_limit) (sym got) whole) in
      subst (λ l. ReadSoFar held faults taken faults_next taken_next l names (drop (i + 1) names)) (sym grown)
      (one_after held faults taken faults_now taken_now faults_next taken_next texts names (drop (i + 1) names) name text told rose later (left_from name below is before))

  -- it isn't read, for a cause
  pub read_stops : (name : List ℕ) (cause : FileError) (faults_next taken_next : ℕ) → i < length names → name ≡ get_or names i name
      → Answered (counted held_now faults_now faults_next taken_now taken_next) name input_limit {A = List ℕ} (Err cause) → ReadSoFar held faults taken faults_now taken_now texts names (drop i names)
      → CauseShows (counted held faults faults_next taken taken_next) names (get_or names i []) cause
  unfolding after_all
  read_stops name cause faults_next taken_next below is answered before =
      subst (λ n. CauseShows (counted held faults faults_next taken taken_next) names n cause) (get_or_read names i name below is [])
      (by_cause_shown cause (subst (λ t. Answered (counted t faults_now faults_next taken_now taken_next) name input_limit {A = List ℕ} (Err cause)) same answered))
    where
      reads : ReadSoFar held faults taken faults_now taken_now texts names (name ∷ drop (i + 1) names)
      reads = left_from name below is before

      by_cause_shown : (cause : FileError) → Answered (counted held faults_now faults_next taken_now taken_next) name input_limit {A = List ℕ} (Err cause)
          → CauseShows (counted held faults faults_next taken taken_next) names name cause
      by_cause_shown Failed h = reads faults_next taken_next (Fault name) (inl (inr h.failed, refl))
      by_cause_shown Absent h = reads faults_next taken_next (Fault name) (inl (inl h.absent, refl))
      by_cause_shown (TooLong n) h = reads faults_next taken_next (Long name) (inr (inl ((n, h.too_long), refl)))
      by_cause_shown NoMemory h = tt

-- after the last, all are read
pub read_all : (held : Option Holdings) (faults taken faults_now taken_now : ℕ) (texts all names : List (List ℕ)) (i : ℕ) → length names ≤ i → all ≡ texts
    → ReadSoFar held faults taken faults_now taken_now texts names (drop i names) → CanRead (counted held faults faults_now taken taken_now) (input_files names) (Whole all)
unfolding after_all
read_all held faults taken faults_now taken_now texts all names i past is before =
    let reads = subst (ReadSoFar held faults taken faults_now taken_now texts names) (drop_all i names past) before in
    subst (λ l. CanRead (counted held faults faults_now taken taken_now) (input_files names) (Whole l)) (append-nil texts ∙ sym is) (reads faults_now taken_now (Whole []) refl)

pub inputs_read : (Gives : Module → Module → Type 0) (c : Counted) (command : Command) (names : List (List ℕ)) (text : List ℕ) (inputs : List (List ℕ)) (a : Output) → names ≡ input_names command
    → CanRead c (input_files names) (Whole inputs) → IsAnswerToText Gives command inputs text a → IsAnswerAfter Gives c command text a
inputs_read Gives c command names text inputs a same can answers = (Whole inputs, subst (λ ns. CanRead c (input_files ns) (Whole inputs)) same can, answers)

pub input_unread : (Gives : Module → Module → Type 0) (c : Counted) (command : Command) (names : List (List ℕ)) (name text : List ℕ) (cause : FileError) (a : Output) → names ≡ input_names command
    → CauseShows c names name cause → IsAnswerToFault cause name a → IsAnswerAfter Gives c command text a
input_unread Gives c command names name text Failed a same can is = (Fault name, subst (λ ns. CanRead c (input_files ns) (Fault name)) same can, is)
input_unread Gives c command names name text Absent a same can is = (Fault name, subst (λ ns. CanRead c (input_files ns) (Fault name)) same can, is)
input_unread Gives c command names name text (TooLong n) a same can is = (Long name, subst (λ ns. CanRead c (input_files ns) (Long name)) same can, is)
input_unread Gives c command names name text NoMemory a same can is = absurd is
