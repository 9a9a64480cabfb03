-- How `clap` walks over accepted words: each option that has a value adds one row, and the files are kept together.
use Rattle.std.proofs.Common.{◌≡◌, ◌∙◌, ◌++◌, ◌&&◌, ◌||◌, Bool, true, false, not, cond, List, [], ◌∷◌, Option, Some, None, refl, sym, ap, ap₂, append-nil, append_assoc, codes, true≢false, if◌then◌else◌}
use Rattle.std.specs.Prelude.{bytes_eq, ⊤}
use Rattle.std.specs.List.{list_all}
use Rattle.std.specs.Option.{option_map_or}
use Rattle.std.proofs.lemmas.Bool.{and_parts}
use Rattle.clap.specs.Walk.{Held, Row, Rule, Step, Walk, walked, idle, positional, next, trailing, word_met, long_or_other, long_met, after_flag, after_step, to_positional, with_values, without, has_row, arg_by_long, arg_by_index, reading_by}
use Rattle.clap.specs.Simple.{Shape, filled, with_index}
use Rattle.clap.specs.Takes.{turn_passes, step_passes, long_passes, flag_word_passes, positional_passes}
use Rattle.clap.specs.Lexer.{long_of}
use Rattle.clap.specs.declared.parser.matches.ValueSource.TheVariants.{CommandLine}
use Rattle.ms_words.specs.declared.names.OptionName.{OptionName}
use Rattle.ms_words.specs.declared.names.OptionName.TheVariants.{Input, Fill, Steps, Reports, Schedule, Schedules, Workers, Seed, Functions, Run, Where, Calls, Once}
use Rattle.ms_words.specs.declared.names.Takes.{Takes}
use Rattle.ms_words.specs.declared.names.Takes.TheVariants.{Nothing, Anything, Hex, Number}
use Rattle.ms_words.specs.Table.{Word, takes, option_word}
use Rattle.ms_words.specs.Reading.{Given, takes_nothing, option_eq}
use Rattle.ms_words.specs.Words.{value_of}
use Rattle.ms_words.specs.ClapForm.{rule_by, files_rule, spelled_option, spelled_options}
use Rattle.ms_words.proofs.Rows.{look, look_second, has_none, new_row, replaced}

-- ---- what each option comes to

-- its rule in the command that is built
abbrev pub rule_for : Takes → Word → Rule
rule_for t name = filled (rule_by t name)

abbrev pub files_built : Rule
files_built = with_index 1 (filled files_rule)

abbrev pub value_for : Takes → Word → Option Word
value_for t v = if takes_nothing t then None else Some v

abbrev pub texts_for : Takes → Word → List Word
texts_for t v = if takes_nothing t then codes "true" ∷ [] else v ∷ []

abbrev pub row_for : Takes → Word → Word → Row
row_for t name v = new_row name (reading_by (rule_for t name)) CommandLine (texts_for t v)

abbrev pub row_in : OptionName → Word → Row
row_in o v = row_for (takes o) (option_word o) v

abbrev pub option_rows : OptionName → Option Word → List Row
option_rows o None = []
option_rows o (Some v) = row_in o v ∷ []

abbrev pub all_rows : List OptionName → Given → List Row
all_rows [] g = []
all_rows (o ∷ os) g = option_rows o (value_of o g) ++ all_rows os g

abbrev word_for : OptionName → Word → Word
word_for o v = codes "--" ++ option_word o ++ (if takes_nothing (takes o) then [] else 61 ∷ v)

-- its word is read as its name and its value: one row for each option
abbrev IsRead : OptionName → Word → Type 0
IsRead o v = (bytes_eq (word_for o v) (45 ∷ 45 ∷ []) ≡ false) × (long_of (word_for o v) ≡ Some (option_word o, value_for (takes o) v))

word_read : (o : OptionName) (v : Word) → IsRead o v
word_read Input v = (refl, refl)
word_read Fill v = (refl, refl)
word_read Steps v = (refl, refl)
word_read Reports v = (refl, refl)
word_read Schedule v = (refl, refl)
word_read Schedules v = (refl, refl)
word_read Workers v = (refl, refl)
word_read Seed v = (refl, refl)
word_read Functions v = (refl, refl)
word_read Run v = (refl, refl)
word_read Where v = (refl, refl)
word_read Calls v = (refl, refl)
word_read Once v = (refl, refl)

-- ---- options that are apart

-- the rules have one for each option
abbrev pub IsKnown : List Rule → List OptionName → Type 0
IsKnown rules [] = ⊤
IsKnown rules (o ∷ os) = (arg_by_long rules (option_word o) ≡ Some (rule_for (takes o) (option_word o))) × IsKnown rules os

-- no two of them are the same
abbrev pub are_apart : List OptionName → Bool
are_apart [] = true
are_apart (o ∷ os) = list_all (λ p. not (option_eq o p)) os && are_apart os

-- none of them has a row yet
abbrev IsNew : List Row → List OptionName → Type 0
IsNew rows [] = ⊤
IsNew rows (o ∷ os) = (look (option_word o) rows ≡ None) × IsNew rows os

new_at_first : (os : List OptionName) → IsNew [] os
new_at_first [] = tt
new_at_first (o ∷ os) = (refl, new_at_first os)

-- the row of one option isn't that of another
pub other_rows : (o p : OptionName) (v : Option Word) → option_eq o p ≡ false → look (option_word p) (option_rows o v) ≡ None
other_rows o p None other = refl
other_rows o p (Some v) other = ap (λ (b : Bool). cond b (Some (row_in o v)) None) other

not_true : (b : Bool) → not b ≡ true → b ≡ false
not_true true h = absurd (true≢false (sym h))
not_true false h = refl

still_new : (o : OptionName) (v : Option Word) (rows : List Row) (os : List OptionName) → IsNew rows os → list_all (λ p. not (option_eq o p)) os ≡ true → IsNew (rows ++ option_rows o v) os
still_new o v rows [] new apart = tt
still_new o v rows (p ∷ os) new apart =
    let parts = and_parts (not (option_eq o p)) (list_all (λ q. not (option_eq o q)) os) apart in
    (look_second (option_word p) rows (option_rows o v) new.0 ∙ other_rows o p v (not_true (option_eq o p) parts.0), still_new o v rows os new.1 parts.1)

-- ---- where the walk stands

abbrev held_with : List Row → Held
held_with rows = record { rows = rows; pending = None; skip = 0 }

-- after some options
abbrev pub so_far : List Row → Walk
so_far rows = record { held = held_with rows; waiting = idle; position = 1; is_trailing = false; stopped = None }

-- after `--`
abbrev pub after_dashes : List Row → Walk
after_dashes rows = record { held = held_with rows; waiting = idle; position = 1; is_trailing = true; stopped = None }

-- after some files
abbrev pub after_files : List Row → List Word → Walk
after_files rows files = record {
  held = record { rows = rows; pending = Some (codes "files", files); skip = 0 };
  waiting = positional;
  position = 1;
  is_trailing = true;
  stopped = None;
}

abbrev pub end_of : List Row → List Word → Walk
end_of rows [] = after_dashes rows
end_of rows (file ∷ files) = after_files rows (file ∷ files)

module _ (s : Shape) where
  -- ---- the word of one option

  module _ (rows : List Row) (name word : Word) where
    abbrev met_by : Bool → Option (Word × Option Word) → Held × Step
    met_by is_dashes parts = if is_dashes then (held_with rows, trailing 1) else long_or_other s.rules idle word parts (held_with rows)

    abbrev rule_met : Option Word → Option Rule → Held × Step
    rule_met v a = after_flag s.rules idle word (long_met s.rules a v (held_with rows)).0 (long_met s.rules a v (held_with rows)).1

    met_for : (t : Takes) (v : Word) → rule_met (value_for t v) (Some (rule_for t name))
        ≡ (held_with (with_values name (reading_by (rule_for t name)) CommandLine (texts_for t v) (without name rows)), next idle)
    met_for Nothing v = refl
    met_for Anything v = refl
    met_for (Hex most) v = refl
    met_for (Number least most) v = refl

    passes_for : (t : Takes) (v : Word) → has_row name rows ≡ false → long_passes s.rules s.args_override_self (Some (rule_for t name)) (value_for t v) (held_with rows) ≡ true
    passes_for Nothing v none = ap (λ (b : Bool). (not b || s.args_override_self) && true) none
    passes_for Anything v none = ap (λ (b : Bool). (not b || s.args_override_self) && true) none
    passes_for (Hex most) v none = ap (λ (b : Bool). (not b || s.args_override_self) && true) none
    passes_for (Number least most) v none = ap (λ (b : Bool). (not b || s.args_override_self) && true) none

    module _ (t : Takes) (v : Word) (plain : bytes_eq word (45 ∷ 45 ∷ []) ≡ false) (long : long_of word ≡ Some (name, value_for t v))
        (known : arg_by_long s.rules name ≡ Some (rule_for t name)) (none : has_row name rows ≡ false) where
      met : word_met s.rules [] false idle 1 word (held_with rows) ≡ (held_with (rows ++ row_for t name v ∷ []), next idle)
      met =
          ap₂ met_by plain long ∙ ap (rule_met (value_for t v)) known ∙ met_for t v
          ∙ ap (λ (rs : List Row). (held_with rs, next idle)) (replaced name (reading_by (rule_for t name)) (texts_for t v) rows none)

      pub word_walked : walked s.rules [] (so_far rows) word ≡ so_far (rows ++ row_for t name v ∷ [])
      unfolding walked
      word_walked = ap (λ (m : Held × Step). after_step s.rules word (so_far rows) m.0 m.1) met

      passes : (bytes_eq word (45 ∷ 45 ∷ []) || flag_word_passes s.rules s.args_override_self (long_of word) word (held_with rows)) ≡ true
      passes =
          ap₂ (λ (b : Bool) (p : Option (Word × Option Word)). b || flag_word_passes s.rules s.args_override_self p word (held_with rows)) plain long
          ∙ ap (λ (a : Option Rule). long_passes s.rules s.args_override_self a (value_for t v) (held_with rows)) known ∙ passes_for t v none

      pub word_passes : turn_passes s [] (so_far rows) word ≡ true
      word_passes = ap₂ (λ (b : Bool) (m : Held × Step). b && step_passes s 1 m.0 m.1) passes met

  -- ---- `--` and files

  dashes_walked : (rows : List Row) → walked s.rules [] (so_far rows) (codes "--") ≡ after_dashes rows
  unfolding walked
  dashes_walked rows = refl

  dashes_pass : (rows : List Row) → turn_passes s [] (so_far rows) (codes "--") ≡ true
  dashes_pass rows = refl

  module _ (index : arg_by_index s.rules 1 ≡ Some files_built) where
    first_walked : (rows : List Row) (file : Word) → walked s.rules [] (after_dashes rows) file ≡ after_files rows (file ∷ [])
    unfolding walked
    first_walked rows file = ap (λ (a : Option Rule). to_positional s.rules a file (after_dashes rows) (held_with rows)) index

    next_walked : (rows : List Row) (files : List Word) (file : Word) → walked s.rules [] (after_files rows files) file ≡ after_files rows (files ++ file ∷ [])
    unfolding walked
    next_walked rows files file = ap (λ (a : Option Rule). to_positional s.rules a file (after_files rows files) (after_files rows files).held) index

    abbrev positional_turn : Held → Option Rule → Bool
    positional_turn h a = option_map_or (λ (r : Rule). positional_passes s.rules s.args_override_self r h) a false

    first_passes : (rows : List Row) (file : Word) → turn_passes s [] (after_dashes rows) file ≡ true
    first_passes rows file = ap (positional_turn (held_with rows)) index

    next_passes : (rows : List Row) (files : List Word) (file : Word) → turn_passes s [] (after_files rows files) file ≡ true
    next_passes rows files file = ap (positional_turn (after_files rows files).held) index

    -- ---- all words, for what goes from one word to the next where it passes

    module _ {X : Type 0} (k : Walk → List Word → X)
        (step : (w : Walk) (word : Word) (rest : List Word) → turn_passes s [] w word ≡ true → k w (word ∷ rest) ≡ k (walked s.rules [] w word) rest) where
      more_files : (rows : List Row) (files more : List Word) → k (after_files rows files) more ≡ k (after_files rows (files ++ more)) []
      more_files rows files [] = ap (λ (fs : List Word). k (after_files rows fs) []) (sym (append-nil files))
      more_files rows files (file ∷ more) =
          step (after_files rows files) file more (next_passes rows files file)
          ∙ ap (λ (w : Walk). k w more) (next_walked rows files file) ∙ more_files rows (files ++ file ∷ []) more
          ∙ ap (λ (fs : List Word). k (after_files rows fs) []) (append_assoc files (file ∷ []) more)

      to_end : (rows : List Row) (files : List Word) → k (so_far rows) (codes "--" ∷ files) ≡ k (end_of rows files) []
      to_end rows [] = step (so_far rows) (codes "--") [] (dashes_pass rows) ∙ ap (λ (w : Walk). k w []) (dashes_walked rows)
      to_end rows (file ∷ files) =
          step (so_far rows) (codes "--") (file ∷ files) (dashes_pass rows) ∙ ap (λ (w : Walk). k w (file ∷ files)) (dashes_walked rows)
          ∙ step (after_dashes rows) file files (first_passes rows file) ∙ ap (λ (w : Walk). k w files) (first_walked rows file)
          ∙ more_files rows (file ∷ []) files

      one_option : (o : OptionName) (v : Option Word) (rows : List Row) (rest : List Word) → arg_by_long s.rules (option_word o) ≡ Some (rule_for (takes o) (option_word o))
          → look (option_word o) rows ≡ None → k (so_far rows) (spelled_option o v ++ rest) ≡ k (so_far (rows ++ option_rows o v)) rest
      one_option o None rows rest known none = ap (λ (rs : List Row). k (so_far rs) rest) (sym (append-nil rows))
      one_option o (Some v) rows rest known none =
          let read = word_read o v in
          let absent = has_none (option_word o) rows none in
          step (so_far rows) (word_for o v) rest (word_passes rows (option_word o) (word_for o v) (takes o) v read.0 read.1 known absent)
          ∙ ap (λ (w : Walk). k w rest) (word_walked rows (option_word o) (word_for o v) (takes o) v read.0 read.1 known absent)

      all_options : (os : List OptionName) (g : Given) (rows : List Row) (rest : List Word) → IsKnown s.rules os → are_apart os ≡ true → IsNew rows os
          → k (so_far rows) (spelled_options os g ++ rest) ≡ k (so_far (rows ++ all_rows os g)) rest
      all_options [] g rows rest known apart new = ap (λ (rs : List Row). k (so_far rs) rest) (sym (append-nil rows))
      all_options (o ∷ os) g rows rest known apart new =
          let parts = and_parts (list_all (λ p. not (option_eq o p)) os) (are_apart os) apart in
          ap (k (so_far rows)) (append_assoc (spelled_option o (value_of o g)) (spelled_options os g) rest)
          ∙ one_option o (value_of o g) rows (spelled_options os g ++ rest) known.0 new.0
          ∙ all_options os g (rows ++ option_rows o (value_of o g)) rest known.1 parts.1 (still_new o (value_of o g) rows os new.1 parts.0)
          ∙ ap (λ (rs : List Row). k (so_far rs) rest) (append_assoc rows (option_rows o (value_of o g)) (all_rows os g))

      pub words_walked : (os : List OptionName) (g : Given) → IsKnown s.rules os → are_apart os ≡ true
          → k (so_far []) (spelled_options os g ++ codes "--" ∷ g.files) ≡ k (end_of (all_rows os g) g.files) []
      words_walked os g known apart = all_options os g [] (codes "--" ∷ g.files) known apart (new_at_first os) ∙ to_end (all_rows os g) g.files
