-- What `clap` finds in accepted words: the value of each option, and the files.
use Rattle.std.proofs.Common.{◌≡◌, ◌∙◌, ◌++◌, ◌≤◌, ◌&&◌, ◌||◌, Bool, true, false, List, [], ◌∷◌, Option, Some, None, refl, sym, ap, ap₂, subst, codes, length, arith, fold, cond, append-nil, true≢false}
use Rattle.std.specs.Prelude.{All, ◌^◌, ◌-◌, bytes_eq, is_some, slice_get, unwrap_or, option_map, drop, nat_le, if◌then◌else◌}
use Rattle.std.specs.List.{list_all, list_any}
use Rattle.std.specs.Option.{option_map_or}
use Rattle.std.proofs.lemmas.Bool.{and_parts, le-leb}
use Rattle.clap.specs.Words.{App, Row, Rule, matches_of, rows_of, takes as takes_words, first_of, all_of, first_value}
use Rattle.clap.specs.Walk.{Names, Walk, walk, walked, nothing_held, used_by_id, more_values, reading_by, with_default, has_row, settled, finished, arg_by_id, arg_by_index}
use Rattle.clap.specs.Simple.{argument_words, built, entered, is_simple, names_of}
use Rattle.clap.specs.Takes.{default_passes, entered_passes, is_valid, level_passes, settle_passes, turn_passes, use_passes, value_passes, walk_passes}
use Rattle.clap.specs.Lexer.{usize_max}
use Rattle.clap.specs.declared.parser.matches.Found.{Found}
use Rattle.clap.specs.declared.parser.matches.ValueSource.TheVariants.{CommandLine}
use Rattle.clap.proofs.WalkLemmas.{first_value-rows, raw_values-rows}
use Rattle.ms_words.specs.declared.commands.Command.TheVariants as made
use Rattle.ms_words.specs.declared.names.CommandName.{CommandName}
use Rattle.ms_words.specs.declared.names.CommandName.TheVariants.{Instrument, Run, Check, Explain, Corpus, Gen}
use Rattle.ms_words.specs.declared.names.OptionName.{OptionName}
use Rattle.ms_words.specs.declared.names.OptionName.TheVariants as option
use Rattle.ms_words.specs.declared.names.Takes.{Takes}
use Rattle.ms_words.specs.declared.names.Takes.TheVariants.{Nothing, Anything, Hex, Number}
use Rattle.ms_words.specs.Table.{Word, takes, option_word, options_of}
use Rattle.ms_words.specs.Values.{hex_bytes, value_fault}
use Rattle.ms_words.specs.Reading.{Given, takes_nothing, option_eq}
use Rattle.ms_words.specs.Words.{value_of, number_by, no_schedule, check_by, command_by, command_given}
use Rattle.ms_words.specs.ClapForm.{app_for, spelled, spelled_options}
use Rattle.ms_words.specs.Fields.{Fits, FitsRun, FitsReports, FitsScheduled, found_value, found_file, found_inputs, found_by}
use Rattle.ms_words.specs.Accepted.{Whole}
use Rattle.ms_words.proofs.GoodValues.{IsGood, good_value, hex_good, number_good}
use Rattle.ms_words.proofs.Rows.{look, look_first, look_second, look_kept, has_none, at_absent, new_row, fits, unset, first_text}
use Rattle.ms_words.proofs.Tables.{option_self, same_option, few_files}
use Rattle.ms_words.proofs.Walking.{IsKnown, are_apart, files_built, texts_for, row_in, option_rows, all_rows, other_rows, so_far, after_files, end_of, words_walked}

-- ---- the commands of `clap`

abbrev built_app : CommandName → App
built_app c = built (app_for c)

abbrev rules_for : CommandName → List Rule
rules_for c = (built_app c).top.rules

-- what a command computes to
record Reads (c : CommandName) : Type 0 where
  pub simple : is_simple (app_for c) ≡ true
  pub names : names_of (built_app c) ≡ []
  pub binary : (app_for c).top.no_binary_name ≡ false
  pub known : IsKnown (rules_for c) (options_of c)
  pub apart : are_apart (options_of c) ≡ true
  pub index : arg_by_index (rules_for c) 1 ≡ Some files_built
  pub files : arg_by_id (rules_for c) (codes "files") ≡ Some files_built
  pub defaults : list_all default_passes (rules_for c) ≡ true
  pub valid : (rows : List Row) → is_valid (built_app c).top rows false ≡ true
  pub unset : list_all (λ o. list_all (fits (takes o) (option_word o)) (rules_for c)) (options_of c) ≡ true

-- `known` has one equation for each option
reads : (c : CommandName) → Reads c
reads Instrument = record { simple = refl; names = refl; binary = refl; known = tt; apart = refl; index = refl; files = refl; defaults = refl; valid = λ rows. refl; unset = refl }
reads Run = record {
  simple = refl;
  names = refl;
  binary = refl;
  known = (refl, (refl, (refl, (refl, (refl, (refl, (refl, (refl, tt))))))));
  apart = refl;
  index = refl;
  files = refl;
  defaults = refl;
  valid = λ rows. refl;
  unset = refl;
}
reads Check = record {
  simple = refl;
  names = refl;
  binary = refl;
  known = (refl, (refl, (refl, (refl, (refl, (refl, (refl, (refl, (refl, (refl, tt))))))))));
  apart = refl;
  index = refl;
  files = refl;
  defaults = refl;
  valid = λ rows. refl;
  unset = refl;
}
reads Explain = record {
  simple = refl;
  names = refl;
  binary = refl;
  known = (refl, (refl, (refl, (refl, (refl, tt)))));
  apart = refl;
  index = refl;
  files = refl;
  defaults = refl;
  valid = λ rows. refl;
  unset = refl;
}
reads Corpus = record {
  simple = refl;
  names = refl;
  binary = refl;
  known = (refl, (refl, (refl, (refl, (refl, (refl, (refl, tt)))))));
  apart = refl;
  index = refl;
  files = refl;
  defaults = refl;
  valid = λ rows. refl;
  unset = refl;
}
reads Gen = record {
  simple = refl;
  names = refl;
  binary = refl;
  known = (refl, (refl, (refl, tt)));
  apart = refl;
  index = refl;
  files = refl;
  defaults = refl;
  valid = λ rows. refl;
  unset = refl;
}

-- no option has the name of the files
apart_from_files : (o : OptionName) → (bytes_eq (option_word o) (codes "files") ≡ false) × (bytes_eq (codes "files") (option_word o) ≡ false)
apart_from_files option.Input = (refl, refl)
apart_from_files option.Fill = (refl, refl)
apart_from_files option.Steps = (refl, refl)
apart_from_files option.Reports = (refl, refl)
apart_from_files option.Schedule = (refl, refl)
apart_from_files option.Schedules = (refl, refl)
apart_from_files option.Workers = (refl, refl)
apart_from_files option.Seed = (refl, refl)
apart_from_files option.Functions = (refl, refl)
apart_from_files option.Run = (refl, refl)
apart_from_files option.Where = (refl, refl)
apart_from_files option.Calls = (refl, refl)
apart_from_files option.Once = (refl, refl)

-- ---- the rows of accepted words

abbrev files_row : List Word → Row
files_row files = new_row (codes "files") (reading_by files_built) CommandLine files

abbrev files_rows : List Word → List Row
files_rows [] = []
files_rows (file ∷ files) = files_row (file ∷ files) ∷ []

no_file_row : (o : OptionName) (v : Option Word) → look (codes "files") (option_rows o v) ≡ None
no_file_row o None = refl
no_file_row o (Some v) = ap (λ (b : Bool). cond b (Some (row_in o v)) None) (apart_from_files o).0

no_option_row : (o : OptionName) (files : List Word) → look (option_word o) (files_rows files) ≡ None
no_option_row o [] = refl
no_option_row o (file ∷ files) = ap (λ (b : Bool). cond b (Some (files_row (file ∷ files))) None) (apart_from_files o).1

none_among : (id : Word) (g : Given) → ((p : OptionName) → look id (option_rows p (value_of p g)) ≡ None) → (os : List OptionName) → look id (all_rows os g) ≡ None
none_among id g none [] = refl
none_among id g none (o ∷ os) = look_second id (option_rows o (value_of o g)) (all_rows os g) (none o) ∙ none_among id g none os

no_files_yet : (os : List OptionName) (g : Given) → look (codes "files") (all_rows os g) ≡ None
no_files_yet os g = none_among (codes "files") g (λ p. no_file_row p (value_of p g)) os

-- an option without a value has no row
missing_by : (b : Bool) (p o : OptionName) (g : Given) → option_eq p o ≡ b → value_of o g ≡ None → look (option_word o) (option_rows p (value_of p g)) ≡ None
missing_by true p o g is none =
    ap (λ (q : OptionName). look (option_word o) (option_rows q (value_of q g))) (same_option p o is) ∙ ap (λ (v : Option Word). look (option_word o) (option_rows o v)) none
missing_by false p o g is none = other_rows p o (value_of p g) is

missing : (os : List OptionName) (o : OptionName) (g : Given) → value_of o g ≡ None → look (option_word o) (all_rows os g) ≡ None
missing os o g none = none_among (option_word o) g (λ p. missing_by (option_eq p o) p o g refl none) os

-- and one that has a value, the row of this value
own_row : (o : OptionName) (v : Word) → look (option_word o) (option_rows o (Some v)) ≡ Some (row_in o v)
own_row o v = ap (λ (b : Bool). cond b (Some (row_in o v)) None) (option_self o)

present_by : (b : Bool) (p o : OptionName) (os : List OptionName) (g : Given) (v : Word) → option_eq p o ≡ b → value_of o g ≡ Some v → (b || list_any (λ q. option_eq q o) os) ≡ true
    → (list_any (λ q. option_eq q o) os ≡ true → look (option_word o) (all_rows os g) ≡ Some (row_in o v))
    → look (option_word o) (option_rows p (value_of p g) ++ all_rows os g) ≡ Some (row_in o v)
present_by true p o os g v is has any rest =
    look_first (option_word o) (option_rows p (value_of p g)) (all_rows os g) (row_in o v)
    (ap (λ (q : OptionName). look (option_word o) (option_rows q (value_of q g))) (same_option p o is)
    ∙ ap (λ (w : Option Word). look (option_word o) (option_rows o w)) has ∙ own_row o v)
present_by false p o os g v is has any rest =
    look_second (option_word o) (option_rows p (value_of p g)) (all_rows os g) (other_rows p o (value_of p g) is) ∙ rest any

present : (os : List OptionName) (o : OptionName) (g : Given) (v : Word) → value_of o g ≡ Some v → list_any (λ q. option_eq q o) os ≡ true
    → look (option_word o) (all_rows os g) ≡ Some (row_in o v)
present [] o g v has any = absurd (true≢false (sym any))
present (p ∷ os) o g v has any = present_by (option_eq p o) p o os g v refl has any (present os o g v has)

-- ---- the end of the words

settled_end : (rules : List Rule) → arg_by_id rules (codes "files") ≡ Some files_built → (rows : List Row) (files : List Word) → has_row (codes "files") rows ≡ false
    → (settled rules (end_of rows files).held).rows ≡ rows ++ files_rows files
settled_end rules is rows [] none = sym (append-nil rows)
settled_end rules is rows (file ∷ files) none =
    ap (λ (a : Option Rule). used_by_id a (file ∷ files) rows) is
    ∙ at_absent (codes "files") (more_values CommandLine (file ∷ files)) (files_row (file ∷ files) ∷ []) rows none

-- the words after the command
abbrev words_of : CommandName → Given → List Word
words_of c g = spelled_options (options_of c) g ++ codes "--" ∷ g.files

words_after : (c : CommandName) (g : Given) → argument_words (app_for c) (spelled c g) ≡ words_of c g
words_after c g = ap (λ (b : Bool). if b then spelled c g else drop 1 (spelled c g)) (reads c).binary

abbrev end : CommandName → Given → Walk
end c g = end_of (all_rows (options_of c) g) g.files

walk_ends : (c : CommandName) (g : Given) → fold (walked (rules_for c) []) (so_far []) (words_of c g) ≡ end c g
walk_ends c g =
    words_walked (built_app c).top (reads c).index (λ (w : Walk) (words : List Word). fold (walked (rules_for c) []) w words) (λ w word rest passes. refl)
    (options_of c) g (reads c).known (reads c).apart

abbrev end_rows : CommandName → Given → List Row
end_rows c g = all_rows (options_of c) g ++ files_rows g.files

rows_at_end : (c : CommandName) (g : Given) → matches_of (app_for c) (spelled c g) ≡ fold with_default (end_rows c g) (rules_for c)
rows_at_end c g =
    ap₂ (λ (names : Names) (words : List Word). finished (rules_for c) (walk (rules_for c) names nothing_held words).held) (reads c).names (words_after c g)
    ∙ ap (λ (w : Walk). finished (rules_for c) w.held) (walk_ends c g)
    ∙ ap (λ (rows : List Row). fold with_default rows (rules_for c))
    (settled_end (rules_for c) (reads c).files (all_rows (options_of c) g) g.files (has_none (codes "files") (all_rows (options_of c) g) (no_files_yet (options_of c) g)))

-- ---- the command of `clap` takes accepted words

step_passed : (c : CommandName) (w : Walk) (word : Word) (rest : List Word) → turn_passes (built_app c).top [] w word ≡ true
    → walk_passes (built_app c).top [] w (word ∷ rest) ≡ walk_passes (built_app c).top [] (walked (rules_for c) [] w word) rest
unfolding walk_passes
step_passed c w word rest passes = ap (λ (b : Bool). b && walk_passes (built_app c).top [] (walked (rules_for c) [] w word) rest) passes

none_left : (c : CommandName) (w : Walk) → walk_passes (built_app c).top [] w [] ≡ true
unfolding walk_passes
none_left c w = refl

walk_passed : (c : CommandName) (g : Given) → walk_passes (built_app c).top [] (so_far []) (words_of c g) ≡ true
walk_passed c g =
    words_walked (built_app c).top (reads c).index (λ (w : Walk) (words : List Word). walk_passes (built_app c).top [] w words) (step_passed c)
    (options_of c) g (reads c).known (reads c).apart
    ∙ none_left c (end c g)

abbrev again : CommandName → Bool
again c = (built_app c).top.args_override_self

abbrev passes_by : CommandName → Bool → Walk → Bool
passes_by c passes end =
    entered_passes (built_app c) end.stopped && (passes && (settle_passes (rules_for c) (again c) end.held
    && (list_all default_passes (rules_for c) && is_valid (built_app c).top (finished (rules_for c) end.held) (is_some (entered (built_app c) end.stopped)))))

abbrev takes_with : CommandName → Bool → Names → List Word → Bool
takes_with c simple names words =
    let stop = (walk (rules_for c) names nothing_held words).stopped in
    simple && (entered_passes (built_app c) stop && level_passes (built_app c).top names nothing_held words (is_some (entered (built_app c) stop)))

each_passes : (files : List Word) → list_all (value_passes files_built) files ≡ true
each_passes [] = refl
each_passes (file ∷ files) = each_passes files

files_pass : (b : Bool) (rows : List Row) (file : Word) (rest : List Word) → length (file ∷ rest) ≤ 257 → use_passes b files_built (file ∷ rest) rows ≡ true
files_pass b rows file rest few =
    let some : nat_le 1 (length (file ∷ rest)) ≡ true = le-leb 1 (length (file ∷ rest)) (omega arith) in
    let below : nat_le (length (file ∷ rest)) usize_max ≡ true = le-leb (length (file ∷ rest)) usize_max (omega (arith, few)) in
    ap₂ (λ (x y : Bool). x && (y && list_all (value_passes files_built) (file ∷ rest))) some below ∙ each_passes (file ∷ rest)

end_passes : (c : CommandName) (rows : List Row) (files : List Word) → length files ≤ 257 → passes_by c true (end_of rows files) ≡ true
end_passes c rows [] few =
    ap (λ (b : Bool). b && is_valid (built_app c).top (finished (rules_for c) (end_of rows []).held) false) (reads c).defaults
    ∙ (reads c).valid (finished (rules_for c) (end_of rows []).held)
end_passes c rows (file ∷ rest) few =
    ap₂ (λ (x y : Bool). x && (y && is_valid (built_app c).top (finished (rules_for c) (after_files rows (file ∷ rest)).held) false))
    (ap (λ (a : Option Rule). option_map_or (λ (r : Rule). use_passes (again c) r (file ∷ rest) rows) a true) (reads c).files ∙ files_pass (again c) rows file rest few)
    (reads c).defaults
    ∙ (reads c).valid (finished (rules_for c) (after_files rows (file ∷ rest)).held)

pub takes_spelled : (c : CommandName) (g : Given) → Whole c g → takes_words (app_for c) (spelled c g) ≡ true
takes_spelled c g whole =
    let few : length g.files ≤ 257 = omega (arith, whole.few, few_files c) in
    ap (λ (b : Bool). takes_with c b (names_of (built_app c)) (argument_words (app_for c) (spelled c g))) (reads c).simple
    ∙ ap₂ (takes_with c true) (reads c).names (words_after c g)
    ∙ ap₂ (passes_by c) (walk_passed c g) (walk_ends c g)
    ∙ end_passes c (all_rows (options_of c) g) g.files few

-- ---- the value of an option

abbrev shown : Takes → Option Word → Option Word
shown t None = None
shown t (Some v) = Some (if takes_nothing t then [] else v)

shown_row : (t : Takes) (v : Word) → found_by t (slice_get (texts_for t v) 0) ≡ shown t (Some v)
shown_row Nothing v = refl
shown_row Anything v = refl
shown_row (Hex most) v = refl
shown_row (Number least most) v = refl

shown_value : (t : Takes) (v : Option Word) → takes_nothing t ≡ false → shown t v ≡ v
shown_value t None plain = refl
shown_value t (Some v) plain = ap (λ (b : Bool). Some (if b then [] else v)) plain

shown_flag : (t : Takes) (v : Option Word) → is_some (shown t v) ≡ is_some v
shown_flag t None = refl
shown_flag t (Some v) = refl

-- what holds of all options of a list holds of one that is in it
of_all_by : (b : Bool) (P : OptionName → Bool) (p o : OptionName) (os : List OptionName) → option_eq p o ≡ b → P p ≡ true → (b || list_any (λ q. option_eq q o) os) ≡ true
    → (list_any (λ q. option_eq q o) os ≡ true → P o ≡ true) → P o ≡ true
of_all_by true P p o os is here any rest = ap P (sym (same_option p o is)) ∙ here
of_all_by false P p o os is here any rest = rest any

of_all : (P : OptionName → Bool) (os : List OptionName) (o : OptionName) → list_all P os ≡ true → list_any (λ q. option_eq q o) os ≡ true → P o ≡ true
of_all P [] o all any = absurd (true≢false (sym any))
of_all P (p ∷ os) o all any =
    let both = and_parts (P p) (list_all P os) all in
    of_all_by (option_eq p o) P p o os refl both.0 any (of_all P os o both.1)

abbrev Has : CommandName → OptionName → Type 0
Has c o = list_any (λ q. option_eq q o) (options_of c) ≡ true

found_as : (c : CommandName) (g : Given) (o : OptionName) (v : Option Word) → Has c o → value_of o g ≡ v
    → found_by (takes o) (first_of (option_word o) (fold with_default (end_rows c g) (rules_for c))) ≡ shown (takes o) v
found_as c g o None has is =
    unset (takes o) (option_word o) (rules_for c) (end_rows c g)
    (of_all (λ p. list_all (fits (takes p) (option_word p)) (rules_for c)) (options_of c) o (reads c).unset has)
    (look_second (option_word o) (all_rows (options_of c) g) (files_rows g.files) (missing (options_of c) o g is) ∙ no_option_row o g.files)
found_as c g o (Some v) has is =
    ap (λ (r : Option Row). found_by (takes o) (first_text r))
    (look_kept (rules_for c) (end_rows c g) (option_word o) (row_in o v)
    (look_first (option_word o) (all_rows (options_of c) g) (files_rows g.files) (row_in o v) (present (options_of c) o g v is has)))
    ∙ shown_row (takes o) v

at : (f : Found) (id : Word) (rows : List Row) → rows_of f ≡ rows → first_value f id ≡ first_of id rows
at f id rows are = first_value-rows f id ∙ ap (first_of id) are

module _ (c : CommandName) (g : Given) (f : Found) (are : rows_of f ≡ matches_of (app_for c) (spelled c g)) where
  found : (o : OptionName) → Has c o → found_value f o ≡ shown (takes o) (value_of o g)
  found o has = ap (found_by (takes o)) (at f (option_word o) _ (are ∙ rows_at_end c g)) ∙ found_as c g o (value_of o g) has refl

  value_found : (o : OptionName) → Has c o → takes_nothing (takes o) ≡ false → found_value f o ≡ value_of o g
  value_found o has plain = found o has ∙ shown_value (takes o) (value_of o g) plain

  flag_found : (o : OptionName) → Has c o → is_some (found_value f o) ≡ is_some (value_of o g)
  flag_found o has = ap is_some (found o has) ∙ shown_flag (takes o) (value_of o g)

  -- ---- the files

  files_looked : (rows : List Row) (files : List Word) → look (codes "files") rows ≡ None → 1 ≤ length files
      → look (codes "files") (fold with_default (rows ++ files_rows files) (rules_for c)) ≡ Some (files_row files)
  files_looked rows [] none some = absurd (omega (arith, some))
  files_looked rows (file ∷ files) none some =
      look_kept (rules_for c) (rows ++ files_rows (file ∷ files)) (codes "files") (files_row (file ∷ files)) (look_second (codes "files") rows (files_rows (file ∷ files)) none)

  files_found : 1 ≤ length g.files → look (codes "files") (fold with_default (end_rows c g) (rules_for c)) ≡ Some (files_row g.files)
  files_found some = files_looked (all_rows (options_of c) g) g.files (no_files_yet (options_of c) g) some

  file_found : 1 ≤ length g.files → found_file f ≡ unwrap_or (slice_get g.files 0) []
  file_found some =
      ap (λ (v : Option Word). unwrap_or v []) (at f (codes "files") _ (are ∙ rows_at_end c g)) ∙ ap (λ (r : Option Row). unwrap_or (first_text r) []) (files_found some)

  inputs_found : 1 ≤ length g.files → found_inputs f ≡ drop 1 g.files
  inputs_found some =
      ap (λ (vs : Option (List Word)). drop 1 (unwrap_or vs [])) (raw_values-rows f (codes "files") ∙ ap (all_of (codes "files")) (are ∙ rows_at_end c g))
      ∙ ap (λ (r : Option Row). drop 1 (unwrap_or (option_map (λ (row : Row). row.values) r) [])) (files_found some)

  -- ---- values that can be made fields

  module _ (all : All (λ p. value_fault (takes p.0) 0 p.1 ≡ None) g.options) where
    good : (o : OptionName) → Has c o → takes_nothing (takes o) ≡ false → IsGood o (found_value f o)
    good o has plain = subst (IsGood o) (sym (value_found o has plain)) (good_value o g all)

    run_fits : Has c option.Fill → Has c option.Steps → FitsRun (found_value f)
    run_fits fill steps = record {
      fill = hex_good 2048 _ (good option.Fill fill refl);
      steps = number_good 0 1000000000 (2 ^ 64 - 1) _ (omega arith) (good option.Steps steps refl);
    }

    reports_fit : Has c option.Fill → Has c option.Steps → Has c option.Reports → FitsReports (found_value f)
    reports_fit fill steps reports = record {
      run = run_fits fill steps;
      reports = number_good 1 1000 1000 _ (omega arith) (good option.Reports reports refl);
    }

    scheduled_fits : Has c option.Fill → Has c option.Steps → Has c option.Reports → Has c option.Schedule → FitsScheduled (found_value f)
    scheduled_fits fill steps reports schedule = record {
      run = reports_fit fill steps reports;
      schedule = hex_good 2048 _ (good option.Schedule schedule refl);
    }

-- ---- every command

-- `clap` finds the fields
pub fields_found : (c : CommandName) (g : Given) (f : Found) → Whole c g → rows_of f ≡ matches_of (app_for c) (spelled c g)
    → command_by c (found_value f) (found_file f) (found_inputs f) ≡ command_given c g
fields_found Instrument g f whole are = ap (λ (file : Word). made.Instrument file) (file_found Instrument g f are (omega (arith, whole.enough)))
fields_found Run g f whole are =
    let file = file_found Run g f are (omega (arith, whole.enough)) in
    let input = value_found Run g f are option.Input refl refl in
    let fill = value_found Run g f are option.Fill refl refl in
    let steps = value_found Run g f are option.Steps refl refl in
    let reports = value_found Run g f are option.Reports refl refl in
    let schedule = value_found Run g f are option.Schedule refl refl in
    let locations = flag_found Run g f are option.Where refl in
    let calls = flag_found Run g f are option.Calls refl in
    let once = flag_found Run g f are option.Once refl in
    λ i. made.Run (file i) (record {
      input = input i;
      fill = option_map_or hex_bytes (fill i) [];
      steps = number_by (steps i);
      reports = number_by (reports i);
      schedule = option_map_or hex_bytes (schedule i) [];
      locations = locations i;
      calls = calls i;
      once = once i;
    })
fields_found Check g f whole are =
    let file = file_found Check g f are (omega (arith, whole.enough)) in
    let input = value_found Check g f are option.Input refl refl in
    let fill = value_found Check g f are option.Fill refl refl in
    let steps = value_found Check g f are option.Steps refl refl in
    let reports = value_found Check g f are option.Reports refl refl in
    let schedule = value_found Check g f are option.Schedule refl refl in
    let schedules = value_found Check g f are option.Schedules refl refl in
    let workers = value_found Check g f are option.Workers refl refl in
    let locations = flag_found Check g f are option.Where refl in
    let calls = flag_found Check g f are option.Calls refl in
    let once = flag_found Check g f are option.Once refl in
    λ i. check_by (schedules i) (record {
      input = input i;
      fill = option_map_or hex_bytes (fill i) [];
      steps = number_by (steps i);
      reports = number_by (reports i);
      schedule = option_map_or hex_bytes (schedule i) [];
      locations = locations i;
      calls = calls i;
      once = once i;
    }) (number_by (schedules i)) (number_by (workers i)) (file i)
fields_found Explain g f whole are =
    let file = file_found Explain g f are (omega (arith, whole.enough)) in
    let input = value_found Explain g f are option.Input refl refl in
    let fill = value_found Explain g f are option.Fill refl refl in
    let steps = value_found Explain g f are option.Steps refl refl in
    let locations = flag_found Explain g f are option.Where refl in
    let calls = flag_found Explain g f are option.Calls refl in
    λ i. made.Explain (file i) (record {
      input = input i;
      fill = option_map_or hex_bytes (fill i) [];
      steps = number_by (steps i);
      reports = 1;
      schedule = no_schedule;
      locations = locations i;
      calls = calls i;
      once = false;
    })
fields_found Corpus g f whole are =
    let file = file_found Corpus g f are (omega (arith, whole.enough)) in
    let inputs = inputs_found Corpus g f are (omega (arith, whole.enough)) in
    let workers = value_found Corpus g f are option.Workers refl refl in
    let fill = value_found Corpus g f are option.Fill refl refl in
    let steps = value_found Corpus g f are option.Steps refl refl in
    let reports = value_found Corpus g f are option.Reports refl refl in
    let locations = flag_found Corpus g f are option.Where refl in
    let calls = flag_found Corpus g f are option.Calls refl in
    let once = flag_found Corpus g f are option.Once refl in
    λ i. made.Corpus (file i) (inputs i) (record {
      input = None;
      fill = option_map_or hex_bytes (fill i) [];
      steps = number_by (steps i);
      reports = number_by (reports i);
      schedule = no_schedule;
      locations = locations i;
      calls = calls i;
      once = once i;
    }) (number_by (workers i))
fields_found Gen g f whole are =
    let seed = value_found Gen g f are option.Seed refl refl in
    let functions = value_found Gen g f are option.Functions refl refl in
    let run = flag_found Gen g f are option.Run refl in
    λ i. made.Gen (number_by (seed i)) (number_by (functions i)) (run i)

-- and these can be made fields
pub fits_found : (c : CommandName) (g : Given) (f : Found) → Whole c g → rows_of f ≡ matches_of (app_for c) (spelled c g) → Fits c (found_value f)
fits_found Instrument g f whole are = tt
fits_found Run g f whole are = scheduled_fits Run g f are whole.values refl refl refl refl
fits_found Check g f whole are = record {
  run = scheduled_fits Check g f are whole.values refl refl refl refl;
  schedules = number_good 1 1000000 1000000 _ (omega arith) (good Check g f are whole.values option.Schedules refl refl);
  workers = number_good 1 8 8 _ (omega arith) (good Check g f are whole.values option.Workers refl refl);
}
fits_found Explain g f whole are = run_fits Explain g f are whole.values refl refl
fits_found Corpus g f whole are = record {
  run = reports_fit Corpus g f are whole.values refl refl refl;
  workers = number_good 1 8 8 _ (omega arith) (good Corpus g f are whole.values option.Workers refl refl);
}
fits_found Gen g f whole are = record {
  seed = number_good 0 (2 ^ 64 - 1) (2 ^ 64 - 1) _ (omega arith) (good Gen g f are whole.values option.Seed refl refl);
  functions = number_good 1 1000 1000 _ (omega arith) (good Gen g f are whole.values option.Functions refl refl);
}
