-- The fields of accepted words are within their limits.
use Rattle.std.proofs.Common.{◌≡◌, ◌≤◌, ◌<◌, ◌+◌, ◌*◌, ◌-◌, ◌^◌, ◌&&◌, ◌||◌, inl, inr, ℕ, Bool, true, false, List, [], ◌∷◌, Option, Some, None, option_map, Result, Ok, Err, refl, ap, subst, sym, arith, true≢false, length, find, cond, drop}
use Rattle.std.specs.Prelude.{All, IfSome, is_some, nat_lt, nat_le, slice_get, unwrap_or, ◌/◌, ◌%◌, ◌==◌}
use Rattle.std.specs.Char.{digit_value, is_ascii_hexdigit}
use Rattle.std.specs.Int.{is_in_range}
use Rattle.std.specs.List.{list_all, list_any}
use Rattle.std.specs.Option.{option_map_or}
use Rattle.std.proofs.lemmas.Bool.{and_parts, or_cases, eqb-true, leb-true, ltb-true, ltb-false}
use Rattle.std.proofs.lemmas.List.Elements.{All-cons, All-nil}
use Rattle.ms_words.specs.declared.names.CommandName.{CommandName}
use Rattle.ms_words.specs.declared.names.CommandName.TheVariants.{Instrument, Run, Check, Explain, Corpus, Gen}
use Rattle.ms_words.specs.declared.commands.Command.{Command}
use Rattle.ms_words.specs.declared.commands.Command.TheVariants as command
use Rattle.ms_words.specs.declared.commands.WordsError.{WordsError}
use Rattle.ms_words.specs.declared.names.OptionName.{OptionName}
use Rattle.ms_words.specs.declared.names.OptionName.TheVariants as option
use Rattle.ms_words.specs.declared.names.Takes.TheVariants.{Hex, Number}
use Rattle.ms_words.specs.Table.{Word, takes, commands, command_word, topics}
use Rattle.ms_words.specs.Values.{value_fault, is_hex, is_number, number, hex_bytes}
use Rattle.ms_words.specs.Reading.{Given, nothing, same, is_given, option_eq, read_words_from}
use Rattle.ms_words.specs.Words.{value_of, number_by, options_by, explain_options_by, corpus_options_by, no_schedule, check_by, command_given, command_in, command_named, asks, asked_or, command_of}
use Rattle.ms_words.specs.declared.reading.Next.TheVariants.{AnOption}
use Rattle.ms_words.specs.declared.topics.Topic.{Topic}
use Rattle.ms_words.specs.declared.topics.Topic.TheVariants as topic
use Rattle.ms_words.specs.Accepted.{Whole}
use Rattle.ms_words.specs.Limits.{RunsWithinLimits, ExplainsWithinLimits, CorpusWithinLimits, MadeWithinLimits, IsWithinLimits}
use Rattle.ms_words.proofs.GoodValues.{good_value, hex_tests, number_tests}
use Rattle.ms_words.proofs.Keeping.{whole_given}

-- ---- bytes

decimal_small : (b : ℕ) → is_in_range 48 57 b ≡ true → digit_value b < 16
decimal_small b is = grind (arith, is)

upper_small : (b : ℕ) → is_in_range 65 70 b ≡ true → digit_value b < 16
upper_small b is = grind (arith, is)

lower_small : (b : ℕ) → is_in_range 97 102 b ≡ true → digit_value b < 16
lower_small b is = grind (arith, is)

digit_small : (b : ℕ) → is_ascii_hexdigit b ≡ true → digit_value b < 16
digit_small b is = elim (or_cases (is_in_range 48 57 b || is_in_range 65 70 b) (is_in_range 97 102 b) is) [
  | inl letter ↦ elim (or_cases (is_in_range 48 57 b) (is_in_range 65 70 b) letter) [
    | inl decimal ↦ decimal_small b decimal
    | inr upper ↦ upper_small b upper
  ]
  | inr lower ↦ lower_small b lower
]

bytes_small : (ds : Word) → list_all is_ascii_hexdigit ds ≡ true → All (λ b. b < 2 ^ 8) (hex_bytes ds)
bytes_small [] all = All-nil (λ b. b < 2 ^ 8)
bytes_small (high ∷ []) all = All-nil (λ b. b < 2 ^ 8)
bytes_small (high ∷ low ∷ rest) all =
    let first = and_parts (is_ascii_hexdigit high) (is_ascii_hexdigit low && list_all is_ascii_hexdigit rest) all in
    let second = and_parts (is_ascii_hexdigit low) (list_all is_ascii_hexdigit rest) first.1 in
    let a = digit_small high first.0 in
    let b = digit_small low second.0 in
    All-cons (λ b. b < 2 ^ 8) (digit_value high * 16 + digit_value low) (hex_bytes rest) (omega (arith, a, b)) (bytes_small rest second.1)

count_of : (ds : Word) → length (hex_bytes ds) ≡ length ds / 2
count_of [] = refl
count_of (high ∷ []) = refl
count_of (high ∷ low ∷ rest) = omega (arith, count_of rest)

pub record BytesFit (bytes : List ℕ) : Type 0 where
  pub some : 1 ≤ length bytes
  pub few : length bytes ≤ 2048
  pub all : All (λ b. b < 2 ^ 8) bytes

bytes_fit : (v : Option Word) → is_some v ≡ true → IfSome v (λ w. value_fault (Hex 2048) 0 w ≡ None) → BytesFit (option_map_or hex_bytes v [])
bytes_fit None is good = absurd (true≢false (sym is))
bytes_fit (Some w) is good =
    let tests = hex_tests (is_hex w) (nat_lt 2048 (length w / 2)) 0 good in
    let parts = and_parts (nat_lt 0 (length w) && length w % 2 == 0) (list_all is_ascii_hexdigit w) tests.0 in
    let lengths = and_parts (nat_lt 0 (length w)) (length w % 2 == 0) parts.0 in
    let some : 0 < length w = ltb-true _ _ lengths.0 in
    let even : length w % 2 ≡ 0 = eqb-true _ _ lengths.1 in
    let few : length w / 2 ≤ 2048 = ltb-false _ _ tests.1 in
    record {
      some = omega (arith, some, even, count_of w);
      few = omega (arith, few, count_of w);
      all = bytes_small w parts.1;
    }

-- ---- numbers

number_fits : (least most : ℕ) (v : Option Word) → is_some v ≡ true → IfSome v (λ w. value_fault (Number least most) 0 w ≡ None)
    → (least ≤ number_by v) × (number_by v ≤ most)
number_fits least most None is good = absurd (true≢false (sym is))
number_fits least most (Some w) is good =
    let tests = number_tests (is_number w) (nat_le least (number w) && nat_le (number w) most) 0 good in
    let bounds = and_parts (nat_le least (number w)) (nat_le (number w) most) tests.1 in
    (leb-true _ _ bounds.0, leb-true _ _ bounds.1)

-- ---- commands

found_if : (b : Bool) (p : OptionName × Word) (rest : Option (OptionName × Word)) (others : Bool)
    → (others ≡ true → is_some (option_map (λ q. q.1) rest) ≡ true) → (b || others) ≡ true → is_some (option_map (λ q. q.1) (cond b (Some p) rest)) ≡ true
found_if true p rest others more any = refl
found_if false p rest others more any = more any

found_some : (o : OptionName) (ps : List (OptionName × Word)) → list_any (λ p. option_eq p.0 o) ps ≡ true
    → is_some (option_map (λ p. p.1) (find (λ p. option_eq p.0 o) ps)) ≡ true
found_some o [] any = absurd (true≢false (sym any))
found_some o (p ∷ ps) any =
    found_if (option_eq p.0 o) p (find (λ q. option_eq q.0 o) ps) (list_any (λ q. option_eq q.0 o) ps) (found_some o ps) any

run_within : (g : Given) → All (λ p. value_fault (takes p.0) 0 p.1 ≡ None) g.options → RunsWithinLimits (options_by (λ o. value_of o g))
run_within g all =
    let fits = bytes_fit (value_of option.Fill g) refl (good_value option.Fill g all) in
    let picks = bytes_fit (value_of option.Schedule g) refl (good_value option.Schedule g all) in
    let steps = number_fits 0 1000000000 (value_of option.Steps g) refl (good_value option.Steps g all) in
    let reports = number_fits 1 1000 (value_of option.Reports g) refl (good_value option.Reports g all) in
    record {
      filled = fits.some;
      fill = fits.few;
      bytes = fits.all;
      steps = steps.1;
      some_reports = reports.0;
      reports = reports.1;
      scheduled = picks.some;
      schedule = picks.few;
      schedule_bytes = picks.all;
    }

-- a check, under one schedule or under several
check_within : (v : Option Word) (file : Word) (g : Given) → Whole Check g → value_of option.Schedules g ≡ v
    → IsWithinLimits (check_by v (options_by (λ o. value_of o g)) (number_by (value_of option.Schedules g)) (number_by (value_of option.Workers g)) file)
check_within None file g whole is = run_within g whole.values
check_within (Some word) file g whole is =
    let runs = number_fits 1 1000000 (value_of option.Schedules g) (ap is_some is) (good_value option.Schedules g whole.values) in
    let workers = number_fits 1 8 (value_of option.Workers g) refl (good_value option.Workers g whole.values) in
    record {
      options = run_within g whole.values;
      some_runs = runs.0;
      few_runs = runs.1;
      some_workers = workers.0;
      few_workers = workers.1;
    }

-- the schedule of a command that takes none
none_fits : BytesFit no_schedule
none_fits = record { some = omega arith; few = omega arith; all = All-cons (λ b. b < 2 ^ 8) 0 [] (omega arith) (All-nil (λ b. b < 2 ^ 8)) }

explain_within : (g : Given) → All (λ p. value_fault (takes p.0) 0 p.1 ≡ None) g.options → ExplainsWithinLimits (explain_options_by (λ o. value_of o g))
explain_within g all =
    let runs = run_within g all in
    record {
      runs = record {
        filled = runs.filled;
        fill = runs.fill;
        bytes = runs.bytes;
        steps = runs.steps;
        some_reports = omega arith;
        reports = omega arith;
        scheduled = none_fits.some;
        schedule = none_fits.few;
        schedule_bytes = none_fits.all;
      };
      one_report = refl;
    }

inputs_within : (files : List Word) → 2 ≤ length files → length files ≤ 257 → (1 ≤ length (drop 1 files)) × (length (drop 1 files) ≤ 256)
inputs_within [] least most = absurd (omega (arith, least))
inputs_within (file ∷ inputs) least most = (omega (arith, least), omega (arith, most))

corpus_within : (g : Given) → Whole Corpus g → CorpusWithinLimits (drop 1 g.files) (corpus_options_by (λ o. value_of o g)) (number_by (value_of option.Workers g))
corpus_within g whole =
    let runs = run_within g whole.values in
    let inputs = inputs_within g.files whole.enough whole.few in
    let workers = number_fits 1 8 (value_of option.Workers g) refl (good_value option.Workers g whole.values) in
    record {
      runs = record {
        filled = runs.filled;
        fill = runs.fill;
        bytes = runs.bytes;
        steps = runs.steps;
        some_reports = runs.some_reports;
        reports = runs.reports;
        scheduled = none_fits.some;
        schedule = none_fits.few;
        schedule_bytes = none_fits.all;
      };
      some_inputs = inputs.0;
      few_inputs = inputs.1;
      some_workers = workers.0;
      few_workers = workers.1;
    }

made_within : (g : Given) → Whole Gen g → MadeWithinLimits (number_by (value_of option.Seed g)) (number_by (value_of option.Functions g))
made_within g whole =
    let given = and_parts (is_given option.Seed g) (is_given option.Functions g && true) whole.wanted in
    let functions_given = (and_parts (is_given option.Functions g) true given.1).0 in
    let seed = number_fits 0 (2 ^ 64 - 1) (value_of option.Seed g) (found_some option.Seed g.options given.0) (good_value option.Seed g whole.values) in
    let functions = number_fits 1 1000 (value_of option.Functions g) (found_some option.Functions g.options functions_given) (good_value option.Functions g whole.values) in
    let most : number_by (value_of option.Seed g) ≤ 2 ^ 64 - 1 = seed.1 in
    record { bits = omega (arith, most); some = functions.0; few = functions.1 }

pub within_limits : (c : CommandName) (g : Given) → Whole c g → IsWithinLimits (command_given c g)
within_limits Instrument g whole = tt
within_limits Run g whole = run_within g whole.values
within_limits Check g whole = check_within (value_of option.Schedules g) (unwrap_or (slice_get g.files 0) []) g whole refl
within_limits Explain g whole = explain_within g whole.values
within_limits Corpus g whole = corpus_within g whole
within_limits Gen g whole = made_within g whole

-- ---- what words ask for

read_within : (n : CommandName) (rest : List Word) (r : Result Given WordsError) (c : Command) → read_words_from n AnOption 1 nothing rest ≡ r → command_in n r ≡ Ok c → IsWithinLimits c
read_within n rest (Ok g) c reads is = let same : command_given n g ≡ c = cc in subst IsWithinLimits same (within_limits n g (whole_given n rest g reads))
read_within n rest (Err fault) c reads is = absurd cc

named_within : (n : Option CommandName) (rest : List Word) (c : Command) → command_named n rest ≡ Ok c → IsWithinLimits c
named_within None rest c is = absurd cc
named_within (Some n) rest c is = read_within n rest (read_words_from n AnOption 1 nothing rest) c refl is

asked_within : (t : Option Topic) (word : Word) (rest : List Word) (c : Command) → asked_or t word rest ≡ Ok c → IsWithinLimits c
asked_within (Some topic.Help) word rest c is = let same : command.Help ≡ c = cc in subst IsWithinLimits same tt
asked_within (Some topic.Version) word rest c is = let same : command.Version ≡ c = cc in subst IsWithinLimits same tt
asked_within None word rest c is = named_within (find (λ n. same word (command_word n)) commands) rest c is

-- the fields of the command that words ask for are within their limits
pub command_within : (words : List Word) (c : Command) → command_of words ≡ Ok c → IsWithinLimits c
command_within [] c is = absurd cc
command_within (word ∷ rest) c is = asked_within (find (asks word) topics) word rest c is
