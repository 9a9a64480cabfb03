-- Reading keeps what holds of all that words give.
use Rattle.std.proofs.Common.{◌≡◌, ◌≤◌, ◌<◌, ◌+◌, ◌++◌, ◌&&◌, ℕ, Bool, true, false, not, List, [], ◌∷◌, Option, Some, None, Result, Ok, Err, IfOk, refl, ap, subst, arith, true≢false, if◌then◌else◌, codes}
use Rattle.std.specs.Prelude.{All, is_some, nat_lt, nat_le, ◌/◌, length}
use Rattle.std.specs.List.{list_all}
use Rattle.std.proofs.lemmas.List.{length-append}
use Rattle.std.proofs.lemmas.List.Elements.{All-push, All-nil}
use Rattle.std.proofs.lemmas.Bool.{ltb-true, ltb-false}
use Rattle.ms_words.specs.declared.names.CommandName.{CommandName}
use Rattle.ms_words.specs.declared.names.OptionName.{OptionName}
use Rattle.ms_words.specs.declared.names.Takes.{Takes}
use Rattle.ms_words.specs.declared.names.Takes.TheVariants.{Nothing, Anything, Hex, Number}
use Rattle.ms_words.specs.declared.reading.Next.{Next}
use Rattle.ms_words.specs.declared.reading.Next.TheVariants.{AnOption, AValue, AFile}
use Rattle.ms_words.specs.declared.commands.WordsError.{WordsError}
use Rattle.ms_words.specs.declared.commands.WordsError.TheVariants as e
use Rattle.ms_words.specs.Table.{Word, takes, least_files, most_files}
use Rattle.ms_words.specs.Values.{value_fault, is_hex, is_number, number}
use Rattle.ms_words.specs.Reading.{Given, Outcome, is_given, is_excluded, wanted_in, nothing, same, with_option, with_file, with_value_if, read_value, begin_option, read_option, read_file, read_plain, read_word, read_end, and_then, read_words_from, option_in, after_dash, takes_nothing}
use Rattle.ms_words.specs.Accepted.{Whole}

-- what holds of all that the words so far give: nothing is wrong with the values, and there are no more files than a command may have
record Kept (c : CommandName) (g : Given) : Type 0 where
  pub values : All (λ p. value_fault (takes p.0) 0 p.1 ≡ None) g.options
  pub few : length g.files ≤ most_files c

is_fault : {X : Type 0} (x : X) → Some x ≡ None → ⊥
is_fault x h = true≢false (ap is_some h)

no_hex_fault : (a b : Bool) (p q : ℕ) → (if not a then Some (e.BadHex p) else if b then Some (e.OutOfRange p) else None) ≡ None
    → (if not a then Some (e.BadHex q) else if b then Some (e.OutOfRange q) else None) ≡ None
no_hex_fault true true p q h = absurd (is_fault _ h)
no_hex_fault true false p q h = refl
no_hex_fault false b p q h = absurd (is_fault _ h)

no_number_fault : (a b : Bool) (p q : ℕ) → (if not a then Some (e.BadNumber p) else if b then None else Some (e.OutOfRange p)) ≡ None
    → (if not a then Some (e.BadNumber q) else if b then None else Some (e.OutOfRange q)) ≡ None
no_number_fault true true p q h = refl
no_number_fault true false p q h = absurd (is_fault _ h)
no_number_fault false b p q h = absurd (is_fault _ h)

-- whether a value is faulty doesn't rest on its place
fault_anywhere : (t : Takes) (p q : ℕ) (v : Word) → value_fault t p v ≡ None → value_fault t q v ≡ None
fault_anywhere Nothing p q v none = refl
fault_anywhere Anything p q v none = refl
fault_anywhere (Hex most) p q v none = no_hex_fault (is_hex v) (nat_lt most (length v / 2)) p q none
fault_anywhere (Number least most) p q v none = no_number_fault (is_number v) (nat_le least (number v) && nat_le (number v) most) p q none

module _ (c : CommandName) where
  abbrev Keeps : Outcome → Type 0
  Keeps o = IfOk o (λ r. Kept c r.1)

  -- ---- one word

  more_options : (o : OptionName) (v : Word) (g : Given) → Kept c g → value_fault (takes o) 0 v ≡ None → Kept c (with_option o v g)
  more_options o v g kept good = record {
    values = All-push (λ p. value_fault (takes p.0) 0 p.1 ≡ None) g.options (o, v) kept.values good;
    few = kept.few;
  }

  kept_if : (f : Option WordsError) (o : OptionName) (v : Word) (g : Given) → Kept c g → (f ≡ None → value_fault (takes o) 0 v ≡ None) → Keeps (with_value_if f o v g)
  kept_if (Some fault) o v g kept good = tt
  kept_if None o v g kept good = more_options o v g kept (good refl)

  kept_value : (o : OptionName) (place : ℕ) (v : Word) (g : Given) → Kept c g → Keeps (read_value o place v g)
  kept_value o place v g kept = kept_if (value_fault (takes o) place v) o v g kept (fault_anywhere (takes o) place 0 v)

  kept_flag : (o : OptionName) (t : Takes) (g : Given) → takes o ≡ t → Kept c g → Keeps (if takes_nothing t then Ok (AnOption, with_option o [] g) else Ok (AValue o, g))
  kept_flag o Nothing g is kept = more_options o [] g kept (ap (λ t. value_fault t 0 []) is)
  kept_flag o Anything g is kept = kept
  kept_flag o (Hex most) g is kept = kept
  kept_flag o (Number least most) g is kept = kept

  kept_begun : (o : OptionName) (v : Option Word) (place : ℕ) (g : Given) → Kept c g → Keeps (begin_option o v place g)
  kept_begun o (Some v) place g kept = kept_value o place v g kept
  kept_begun o None place g kept = kept_flag o (takes o) g refl kept

  kept_known : (a b : Bool) (o : OptionName) (v : Option Word) (place : ℕ) (g : Given) → Kept c g
      → Keeps (if a then Err (e.Repeated place) else if b then Err (e.Excluded place) else begin_option o v place g)
  kept_known true b o v place g kept = tt
  kept_known false true o v place g kept = tt
  kept_known false false o v place g kept = kept_begun o v place g kept

  kept_option : (p : Option (OptionName × Option Word)) (place : ℕ) (g : Given) → Kept c g → Keeps (read_option p place g)
  kept_option None place g kept = tt
  kept_option (Some p) place g kept = kept_known (is_given p.0 g) (is_excluded p.0 g) p.0 p.1 place g kept

  more_files : (word : Word) (g : Given) → Kept c g → length g.files < most_files c → Kept c (with_file word g)
  more_files word g kept room = record {
    values = kept.values;
    few = let len : length (g.files ++ word ∷ []) ≡ length g.files + 1 = length-append g.files (word ∷ []) in omega (arith, len);
  }

  kept_room : (b : Bool) (place : ℕ) (word : Word) (g : Given) → nat_lt (length g.files) (most_files c) ≡ b → Kept c g
      → Keeps (if b then Ok (AFile, with_file word g) else Err (e.Extra place))
  kept_room true place word g is kept = more_files word g kept (ltb-true _ _ is)
  kept_room false place word g is kept = tt

  kept_file : (place : ℕ) (word : Word) (g : Given) → Kept c g → Keeps (read_file c place word g)
  kept_file place word g kept = kept_room (nat_lt (length g.files) (most_files c)) place word g refl kept

  kept_plain : (rest : Option Word) (place : ℕ) (word : Word) (g : Given) → Kept c g → Keeps (read_plain c rest place word g)
  kept_plain None place word g kept = kept_file place word g kept
  kept_plain (Some []) place word g kept = kept_file place word g kept
  kept_plain (Some (b ∷ rest)) place word g kept = kept_option (option_in c (after_dash (b ∷ rest))) place g kept

  kept_dashes : (b : Bool) (place : ℕ) (word : Word) (g : Given) → Kept c g → Keeps (if b then Ok (AFile, g) else read_plain c (after_dash word) place word g)
  kept_dashes true place word g kept = kept
  kept_dashes false place word g kept = kept_plain (after_dash word) place word g kept

  kept_word : (next : Next) (place : ℕ) (word : Word) (g : Given) → Kept c g → Keeps (read_word c next place word g)
  kept_word AnOption place word g kept = kept_dashes (same word (codes "--")) place word g kept
  kept_word (AValue o) place word g kept = kept_value o place word g kept
  kept_word AFile place word g kept = kept_file place word g kept

  -- ---- all words

  whole_if : (a b : Bool) (place : ℕ) (g : Given) → Kept c g → list_all (λ o. is_given o g) (wanted_in c g) ≡ a → nat_lt (length g.files) (least_files c) ≡ b
      → IfOk (if not a then Err (e.MissingOption place) else if b then Err (e.MissingFile place) else Ok g) (Whole c)
  whole_if true true place g kept wanted enough = tt
  whole_if true false place g kept wanted enough = record { values = kept.values; few = kept.few; enough = ltb-false _ _ enough; wanted = wanted }
  whole_if false b place g kept wanted enough = tt

  whole_end : (next : Next) (place : ℕ) (g : Given) → Kept c g → IfOk (read_end c next place g) (Whole c)
  whole_end AnOption place g kept = whole_if (list_all (λ o. is_given o g) (wanted_in c g)) (nat_lt (length g.files) (least_files c)) place g kept refl refl
  whole_end (AValue o) place g kept = tt
  whole_end AFile place g kept = whole_if (list_all (λ o. is_given o g) (wanted_in c g)) (nat_lt (length g.files) (least_files c)) place g kept refl refl

  whole_then : (o : Outcome) (f : Next × Given → Result Given WordsError) → Keeps o → ((r : Next × Given) → Kept c r.1 → IfOk (f r) (Whole c)) → IfOk (and_then o f) (Whole c)
  whole_then (Ok r) f kept rest = rest r kept
  whole_then (Err fault) f kept rest = tt

  whole_from : (words : List Word) (next : Next) (place : ℕ) (g : Given) → Kept c g → IfOk (read_words_from c next place g words) (Whole c)
  whole_from [] next place g kept = whole_end next place g kept
  whole_from (word ∷ rest) next place g kept =
      whole_then (read_word c next place word g) (λ r. read_words_from c r.0 (place + 1) r.1 rest) (kept_word next place word g kept)
      (λ r k. whole_from rest r.0 (place + 1) r.1 k)

  -- what words give that are read to their end
  pub whole_given : (words : List Word) (g : Given) → read_words_from c AnOption 1 nothing words ≡ Ok g → Whole c g
  whole_given words g reads = subst (λ (r : Result Given WordsError). IfOk r (Whole c)) reads (whole_from words AnOption 1 nothing (record { values = All-nil (λ p. value_fault (takes p.0) 0 p.1 ≡ None); few = omega arith }))
