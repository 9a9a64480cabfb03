-- A fault comes early: each word uses something up, of which a command has so much.
use Rattle.std.proofs.Common.{◌≡◌, ◌∙◌, ◌≤◌, ◌<◌, ◌+◌, ◌*◌, ◌-◌, ◌++◌, ◌&&◌, ◌||◌, ℕ, suc, Bool, true, false, not, cond, List, [], ◌∷◌, Option, Some, None, Result, Ok, Err, IfOk, refl, sym, ap, subst, arith, true≢false, length, if◌then◌else◌, codes, find, option_map, drop, drop-cons, add-one}
use Rattle.std.specs.Prelude.{nat_lt, unwrap_or, ◌^◌, is_some}
use Rattle.std.specs.List.{slice_index_or}
use Rattle.std.proofs.lemmas.List.{length-append}
use Rattle.std.proofs.lemmas.List.Folds.{list_any-append}
use Rattle.std.proofs.lemmas.Bool.{ltb-true}
use Rattle.ms_words.specs.declared.names.CommandName.{CommandName}
use Rattle.ms_words.specs.declared.names.OptionName.{OptionName}
use Rattle.ms_words.specs.declared.reading.Next.{Next}
use Rattle.ms_words.specs.declared.reading.Next.TheVariants.{AnOption, AValue, AFile}
use Rattle.ms_words.specs.declared.commands.WordsError.{WordsError}
use Rattle.ms_words.specs.declared.commands.WordsError.TheVariants as e
use Rattle.ms_words.specs.Table.{Word, takes, option_word, options_of, most_files}
use Rattle.ms_words.specs.Values.{value_fault}
use Rattle.ms_words.specs.Reading.{Given, Outcome, nothing, is_given, is_excluded, option_eq, same, with_option, with_file, with_value_if, begin_option, read_option, read_file, read_plain, read_word, option_in, read_words_from, and_then, name_and_value, after_dash, takes_nothing}
use Rattle.ms_words.proofs.Tables.{option_self, few_options, few_files}

-- ---- counts

abbrev one : Bool → ℕ
one b = cond b 1 0

abbrev counted : {X : Type 0} → (X → Bool) → List X → ℕ
counted p [] = 0
counted p (x ∷ xs) = one (p x) + counted p xs

-- an item that the one test passes and the other doesn't, where the other passes no others
module _ {X : Type 0} (p q : X → Bool) (within : (y : X) → q y ≡ true → p y ≡ true) where
  one_within : (a b : Bool) → (b ≡ true → a ≡ true) → one b ≤ one a
  one_within a false h = omega arith
  one_within true true h = omega arith
  one_within false true h = absurd (true≢false (sym (h refl)))

  fewer : (xs : List X) → counted q xs ≤ counted p xs
  fewer [] = omega arith
  fewer (x ∷ xs) = let h = one_within (p x) (q x) (within x) in omega (arith, h, fewer xs)

  lost_at : (t : X → Bool) (b : Bool) (x y : X) (ys : List X) → p x ≡ true → q x ≡ false → (find t ys ≡ Some x → counted q ys + 1 ≤ counted p ys)
      → cond b (Some y) (find t ys) ≡ Some x → one (q y) + counted q ys + 1 ≤ one (p y) + counted p ys
  lost_at t true x y ys hit miss rest found =
      let same : y ≡ x = ap (λ (o : Option X). unwrap_or o y) found in
      let one_p : one (p y) ≡ 1 = ap (λ (z : X). one (p z)) same ∙ ap one hit in
      let one_q : one (q y) ≡ 0 = ap (λ (z : X). one (q z)) same ∙ ap one miss in
      omega (arith, one_p, one_q, fewer ys)
  lost_at t false x y ys hit miss rest found = let h = one_within (p y) (q y) (within y) in omega (arith, h, rest found)

  lost : (t : X → Bool) (xs : List X) (x : X) → p x ≡ true → q x ≡ false → find t xs ≡ Some x → counted q xs + 1 ≤ counted p xs
  lost t [] x hit miss found = absurd (true≢false (sym (ap is_some found)))
  lost t (y ∷ ys) x hit miss found = lost_at t (t y) x y ys hit miss (lost t ys x hit miss) found

-- ---- what is left

abbrev is_pending : OptionName → Next → Bool
is_pending o (AValue a) = option_eq a o
is_pending o next = false

abbrev left : CommandName → Next → Given → ℕ
left c next g = counted (λ o. not (is_given o g || is_pending o next)) (options_of c)

abbrev next_weight : Next → ℕ
next_weight AnOption = 1
next_weight (AValue o) = 2
next_weight AFile = 0

abbrev pub weight : CommandName → Next → Given → ℕ
weight c next g = next_weight next + 2 * left c next g + (most_files c - length g.files)

given_with : (a o : OptionName) (v : Word) (g : Given) → is_given a (with_option o v g) ≡ (is_given a g || (option_eq o a || false))
given_with a o v g = list_any-append (λ p. option_eq p.0 a) g.options ((o, v) ∷ [])

not_either : (a b : Bool) → not ((a || (b || false)) || false) ≡ true → not (a || b) ≡ true
not_either true b h = h
not_either false true h = h
not_either false false h = refl

not_first : (a b : Bool) → not (a || b) ≡ true → not (a || false) ≡ true
not_first true b h = h
not_first false b h = refl

or_true : (a : Bool) → (a || (true || false)) ≡ true
or_true true = refl
or_true false = refl

-- an option that is given leaves one fewer
left_given : (c : CommandName) (t : OptionName → Bool) (o : OptionName) (v : Word) (g : Given) → is_given o g ≡ false → find t (options_of c) ≡ Some o
    → left c AnOption (with_option o v g) + 1 ≤ left c AnOption g
left_given c t o v g new found =
    lost (λ a. not (is_given a g || false)) (λ a. not (is_given a (with_option o v g) || false))
    (λ a h. not_first (is_given a g) (option_eq o a) (not_either (is_given a g) (option_eq o a) (ap (λ (b : Bool). not (b || false)) (sym (given_with a o v g)) ∙ h)))
    t (options_of c) o (ap (λ (b : Bool). not (b || false)) new)
    (ap (λ (b : Bool). not (b || false)) (given_with o o v g ∙ ap (λ (b : Bool). is_given o g || (b || false)) (option_self o) ∙ or_true (is_given o g)))
    found

-- and so does one whose value is to come
left_pending : (c : CommandName) (t : OptionName → Bool) (o : OptionName) (g : Given) → is_given o g ≡ false → find t (options_of c) ≡ Some o
    → left c (AValue o) g + 1 ≤ left c AnOption g
left_pending c t o g new found =
    lost (λ a. not (is_given a g || false)) (λ a. not (is_given a g || option_eq o a)) (λ a h. not_first (is_given a g) (option_eq o a) h)
    t (options_of c) o (ap (λ (b : Bool). not (b || false)) new)
    (ap (λ (b : Bool). not (is_given o g || b)) (option_self o) ∙ ap not (or_true (is_given o g)))
    found

left_valued : (c : CommandName) (o : OptionName) (v : Word) (g : Given) → left c AnOption (with_option o v g) ≤ left c (AValue o) g
left_valued c o v g =
    fewer (λ a. not (is_given a g || option_eq o a)) (λ a. not (is_given a (with_option o v g) || false))
    (λ a h. not_either (is_given a g) (option_eq o a) (ap (λ (b : Bool). not (b || false)) (sym (given_with a o v g)) ∙ h))
    (options_of c)

-- ---- one word

module _ (c : CommandName) where
  abbrev Uses : ℕ → Outcome → Type 0
  Uses n o = IfOk o (λ r. weight c r.0 r.1 + 1 ≤ n)

  uses_if : (f : Option WordsError) (n : ℕ) (o : OptionName) (v : Word) (g : Given) → weight c AnOption (with_option o v g) + 1 ≤ n → Uses n (with_value_if f o v g)
  uses_if (Some fault) n o v g less = tt
  uses_if None n o v g less = less

  uses_flag : (t : OptionName → Bool) (takes_none : Bool) (o : OptionName) (g : Given) → is_given o g ≡ false → find t (options_of c) ≡ Some o
      → Uses (weight c AnOption g) (if takes_none then Ok (AnOption, with_option o [] g) else Ok (AValue o, g))
  uses_flag t true o g new found = let h = left_given c t o [] g new found in omega (arith, h)
  uses_flag t false o g new found = let h = left_pending c t o g new found in omega (arith, h)

  uses_begun : (t : OptionName → Bool) (o : OptionName) (v : Option Word) (place : ℕ) (g : Given) → is_given o g ≡ false → find t (options_of c) ≡ Some o
      → Uses (weight c AnOption g) (begin_option o v place g)
  uses_begun t o (Some v) place g new found = let h = left_given c t o v g new found in uses_if (value_fault (takes o) place v) (weight c AnOption g) o v g (omega (arith, h))
  uses_begun t o None place g new found = uses_flag t (takes_nothing (takes o)) o g new found

  uses_new : (t : OptionName → Bool) (b excluded : Bool) (o : OptionName) (v : Option Word) (place : ℕ) (g : Given) → is_given o g ≡ b → find t (options_of c) ≡ Some o
      → Uses (weight c AnOption g) (if b then Err (e.Repeated place) else if excluded then Err (e.Excluded place) else begin_option o v place g)
  uses_new t true excluded o v place g given found = tt
  uses_new t false true o v place g given found = tt
  uses_new t false false o v place g given found = uses_begun t o v place g given found

  uses_known : (t : OptionName → Bool) (f : Option OptionName) (v : Option Word) (place : ℕ) (g : Given) → find t (options_of c) ≡ f
      → Uses (weight c AnOption g) (read_option (option_map (λ o. (o, v)) f) place g)
  uses_known t None v place g found = tt
  uses_known t (Some o) v place g found = uses_new t (is_given o g) (is_excluded o g) o v place g refl found

  uses_option : (text : Option Word) (place : ℕ) (g : Given) → Uses (weight c AnOption g) (read_option (option_in c text) place g)
  uses_option None place g = tt
  uses_option (Some text) place g =
      uses_known (λ o. same (option_word o) (name_and_value text).0 && not (takes_nothing (takes o) && is_some (name_and_value text).1)) _ (name_and_value text).1 place g refl

  uses_room : (b : Bool) (n place : ℕ) (word : Word) (g : Given) → nat_lt (length g.files) (most_files c) ≡ b → weight c AFile g ≤ n
      → Uses n (if b then Ok (AFile, with_file word g) else Err (e.Extra place))
  uses_room true n place word g room up =
      let below : length g.files < most_files c = ltb-true _ _ room in
      let len : length (g.files ++ word ∷ []) ≡ length g.files + 1 = length-append g.files (word ∷ []) in
      omega (arith, below, len, up)
  uses_room false n place word g room up = tt

  uses_file : (n place : ℕ) (word : Word) (g : Given) → weight c AFile g ≤ n → Uses n (read_file c place word g)
  uses_file n place word g up = uses_room (nat_lt (length g.files) (most_files c)) n place word g refl up

  uses_plain : (rest : Option Word) (place : ℕ) (word : Word) (g : Given) → Uses (weight c AnOption g) (read_plain c rest place word g)
  uses_plain None place word g = uses_file (weight c AnOption g) place word g (omega arith)
  uses_plain (Some []) place word g = uses_file (weight c AnOption g) place word g (omega arith)
  uses_plain (Some (b ∷ rest)) place word g = uses_option (after_dash (b ∷ rest)) place g

  uses_dashes : (b : Bool) (place : ℕ) (word : Word) (g : Given) → Uses (weight c AnOption g) (if b then Ok (AFile, g) else read_plain c (after_dash word) place word g)
  uses_dashes true place word g = omega arith
  uses_dashes false place word g = uses_plain (after_dash word) place word g

  -- a word uses something up
  pub uses_word : (next : Next) (place : ℕ) (word : Word) (g : Given) → Uses (weight c next g) (read_word c next place word g)
  uses_word AnOption place word g = uses_dashes (same word (codes "--")) place word g
  uses_word (AValue o) place word g =
      let h = left_valued c o word g in
      uses_if (value_fault (takes o) place word) (weight c (AValue o) g) o word g (omega (arith, h))
  uses_word AFile place word g = uses_file (weight c AFile g) place word g (omega arith)

  placed_by : (n place : ℕ) (o : Outcome) (r : Next × Given) → o ≡ Ok r → Uses n o → place + n ≤ 2 ^ 17 → place + 1 + weight c r.0 r.1 ≤ 2 ^ 17
  placed_by n place o r is uses room =
      let less : weight c r.0 r.1 + 1 ≤ n = subst (Uses n) is uses in omega (arith, less, room)

  -- so the place of a word is a small number
  pub next_place : (next after : Next) (place : ℕ) (word : Word) (g h : Given) → read_word c next place word g ≡ Ok (after, h)
      → place + weight c next g ≤ 2 ^ 17 → place + 1 + weight c after h ≤ 2 ^ 17
  next_place next after place word g h reads room =
      placed_by (weight c next g) place (read_word c next place word g) (after, h) reads (uses_word next place word g) room

one_most : (b : Bool) → one b ≤ 1
one_most true = omega arith
one_most false = omega arith

counted_most : {X : Type 0} (p : X → Bool) (xs : List X) → counted p xs ≤ length xs
counted_most p [] = omega arith
counted_most p (x ∷ xs) = omega (arith, one_most (p x), counted_most p xs)

-- a command has little at first
pub first_place : (c : CommandName) → 1 + weight c AnOption nothing ≤ 2 ^ 17
first_place c =
    let most : left c AnOption nothing ≤ length (options_of c) = counted_most (λ o. not (is_given o nothing || is_pending o AnOption)) (options_of c) in
    omega (arith, most, few_options c, few_files c)

-- the words after one that is read
pub words_passed : (c : CommandName) (next after : Next) (place : ℕ) (words : List Word) (i : ℕ) (word : Word) (g h : Given) (whole : Result Given WordsError)
    → i < length words → word ≡ slice_index_or words i word → read_word c next place word g ≡ Ok (after, h)
    → read_words_from c next place g (drop i words) ≡ whole → read_words_from c after (place + 1) h (drop (i + 1) words) ≡ whole
words_passed c next after place words i word g h whole lt at reads so_far =
    let here : read_words_from c next place g (word ∷ drop (suc i) words) ≡ read_words_from c after (place + 1) h (drop (suc i) words) =
    ap (λ (o : Outcome). and_then o (λ r. read_words_from c r.0 (place + 1) r.1 (drop (suc i) words))) reads in
    ap (λ n. read_words_from c after (place + 1) h (drop n words)) (add-one i) ∙ sym here
    ∙ ap (λ (w : Word). read_words_from c next place g (w ∷ drop (suc i) words)) at
    ∙ sym (ap (read_words_from c next place g) (drop-cons words i word lt)) ∙ so_far
