-- What holds of each lexeme of a text of bytes, and what the pieces of the grammar keep of it.
use Rattle.std.proofs.Common.{◌≡◌, ◌≤◌, ℕ, zero, suc, ◌+◌, ◌-◌, ◌*◌, Bool, true, false, true≢false, cond, ◌&&◌, List, [], ◌∷◌, ◌++◌, take, drop, Ok, Err, refl, sym, ◌∙◌, subst, arith}
use Rattle.std.specs.Prelude.{IsTrue, nat_lt, nat_le, ◌==◌}
use Rattle.std.specs.List.{AllByRecursion, list_all, before_first}
use Rattle.std.specs.Str.{bytes_eq}
use Rattle.std.specs.Char.{digit_value, is_digit}
use Rattle.std.proofs.lemmas.Bool.{and_parts, and_from, cond_both, ltb-true, lt-ltb, le-leb}
use Rattle.std.proofs.lemmas.List.Folds.{list_all-append}
use Rattle.ms_lex.specs.declared.kinds.Kind.{Kind}
use Rattle.ms_lex.specs.declared.kinds.Kind.TheVariants as k
use Rattle.ms_lex.specs.declared.kinds.Token.{Token}
use Rattle.ms_lex.specs.Tokens.{Text, is_quote, is_digits}
use Rattle.ms_lex.specs.Names.{spelling_of, name_part, is_backslash, unescaped, decoded}
use Rattle.ms_lex.specs.Numbers.{decimal}
use Rattle.ms_lex.specs.Grammar.{head, Turns, give, loop, ◌>>=◌, ◌>>◌}
use Rattle.ms_ir.specs.declared.forms.Form.{Form}
use Rattle.ms_text_grammar.specs.declared.refusals.Limit.{Limit}
use Rattle.ms_text_grammar.specs.declared.refusals.Cause.{Cause}
use Rattle.ms_text_grammar.specs.declared.symbols.Symbol.{Symbol}
use Rattle.ms_text_grammar.specs.declared.symbols.Symbol.TheVariants as s
use Rattle.ms_text_grammar.specs.Lexemes.{Lexeme, Row, keywords, punctuation_symbols, symbol_in, int_symbol, type_or_plain, word_symbol, symbol_of, end_of_text, lexeme_of, lexemes_of, name_in, width_in, same_symbol, is}
use Rattle.ms_text_grammar.specs.Steps.{Rule, Verdict, within, judge_map, skip, sees, word, comma_begins, listed, with_item, items}
use Rattle.ms_text_grammar.specs.Texts.{HasTokens, ReadsUpTo}
use Rattle.ms_text_grammar.proofs.Rests.{reads_keep}
use Rattle.ms_check_valid.specs.FormedNames.{are_bytes}
use Rattle.ms_check_valid.specs.FormedCode.{is_width}

-- a lexeme of a text of bytes: its name is bytes, and an integer type's width is one of 1 to 64
pub record IsSound (t : Lexeme) : Type 0 where
  pub bytes : are_bytes (name_in t) ≡ true
  pub width : is s.IntType t ≡ true → is_width (width_in t) ≡ true

abbrev pub AllSound : List Lexeme → Type 0
AllSound ts = AllByRecursion IsSound ts

-- ---- bytes

take_bytes : (n : ℕ) (x : Text) → are_bytes x ≡ true → are_bytes (take n x) ≡ true
take_bytes zero x h = refl
take_bytes (suc n) [] h = refl
take_bytes (suc n) (b ∷ x) h =
    let parts = and_parts (nat_lt b 256) (are_bytes x) h in
    and_from (nat_lt b 256) (are_bytes (take n x)) parts.0 (take_bytes n x parts.1)

drop_bytes : (n : ℕ) (x : Text) → are_bytes x ≡ true → are_bytes (drop n x) ≡ true
drop_bytes zero x h = h
drop_bytes (suc n) [] h = refl
drop_bytes (suc n) (b ∷ x) h = drop_bytes n x (and_parts (nat_lt b 256) (are_bytes x) h).1

-- two hexadecimal digits name a byte
hex_byte : (high low : ℕ) → nat_lt high 16 ≡ true → nat_lt low 16 ≡ true → nat_lt (16 * high + low) 256 ≡ true
hex_byte high low p q =
    let first = ltb-true high 16 p in
    let second = ltb-true low 16 q in
    lt-ltb (16 * high + low) 256 (omega (arith, first, second))

abbrev AreBytes : Text → Type 0
AreBytes x = are_bytes x ≡ true

unescaped_bytes : (x : Text) → AreBytes x → AreBytes (unescaped x)
unescaped_bytes [] h = refl
unescaped_bytes (a ∷ []) h = h
unescaped_bytes (a ∷ b ∷ []) h =
    cond_both (is_backslash a && is_backslash b) (92 ∷ []) (a ∷ b ∷ []) AreBytes (λ e. refl) (λ e. h)
unescaped_bytes (a ∷ b ∷ c ∷ rest) h =
    let first = and_parts (nat_lt a 256) (are_bytes (b ∷ c ∷ rest)) h in
    let second = and_parts (nat_lt b 256) (are_bytes (c ∷ rest)) first.1 in
    let third = and_parts (nat_lt c 256) (are_bytes rest) second.1 in
    let hex : Text = (16 * digit_value b + digit_value c) ∷ unescaped rest in
    let plain : Text = a ∷ unescaped (b ∷ c ∷ rest) in
    cond_both (is_backslash a && is_backslash b) (92 ∷ unescaped (c ∷ rest)) (cond (is_backslash a && is_digit b 16 && is_digit c 16) hex plain) AreBytes
    (λ e. unescaped_bytes (c ∷ rest) second.1)
    (λ e. cond_both (is_backslash a && is_digit b 16 && is_digit c 16) hex plain AreBytes
    (λ d.
    let low = and_parts (is_backslash a && is_digit b 16) (is_digit c 16) d in
    let high = and_parts (is_backslash a) (is_digit b 16) low.0 in
    and_from (nat_lt (16 * digit_value b + digit_value c) 256) (are_bytes (unescaped rest)) (hex_byte (digit_value b) (digit_value c) high.1 low.1) (unescaped_bytes rest third.1))
    (λ d. and_from (nat_lt a 256) (are_bytes (unescaped (b ∷ c ∷ rest))) first.0 (unescaped_bytes (b ∷ c ∷ rest) first.1)))

decoded_bytes : (x : Text) → AreBytes x → AreBytes (decoded x)
decoded_bytes [] h = refl
decoded_bytes (b ∷ rest) h =
    let inner : AreBytes (before_first is_quote rest) = take_bytes _ rest (and_parts (nat_lt b 256) (are_bytes rest) h).1 in
    cond_both (is_quote b) (unescaped (before_first is_quote rest)) (b ∷ rest) AreBytes (λ e. unescaped_bytes (before_first is_quote rest) inner) (λ e. h)

part_bytes : (kind : Kind) (x : Text) → AreBytes x → AreBytes (name_part kind x)
part_bytes k.Label x h = take_bytes _ x h
part_bytes k.CText x h = drop_bytes 1 x h
part_bytes k.Global x h = drop_bytes 1 x h
part_bytes k.Local x h = drop_bytes 1 x h
part_bytes k.Meta x h = drop_bytes 1 x h
part_bytes k.Group x h = drop_bytes 1 x h
part_bytes kind x h = h

spelling_bytes : (text : Text) (t : Token) → AreBytes text → AreBytes (spelling_of text t)
spelling_bytes text t h = take_bytes (t.end - t.start) (drop t.start text) (drop_bytes t.start text h)

-- ---- widths

abbrev IsInt : Symbol → Type 0
IsInt x = same_symbol x s.IntType ≡ true

abbrev NoInt : Symbol → Type 0
NoInt x = same_symbol x s.IntType ≡ false

never : {P : Type 0} (x : Symbol) → NoInt x → IsInt x → P
never x p q = absurd (true≢false (sym q ∙ p))

neither : {P : Type 0} (b : Bool) (x y : Symbol) → NoInt x → NoInt y → IsInt (cond b x y) → P
neither true x y p q h = never x p h
neither false x y p q h = never y q h

no_ints : NoInt s.Label × NoInt s.NumberedLabel × NoInt s.CText × NoInt s.Str × NoInt s.Number × NoInt s.Dots × NoInt s.FloatLiteral × NoInt s.DollarName × NoInt s.Other × NoInt s.Global × NoInt s.Local × NoInt s.NumberedLocal × NoInt s.NoSanitize × NoInt s.Meta × NoInt s.DebugGroup × NoInt s.Group × NoInt s.EndOfText × NoInt s.PlainWord × NoInt s.WideIntType
unfolding same_symbol
no_ints = (refl, refl, refl, refl, refl, refl, refl, refl, refl, refl, refl, refl, refl, refl, refl, refl, refl, refl, refl)

positive : (n : ℕ) → (n == 0) ≡ false → 1 ≤ n
positive zero e = absurd cc
positive (suc n) e = omega arith

int_width : (n : ℕ) (zero_wide few : Bool) → (n == 0) ≡ zero_wide → nat_lt n 65 ≡ few → IsInt (cond zero_wide s.PlainWord (cond few s.IntType s.WideIntType)) → is_width n ≡ true
int_width n true few p q h = never s.PlainWord no_ints.17 h
int_width n false true p q h =
    let some = positive n p in
    let below = ltb-true n 65 q in
    and_from (nat_le 1 n) (nat_le n 64) (le-leb 1 n some) (le-leb n 64 (omega (arith, below)))
int_width n false false p q h = never s.WideIntType no_ints.18 h

int_or_plain : (b : Bool) (n : ℕ) → IsInt (cond b (int_symbol n) s.PlainWord) → is_width n ≡ true
int_or_plain true n h = int_width n (n == 0) (nat_lt n 65) refl refl h
int_or_plain false n h = never s.PlainWord no_ints.17 h

plain_width : (w : Text) → IsInt (type_or_plain w) → is_width (decimal (drop 1 w)) ≡ true
plain_width [] h = never s.PlainWord no_ints.17 h
plain_width (b ∷ rest) h = int_or_plain ((b == 105) && is_digits rest) (decimal rest) h

-- no word of a table is an integer type
abbrev no_int_words : List Row → Bool
no_int_words [] = true
no_int_words (row ∷ rest) = cond (same_symbol row.1 s.IntType) false (no_int_words rest)

in_row : {P : Type 0} (e b : Bool) (x y : Symbol) (others : Bool) → same_symbol x s.IntType ≡ e → cond e false others ≡ true → (others ≡ true → IsInt y → P) → IsInt (cond b x y) → P
in_row true b x y others p h q r = absurd cc
in_row false true x y others p h q r = never x p r
in_row false false x y others p h q r = q h r

in_table : {P : Type 0} (rows : List Row) (none : Symbol) (word : Text) → no_int_words rows ≡ true → (IsInt none → P) → IsInt (symbol_in rows none word) → P
in_table [] none word h q r = q r
in_table (row ∷ rest) none word h q r =
    in_row (same_symbol row.1 s.IntType) (bytes_eq row.0 word) row.1 (symbol_in rest none word) (no_int_words rest) refl h (λ others i. in_table rest none word others q i) r

no_keyword : no_int_words keywords ≡ true
unfolding same_symbol
no_keyword = refl

no_sign : no_int_words punctuation_symbols ≡ true
unfolding same_symbol
no_sign = refl

other_never : {P : Type 0} (a b c : Bool) → IsInt (cond a s.Dots (cond b s.FloatLiteral (cond c s.DollarName s.Other))) → P
other_never true b c h = never s.Dots no_ints.5 h
other_never false true c h = never s.FloatLiteral no_ints.6 h
other_never false false c h = neither c s.DollarName s.Other no_ints.7 no_ints.8 h

symbol_width : (kind : Kind) (w : Text) → IsInt (symbol_of kind w) → is_width (decimal (drop 1 w)) ≡ true
unfolding symbol_of word_symbol
symbol_width k.Label w h = neither _ s.NumberedLabel s.Label no_ints.1 no_ints.0 h
symbol_width k.CText w h = never s.CText no_ints.2 h
symbol_width k.Str w h = never s.Str no_ints.3 h
symbol_width k.Number w h = never s.Number no_ints.4 h
symbol_width k.Word w h = in_table keywords (type_or_plain w) w no_keyword (plain_width w) h
symbol_width k.Other w h = other_never _ _ _ h
symbol_width k.Global w h = never s.Global no_ints.9 h
symbol_width k.Local w h = neither _ s.NumberedLocal s.Local no_ints.11 no_ints.10 h
symbol_width k.Meta w h = neither _ s.NoSanitize s.Meta no_ints.12 no_ints.13 h
symbol_width k.Group w h = neither _ s.DebugGroup s.Group no_ints.14 no_ints.15 h
symbol_width k.Punct w h = in_table punctuation_symbols s.Other w no_sign (never s.Other no_ints.8) h

-- ---- lexemes

sound_lexeme : (text : Text) (t : Token) → AreBytes text → IsSound (lexeme_of text t)
sound_lexeme text t h = record {
  bytes = decoded_bytes (name_part t.kind (spelling_of text t)) (part_bytes t.kind (spelling_of text t) (spelling_bytes text t h));
  width = symbol_width t.kind (spelling_of text t);
}

sound_tokens : (text : Text) (tokens : List Token) → AreBytes text → AllSound (lexemes_of text tokens)
sound_tokens text [] h = tt
sound_tokens text (t ∷ rest) h = (sound_lexeme text t h, sound_tokens text rest h)

pub sound_lexemes : (form : Form) (text : Text) (tokens : List Token) → IsTrue (are_bytes text) → HasTokens form text tokens → AllSound (lexemes_of text tokens)
sound_lexemes form text tokens h has = sound_tokens text tokens h

sound_end : IsSound end_of_text
sound_end = record { bytes = refl; width = λ h. never s.EndOfText no_ints.16 h }

pub sound_head : (ts : List Lexeme) → AllSound ts → IsSound (head end_of_text ts)
sound_head [] all = sound_end
sound_head (t ∷ ts) all = all.0

pub sound_rest : {A : Type 0} (g : Rule A) (ts : List Lexeme) (v : A) (rest : List Lexeme) → AllSound ts → ReadsUpTo g ts v rest → AllSound rest
sound_rest g ts v rest all h = reads_keep end_of_text IsSound g ts v rest h all

-- ---- turns and lists: what each turn and each item keeps, all of them keep

module _ {S : Type 0} (begins : S → Lexeme → Verdict Bool) (body : S → Lexeme → Rule S) (P : S → Type 0)
    (keep : (a : S) (t : Lexeme) (ts : List Lexeme) (v : S) (rest : List Lexeme) → begins a t ≡ Ok true → IsSound t → AllSound ts → ReadsUpTo (body a t) ts v rest → P a → P v) where
  turns_keep : (n : ℕ) (a : S) (ts : List Lexeme) (v : S) (rest : List Lexeme) → AllSound ts → Turns begins (λ a t. ReadsUpTo (body a t)) n a ts v rest → P a → P v
  turns_keep zero a ts v rest all h p = subst P (sym h.1) p
  turns_keep (suc n) a [] v rest all h p = absurd h
  turns_keep (suc n) a (t ∷ ts) v rest all h p =
      turns_keep n h.1 h.2 v rest (sound_rest (body a t) ts h.1 h.2 all.1 h.3) h.4 (keep a t ts h.1 h.2 h.0 all.0 all.1 h.3 p)

  pub loop_keeps : (a : S) (ts : List Lexeme) (v : S) (rest : List Lexeme) → AllSound ts → ReadsUpTo (loop begins body a) ts v rest → P a → P v
  loop_keeps a ts v rest all h p = turns_keep h.0 a ts v rest all h.1 p

module _ {S : Type 0} (closing : Symbol) (more : S → Bool) (item : S → Rule S) (P : S → Type 0)
    (keep : (a : S) (ts : List Lexeme) (v : S) (rest : List Lexeme) → AllSound ts → ReadsUpTo (item a) ts v rest → P a → P v) where
  abbrev rest_items : S → Rule S
  rest_items first = loop (comma_begins more) (λ state comma. item state) first >>= λ all. word closing >> give all

  listed_by : (empty : Bool) (start : S) (ts : List Lexeme) (v : S) (rest : List Lexeme) → AllSound ts
      → ReadsUpTo (cond empty (skip >> give start) (item start >>= rest_items)) ts v rest → P start → P v
  listed_by true start ts v rest all h p = subst P (sym h.3.0) p
  listed_by false start ts v rest all h p =
      let first = keep start ts h.0 h.1 all h.2 p in
      let sound = sound_rest (item start) ts h.0 h.1 all h.2 in
      subst P (sym h.3.3.3.0)
      (loop_keeps (comma_begins more) (λ state comma. item state) P (λ a t us w others begun here good r q. keep a us w others good r q) h.0 h.1 h.3.0 h.3.1 sound h.3.2 first)

  pub listed_keeps : (start : S) (ts : List Lexeme) (v : S) (rest : List Lexeme) → AllSound ts → ReadsUpTo (listed closing more item start) ts v rest → P start → P v
  unfolding listed
  listed_keeps start ts v rest all h p = listed_by h.0 start h.1 v rest (sound_rest (sees closing) ts h.0 h.1 all h.2) h.3 p

pub all_pushed : {A : Type 0} (test : A → Bool) (xs : List A) (x : A) → list_all test xs ≡ true → test x ≡ true → list_all test (xs ++ x ∷ []) ≡ true
all_pushed test xs x all last = list_all-append test xs (x ∷ []) ∙ and_from (list_all test xs) (test x && true) all (and_from (test x) true last refl)

-- each item passes a test
pub items_pass : {A : Type 0} (closing : Symbol) (item : Rule A) (test : A → Bool)
    → ((ts : List Lexeme) (v : A) (rest : List Lexeme) → AllSound ts → ReadsUpTo item ts v rest → test v ≡ true)
    → (ts : List Lexeme) (v : List A) (rest : List Lexeme) → AllSound ts → ReadsUpTo (items closing item) ts v rest → list_all test v ≡ true
unfolding items
items_pass closing item test each ts v rest all h =
    listed_keeps closing (λ found. true) (with_item item) (λ found. list_all test found ≡ true)
    (λ found us w others good r p. subst (λ xs. list_all test xs ≡ true) (sym r.3.0) (all_pushed test found r.0 p (each us r.0 r.1 good r.2)))
    [] ts v rest all h refl

-- ---- verdicts

pub no_value : {A P : Type 0} (e : Cause) (a : A) → ◌≡◌ {A = Verdict A} (Err e) (Ok a) → P
no_value e a h = absurd cc

pub same_value : {A : Type 0} (a b : A) → ◌≡◌ {A = Verdict A} (Ok a) (Ok b) → a ≡ b
same_value a b h = cc

-- a test that must pass, and one that must not
pub if_good : {A : Type 0} (b : Bool) (v : Verdict A) (e : Cause) (a : A) → cond b v (Err e) ≡ Ok a → (b ≡ true) × (v ≡ Ok a)
if_good true v e a h = (refl, h)
if_good false v e a h = no_value e a h

pub if_else : {A : Type 0} (b : Bool) (e : Cause) (v : Verdict A) (a : A) → cond b (Err e) v ≡ Ok a → (b ≡ false) × (v ≡ Ok a)
if_else true e v a h = no_value e a h
if_else false e v a h = (refl, h)

-- a value that is made of another
pub if_mapped : {A B : Type 0} (f : A → B) (v : Verdict A) (b : B) → judge_map f v ≡ Ok b → (a : A) × (v ≡ Ok a) × (f a ≡ b)
if_mapped f (Ok a) b h = (a, refl, same_value (f a) b h)
if_mapped f (Err e) b h = no_value e b h

pub if_within : {A : Type 0} (b : Bool) (most : Limit) (v : Verdict A) (a : A) → within b most v ≡ Ok a → (b ≡ true) × (v ≡ Ok a)
if_within true most v a h = (refl, h)
if_within false most (Ok x) a h = no_value _ a h
if_within false most (Err e) a h = no_value e a h
