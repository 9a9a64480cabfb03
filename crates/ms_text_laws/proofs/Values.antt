-- Values and initialisers are read as what they were written of.
use Rattle.std.proofs.Common.{◌≡◌, ℕ, zero, suc, ◌+◌, ◌-◌, ◌*◌, ◌≤◌, ◌<◌, ◌^◌, max, Bool, true, false, true≢false, ◌&&◌, ◌||◌, cond, ltb, List, [], ◌∷◌, ◌++◌, map, flat_map, length, Ok, Err, pos, negsuc, refl, sym, ap, ◌∙◌, subst, append_assoc, append-nil, arith, le_trans, length-append, pow_mono}
use native.Mathlib.Nat.{le-max_left, le-max_right}
use Rattle.std.specs.Prelude.{codes, nat_lt, nat_le, ◌==◌}
use Rattle.std.specs.List.{list_all}
use Rattle.std.proofs.lemmas.Bool.{ltb-true, ltb-false, lt-ltb, leb-true, eqb-true, and_parts}
use Rattle.ms_bits.specs.Signed.{signed, wrap}
use Rattle.ms_lex.specs.Numbers.{signed_decimal}
use Rattle.ms_lex.specs.Grammar.{head, give, ◌>>=◌}
use Rattle.ms_ir.specs.declared.syntax.Name.{Name}
use Rattle.ms_ir.specs.declared.syntax.Name.TheVariants.{Number, Text as Called}
use Rattle.ms_ir.specs.declared.syntax.Ty.{Ty, Int, Ptr, Array', Struct', Named}
use Rattle.ms_ir.specs.declared.syntax.Operand.{Operand}
use Rattle.ms_ir.specs.declared.syntax.Operand.TheVariants as operand
use Rattle.ms_ir.specs.declared.syntax.Init.{Init, Row_of-Init-Array-0-2, end_of-Init-Array-0-2, more_of-Init-Array-0-2, items-the_row-Init-Array-0-2}
use Rattle.ms_ir.specs.declared.syntax.Init as initial
use Rattle.ms_ir.specs.Equal.{AddressStep}
use Rattle.ms_ir.specs.Layout.{width_of}
use Rattle.ms_text_grammar.specs.declared.refusals.Limit.TheVariants as limit
use Rattle.ms_text_grammar.specs.declared.symbols.Symbol.{Symbol}
use Rattle.ms_text_grammar.specs.declared.symbols.Symbol.TheVariants as s
use Rattle.ms_text_grammar.specs.Lexemes.{Lexeme, end_of_text, is, same_symbol, symbol_of, word_symbol}
use Rattle.ms_text_grammar.specs.Steps.{Rule, word, items, with_item, refusal, within, judge_map}
use Rattle.ms_text_grammar.specs.Types.{int_type_of, opens}
use Rattle.ms_text_grammar.specs.Values.{Address, number_by, number, gep_words, typed, array_init, struct_init, packed_init, nested_init}
use Rattle.ms_check_valid.specs.FormedNames.{are_bytes, is_local_name, is_global_name}
use Rattle.ms_check_valid.specs.FormedCode.{is_width, type_formed, number_formed, step_formed, operand_formed, is_constant, init_formed, items_formed}
use Rattle.ms_check_valid.specs.ReadLimits.{type_depth, steps_depth, init_depth, items_depth}
use Rattle.ms_ir.specs.Written.{type_mentions, operand_mentions, init_mentions, items_mentions, OfGlobal}
use Rattle.ms_text_grammar.specs.LayoutPieces.{word as word_token, sign, comma, after_commas, with_commas, enclosed}
use Rattle.ms_text_grammar.specs.LayoutNames.{local_token, global_token, number_token, bytes_token, signed_text}
use Rattle.ms_text_grammar.specs.LayoutTypes.{type_tokens}
use Rattle.ms_text_grammar.specs.LayoutValues.{integer_token, constant_index_tokens, offset_tokens, base_tokens, value_tokens, init_tokens, items_tokens}
use Rattle.ms_text_grammar.proofs.SpelledBack.{string_back}
use Rattle.ms_text_grammar.specs.Skipped.{is_closer}
use Rattle.ms_text_laws.proofs.Limited.{Limits, global, type_to, constant_index, constant_indices, gep_from, base_to, offset, simple_by, simple_value, value_within, local_value, flat_init, init_to}
use Rattle.ms_text_laws.proofs.Takes.{Takes, given, taken, chain, ended, by_symbol, other, word_taken, along}
use Rattle.ms_text_laws.proofs.Numbers.{IsShort, signed_back, wrapped}
use Rattle.ms_text_laws.proofs.Rows.{init_array_is, init_struct_is}
use Rattle.ms_text_laws.proofs.Spelled.{is_below, local_good, global_good, int_token, int_token_symbol, int_token_width, local_number_symbol, local_text_symbol}
use Rattle.ms_text_laws.proofs.Listed.{AllTake, comma_symbol, loop_back, close_taken, listed_back}
use Rattle.ms_text_laws.proofs.Types.{few_names, few_parts, TypeFits, type_taken, type_closes, no_closer, valued, regrouped, plain_tokens, packed_tokens, width_parts, brace_taken, greater_taken, ptr_taken, close_brace, close_bracket, close_paren}

-- ---- numbers

short_signed : (w n : ℕ) → 1 ≤ w → w ≤ 64 → n < 2 ^ w → IsShort (signed w n)
unfolding signed
short_signed w n some few small =
    let most : 2 ^ w ≤ 2 ^ 64 = pow_mono few in
    elim (ltb (2 * n) (2 ^ w)) as (λ b. ltb (2 * n) (2 ^ w) ≡ b → IsShort (cond b (pos n) (negsuc (2 ^ w - 1 - n)))) [
      | true ↦ λ h. omega (arith, most, small)
      | false ↦ λ h. let large = ltb-false (2 * n) (2 ^ w) h in omega (arith, most, small, large)
    ] refl

-- a word of an integer type
pub word_back : (w n : ℕ) → 1 ≤ w → w ≤ 64 → n < 2 ^ w → wrap w (signed_decimal (signed_text (signed w n))) ≡ n
word_back w n some few small = ap (wrap w) (signed_back (signed w n) (short_signed w n some few small)) ∙ (wrapped w n some small).0

number_by_good : (w n : ℕ) → is_width w ≡ true → nat_lt n (2 ^ w) ≡ true → number_by w (number_token w n) ≡ Ok n
unfolding number_token
number_by_good w n h less =
    let parts = width_parts w h in
    let small = ltb-true n (2 ^ w) less in
    let good = wrapped w n parts.0 small in
    rw (signed_back (signed w n) (short_signed w n parts.0 parts.1 small), good.1, good.0) refl

number_symbol : (w n : ℕ) → (number_token w n).symbol ≡ s.Number
unfolding number_token symbol_of
number_symbol w n = refl

pub is_symbol : (t : Lexeme) (x : Symbol) → same_symbol x x ≡ true → t.symbol ≡ x → is x t ≡ true
is_symbol t x self e = ap (λ y. same_symbol y x) e ∙ self

pub number_taken : (w n : ℕ) (ts : List Lexeme) → is_width w ≡ true → nat_lt n (2 ^ w) ≡ true → Takes (number w) (number_token w n ∷ ts) n ts
unfolding number same_symbol
number_taken w n ts h less = taken (ap (λ b. cond b (number_by w (number_token w n)) (Err (refusal (number_token w n)))) (is_symbol (number_token w n) s.Number refl (number_symbol w n)) ∙ number_by_good w n h less)

-- ---- single tokens

null_symbol : (word_token (codes "null")).symbol ≡ s.Null
unfolding symbol_of word_symbol
null_symbol = refl

undef_symbol : (word_token (codes "undef")).symbol ≡ s.Undef
unfolding symbol_of word_symbol
undef_symbol = refl

poison_symbol : (word_token (codes "poison")).symbol ≡ s.Poison
unfolding symbol_of word_symbol
poison_symbol = refl

true_symbol : (word_token (codes "true")).symbol ≡ s.True
unfolding symbol_of word_symbol
true_symbol = refl

false_symbol : (word_token (codes "false")).symbol ≡ s.False
unfolding symbol_of word_symbol
false_symbol = refl

pub gep_symbol : (word_token (codes "getelementptr")).symbol ≡ s.GetElementPtr
unfolding symbol_of word_symbol
gep_symbol = refl

zero_symbol : (word_token (codes "zeroinitializer")).symbol ≡ s.ZeroInitializer
unfolding symbol_of word_symbol
zero_symbol = refl

pub global_symbol : (x : Name) → (global_token x).symbol ≡ s.Global
unfolding symbol_of
global_symbol x = refl

pub comma_taken : {ts : List Lexeme} → Takes (word s.Comma) (comma ∷ ts) tt ts
unfolding same_symbol
comma_taken = word_taken s.Comma refl comma_symbol

pub open_paren_taken : {ts : List Lexeme} → Takes (word s.OpenParen) (sign (codes "(") ∷ ts) tt ts
unfolding same_symbol symbol_of
open_paren_taken = word_taken s.OpenParen refl refl

-- ---- values

-- the arrays and structs of a constant 'getelementptr'
abbrev pub offset_depth : Operand → ℕ
offset_depth (operand.Offset x steps) = steps_depth steps
offset_depth a = 0

-- so many indices at most, and so many within one another
abbrev pub few_offsets : ℕ → Operand → Bool
few_offsets most (operand.Offset x steps) = nat_le (length steps) most && list_all (λ s. nat_le (length s.1) most) steps
few_offsets most a = true

-- a symbol with which a value begins
abbrev pub starts_value : Symbol → Bool
starts_value s.Number = true
starts_value s.True = true
starts_value s.False = true
starts_value s.Null = true
starts_value s.Undef = true
starts_value s.Poison = true
starts_value s.Local = true
starts_value s.NumberedLocal = true
starts_value s.Global = true
starts_value s.GetElementPtr = true
starts_value x = false

-- an operand as it may stand after a type, within the limits
pub record ValueFits (limits : Limits) (depth : ℕ) (t : Ty) (a : Operand) : Type 0 where
  pub formed : operand_formed t a ≡ true
  pub shallow : offset_depth a ≤ depth
  pub named : few_names limits.names (operand_mentions a) ≡ true
  pub indices : few_offsets limits.indices a ≡ true

-- steps as they may stand, within the limits
record StepsFit (limits : Limits) (depth : ℕ) (steps : List AddressStep) : Type 0 where
  formed : list_all step_formed steps ≡ true
  shallow : steps_depth steps ≤ depth
  named : few_names limits.names (flat_map (λ s. type_mentions s.0) steps) ≡ true
  indices : list_all (λ s. nat_le (length s.1) limits.indices) steps ≡ true

module _ (limits : Limits) where
  pub global_taken : (x : Name) (ts : List Lexeme) → is_global_name x ≡ true → is_below limits.names x ≡ true → Takes (global limits) (global_token x ∷ ts) x ts
  unfolding global
  global_taken x ts h few = taken (global_good limits x h few)

  -- a type and a number of it
  index_taken : (t : Ty) (k : ℕ) (found : List (Ty × ℕ)) (rest : List Lexeme) → number_formed t k ≡ true → length found < limits.indices
      → Takes (constant_index limits found) (constant_index_tokens (t, k) ++ rest) (found ++ (t, k) ∷ []) rest
  unfolding constant_index same_symbol
  index_taken (Int w) k found rest h few =
      let parts = and_parts (is_width w) (nat_lt k (2 ^ w)) h in
      let width = width_parts w parts.0 in
      let int : int_type_of (int_token w) ≡ Ok w = rw (is_symbol (int_token w) s.IntType refl (int_token_symbol w width.0 width.1), int_token_width w width.1) refl in
      chain (taken (ap (λ b. within b limit.Indices (int_type_of (int_token w))) (lt-ltb (length found) limits.indices few) ∙ int)) (chain (number_taken w k rest parts.0 parts.1) given)
  index_taken Ptr k found rest h few = absurd cc
  index_taken (Array' n shape item) k found rest h few = absurd cc
  index_taken (Struct' packed shape fields) k found rest h few = absurd cc
  index_taken (Named x) k found rest h few = absurd cc

  indices_taken : (indices found : List (Ty × ℕ)) → list_all (λ i. number_formed i.0 i.1) indices ≡ true → length found + length indices ≤ limits.indices
      → AllTake (λ t. true) (λ found. true) (constant_index limits) (map constant_index_tokens indices) found (found ++ indices)
  indices_taken [] found h few = append-nil found
  indices_taken (i ∷ indices) found h few =
      let parts = and_parts (number_formed i.0 i.1) (list_all (λ i. number_formed i.0 i.1) indices) h in (
        refl,
        found ++ i ∷ [],
        λ rest good. index_taken i.0 i.1 found rest parts.0 (omega (arith, few)),
        subst (λ v. AllTake (λ t. true) (λ found. true) (constant_index limits) (map constant_index_tokens indices) (found ++ i ∷ []) v) (append_assoc found (i ∷ []) indices)
            (indices_taken indices (found ++ i ∷ []) parts.1 (omega (arith, few, length-append found (i ∷ [])))),
      )

  offset_tokens_are : (t : Ty) (base : List Lexeme) (indices : List (Ty × ℕ)) (rest : List Lexeme) → offset_tokens t base indices ++ rest
      ≡ word_token (codes "getelementptr") ∷ sign (codes "(") ∷ (type_tokens t ++ comma ∷ word_token (codes "ptr") ∷ (base ++ (after_commas (map constant_index_tokens indices) ++ sign (codes ")") ∷ rest)))
  unfolding offset_tokens
  offset_tokens_are t base indices rest = ap (λ ys. word_token (codes "getelementptr") ∷ sign (codes "(") ∷ ys)
      (regrouped (with_commas (type_tokens t ∷ (word_token (codes "ptr") ∷ base) ∷ map constant_index_tokens indices)) (sign (codes ")")) rest
      ∙ append_assoc (type_tokens t) (comma ∷ word_token (codes "ptr") ∷ (base ++ after_commas (map constant_index_tokens indices))) (sign (codes ")") ∷ rest)
      ∙ ap (λ ys. type_tokens t ++ comma ∷ word_token (codes "ptr") ∷ ys) (append_assoc base (after_commas (map constant_index_tokens indices)) (sign (codes ")") ∷ rest)))

  -- a step, whose base is written so
  step_taken : (step : AddressStep) (base : Rule Address) (inner : List Lexeme) (a : Address) (depth : ℕ) (rest : List Lexeme) → ((more : List Lexeme) → Takes base (inner ++ more) a more) → TypeFits limits depth step.0
      → list_all (λ i. number_formed i.0 i.1) step.1 ≡ true → length step.1 ≤ limits.indices
      → Takes (gep_from limits depth base) (sign (codes "(") ∷ (type_tokens step.0 ++ comma ∷ word_token (codes "ptr") ∷ (inner ++ (after_commas (map constant_index_tokens step.1) ++ sign (codes ")") ∷ rest)))) (a.0, step ∷ a.1) rest
  unfolding gep_from gep_words constant_indices symbol_of
  step_taken step base inner a depth rest from h all most =
      chain (ended refl) (chain open_paren_taken (chain (type_taken limits step.0 depth _ h) (chain comma_taken (chain ptr_taken (chain (from _)
      (chain (loop_back (λ t. true) (λ found. true) (constant_index limits) s.CloseParen (sign (codes ")")) close_paren (map constant_index_tokens step.1) [] step.1 rest (indices_taken step.1 [] all (omega (arith, most))))
      (chain (close_taken {S = List (Ty × ℕ)} (λ t. true) (λ found. true) (constant_index limits) s.CloseParen (sign (codes ")")) close_paren rest) given)))))))

  first_step : (step : AddressStep) (inner : List AddressStep) (depth : ℕ) → StepsFit limits depth (step ∷ inner) → TypeFits limits depth step.0 × (list_all (λ i. number_formed i.0 i.1) step.1 ≡ true) × (length step.1 ≤ limits.indices)
  first_step step inner depth h =
      let formed = and_parts (type_formed step.0) (list_all (λ i. number_formed i.0 i.1) step.1) (and_parts (step_formed step) (list_all step_formed inner) h.formed).0 in
      let names = few_parts limits.names (type_mentions step.0) (flat_map (λ i. type_mentions i.0) inner) h.named in
      let few = (and_parts (nat_le (length step.1) limits.indices) _ h.indices).0 in
      (record { formed = formed.0; shallow = le_trans (le-max_left (type_depth step.0) (steps_depth inner)) h.shallow; named = names.0 }, formed.1, leb-true (length step.1) limits.indices few)

  rest_steps : (step : AddressStep) (inner : List AddressStep) (depth : ℕ) → StepsFit limits depth (step ∷ inner) → StepsFit limits depth inner
  rest_steps step inner depth h = record {
    formed = (and_parts (step_formed step) (list_all step_formed inner) h.formed).1;
    shallow = le_trans (le-max_right (type_depth step.0) (steps_depth inner)) h.shallow;
    named = (few_parts limits.names (type_mentions step.0) (flat_map (λ i. type_mentions i.0) inner) h.named).1;
    indices = (and_parts (nat_le (length step.1) limits.indices) (list_all (λ i. nat_le (length i.1) limits.indices) inner) h.indices).1;
  }

  -- a global, or steps from it
  base_taken : (x : Name) (steps : List AddressStep) (within depth : ℕ) (rest : List Lexeme) → is_global_name x ≡ true → is_below limits.names x ≡ true → length steps ≤ within → StepsFit limits depth steps
      → Takes (base_to limits depth within) (base_tokens (global_token x) steps ++ rest) (x, steps) rest
  unfolding base_to
  base_taken x [] zero depth rest name few room h = by_symbol s.Global (global_symbol x) (chain (global_taken x rest name few) given)
  base_taken x [] (suc within) depth rest name few room h = by_symbol s.Global (global_symbol x) (chain (global_taken x rest name few) given)
  base_taken x (step ∷ inner) zero depth rest name few room h = absurd (omega (arith, room))
  base_taken x (step ∷ inner) (suc within) depth rest name few room h =
      let first = first_step step inner depth h in
      along (offset_tokens_are step.0 (base_tokens (global_token x) inner) step.1 rest)
      (by_symbol s.GetElementPtr gep_symbol (chain (taken refl)
      (step_taken step (base_to limits depth within) (base_tokens (global_token x) inner) (x, inner) depth rest
      (λ more. base_taken x inner within depth more name few (omega (arith, room)) (rest_steps step inner depth h)) first.0 first.1 first.2)))

  module _ (depth : ℕ) (locals : Bool) where
    abbrev Simple : Ty → Lexeme → Operand → List Lexeme → Type 0
    Simple t token a rest = Takes (value_within limits depth locals t) (token ∷ rest) a rest

    word_of_bit : (n : ℕ) (rest : List Lexeme) → n < 2 → Simple (Int 1) (word_token (cond (n == 0) (codes "false") (codes "true"))) (operand.Int n) rest
    unfolding value_within simple_value
    word_of_bit zero rest h = by_symbol s.False false_symbol (taken (ap (λ y. simple_by limits locals (Int 1) y (word_token (codes "false"))) false_symbol))
    word_of_bit (suc zero) rest h = by_symbol s.True true_symbol (taken (ap (λ y. simple_by limits locals (Int 1) y (word_token (codes "true"))) true_symbol))
    word_of_bit (suc (suc n)) rest h = absurd (omega (arith, h))

    number_value : (w n : ℕ) (rest : List Lexeme) → is_width w ≡ true → nat_lt n (2 ^ w) ≡ true → Simple (Int w) (number_token w n) (operand.Int n) rest
    unfolding value_within simple_value
    number_value w n rest h less = by_symbol s.Number (number_symbol w n)
        (taken (ap (λ y. simple_by limits locals (Int w) y (number_token w n)) (number_symbol w n)
        ∙ ap (λ b. cond b (judge_map operand.Int (number_by w (number_token w n))) (Err (refusal (number_token w n)))) h
        ∙ ap (judge_map operand.Int) (number_by_good w n h less)))

    int_value_taken : (w n : ℕ) (rest : List Lexeme) → is_width w ≡ true → nat_lt n (2 ^ w) ≡ true → Simple (Int w) (integer_token w n) (operand.Int n) rest
    int_value_taken w n rest h less =
        elim (w == 1) as (λ b. (w == 1) ≡ b → Simple (Int w) (cond b (word_token (cond (n == 0) (codes "false") (codes "true"))) (number_token w n)) (operand.Int n) rest) [
          | true ↦ λ e.
              let one : w ≡ 1 = eqb-true w 1 e in
              let small : n < 2 = omega (arith, ltb-true n (2 ^ w) less, ap (λ k. 2 ^ k) one) in
              subst (λ k. Simple (Int k) (word_token (cond (n == 0) (codes "false") (codes "true"))) (operand.Int n) rest) (sym one) (word_of_bit n rest small)
          | false ↦ λ e. number_value w n rest h less
        ] refl

    or_false : (a : Bool) → (a || false) ≡ true → a ≡ true
    or_false true h = refl
    or_false false h = h

    -- what a local is, where locals may stand
    local_verdict : (x : Name) → (locals || false) ≡ true → is_local_name x ≡ true → is_below limits.names x ≡ true → local_value limits locals (local_token x) ≡ Ok (operand.Local x)
    local_verdict x free h few = ap (λ b. local_value limits b (local_token x)) (or_false locals free) ∙ ap (judge_map operand.Local) (local_good limits x h few)

    local_value_taken : (x : Name) (t : Ty) (rest : List Lexeme) → (locals || false) ≡ true → is_local_name x ≡ true → is_below limits.names x ≡ true → Simple t (local_token x) (operand.Local x) rest
    unfolding value_within simple_value
    local_value_taken (Number n) t rest free h few = by_symbol s.NumberedLocal (local_number_symbol n)
        (taken (ap (λ y. simple_by limits locals t y (local_token (Number n))) (local_number_symbol n) ∙ local_verdict (Number n) free h few))
    local_value_taken (Called x) t rest free h few = by_symbol s.Local (local_text_symbol x)
        (taken (ap (λ y. simple_by limits locals t y (local_token (Called x))) (local_text_symbol x) ∙ local_verdict (Called x) free h few))

    global_value_taken : (x : Name) (t : Ty) (rest : List Lexeme) → is_global_name x ≡ true → is_below limits.names x ≡ true → Simple t (global_token x) (operand.Global x) rest
    unfolding value_within simple_value
    global_value_taken x t rest h few = by_symbol s.Global (global_symbol x)
        (taken (ap (λ y. simple_by limits locals t y (global_token x)) (global_symbol x) ∙ ap (judge_map operand.Global) (global_good limits x h few)))

    null_taken : (t : Ty) (rest : List Lexeme) → operand_formed t operand.Null ≡ true → Simple t (word_token (codes "null")) operand.Null rest
    unfolding value_within simple_value
    null_taken Ptr rest h = by_symbol s.Null null_symbol (taken (ap (λ y. simple_by limits locals Ptr y (word_token (codes "null"))) null_symbol))
    null_taken (Int n) rest h = absurd cc
    null_taken (Array' n shape item) rest h = absurd cc
    null_taken (Struct' packed shape fields) rest h = absurd cc
    null_taken (Named x) rest h = absurd cc

    undef_taken : (t : Ty) (rest : List Lexeme) → Simple t (word_token (codes "undef")) operand.Undef rest
    unfolding value_within simple_value
    undef_taken t rest = by_symbol s.Undef undef_symbol (taken (ap (λ y. simple_by limits locals t y (word_token (codes "undef"))) undef_symbol))

    poison_taken : (t : Ty) (rest : List Lexeme) → Simple t (word_token (codes "poison")) operand.Poison rest
    unfolding value_within simple_value
    poison_taken t rest = by_symbol s.Poison poison_symbol (taken (ap (λ y. simple_by limits locals t y (word_token (codes "poison"))) poison_symbol))

    integer_taken : (t : Ty) (n : ℕ) (rest : List Lexeme) → number_formed t n ≡ true → Simple t (integer_token (width_of t) n) (operand.Int n) rest
    integer_taken (Int w) n rest h = let parts = and_parts (is_width w) (nat_lt n (2 ^ w)) h in int_value_taken w n rest parts.0 parts.1
    integer_taken Ptr n rest h = absurd cc
    integer_taken (Array' m shape item) n rest h = absurd cc
    integer_taken (Struct' packed shape fields) n rest h = absurd cc
    integer_taken (Named x) n rest h = absurd cc

    offset_value_taken : (t : Ty) (x : Name) (steps : List AddressStep) (rest : List Lexeme) → ValueFits limits depth t (operand.Offset x steps)
        → Takes (value_within limits depth locals t) (base_tokens (global_token x) steps ++ rest) (operand.Offset x steps) rest
    unfolding value_within offset
    offset_value_taken t x [] rest h = absurd (true≢false (sym (and_parts (is_global_name x) false h.formed).1))
    offset_value_taken t x (step ∷ inner) rest h =
        let forms = and_parts (is_global_name x) (list_all step_formed (step ∷ inner)) h.formed in
        let names = few_parts limits.names (flat_map (λ s. type_mentions s.0) (step ∷ inner)) (OfGlobal x ∷ []) h.named in
        let below = (and_parts (is_below limits.names x) true names.1).0 in
        let counts = and_parts (nat_le (length (step ∷ inner)) limits.indices) (list_all (λ s. nat_le (length s.1) limits.indices) (step ∷ inner)) h.indices in
        let few = leb-true (length (step ∷ inner)) limits.indices counts.0 in
        let fits : StepsFit limits depth (step ∷ inner) = record { formed = forms.1; shallow = h.shallow; named = names.0; indices = counts.1 } in
        let first = first_step step inner depth fits in
        along (offset_tokens_are step.0 (base_tokens (global_token x) inner) step.1 rest)
        (by_symbol s.GetElementPtr gep_symbol (chain (taken refl)
        (chain (step_taken step (base_to limits depth (limits.indices - 1)) (base_tokens (global_token x) inner) (x, inner) depth rest
        (λ more. base_taken x inner (limits.indices - 1) depth more forms.0 below (omega (arith, few)) (rest_steps step inner depth fits)) first.0 first.1 first.2) given)))

    -- a value of a type
    pub value_taken : (t : Ty) (a : Operand) (rest : List Lexeme) → (locals || is_constant a) ≡ true → ValueFits limits depth t a → Takes (value_within limits depth locals t) (value_tokens t a ++ rest) a rest
    unfolding value_tokens
    value_taken t (operand.Int n) rest free h = integer_taken t n rest h.formed
    value_taken t operand.Null rest free h = null_taken t rest h.formed
    value_taken t operand.Undef rest free h = undef_taken t rest
    value_taken t operand.Poison rest free h = poison_taken t rest
    value_taken t (operand.Local x) rest free h = local_value_taken x t rest free h.formed (and_parts (is_below limits.names x) true h.named).0
    value_taken t (operand.Global x) rest free h = global_value_taken x t rest h.formed (and_parts (is_below limits.names x) true h.named).0
    value_taken t (operand.Offset x steps) rest free h = offset_value_taken t x steps rest h

-- ---- the first symbol of a value

integer_starts : (t : Bool) (w n : ℕ) → starts_value (cond t (word_token (cond (n == 0) (codes "false") (codes "true"))) (number_token w n)).symbol ≡ true
integer_starts false w n = ap starts_value (number_symbol w n)
integer_starts true w n = elim (n == 0) as (λ b. starts_value (word_token (cond b (codes "false") (codes "true"))).symbol ≡ true) [
  | true ↦ ap starts_value false_symbol
  | false ↦ ap starts_value true_symbol
]

local_starts : (x : Name) → starts_value (local_token x).symbol ≡ true
local_starts (Number n) = ap starts_value (local_number_symbol n)
local_starts (Called x) = ap starts_value (local_text_symbol x)

pub value_starts : (t : Ty) (a : Operand) (rest : List Lexeme) → starts_value (head end_of_text (value_tokens t a ++ rest)).symbol ≡ true
unfolding value_tokens offset_tokens
value_starts t (operand.Int n) rest = integer_starts (width_of t == 1) (width_of t) n
value_starts t operand.Null rest = ap starts_value null_symbol
value_starts t operand.Undef rest = ap starts_value undef_symbol
value_starts t operand.Poison rest = ap starts_value poison_symbol
value_starts t (operand.Local x) rest = local_starts x
value_starts t (operand.Global x) rest = ap starts_value (global_symbol x)
value_starts t (operand.Offset x []) rest = ap starts_value (global_symbol x)
value_starts t (operand.Offset x (step ∷ inner)) rest = ap starts_value gep_symbol

-- ---- initialisers

-- constants of so many indices at most
abbrev mutual
  pub few_within : ℕ → Init → Bool
  few_within most (initial.Value a) = few_offsets most a
  few_within most (initial.Array' shape items) = few_among most items
  few_within most (initial.Struct' packed shape fields) = few_among most fields
  few_within most i = true

  pub few_among : ℕ → {n : _} → Row_of-Init-Array-0-2 n → Bool
  few_among most end_of-Init-Array-0-2 = true
  few_among most (more_of-Init-Array-0-2 t i rest) = few_within most i && few_among most rest

-- an initialiser as it may stand after a type, within the limits
pub record InitFits (limits : Limits) (depth : ℕ) (t : Ty) (i : Init) : Type 0 where
  pub formed : init_formed t i ≡ true
  pub shallow : init_depth i ≤ depth
  pub named : few_names limits.names (init_mentions i) ≡ true
  pub indices : few_within limits.indices i ≡ true

pub record ItemsFit (limits : Limits) (depth : ℕ) {n : _} (row : Row_of-Init-Array-0-2 n) : Type 0 where
  pub formed : items_formed row ≡ true
  pub shallow : items_depth row ≤ depth
  pub named : few_names limits.names (items_mentions row) ≡ true
  pub indices : few_among limits.indices row ≡ true

value_depth : (a : Operand) → offset_depth a ≤ init_depth (initial.Value a)
value_depth (operand.Offset x steps) = omega arith
value_depth (operand.Int n) = omega arith
value_depth operand.Null = omega arith
value_depth operand.Undef = omega arith
value_depth operand.Poison = omega arith
value_depth (operand.Local x) = omega arith
value_depth (operand.Global x) = omega arith

module _ (limits : Limits) where
  flat_value : (depth : ℕ) (t : Ty) (x : Symbol) {ts rest : List Lexeme} {i : Init} → starts_value x ≡ true
      → Takes (value_within limits depth false t >>= λ v. give (initial.Value v)) ts i rest → Takes (flat_init limits depth t x) ts i rest
  flat_value depth t s.ZeroInitializer h p = absurd cc
  flat_value depth t s.CText h p = absurd cc
  flat_value depth t x h p = p

  nested_value : (part : Rule (Ty × Init)) (flat : Rule Init) (x : Symbol) {ts rest : List Lexeme} {i : Init} → opens x ≡ false → Takes flat ts i rest → Takes (nested_init part flat x) ts i rest
  nested_value part flat s.OpenBracket h p = absurd cc
  nested_value part flat s.OpenBrace h p = absurd cc
  nested_value part flat s.Less h p = absurd cc
  nested_value part flat x h p = p

  value_opens : (x : Symbol) → starts_value x ≡ true → opens x ≡ false
  value_opens s.OpenBracket h = absurd cc
  value_opens s.OpenBrace h = absurd cc
  value_opens s.Less h = absurd cc
  value_opens x h = refl

  -- an initialiser without brackets
  flat_init_taken : (depth : ℕ) (t : Ty) (x : Symbol) {ts rest : List Lexeme} {i : Init} → (head end_of_text ts).symbol ≡ x → opens x ≡ false → Takes (flat_init limits depth t x) ts i rest → Takes (init_to limits depth t) ts i rest
  unfolding init_to
  flat_init_taken zero t x e closed p = by_symbol x e (other (opens x) _ _ closed p)
  flat_init_taken (suc depth) t x e closed p = by_symbol x e (nested_value (typed (type_to limits depth) (init_to limits depth)) (flat_init limits (suc depth) t x) x closed p)

  text_taken : (bytes : List ℕ) (depth : ℕ) (t : Ty) (rest : List Lexeme) → are_bytes bytes ≡ true → Takes (init_to limits depth t) (bytes_token bytes ∷ rest) (initial.Text bytes) rest
  unfolding symbol_of
  text_taken bytes depth t rest h = flat_init_taken depth t s.CText refl refl (taken (ap (λ b. Ok (initial.Text b)) (string_back bytes h)))

  constant_taken : (a : Operand) (depth : ℕ) (t : Ty) (rest : List Lexeme) → InitFits limits depth t (initial.Value a) → Takes (init_to limits depth t) (value_tokens t a ++ rest) (initial.Value a) rest
  constant_taken a depth t rest h =
      let parts = and_parts (is_constant a) (operand_formed t a) h.formed in
      let fits : ValueFits limits depth t a = record { formed = parts.1; shallow = le_trans (value_depth a) h.shallow; named = h.named; indices = h.indices } in
      let x : Symbol = (head end_of_text (value_tokens t a ++ rest)).symbol in
      let starts : starts_value x ≡ true = value_starts t a rest in
      flat_init_taken depth t x refl (value_opens x starts) (flat_value depth t x starts (chain (value_taken limits depth false t a rest parts.0 fits) given))

  first_item : {n : _} (t : Ty) (i : Init) (row : Row_of-Init-Array-0-2 n) (depth : ℕ) → ItemsFit limits depth (more_of-Init-Array-0-2 t i row) → TypeFits limits depth t × InitFits limits depth t i
  first_item t i row depth h =
      let formed = and_parts (type_formed t) (init_formed t i) (and_parts (type_formed t && init_formed t i) (items_formed row) h.formed).0 in
      let names = few_parts limits.names (type_mentions t) (init_mentions i ++ items_mentions row) h.named in
      let deep : max (type_depth t) (init_depth i) ≤ depth = le_trans (le-max_left (max (type_depth t) (init_depth i)) (items_depth row)) h.shallow in (
        record { formed = formed.0; shallow = le_trans (le-max_left (type_depth t) (init_depth i)) deep; named = names.0 },
        record {
          formed = formed.1;
          shallow = le_trans (le-max_right (type_depth t) (init_depth i)) deep;
          named = (few_parts limits.names (init_mentions i) (items_mentions row) names.1).0;
          indices = (and_parts (few_within limits.indices i) (few_among limits.indices row) h.indices).0;
        },
      )

  rest_items : {n : _} (t : Ty) (i : Init) (row : Row_of-Init-Array-0-2 n) (depth : ℕ) → ItemsFit limits depth (more_of-Init-Array-0-2 t i row) → ItemsFit limits depth row
  rest_items t i row depth h =
      let names = few_parts limits.names (type_mentions t) (init_mentions i ++ items_mentions row) h.named in
      record {
        formed = (and_parts (type_formed t && init_formed t i) (items_formed row) h.formed).1;
        shallow = le_trans (le-max_right (max (type_depth t) (init_depth i)) (items_depth row)) h.shallow;
        named = (few_parts limits.names (init_mentions i) (items_mentions row) names.1).1;
        indices = (and_parts (few_within limits.indices i) (few_among limits.indices row) h.indices).1;
      }

  abbrev item_rule : ℕ → Rule (Ty × Init)
  item_rule depth = typed (type_to limits depth) (init_to limits depth)

  abbrev ItemsTake : {n : _} → Row_of-Init-Array-0-2 n → ℕ → List (Ty × Init) → Type 0
  ItemsTake row depth found = AllTake {S = List (Ty × Init)} (λ t. true) (λ found. true) (with_item (item_rule depth)) (items_tokens row) found (found ++ items-the_row-Init-Array-0-2 _ row)

  abbrev ItemsBegin : Symbol → List (List Lexeme) → Type 0
  ItemsBegin closing [] = Unit {0}
  ItemsBegin closing (part ∷ parts) = (rest : List Lexeme) → is closing (head end_of_text (part ++ rest)) ≡ false

  item_begins : (t : Ty) (i : Init) (rest : List Lexeme) → type_formed t ≡ true → is_closer (head end_of_text ((type_tokens t ++ init_tokens t i) ++ rest)).symbol ≡ false
  item_begins t i rest h = ap (λ ts. is_closer (head end_of_text ts).symbol) (append_assoc (type_tokens t) (init_tokens t i) rest) ∙ type_closes t (init_tokens t i ++ rest) h

  row_begins : {n : _} (row : Row_of-Init-Array-0-2 n) → items_formed row ≡ true → ItemsBegin s.CloseBracket (items_tokens row) × ItemsBegin s.CloseBrace (items_tokens row)
  row_begins end_of-Init-Array-0-2 h = (tt, tt)
  row_begins (more_of-Init-Array-0-2 t i row) h =
      let formed = and_parts (type_formed t) (init_formed t i) (and_parts (type_formed t && init_formed t i) (items_formed row) h).0 in
      (λ rest. (no_closer _ (item_begins t i rest formed.0)).1, λ rest. (no_closer _ (item_begins t i rest formed.0)).2)

  bracket_taken : {n : _} (row : Row_of-Init-Array-0-2 n) (depth : ℕ) (rest : List Lexeme) → items_formed row ≡ true → ItemsTake row depth []
      → Takes (array_init (item_rule depth)) (with_commas (items_tokens row) ++ sign (codes "]") ∷ rest) (initial.Array (items-the_row-Init-Array-0-2 _ row)) rest
  unfolding array_init items
  bracket_taken row depth rest h takes =
      chain (listed_back (λ t. true) (λ found. true) (with_item (item_rule depth)) s.CloseBracket (sign (codes "]")) close_bracket (items_tokens row) [] (items-the_row-Init-Array-0-2 _ row) rest (row_begins row h).0 takes) given

  fields_taken : {n : _} (row : Row_of-Init-Array-0-2 n) (depth : ℕ) (rest : List Lexeme) → items_formed row ≡ true → ItemsTake row depth []
      → Takes (items s.CloseBrace (item_rule depth)) (with_commas (items_tokens row) ++ sign (codes "}") ∷ rest) (items-the_row-Init-Array-0-2 _ row) rest
  unfolding items
  fields_taken row depth rest h takes =
      listed_back (λ t. true) (λ found. true) (with_item (item_rule depth)) s.CloseBrace (sign (codes "}")) close_brace (items_tokens row) [] (items-the_row-Init-Array-0-2 _ row) rest (row_begins row h).1 takes

  struct_taken : {n : _} (row : Row_of-Init-Array-0-2 n) (depth : ℕ) (rest : List Lexeme) → items_formed row ≡ true → ItemsTake row depth []
      → Takes (struct_init (item_rule depth)) (with_commas (items_tokens row) ++ sign (codes "}") ∷ rest) (initial.Struct false (items-the_row-Init-Array-0-2 _ row)) rest
  unfolding struct_init
  struct_taken row depth rest h takes = chain (fields_taken row depth rest h takes) given

  packed_taken : {n : _} (row : Row_of-Init-Array-0-2 n) (depth : ℕ) (rest : List Lexeme) → items_formed row ≡ true → ItemsTake row depth []
      → Takes (packed_init (item_rule depth)) (sign (codes "{") ∷ (with_commas (items_tokens row) ++ sign (codes "}") ∷ sign (codes ">") ∷ rest)) (initial.Struct true (items-the_row-Init-Array-0-2 _ row)) rest
  unfolding packed_init
  packed_taken row depth rest h takes = chain brace_taken (chain (fields_taken row depth (sign (codes ">") ∷ rest) h takes) (chain greater_taken given))

  bracket_tokens : (parts : List (List Lexeme)) (rest : List Lexeme) → enclosed (codes "[") (codes "]") parts ++ rest ≡ sign (codes "[") ∷ (with_commas parts ++ sign (codes "]") ∷ rest)
  bracket_tokens parts rest = ap (λ ys. sign (codes "[") ∷ ys) (regrouped (with_commas parts) (sign (codes "]")) rest)

  mutual
    unfolding init_to symbol_of

    pub init_taken : (i : Init) (t : Ty) (depth : ℕ) (rest : List Lexeme) → InitFits limits depth t i → Takes (init_to limits depth t) (init_tokens t i ++ rest) i rest
    init_taken (initial.Value a) t depth rest h = constant_taken a depth t rest h
    init_taken initial.Zero t depth rest h = flat_init_taken depth t s.ZeroInitializer zero_symbol refl (chain (taken refl) given)
    init_taken (initial.Text bytes) t depth rest h = text_taken bytes depth t rest h.formed
    init_taken (initial.Array' shape row) t zero rest h = absurd (omega (arith, h.shallow))
    init_taken (initial.Array' shape row) t (suc depth) rest h =
        let fits : ItemsFit limits depth row = record { formed = h.formed; shallow = omega (arith, h.shallow); named = h.named; indices = h.indices } in
        along (bracket_tokens (items_tokens row) rest)
        (valued (init_array_is shape row) (by_symbol s.OpenBracket refl (chain (taken refl) (bracket_taken row depth rest h.formed (items_taken row depth [] fits)))))
    init_taken (initial.Struct' packed shape row) t zero rest h = absurd (omega (arith, h.shallow))
    init_taken (initial.Struct' false shape row) t (suc depth) rest h =
        let fits : ItemsFit limits depth row = record { formed = h.formed; shallow = omega (arith, h.shallow); named = h.named; indices = h.indices } in
        along (plain_tokens (items_tokens row) rest)
        (valued (init_struct_is false shape row) (by_symbol s.OpenBrace refl (chain (taken refl) (struct_taken row depth rest h.formed (items_taken row depth [] fits)))))
    init_taken (initial.Struct' true shape row) t (suc depth) rest h =
        let fits : ItemsFit limits depth row = record { formed = h.formed; shallow = omega (arith, h.shallow); named = h.named; indices = h.indices } in
        along (packed_tokens (items_tokens row) rest)
        (valued (init_struct_is true shape row) (by_symbol s.Less refl (chain (taken refl) (packed_taken row depth rest h.formed (items_taken row depth [] fits)))))

    items_taken : {n : _} (row : Row_of-Init-Array-0-2 n) (depth : ℕ) (found : List (Ty × Init)) → ItemsFit limits depth row → ItemsTake row depth found
    items_taken end_of-Init-Array-0-2 depth found h = append-nil found
    items_taken (more_of-Init-Array-0-2 t i row) depth found h =
        let first = first_item t i row depth h in (
          refl,
          found ++ (t, i) ∷ [],
          λ rest good. along (append_assoc (type_tokens t) (init_tokens t i) rest)
              (chain (chain (type_taken limits t depth (init_tokens t i ++ rest) first.0) (chain (init_taken i t depth rest first.1) given)) given),
          subst (λ v. AllTake {S = List (Ty × Init)} (λ t. true) (λ found. true) (with_item (item_rule depth)) (items_tokens row) (found ++ (t, i) ∷ []) v) (append_assoc found ((t, i) ∷ []) (items-the_row-Init-Array-0-2 _ row))
              (items_taken row depth (found ++ (t, i) ∷ []) (rest_items t i row depth h)),
        )
