-- Instructions after their first word are read as what they were written of.
use Rattle.std.proofs.Common.{◌≡◌, ℕ, suc, ◌≤◌, ◌^◌, Bool, true, false, ◌&&◌, cond, List, [], ◌∷◌, ◌++◌, map, flat_map, Some, None, Ok, refl, sym, ap, ◌∙◌, append_assoc, append-nil, arith, zero-le, leb-true, eq-eqb}
use Rattle.std.specs.Prelude.{codes, nat_lt, nat_le, ◌==◌}
use Rattle.std.specs.List.{list_all}
use Rattle.std.proofs.lemmas.List.Folds.{list_all-append}
use Rattle.std.proofs.lemmas.Bool.{and_parts}
use Rattle.ms_bits.specs.declared.operations.BinOp.{BinOp}
use Rattle.ms_bits.specs.declared.operations.CastOp.{CastOp}
use Rattle.ms_bits.specs.declared.operations.Pred.{Pred}
use Rattle.ms_bits.specs.declared.operations.Flags.{Flags}
use Rattle.ms_lex.specs.Grammar.{loop}
use Rattle.ms_ir.specs.declared.syntax.Name.{Name}
use Rattle.ms_ir.specs.declared.syntax.Ty.{Ty, Int, Ptr, Array', Struct', Named}
use Rattle.ms_ir.specs.declared.syntax.Operand.{Operand}
use Rattle.ms_ir.specs.declared.syntax.Operand.TheVariants as operand
use Rattle.ms_ir.specs.declared.syntax.Op.TheVariants as op
use Rattle.ms_bits.specs.NoFlags.{no_flags}
use Rattle.ms_text_grammar.specs.declared.symbols.Symbol.TheVariants as s
use Rattle.ms_text_grammar.specs.Lexemes.{Lexeme, is, same_symbol, symbol_of, word_symbol, width_in}
use Rattle.ms_text_grammar.specs.Steps.{word}
use Rattle.ms_text_grammar.specs.Types.{int_type, int_type_of, value_type_of}
use Rattle.ms_text_grammar.specs.Insts.{binary_carries, cast_carries, compare_carries, bit_type, spells, other_type, same_type, case_begins}
use Rattle.ms_check_valid.specs.FormedNames.{is_local_name}
use Rattle.ms_check_valid.specs.FormedCode.{is_width, is_int_type, is_value_type, operand_formed, are_among, binary_flags, cast_flags}
use Rattle.ms_check_valid.specs.ReadLimits.{type_depth, steps_depth}
use Rattle.ms_ir.specs.Equal.{AddressStep}
use Rattle.ms_ir.specs.Written.{operand_mentions, operands_mentions, operand_types}
use Rattle.ms_text_grammar.specs.LayoutPieces.{word as word_token, sign, comma, after_commas, with_commas}
use Rattle.ms_text_grammar.specs.LayoutNames.{local_token, number_token}
use Rattle.ms_text_grammar.specs.LayoutTypes.{type_tokens}
use Rattle.ms_text_grammar.specs.LayoutValues.{value_tokens, typed_tokens}
use Rattle.ms_text_grammar.specs.LayoutInsts.{predicate_text, flag_tokens, address_tokens, target_tokens, bit_tokens, case_tokens}
use Rattle.ms_text_laws.proofs.Limited.{Limits, local, value, binary_rule, compare_rule, cast_rule, select_rule, freeze_rule, address, load_rule, store_rule, target, branch_on, branch_rule, case_rest, switch_rule, ret_rule}
use Rattle.ms_text_laws.proofs.Takes.{Takes, given, taken, seen, chain, turned, ended, other, word_taken, along}
use Rattle.ms_text_laws.proofs.Spelled.{is_below, local_good, int_token, int_token_symbol, int_token_width}
use Rattle.ms_text_laws.proofs.Types.{few_names, few_parts, value_type_taken, value_type_symbol, valued, regrouped, width_parts, ptr_symbol, ptr_taken, open_bracket_taken, close_bracket_taken, result_taken}
use Rattle.ms_text_laws.proofs.Values.{offset_depth, few_offsets, ValueFits, value_taken, number_taken, is_symbol, comma_taken}
use Rattle.ms_text_laws.proofs.Flags.{carried, among_among, binary_among, cast_among, compare_among, binary_type, cast_type, predicate_is, predicate_taken, flags_taken}

-- ---- operands of an instruction

-- types of so many arrays and structs at most
abbrev pub are_within : ℕ → List Ty → Bool
are_within depth ts = list_all (λ t. nat_le (type_depth t) depth) ts

pub within_parts : (depth : ℕ) (ts us : List Ty) → are_within depth (ts ++ us) ≡ true → (are_within depth ts ≡ true) × (are_within depth us ≡ true)
within_parts depth ts us h = and_parts (are_within depth ts) (are_within depth us) (sym (list_all-append (λ t. nat_le (type_depth t) depth) ts us) ∙ h)

-- operands after their types, within the limits
pub record OperandsFit (limits : Limits) (xs : List (Ty × Operand)) : Type 0 where
  pub formed : list_all (λ a. operand_formed a.0 a.1) xs ≡ true
  pub shallow : are_within (suc limits.depth) (flat_map (λ a. a.0 ∷ operand_types a.1) xs) ≡ true
  pub named : few_names limits.names (operands_mentions xs) ≡ true
  pub indices : list_all (λ a. few_offsets limits.indices a.1) xs ≡ true

steps_within : (depth : ℕ) (steps : List AddressStep) → are_within depth (flat_map (λ s. s.0 ∷ map (λ i. i.0) s.1) steps) ≡ true → steps_depth steps ≤ depth
steps_within depth [] h = zero-le
steps_within depth (s ∷ inner) h =
    let parts = within_parts depth (s.0 ∷ map (λ i. i.0) s.1) (flat_map (λ i. i.0 ∷ map (λ j. j.0) i.1) inner) h in
    let first = leb-true (type_depth s.0) depth (and_parts (nat_le (type_depth s.0) depth) _ parts.0).0 in
    let rest = steps_within depth inner parts.1 in
    omega (arith, first, rest)

types_depth : (depth : ℕ) (a : Operand) → are_within depth (operand_types a) ≡ true → offset_depth a ≤ depth
types_depth depth (operand.Offset x steps) h = steps_within depth steps h
types_depth depth (operand.Int n) h = zero-le
types_depth depth operand.Null h = zero-le
types_depth depth operand.Undef h = zero-le
types_depth depth operand.Poison h = zero-le
types_depth depth (operand.Local x) h = zero-le
types_depth depth (operand.Global x) h = zero-le

module _ (limits : Limits) where
  pub first_operand : (a : Ty × Operand) (xs : List (Ty × Operand)) → OperandsFit limits (a ∷ xs) → ValueFits limits (suc limits.depth) a.0 a.1
  first_operand a xs h =
      let depth = suc limits.depth in
      let types = within_parts depth (a.0 ∷ operand_types a.1) (flat_map (λ a. a.0 ∷ operand_types a.1) xs) h.shallow in
      record {
        formed = (and_parts (operand_formed a.0 a.1) _ h.formed).0;
        shallow = types_depth depth a.1 (and_parts (nat_le (type_depth a.0) depth) (are_within depth (operand_types a.1)) types.0).1;
        named = (few_parts limits.names (operand_mentions a.1) (operands_mentions xs) h.named).0;
        indices = (and_parts (few_offsets limits.indices a.1) _ h.indices).0;
      }

  pub rest_operands : (a : Ty × Operand) (xs : List (Ty × Operand)) → OperandsFit limits (a ∷ xs) → OperandsFit limits xs
  rest_operands a xs h = record {
    formed = (and_parts (operand_formed a.0 a.1) _ h.formed).1;
    shallow = (within_parts (suc limits.depth) (a.0 ∷ operand_types a.1) (flat_map (λ a. a.0 ∷ operand_types a.1) xs) h.shallow).1;
    named = (few_parts limits.names (operand_mentions a.1) (operands_mentions xs) h.named).1;
    indices = (and_parts (few_offsets limits.indices a.1) _ h.indices).1;
  }

  pub second_operand : (a b : Ty × Operand) (xs : List (Ty × Operand)) → OperandsFit limits (a ∷ b ∷ xs) → ValueFits limits (suc limits.depth) b.0 b.1
  second_operand a b xs h = first_operand b xs (rest_operands a (b ∷ xs) h)

  -- a value as an operand
  abbrev Fits : Ty → Operand → Type 0
  Fits t a = ValueFits limits (suc limits.depth) t a

  pub operand_taken : (t : Ty) (a : Operand) (rest : List Lexeme) → Fits t a → Takes (value limits t) (value_tokens t a ++ rest) a rest
  operand_taken t a rest h = value_taken limits (suc limits.depth) true t a rest refl h

  pub typed_split : (t : Ty) (a : Operand) (ts : List Lexeme) → typed_tokens t a ++ ts ≡ type_tokens t ++ (value_tokens t a ++ ts)
  typed_split t a ts = append_assoc (type_tokens t) (value_tokens t a) ts

  -- two values after one type
  two_values : (t : Ty) (a b : Operand) (rest : List Lexeme) → (typed_tokens t a ++ comma ∷ value_tokens t b) ++ rest ≡ type_tokens t ++ (value_tokens t a ++ comma ∷ (value_tokens t b ++ rest))
  two_values t a b rest = append_assoc (typed_tokens t a) (comma ∷ value_tokens t b) rest ∙ typed_split t a (comma ∷ (value_tokens t b ++ rest))

  -- ---- types

  pub int_type_good : (w : ℕ) → is_width w ≡ true → int_type_of (int_token w) ≡ Ok w
  unfolding same_symbol
  int_type_good w h = let width = width_parts w h in rw (is_symbol (int_token w) s.IntType refl (int_token_symbol w width.0 width.1), int_token_width w width.1) refl

  int_type_taken : (w : ℕ) (ts : List Lexeme) → is_width w ≡ true → Takes int_type (int_token w ∷ ts) w ts
  unfolding int_type
  int_type_taken w ts h = taken (int_type_good w h)

  bit_type_taken : (ts : List Lexeme) → Takes bit_type (int_token 1 ∷ ts) tt ts
  unfolding bit_type same_symbol
  bit_type_taken ts = taken (rw (is_symbol (int_token 1) s.IntType refl (int_token_symbol 1 (omega arith) (omega arith)), int_token_width 1 (omega arith)) refl)

  same_int : (w : ℕ) → is_width w ≡ true → spells (Int w) (int_token w) ≡ true
  unfolding same_symbol
  same_int w h =
      let width = width_parts w h in
      let same : (w == w) ≡ true = eq-eqb w w refl in
      rw (is_symbol (int_token w) s.IntType refl (int_token_symbol w width.0 width.1), int_token_width w width.1, same) refl

  same_type_taken : (t : Ty) (ts : List Lexeme) → is_value_type t ≡ true → Takes (same_type t) (type_tokens t ++ ts) tt ts
  unfolding same_type same_symbol
  same_type_taken Ptr ts h = taken (ap (λ b. cond b (Ok tt) (other_type (value_type_of (word_token (codes "ptr"))) (word_token (codes "ptr")))) (is_symbol (word_token (codes "ptr")) s.PtrType refl ptr_symbol))
  same_type_taken (Int w) ts h = taken (ap (λ b. cond b (Ok tt) (other_type (value_type_of (int_token w)) (int_token w))) (same_int w h))
  same_type_taken (Array' n shape item) ts h = absurd cc
  same_type_taken (Struct' packed shape fields) ts h = absurd cc
  same_type_taken (Named x) ts h = absurd cc

  -- ---- operations

  pub binary_taken : (o : BinOp) (flags : Flags) (t : Ty) (a b : Operand) (rest : List Lexeme) → is_int_type t ≡ true → are_among flags (binary_flags o) ≡ true → Fits t a → Fits t b
      → Takes (binary_rule limits o) ((flag_tokens flags ++ (typed_tokens t a ++ comma ∷ value_tokens t b)) ++ rest) (op.Binary o flags t a b) rest
  unfolding binary_rule
  binary_taken o flags (Int w) a b rest int among p q =
      let width = width_parts w int in
      along (append_assoc (flag_tokens flags) (typed_tokens (Int w) a ++ comma ∷ value_tokens (Int w) b) rest ∙ ap (λ ys. flag_tokens flags ++ ys) (two_values (Int w) a b rest))
      (chain (flags_taken (binary_carries o) flags _ (among_among flags (binary_flags o) (carried (binary_carries o)) among (binary_among o)) (ap (binary_carries o) (int_token_symbol w width.0 width.1) ∙ (binary_type o).0))
      (chain (int_type_taken w _ int) (chain (operand_taken (Int w) a _ p) (chain comma_taken (chain (operand_taken (Int w) b rest q) given)))))
  binary_taken o flags Ptr a b rest int among p q = absurd cc
  binary_taken o flags (Array' n shape item) a b rest int among p q = absurd cc
  binary_taken o flags (Struct' packed shape fields) a b rest int among p q = absurd cc
  binary_taken o flags (Named x) a b rest int among p q = absurd cc

  pub compare_taken : (x : Pred) (flags : Flags) (t : Ty) (a b : Operand) (rest : List Lexeme) → is_value_type t ≡ true → are_among flags (record no_flags { samesign = true }) ≡ true → Fits t a → Fits t b
      → Takes (compare_rule limits) ((flag_tokens flags ++ word_token (predicate_text x) ∷ (typed_tokens t a ++ comma ∷ value_tokens t b)) ++ rest) (op.Icmp x flags t a b) rest
  unfolding compare_rule
  compare_taken x flags t a b rest type among p q =
      along (append_assoc (flag_tokens flags) (word_token (predicate_text x) ∷ (typed_tokens t a ++ comma ∷ value_tokens t b)) rest ∙ ap (λ ys. flag_tokens flags ++ word_token (predicate_text x) ∷ ys) (two_values t a b rest))
      (chain (flags_taken compare_carries flags _ (among_among flags (record no_flags { samesign = true }) (carried compare_carries) among compare_among) (predicate_is x).1)
      (chain (predicate_taken x _) (chain (value_type_taken t _ type) (chain (operand_taken t a _ p) (chain comma_taken (chain (operand_taken t b rest q) given))))))

  to_taken : {ts : List Lexeme} → Takes (word s.To) (word_token (codes "to") ∷ ts) tt ts
  unfolding same_symbol symbol_of word_symbol
  to_taken = word_taken s.To refl refl

  pub cast_taken : (o : CastOp) (flags : Flags) (from : Ty) (a : Operand) (to : Ty) (rest : List Lexeme) → is_value_type from ≡ true → is_value_type to ≡ true → are_among flags (cast_flags o) ≡ true → Fits from a
      → Takes (cast_rule limits o) ((flag_tokens flags ++ (typed_tokens from a ++ word_token (codes "to") ∷ type_tokens to)) ++ rest) (op.Cast o flags from a to) rest
  unfolding cast_rule
  cast_taken o flags from a to rest type other_type among p =
      along (append_assoc (flag_tokens flags) (typed_tokens from a ++ word_token (codes "to") ∷ type_tokens to) rest
      ∙ ap (λ ys. flag_tokens flags ++ ys) (append_assoc (typed_tokens from a) (word_token (codes "to") ∷ type_tokens to) rest ∙ typed_split from a (word_token (codes "to") ∷ (type_tokens to ++ rest))))
      (chain (flags_taken (cast_carries o) flags _ (among_among flags (cast_flags o) (carried (cast_carries o)) among (cast_among o)) (value_type_symbol from _ type (cast_carries o) false (cast_type o).1 (cast_type o).0))
      (chain (value_type_taken from _ type) (chain (operand_taken from a _ p) (chain to_taken (chain (value_type_taken to rest other_type) given)))))

  pub select_taken : (c : Operand) (t : Ty) (a b : Operand) (rest : List Lexeme) → is_value_type t ≡ true → Fits (Int 1) c → Fits t a → Fits t b
      → Takes (select_rule limits) (with_commas (bit_tokens c ∷ typed_tokens t a ∷ typed_tokens t b ∷ []) ++ rest) (op.Select c t a b) rest
  unfolding select_rule
  select_taken c t a b rest type p q r =
      along (ap (λ ys. int_token 1 ∷ ys) (append_assoc (value_tokens (Int 1) c) (after_commas (typed_tokens t a ∷ typed_tokens t b ∷ [])) rest
      ∙ ap (λ ys. value_tokens (Int 1) c ++ comma ∷ ys) (append_assoc (typed_tokens t a) (after_commas (typed_tokens t b ∷ [])) rest ∙ typed_split t a (after_commas (typed_tokens t b ∷ []) ++ rest)
      ∙ ap (λ ys. type_tokens t ++ (value_tokens t a ++ comma ∷ ys)) (append_assoc (typed_tokens t b) [] rest ∙ typed_split t b rest))))
      (chain (bit_type_taken _) (chain (operand_taken (Int 1) c _ p) (chain comma_taken (chain (value_type_taken t _ type) (chain (operand_taken t a _ q) (chain comma_taken
      (chain (same_type_taken t _ type) (chain (operand_taken t b rest r) given))))))))

  pub freeze_taken : (t : Ty) (a : Operand) (rest : List Lexeme) → is_value_type t ≡ true → Fits t a → Takes (freeze_rule limits) (typed_tokens t a ++ rest) (op.Freeze t a) rest
  unfolding freeze_rule
  freeze_taken t a rest type p = along (typed_split t a rest) (chain (value_type_taken t _ type) (chain (operand_taken t a rest p) given))

  -- ---- memory

  pub address_taken : (a : Operand) (rest : List Lexeme) → Fits Ptr a → Takes (address limits) (comma ∷ (address_tokens a ++ rest)) a rest
  unfolding address
  address_taken a rest p = chain comma_taken (chain ptr_taken (operand_taken Ptr a rest p))

  pub load_taken : (t : Ty) (a : Operand) (rest : List Lexeme) → is_value_type t ≡ true → Fits Ptr a → Takes (load_rule limits) (with_commas (type_tokens t ∷ address_tokens a ∷ []) ++ rest) (op.Load t a) rest
  unfolding load_rule
  load_taken t a rest type p =
      along (append_assoc (type_tokens t) (after_commas (address_tokens a ∷ [])) rest ∙ ap (λ ys. type_tokens t ++ comma ∷ ys) (append_assoc (address_tokens a) [] rest))
      (chain (value_type_taken t _ type) (chain (address_taken a rest p) given))

  pub store_taken : (t : Ty) (v a : Operand) (rest : List Lexeme) → is_value_type t ≡ true → Fits t v → Fits Ptr a → Takes (store_rule limits) (with_commas (typed_tokens t v ∷ address_tokens a ∷ []) ++ rest) (op.Store t v a) rest
  unfolding store_rule
  store_taken t v a rest type p q =
      along (append_assoc (typed_tokens t v) (after_commas (address_tokens a ∷ [])) rest ∙ typed_split t v (after_commas (address_tokens a ∷ []) ++ rest)
      ∙ ap (λ ys. type_tokens t ++ (value_tokens t v ++ comma ∷ ys)) (append_assoc (address_tokens a) [] rest))
      (chain (value_type_taken t _ type) (chain (operand_taken t v _ p) (chain (address_taken a rest q) given)))

  -- ---- terminators

  label_symbol : (word_token (codes "label")).symbol ≡ s.LabelWord
  unfolding symbol_of word_symbol
  label_symbol = refl

  label_taken : {ts : List Lexeme} → Takes (word s.LabelWord) (word_token (codes "label") ∷ ts) tt ts
  unfolding same_symbol
  label_taken = word_taken s.LabelWord refl label_symbol

  abbrev pub Local : Name → Type 0
  Local x = (is_local_name x ≡ true) × (is_below limits.names x ≡ true)

  pub name_taken : (x : Name) (ts : List Lexeme) → Local x → Takes (local limits) (local_token x ∷ ts) x ts
  unfolding local
  name_taken x ts h = taken (local_good limits x h.0 h.1)

  pub target_taken : (x : Name) (rest : List Lexeme) → Local x → Takes (target limits) (target_tokens x ++ rest) x rest
  unfolding target
  target_taken x rest h = chain label_taken (name_taken x rest h)

  pub jump_taken : (x : Name) (rest : List Lexeme) → Local x → Takes (branch_rule limits) (target_tokens x ++ rest) (op.Br x) rest
  unfolding branch_rule same_symbol
  jump_taken x rest h = chain (seen (ap Ok (is_symbol (word_token (codes "label")) s.LabelWord refl label_symbol))) (chain (target_taken x rest h) given)

  pub branch_taken : (c : Operand) (x y : Name) (rest : List Lexeme) → Fits (Int 1) c → Local x → Local y → Takes (branch_rule limits) (with_commas (bit_tokens c ∷ target_tokens x ∷ target_tokens y ∷ []) ++ rest) (op.CondBr c x y) rest
  unfolding branch_rule branch_on same_symbol
  branch_taken c x y rest p q r =
      along (ap (λ ys. int_token 1 ∷ ys) (append_assoc (value_tokens (Int 1) c) (after_commas (target_tokens x ∷ target_tokens y ∷ [])) rest))
      (chain (seen (ap (λ z. Ok (same_symbol z s.LabelWord)) (int_token_symbol 1 (omega arith) (omega arith))))
      (chain (bit_type_taken _) (chain (operand_taken (Int 1) c _ p) (chain comma_taken (chain (target_taken x _ q) (chain comma_taken (chain (target_taken y rest r) given)))))))

  pub ret_value_taken : (t : Ty) (a : Operand) (rest : List Lexeme) → is_value_type t ≡ true → Fits t a → Takes (ret_rule limits) (typed_tokens t a ++ rest) (op.Ret (Some (t, a))) rest
  unfolding ret_rule
  ret_value_taken t a rest type p = along (typed_split t a rest) (chain (result_taken (Some t) _ type) (chain (operand_taken t a rest p) given))

  pub ret_void_taken : (rest : List Lexeme) → Takes (ret_rule limits) (word_token (codes "void") ∷ rest) (op.Ret None) rest
  unfolding ret_rule
  ret_void_taken rest = chain (result_taken None rest refl) given

  -- ---- cases

  abbrev pub CaseFits : ℕ → ℕ × Name → Type 0
  CaseFits w c = (nat_lt c.0 (2 ^ w) ≡ true) × Local c.1

  abbrev pub CasesFit : ℕ → List (ℕ × Name) → Type 0
  CasesFit w [] = Unit {0}
  CasesFit w (c ∷ cases) = CaseFits w c × CasesFit w cases

  case_begin : (w : ℕ) → is_width w ≡ true → (is s.IntType (int_token w) && (width_in (int_token w) == w)) ≡ true
  case_begin w h = same_int w h

  case_tokens_are : (w : ℕ) (c : ℕ × Name) (ts : List Lexeme) → case_tokens (Int w) c ++ ts ≡ int_token w ∷ number_token w c.0 ∷ comma ∷ (target_tokens c.1 ++ ts)
  case_tokens_are w c ts = refl

  cases_taken : (w : ℕ) (cases found : List (ℕ × Name)) (rest : List Lexeme) → is_width w ≡ true → CasesFit w cases
      → Takes (loop (case_begins w) (λ found t. case_rest limits w found) found) (flat_map (case_tokens (Int w)) cases ++ sign (codes "]") ∷ rest) (found ++ cases) (sign (codes "]") ∷ rest)
  unfolding case_rest same_symbol symbol_of
  cases_taken w [] found rest h fits = valued (sym (append-nil found)) (ended refl)
  cases_taken w (c ∷ cases) found rest h fits =
      along (append_assoc (case_tokens (Int w) c) (flat_map (case_tokens (Int w)) cases) (sign (codes "]") ∷ rest))
      (turned (ap Ok (case_begin w h))
      (chain (number_taken w c.0 _ h fits.0.0) (chain comma_taken (chain (target_taken c.1 _ fits.0.1) given)))
      (valued (append_assoc found (c ∷ []) cases) (cases_taken w cases (found ++ c ∷ []) rest h fits.1)))

  switch_tokens : (w : ℕ) (v : Operand) (other : Name) (cases : List (ℕ × Name)) (rest : List Lexeme)
      → (with_commas (typed_tokens (Int w) v ∷ target_tokens other ∷ []) ++ sign (codes "[") ∷ (flat_map (case_tokens (Int w)) cases ++ sign (codes "]") ∷ [])) ++ rest
      ≡ int_token w ∷ (value_tokens (Int w) v ++ comma ∷ (target_tokens other ++ sign (codes "[") ∷ (flat_map (case_tokens (Int w)) cases ++ sign (codes "]") ∷ rest)))
  switch_tokens w v other cases rest =
      let table : List Lexeme = flat_map (case_tokens (Int w)) cases ++ sign (codes "]") ∷ [] in
      append_assoc (with_commas (typed_tokens (Int w) v ∷ target_tokens other ∷ [])) (sign (codes "[") ∷ table) rest
      ∙ ap (λ ys. int_token w ∷ ys) (append_assoc (value_tokens (Int w) v) (after_commas (target_tokens other ∷ [])) (sign (codes "[") ∷ (table ++ rest))
      ∙ ap (λ ys. value_tokens (Int w) v ++ comma ∷ (target_tokens other ++ sign (codes "[") ∷ ys)) (regrouped (flat_map (case_tokens (Int w)) cases) (sign (codes "]")) rest))

  pub switch_taken : (w : ℕ) (v : Operand) (other : Name) (cases : List (ℕ × Name)) (rest : List Lexeme) → is_width w ≡ true → Fits (Int w) v → Local other → CasesFit w cases
      → Takes (switch_rule limits) ((with_commas (typed_tokens (Int w) v ∷ target_tokens other ∷ []) ++ sign (codes "[") ∷ (flat_map (case_tokens (Int w)) cases ++ sign (codes "]") ∷ [])) ++ rest) (op.Switch (Int w) v other cases) rest
  unfolding switch_rule
  switch_taken w v other cases rest h p q r =
      along (switch_tokens w v other cases rest)
      (chain (int_type_taken w _ h) (chain (operand_taken (Int w) v _ p) (chain comma_taken (chain (target_taken other _ q) (chain open_bracket_taken (chain (cases_taken w cases [] rest h r) (chain close_bracket_taken given)))))))
