-- Instructions that read what is attached to them by themselves: `getelementptr`, `alloca`, `phi` and `call`.
use Rattle.std.proofs.Common.{◌≡◌, ℕ, suc, ◌+◌, ◌≤◌, ◌<◌, Bool, true, false, not, ◌&&◌, ◌||◌, cond, List, [], ◌∷◌, ◌++◌, map, length, Option, Some, None, Ok, Err, refl, sym, ap, ap₂, ◌∙◌, subst, append_assoc, append-nil, arith, length-append}
use Rattle.std.specs.Prelude.{codes, nat_lt, ◌==◌, is_some}
use Rattle.std.specs.List.{list_all}
use Rattle.std.specs.Str.{bytes_eq}
use Rattle.std.proofs.lemmas.Bool.{lt-ltb, eqb-true, and_parts}
use Rattle.ms_lex.specs.Tokens.{Text}
use Rattle.ms_lex.specs.Grammar.{head, loop, one}
use Rattle.ms_ir.specs.declared.syntax.Name.{Name}
use Rattle.ms_ir.specs.declared.syntax.Name.TheVariants.{Number, Text as Called}
use Rattle.ms_ir.specs.declared.syntax.Ty.{Ty, Int, Ptr, Array', Struct', Named}
use Rattle.ms_ir.specs.declared.syntax.Operand.{Operand}
use Rattle.ms_ir.specs.declared.syntax.Operand.TheVariants as operand
use Rattle.ms_ir.specs.declared.syntax.Op.TheVariants as op
use Rattle.ms_ir.specs.Names.{name_eq, main_name}
use Rattle.ms_ir.specs.declared.forms.Form.TheVariants.{Instrumented}
use Rattle.ms_text_grammar.specs.declared.refusals.Cause.TheVariants as r
use Rattle.ms_text_grammar.specs.declared.refusals.Outside.TheVariants as outside
use Rattle.ms_text_grammar.specs.declared.refusals.Limit.TheVariants as limit
use Rattle.ms_text_grammar.specs.declared.symbols.Symbol.{Symbol}
use Rattle.ms_text_grammar.specs.declared.symbols.Symbol.TheVariants as s
use Rattle.ms_text_grammar.specs.declared.states.Indices.{Indices}
use Rattle.ms_text_grammar.specs.Lexemes.{Lexeme, end_of_text, is, same_symbol, symbol_of}
use Rattle.ms_text_grammar.specs.Steps.{Rule, Verdict, word, within}
use Rattle.ms_text_grammar.specs.Types.{int_width, is_width as has_width, int_type_of, value_type_by, value_type_of}
use Rattle.ms_text_grammar.specs.Values.{is_gep_word, gep_words}
use Rattle.ms_text_grammar.specs.Skipped.{is_attribute, attributes, suffixes_from}
use Rattle.ms_text_grammar.specs.Insts.{no_indices, index_begins, count_begins, call_type, is_i32, variadic_type, callee_type, is_printf, names_printf, call_end, edge_begins}
use Rattle.ms_check_valid.specs.FormedNames.{are_bytes, is_local_name, is_global_name}
use Rattle.ms_check_valid.specs.FormedCode.{is_width, is_int_type, is_value_type, type_formed, result_formed}
use Rattle.ms_text_grammar.specs.LayoutPieces.{word as word_token, sign, comma, meta as meta_token, three_dots, after_commas, with_commas, enclosed}
use Rattle.ms_text_grammar.specs.LayoutNames.{local_token, global_token}
use Rattle.ms_text_grammar.specs.LayoutTypes.{type_tokens, result_tokens}
use Rattle.ms_text_grammar.specs.LayoutValues.{value_tokens, typed_tokens, pair_tokens}
use Rattle.ms_text_grammar.specs.LayoutInsts.{address_tokens, edge_tokens, is_one, count_tokens, callee_type_tokens, mark_tokens}
use Rattle.ms_text_laws.proofs.Limited.{Limits, global_name, index_type_of, index_turn, gep_rule, alloca_rule, callee_name, callee_by, callee, argument_type_of, argument, arguments, call_rule, edge, edge_turn, phi_rule}
use Rattle.ms_text_laws.proofs.Takes.{Takes, given, taken, seen, chain, turned, ended, by_symbol, chosen, other, word_taken, along}
use Rattle.ms_text_laws.proofs.Spelled.{is_below, int_token, int_token_symbol, global_text_in, local_number_symbol, local_text_symbol, int_token_width, global_name_good}
use Rattle.ms_text_laws.proofs.Listed.{AllTake, comma_is, listed_back}
use Rattle.ms_text_laws.proofs.Types.{TypeFits, type_taken, type_closes, no_closer, value_type_taken, value_type_symbol, valued, regrouped, width_parts, void_symbol, ptr_symbol, ptr_taken, open_bracket_taken, close_bracket_taken, close_paren, result_taken}
use Rattle.ms_text_laws.proofs.Values.{ValueFits, starts_value, value_starts, comma_taken, open_paren_taken, global_symbol}
use Rattle.ms_text_laws.proofs.Flags.{IsFresh, no_mark, marked_taken, ended_taken, mark_symbol}
use Rattle.ms_text_laws.proofs.Insts.{OperandsFit, first_operand, rest_operands, operand_taken, typed_split, int_type_good, address_taken, name_taken}

-- ---- what is after the last comma

-- the mark after its comma, which was read
abbrev pub after_comma : Bool → List Lexeme → List Lexeme
after_comma false rest = rest
after_comma true rest = meta_token (codes "!nosanitize") ∷ meta_token (codes "!0") ∷ rest

suffix_end : (marked : Bool) (rest : List Lexeme) → IsFresh rest → Takes (suffixes_from Instrumented marked) (after_comma marked rest) marked rest
unfolding suffixes_from
suffix_end false rest h = chain given (no_mark rest false h)
suffix_end true rest h = ended_taken rest h

-- ---- the first symbol of a type

pub type_symbol : (t : Ty) (ts : List Lexeme) → type_formed t ≡ true → {A : Type 0} (f : Symbol → A) (a : A)
    → f s.PtrType ≡ a → f s.IntType ≡ a → f s.OpenBracket ≡ a → f s.OpenBrace ≡ a → f s.Less ≡ a → f s.Local ≡ a → f s.NumberedLocal ≡ a → f (head end_of_text (type_tokens t ++ ts)).symbol ≡ a
unfolding symbol_of
type_symbol Ptr ts h f a p i b c l n m = ap f ptr_symbol ∙ p
type_symbol (Int w) ts h f a p i b c l n m = let width = width_parts w h in ap f (int_token_symbol w width.0 width.1) ∙ i
type_symbol (Array' k shape item) ts h f a p i b c l n m = b
type_symbol (Struct' false shape fields) ts h f a p i b c l n m = c
type_symbol (Struct' true shape fields) ts h f a p i b c l n m = l
type_symbol (Named (Number k)) ts h f a p i b c l n m = ap f (local_number_symbol k) ∙ m
type_symbol (Named (Called x)) ts h f a p i b c l n m = ap f (local_text_symbol x) ∙ n

-- ---- no attribute

value_no_attribute : (x : Symbol) → starts_value x ≡ true → is_attribute x ≡ false
value_no_attribute s.Number h = refl
value_no_attribute s.True h = refl
value_no_attribute s.False h = refl
value_no_attribute s.Null h = refl
value_no_attribute s.Undef h = refl
value_no_attribute s.Poison h = refl
value_no_attribute s.Local h = refl
value_no_attribute s.NumberedLocal h = refl
value_no_attribute s.Global h = refl
value_no_attribute s.GetElementPtr h = refl
value_no_attribute x h = absurd cc

pub no_attributes : (rest : List Lexeme) → is_attribute (head end_of_text rest).symbol ≡ false → Takes (attributes Instrumented) rest tt rest
unfolding attributes
no_attributes rest h = ended (ap Ok h)

no_one : (a : Bool) → (a && false) ≡ true → ⊥
no_one true h = absurd cc
no_one false h = absurd cc

module _ (limits : Limits) where
  -- ---- indices

  abbrev Turn : List (Ty × Operand) → Rule Indices
  Turn found = index_turn limits found

  index_type_good : (w before : ℕ) → is_width w ≡ true → before < limits.indices → index_type_of limits before (int_token w) ≡ Ok w
  index_type_good w before h few = ap (λ b. within b limit.Indices (int_type_of (int_token w))) (lt-ltb before limits.indices few) ∙ int_type_good limits w h

  index_taken : (t : Ty) (a : Operand) (found : List (Ty × Operand)) (rest : List Lexeme) → is_int_type t ≡ true → ValueFits limits (suc limits.depth) t a → length found < limits.indices
      → Takes (index_turn limits found) (typed_tokens t a ++ rest) (record { found = found ++ (t, a) ∷ []; ended = false }) rest
  unfolding index_turn
  index_taken (Int w) a found rest int p few =
      let width = width_parts w int in
      along (typed_split limits (Int w) a rest)
      (by_symbol s.IntType (int_token_symbol w width.0 width.1) (chain (taken (index_type_good w (length found) int few)) (chain (operand_taken limits (Int w) a rest p) given)))
  index_taken Ptr a found rest int p few = absurd cc
  index_taken (Array' n shape item) a found rest int p few = absurd cc
  index_taken (Struct' packed shape fields) a found rest int p few = absurd cc
  index_taken (Named x) a found rest int p few = absurd cc

  -- no index after the comma
  no_index : (found : List (Ty × Operand)) (rest : List Lexeme) → Takes (index_turn limits found) (after_comma true rest) (record { found = found; ended = true }) (after_comma true rest)
  unfolding index_turn
  no_index found rest = by_symbol s.NoSanitize mark_symbol given

  indices_end : (marked : Bool) (found : List (Ty × Operand)) (rest : List Lexeme) → IsFresh rest
      → Takes (loop index_begins (λ indices separator. index_turn limits indices.found) (record { found = found; ended = false })) (mark_tokens marked ++ rest) (record { found = found; ended = marked }) (after_comma marked rest)
  indices_end false found rest h = ended (ap Ok h.comma)
  indices_end true found rest h = turned (ap Ok comma_is) (no_index found rest) (ended refl)

  indices_taken : (indices found : List (Ty × Operand)) (marked : Bool) (rest : List Lexeme) → list_all (λ i. is_int_type i.0) indices ≡ true → OperandsFit limits indices → length found + length indices ≤ limits.indices → IsFresh rest
      → Takes (loop index_begins (λ indices separator. index_turn limits indices.found) (record { found = found; ended = false })) (after_commas (map pair_tokens indices) ++ (mark_tokens marked ++ rest))
      (record { found = found ++ indices; ended = marked }) (after_comma marked rest)
  indices_taken [] found marked rest int p few h = valued (ap (λ xs. record { found = xs; ended = marked }) (sym (append-nil found))) (indices_end marked found rest h)
  indices_taken (i ∷ indices) found marked rest int p few h =
      let ints = and_parts (is_int_type i.0) (list_all (λ i. is_int_type i.0) indices) int in
      turned (ap Ok comma_is)
      (along (append_assoc (pair_tokens i) (after_commas (map pair_tokens indices)) (mark_tokens marked ++ rest)) (index_taken i.0 i.1 found _ ints.0 (first_operand limits i indices p) (omega (arith, few))))
      (valued (ap (λ xs. record { found = xs; ended = marked }) (append_assoc found (i ∷ []) indices))
      (indices_taken indices (found ++ i ∷ []) marked rest ints.1 (rest_operands limits i indices p) (omega (arith, few, length-append found (i ∷ []))) h))

  gep_tokens : (t : Ty) (base : Operand) (indices : List (Ty × Operand)) (ts : List Lexeme)
      → with_commas (type_tokens t ∷ address_tokens base ∷ map pair_tokens indices) ++ ts ≡ type_tokens t ++ comma ∷ (address_tokens base ++ (after_commas (map pair_tokens indices) ++ ts))
  gep_tokens t base indices ts =
      append_assoc (type_tokens t) (after_commas (address_tokens base ∷ map pair_tokens indices)) ts
      ∙ ap (λ ys. type_tokens t ++ comma ∷ ys) (append_assoc (address_tokens base) (after_commas (map pair_tokens indices)) ts)

  pub step_taken : (t : Ty) (base : Operand) (indices : List (Ty × Operand)) (marked : Bool) (rest : List Lexeme) → TypeFits limits (suc limits.depth) t → OperandsFit limits ((Ptr, base) ∷ indices)
      → list_all (λ i. is_int_type i.0) indices ≡ true → length indices ≤ limits.indices → IsFresh rest
      → Takes (gep_rule limits) (with_commas (type_tokens t ∷ address_tokens base ∷ map pair_tokens indices) ++ (mark_tokens marked ++ rest)) (op.Gep t base indices, marked) rest
  unfolding gep_rule gep_words
  step_taken t base indices marked rest type p int few h =
      along (gep_tokens t base indices (mark_tokens marked ++ rest))
      (chain (ended (type_symbol t _ type.formed (λ y. Ok (is_gep_word y)) (Ok false) refl refl refl refl refl refl refl))
      (chain (type_taken limits t (suc limits.depth) _ type) (chain (address_taken limits base _ (first_operand limits (Ptr, base) indices p))
      (chain (indices_taken indices [] marked rest int (rest_operands limits (Ptr, base) indices p) (omega (arith, few)) h) (chain (suffix_end marked rest h) given)))))

  -- ---- alloca

  one_of_32 : (u : Ty) (count : Operand) → (has_width 32 (int_width u) && is_one count) ≡ true → (u ≡ Int 32) × (count ≡ operand.Int 1)
  one_of_32 (Int w) (operand.Int n) h = let parts = and_parts (w == 32) (n == 1) h in (ap Int (eqb-true w 32 parts.0), ap operand.Int (eqb-true n 1 parts.1))
  one_of_32 (Int w) operand.Null h = absurd (no_one (w == 32) h)
  one_of_32 (Int w) operand.Undef h = absurd (no_one (w == 32) h)
  one_of_32 (Int w) operand.Poison h = absurd (no_one (w == 32) h)
  one_of_32 (Int w) (operand.Local x) h = absurd (no_one (w == 32) h)
  one_of_32 (Int w) (operand.Global x) h = absurd (no_one (w == 32) h)
  one_of_32 (Int w) (operand.Offset x steps) h = absurd (no_one (w == 32) h)
  one_of_32 Ptr count h = absurd cc
  one_of_32 (Array' n shape item) count h = absurd cc
  one_of_32 (Struct' packed shape fields) count h = absurd cc
  one_of_32 (Named x) count h = absurd cc

  abbrev Count : List (Ty × Operand) → List Lexeme → Bool → List Lexeme → Type 0
  Count start ts is_ended rest = Takes (loop count_begins (λ indices separator. index_turn limits indices.found) no_indices) ts (record { found = start; ended = is_ended }) rest

  count_end : (marked : Bool) (rest : List Lexeme) → IsFresh rest → Count [] (mark_tokens marked ++ rest) marked (after_comma marked rest)
  count_end false rest h = ended (ap Ok h.comma)
  count_end true rest h = turned (ap Ok comma_is) (no_index [] rest) (ended refl)

  alloca_plain : (t : Ty) (marked : Bool) (rest : List Lexeme) → TypeFits limits (suc limits.depth) t → IsFresh rest
      → Takes (alloca_rule limits) (with_commas (type_tokens t ∷ []) ++ (mark_tokens marked ++ rest)) (op.Alloca t (Int 32) (operand.Int 1), marked) rest
  unfolding alloca_rule
  alloca_plain t marked rest type h =
      along (ap (λ ys. ys ++ (mark_tokens marked ++ rest)) (append-nil (type_tokens t)))
      (chain (type_taken limits t (suc limits.depth) _ type) (chain (count_end marked rest h) (chain (suffix_end marked rest h) given)))

  alloca_counted : (t u : Ty) (count : Operand) (marked : Bool) (rest : List Lexeme) → 0 < limits.indices → TypeFits limits (suc limits.depth) t → is_int_type u ≡ true → ValueFits limits (suc limits.depth) u count → IsFresh rest
      → Takes (alloca_rule limits) (with_commas (type_tokens t ∷ typed_tokens u count ∷ []) ++ (mark_tokens marked ++ rest)) (op.Alloca t u count, marked) rest
  unfolding alloca_rule
  alloca_counted t u count marked rest some type int p h =
      along (append_assoc (type_tokens t) (after_commas (typed_tokens u count ∷ [])) (mark_tokens marked ++ rest) ∙ ap (λ ys. type_tokens t ++ comma ∷ ys) (append_assoc (typed_tokens u count) [] (mark_tokens marked ++ rest)))
      (chain (type_taken limits t (suc limits.depth) _ type)
      (chain (turned (ap Ok comma_is) (index_taken u count [] _ int p some) (ended refl)) (chain (marked_taken marked rest h) given)))

  pub alloca_taken : (t u : Ty) (count : Operand) (marked : Bool) (rest : List Lexeme) → 0 < limits.indices → TypeFits limits (suc limits.depth) t → is_int_type u ≡ true → ValueFits limits (suc limits.depth) u count → IsFresh rest
      → Takes (alloca_rule limits) (with_commas (type_tokens t ∷ count_tokens u count) ++ (mark_tokens marked ++ rest)) (op.Alloca t u count, marked) rest
  alloca_taken t u count marked rest some type int p h =
      elim (has_width 32 (int_width u) && is_one count) as (λ b. (has_width 32 (int_width u) && is_one count) ≡ b
      → Takes (alloca_rule limits) (with_commas (type_tokens t ∷ cond b [] (typed_tokens u count ∷ [])) ++ (mark_tokens marked ++ rest)) (op.Alloca t u count, marked) rest) [
        | true ↦ λ e.
            let same = one_of_32 u count e in
            valued (ap₂ (λ x y. (op.Alloca t x y, marked)) (sym same.0) (sym same.1)) (alloca_plain t marked rest type h)
        | false ↦ λ e. alloca_counted t u count marked rest some type int p h
      ] refl

  -- ---- phis

  abbrev EdgeFits : Ty → Operand × Name → Type 0
  EdgeFits t e = ValueFits limits (suc limits.depth) t e.0 × ((is_local_name e.1 ≡ true) × (is_below limits.names e.1 ≡ true))

  abbrev pub EdgesFit : Ty → List (Operand × Name) → Type 0
  EdgesFit t [] = Unit {0}
  EdgesFit t (e ∷ edges) = EdgeFits t e × EdgesFit t edges

  -- after `[`
  edge_taken : (t : Ty) (e : Operand × Name) (rest : List Lexeme) → EdgeFits t e → Takes (edge limits t) (value_tokens t e.0 ++ comma ∷ local_token e.1 ∷ sign (codes "]") ∷ rest) e rest
  unfolding edge
  edge_taken t e rest h = chain (operand_taken limits t e.0 _ h.0) (chain comma_taken (chain (name_taken limits e.1 _ h.1) (chain close_bracket_taken given)))

  edge_tokens_are : (t : Ty) (e : Operand × Name) (rest : List Lexeme) → edge_tokens t e ++ rest ≡ sign (codes "[") ∷ (value_tokens t e.0 ++ comma ∷ local_token e.1 ∷ sign (codes "]") ∷ rest)
  edge_tokens_are t e rest = ap (λ ys. sign (codes "[") ∷ ys) (append_assoc (value_tokens t e.0) (comma ∷ local_token e.1 ∷ sign (codes "]") ∷ []) rest)

  edges_end : (t : Ty) (marked : Bool) (found : List (Operand × Name)) (rest : List Lexeme) → IsFresh rest
      → Takes (loop edge_begins (λ edges separator. edge_turn limits t edges.found) (record { found = found; ended = false })) (mark_tokens marked ++ rest) (record { found = found; ended = marked }) (after_comma marked rest)
  unfolding edge_turn
  edges_end t false found rest h = ended (ap Ok h.comma)
  edges_end t true found rest h = turned (ap Ok comma_is) (by_symbol s.NoSanitize mark_symbol given) (ended refl)

  edges_taken : (t : Ty) (edges found : List (Operand × Name)) (marked : Bool) (rest : List Lexeme) → EdgesFit t edges → IsFresh rest
      → Takes (loop edge_begins (λ edges separator. edge_turn limits t edges.found) (record { found = found; ended = false })) (after_commas (map (edge_tokens t) edges) ++ (mark_tokens marked ++ rest))
      (record { found = found ++ edges; ended = marked }) (after_comma marked rest)
  unfolding edge_turn symbol_of
  edges_taken t [] found marked rest p h = valued (ap (λ xs. record { found = xs; ended = marked }) (sym (append-nil found))) (edges_end t marked found rest h)
  edges_taken t (e ∷ edges) found marked rest p h =
      turned (ap Ok comma_is)
      (along (append_assoc (edge_tokens t e) (after_commas (map (edge_tokens t) edges)) (mark_tokens marked ++ rest) ∙ edge_tokens_are t e (after_commas (map (edge_tokens t) edges) ++ (mark_tokens marked ++ rest)))
      (by_symbol s.OpenBracket refl (chain (taken refl) (chain (edge_taken t e _ p.0) given))))
      (valued (ap (λ xs. record { found = xs; ended = marked }) (append_assoc found (e ∷ []) edges)) (edges_taken t edges (found ++ e ∷ []) marked rest p.1 h))

  phi_tokens : (t : Ty) (e : Operand × Name) (edges : List (Operand × Name)) (ts : List Lexeme)
      → (type_tokens t ++ with_commas (map (edge_tokens t) (e ∷ edges))) ++ ts ≡ type_tokens t ++ sign (codes "[") ∷ (value_tokens t e.0 ++ comma ∷ local_token e.1 ∷ sign (codes "]") ∷ (after_commas (map (edge_tokens t) edges) ++ ts))
  phi_tokens t e edges ts =
      append_assoc (type_tokens t) (with_commas (map (edge_tokens t) (e ∷ edges))) ts
      ∙ ap (λ ys. type_tokens t ++ ys) (append_assoc (edge_tokens t e) (after_commas (map (edge_tokens t) edges)) ts ∙ edge_tokens_are t e (after_commas (map (edge_tokens t) edges) ++ ts))

  pub phi_taken : (t : Ty) (e : Operand × Name) (edges : List (Operand × Name)) (marked : Bool) (rest : List Lexeme) → is_value_type t ≡ true → EdgesFit t (e ∷ edges) → IsFresh rest
      → Takes (phi_rule limits) ((type_tokens t ++ with_commas (map (edge_tokens t) (e ∷ edges))) ++ (mark_tokens marked ++ rest)) (op.Phi t (e ∷ edges), marked) rest
  unfolding phi_rule
  phi_taken t e edges marked rest type p h =
      along (phi_tokens t e edges (mark_tokens marked ++ rest))
      (chain (value_type_taken t _ type) (chain open_bracket_taken (chain (edge_taken t e _ p.0) (chain (edges_taken t edges (e ∷ []) marked rest p.1 h) (chain (suffix_end marked rest h) given)))))

  -- ---- calls

  argument_type_good : (counted : Bool) (t : Ty) (before : ℕ) (ts : List Lexeme) → is_value_type t ≡ true → (not counted || nat_lt before limits.parameters) ≡ true
      → argument_type_of limits counted before (head end_of_text (type_tokens t ++ ts)) ≡ Ok t
  argument_type_good counted Ptr before ts h few = ap (λ b. within b limit.Parameters (value_type_of (word_token (codes "ptr")))) few ∙ ap (λ y. value_type_by y (word_token (codes "ptr"))) ptr_symbol
  argument_type_good counted (Int w) before ts h few =
      let width = width_parts w h in
      ap (λ b. within b limit.Parameters (value_type_of (int_token w))) few ∙ ap (λ y. value_type_by y (int_token w)) (int_token_symbol w width.0 width.1)
      ∙ ap (λ k. Ok (Int k)) (int_token_width w width.1)
  argument_type_good counted (Array' n shape item) before ts h few = absurd cc
  argument_type_good counted (Struct' packed shape fields) before ts h few = absurd cc
  argument_type_good counted (Named x) before ts h few = absurd cc

  -- a type of a value is one token
  pub one_token : {A : Type 0} (f : Lexeme → Verdict A) (a : A) (t : Ty) (ts : List Lexeme) → is_value_type t ≡ true → f (head end_of_text (type_tokens t ++ ts)) ≡ Ok a → Takes (one f) (type_tokens t ++ ts) a ts
  one_token f a Ptr ts h e = taken e
  one_token f a (Int w) ts h e = taken e
  one_token f a (Array' n shape item) ts h e = absurd cc
  one_token f a (Struct' packed shape fields) ts h e = absurd cc
  one_token f a (Named x) ts h e = absurd cc

  argument_taken : (counted : Bool) (a : Ty × Operand) (found : List (Ty × Operand)) (rest : List Lexeme) → is_value_type a.0 ≡ true → (not counted || nat_lt (length found) limits.parameters) ≡ true → ValueFits limits (suc limits.depth) a.0 a.1
      → Takes (argument limits counted found) (pair_tokens a ++ rest) (found ++ a ∷ []) rest
  unfolding argument
  argument_taken counted a found rest type few p =
      let later : List Lexeme = value_tokens a.0 a.1 ++ rest in
      along (typed_split limits a.0 a.1 rest)
      (chain (one_token (argument_type_of limits counted (length found)) a.0 a.0 later type (argument_type_good counted a.0 (length found) later type few))
      (chain (no_attributes later (value_no_attribute _ (value_starts a.0 a.1 rest))) (chain (operand_taken limits a.0 a.1 rest p) given)))

  room_after : (counted : Bool) (a b : ℕ) → a < b → (counted ≡ true → b ≤ limits.parameters) → (not counted || nat_lt a limits.parameters) ≡ true
  room_after true a b less few = let most = few refl in lt-ltb a limits.parameters (omega (arith, less, most))
  room_after false a b less few = refl

  arguments_take : (counted : Bool) (args found : List (Ty × Operand)) → list_all (λ a. is_value_type a.0) args ≡ true → OperandsFit limits args → (counted ≡ true → length found + length args ≤ limits.parameters)
      → AllTake (λ t. true) (λ found. true) (argument limits counted) (map pair_tokens args) found (found ++ args)
  arguments_take counted [] found types p few = append-nil found
  arguments_take counted (a ∷ args) found types p few =
      let parts = and_parts (is_value_type a.0) (list_all (λ a. is_value_type a.0) args) types in (
        refl,
        found ++ a ∷ [],
        λ rest good. argument_taken counted a found rest parts.0 (room_after counted (length found) (length found + length (a ∷ args)) (omega arith) few) (first_operand limits a args p),
        subst (λ v. AllTake (λ t. true) (λ found. true) (argument limits counted) (map pair_tokens args) (found ++ a ∷ []) v) (append_assoc found (a ∷ []) args)
            (arguments_take counted args (found ++ a ∷ []) parts.1 (rest_operands limits a args p) (λ c. let most = few c in omega (arith, most, length-append found (a ∷ [])))),
      )

  abbrev ArgumentsBegin : List (List Lexeme) → Type 0
  ArgumentsBegin [] = Unit {0}
  ArgumentsBegin (part ∷ parts) = (rest : List Lexeme) → is s.CloseParen (head end_of_text (part ++ rest)) ≡ false

  pub value_type_formed : (t : Ty) → is_value_type t ≡ true → type_formed t ≡ true
  value_type_formed Ptr h = refl
  value_type_formed (Int w) h = h
  value_type_formed (Array' n shape item) h = absurd cc
  value_type_formed (Struct' packed shape fields) h = absurd cc
  value_type_formed (Named x) h = absurd cc

  arguments_begin : (args : List (Ty × Operand)) → list_all (λ a. is_value_type a.0) args ≡ true → ArgumentsBegin (map pair_tokens args)
  arguments_begin [] h = tt
  arguments_begin (a ∷ args) h = λ rest.
      let type = value_type_formed a.0 (and_parts (is_value_type a.0) (list_all (λ a. is_value_type a.0) args) h).0 in
      ap (λ ts. is s.CloseParen (head end_of_text ts)) (typed_split limits a.0 a.1 rest) ∙ (no_closer _ (type_closes a.0 (value_tokens a.0 a.1 ++ rest) type)).0

  arguments_taken : (counted : Bool) (args : List (Ty × Operand)) (rest : List Lexeme) → list_all (λ a. is_value_type a.0) args ≡ true → OperandsFit limits args → (counted ≡ true → length args ≤ limits.parameters)
      → Takes (arguments limits counted) (with_commas (map pair_tokens args) ++ sign (codes ")") ∷ rest) args rest
  unfolding arguments
  arguments_taken counted args rest types p few =
      listed_back (λ t. true) (λ found. true) (argument limits counted) s.CloseParen (sign (codes ")")) close_paren (map pair_tokens args) [] args rest (arguments_begin args types)
      (arguments_take counted args [] types p (λ c. let most = few c in omega (arith, most)))

  -- ---- the callee

  not_true : (b : Bool) → not b ≡ true → b ≡ false
  not_true true h = absurd cc
  not_true false h = refl

  dots_good : (dotted printf : Bool) → (dotted ≡ true → printf ≡ true) → (dotted && not printf) ≡ false
  dots_good false printf h = refl
  dots_good true printf h = ap not (h refl)

  callee_good : (dotted : Bool) (x : Text) → (dotted ≡ true → is_printf x ≡ true) → is_global_name (Called x) ≡ true → nat_lt (length x) limits.names ≡ true → not (name_eq (Called x) main_name) ≡ true
      → callee_by limits dotted (global_token (Called x)).symbol (global_token (Called x)) ≡ Ok (Called x)
  callee_good dotted x only h few other =
      ap (λ y. callee_by limits dotted y (global_token (Called x))) (global_symbol (Called x))
      ∙ ap (callee_name limits dotted) (global_text_in x (and_parts (are_bytes x) _ h).0)
      ∙ ap (λ b. cond b (Err (r.Outside outside.CallOfMain)) (cond (dotted && not (is_printf x)) (Err (r.Outside outside.FunctionType)) (global_name limits x))) (not_true (bytes_eq x (codes "main")) other)
      ∙ ap (λ b. cond b (Err (r.Outside outside.FunctionType)) (global_name limits x)) (dots_good dotted (is_printf x) only)
      ∙ global_name_good limits x h few

  callee_taken : (dotted : Bool) (x : Name) (ts : List Lexeme) → (dotted ≡ true → names_printf x ≡ true) → is_global_name x ≡ true → is_below limits.names x ≡ true → not (name_eq x main_name) ≡ true
      → Takes (callee limits dotted) (global_token x ∷ ts) x ts
  unfolding callee
  callee_taken dotted (Number n) ts only h few other = absurd cc
  callee_taken dotted (Called x) ts only h few other = taken (callee_good dotted x only h few other)

  dots_taken : {ts : List Lexeme} → Takes (word s.Dots) (three_dots ∷ ts) tt ts
  unfolding same_symbol symbol_of
  dots_taken = word_taken s.Dots refl refl

  paren_taken : {ts : List Lexeme} → Takes (word s.CloseParen) (sign (codes ")") ∷ ts) tt ts
  unfolding same_symbol symbol_of
  paren_taken = word_taken s.CloseParen refl refl

  variadic_taken : (ts : List Lexeme) → Takes variadic_type (enclosed (codes "(") (codes ")") ((word_token (codes "ptr") ∷ []) ∷ (three_dots ∷ []) ∷ []) ++ ts) true ts
  unfolding variadic_type
  variadic_taken ts = chain open_paren_taken (chain ptr_taken (chain comma_taken (chain dots_taken (chain paren_taken given))))

  no_paren : (x : Name) → is s.OpenParen (global_token x) ≡ false
  unfolding same_symbol symbol_of
  no_paren x = refl

  paren_is : is s.OpenParen (sign (codes "(")) ≡ true
  unfolding same_symbol symbol_of
  paren_is = refl

  -- the type of the callee, which is written where the call has dots
  callee_type_taken : (dots : Bool) (ret : Option Ty) (x : Name) (ts : List Lexeme) → (dots ≡ true → is_i32 ret ≡ true)
      → Takes (callee_type ret) (cond dots (enclosed (codes "(") (codes ")") ((word_token (codes "ptr") ∷ []) ∷ (three_dots ∷ []) ∷ [])) [] ++ global_token x ∷ ts) dots (global_token x ∷ ts)
  unfolding callee_type
  callee_type_taken false ret x ts only = chain (seen (ap Ok (no_paren x))) given
  callee_type_taken true ret x ts only = chain (seen (ap Ok paren_is)) (chosen (is_i32 ret) _ _ (only refl) (variadic_taken (global_token x ∷ ts)))

  call_end_taken : (marked : Bool) (rest : List Lexeme) → IsFresh rest → Takes (call_end Instrumented) (mark_tokens marked ++ rest) marked rest
  unfolding call_end symbol_of same_symbol
  call_end_taken false rest h = chain (ended (ap Ok h.attribute)) (chain (seen (ap (λ b. cond b (Err (r.Outside outside.OperandBundle)) (Ok tt)) h.bracket)) (marked_taken false rest h))
  call_end_taken true rest h = chain (ended refl) (chain (seen refl) (marked_taken true rest h))

  -- the type of the result: that of a call with a name isn't `void`
  call_type_taken : (ret : Option Ty) (rest : List Lexeme) → result_formed ret ≡ true → Takes (call_type (is_some ret)) (result_tokens ret ++ rest) ret rest
  call_type_taken None rest h = result_taken None rest h
  call_type_taken (Some t) rest h = chain (value_type_taken t rest h) given

  result_no_attribute : (ret : Option Ty) (ts : List Lexeme) → result_formed ret ≡ true → is_attribute (head end_of_text (result_tokens ret ++ ts)).symbol ≡ false
  result_no_attribute None ts h = ap is_attribute void_symbol
  result_no_attribute (Some t) ts h = value_type_symbol t ts h is_attribute false refl refl

  call_tokens : (dots : List Lexeme) (ret : Option Ty) (x : Name) (args : List (Ty × Operand)) (ts : List Lexeme)
      → (result_tokens ret ++ (dots ++ global_token x ∷ enclosed (codes "(") (codes ")") (map pair_tokens args))) ++ ts
      ≡ result_tokens ret ++ (dots ++ global_token x ∷ sign (codes "(") ∷ (with_commas (map pair_tokens args) ++ sign (codes ")") ∷ ts))
  call_tokens dots ret x args ts =
      append_assoc (result_tokens ret) (dots ++ global_token x ∷ enclosed (codes "(") (codes ")") (map pair_tokens args)) ts
      ∙ ap (λ ys. result_tokens ret ++ ys) (append_assoc dots (global_token x ∷ enclosed (codes "(") (codes ")") (map pair_tokens args)) ts
      ∙ ap (λ ys. dots ++ global_token x ∷ sign (codes "(") ∷ ys) (regrouped (with_commas (map pair_tokens args)) (sign (codes ")")) ts))

  all_three : (a b c : Bool) → (a && b && c) ≡ true → (b ≡ true) × (c ≡ true)
  all_three a b c h = let last = and_parts (a && b) c h in ((and_parts a b last.0).1, last.1)

  pub call_taken : (dotted : Bool) (ret : Option Ty) (x : Name) (args : List (Ty × Operand)) (marked : Bool) (rest : List Lexeme)
      → result_formed ret ≡ true → is_global_name x ≡ true → is_below limits.names x ≡ true → not (name_eq x main_name) ≡ true → list_all (λ a. is_value_type a.0) args ≡ true → OperandsFit limits args
      → (names_printf x ≡ true → length args ≤ limits.parameters) → IsFresh rest
      → Takes (call_rule limits (is_some ret) s.Call) ((result_tokens ret ++ (callee_type_tokens dotted ret x ++ global_token x ∷ enclosed (codes "(") (codes ")") (map pair_tokens args))) ++ (mark_tokens marked ++ rest)) (op.Call ret x args, marked) rest
  unfolding call_rule
  call_taken dotted ret x args marked rest result name few other types p most h =
      let dots : Bool = dotted && is_i32 ret && names_printf x in
      let after : List Lexeme = sign (codes "(") ∷ (with_commas (map pair_tokens args) ++ sign (codes ")") ∷ (mark_tokens marked ++ rest)) in
      along (call_tokens (callee_type_tokens dotted ret x) ret x args (mark_tokens marked ++ rest))
      (chain given (chain (no_attributes _ (result_no_attribute ret _ result)) (chain (call_type_taken ret _ result)
      (chain (callee_type_taken dots ret x after (λ d. (all_three dotted (is_i32 ret) (names_printf x) d).0))
      (chain (callee_taken dots x after (λ d. (all_three dotted (is_i32 ret) (names_printf x) d).1) name few other)
      (chain open_paren_taken (chain (arguments_taken (names_printf x) args _ types p most) (chain (call_end_taken marked rest h) given))))))))
