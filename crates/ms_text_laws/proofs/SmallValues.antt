-- Values and initialisers that are read are no deeper than they may be, and have few indices and small names.
use Rattle.std.proofs.Common.{◌≡◌, ℕ, zero, suc, ◌≤◌, max, Bool, true, false, ◌&&◌, cond, List, [], ◌∷◌, ◌++◌, map, length, flat_map, Option, Some, None, Ok, Err, refl, sym, subst, ap, ◌∙◌, arith}
use Rattle.std.specs.Prelude.{nat_le, nat_lt}
use Rattle.std.specs.List.{list_all}
use Rattle.std.proofs.lemmas.Bool.{ltb-true, leb-true, le-leb, and_parts, and_from}
use Rattle.std.proofs.lemmas.List.Folds.{list_all-append}
use Rattle.ms_lex.specs.Grammar.{◌>>◌}
use Rattle.ms_ir.specs.declared.syntax.Name.{Name}
use Rattle.ms_ir.specs.declared.syntax.Ty.{Ty, Int}
use Rattle.ms_ir.specs.declared.syntax.Operand.{Operand}
use Rattle.ms_ir.specs.declared.syntax.Operand.TheVariants as operand
use Rattle.ms_ir.specs.declared.syntax.Init.{Init, Row_of-Init-Array-0-2, end_of-Init-Array-0-2, more_of-Init-Array-0-2, items-the_row-Init-Array-0-2, items_hidden-the_row-Init-Array-0-2-0}
use Rattle.ms_ir.specs.declared.syntax.Init as initial
use Rattle.ms_ir.specs.declared.syntax.Init.TheBlock.{hidden-the_row-Init-Array-0-2-0}
use Rattle.ms_ir.specs.Equal.{AddressStep}
use Rattle.ms_ir.specs.Written.{OfGlobal, type_mentions, operand_mentions, operand_types, init_mentions}
use Rattle.ms_ir.specs.declared.forms.Form.{Form}
use Rattle.ms_text_grammar.specs.declared.refusals.Limit.TheVariants as limit
use Rattle.ms_text_grammar.specs.declared.refusals.Cause.{Cause}
use Rattle.ms_text_grammar.specs.declared.refusals.Cause.TheVariants as r
use Rattle.ms_text_grammar.specs.declared.symbols.Symbol.{Symbol}
use Rattle.ms_text_grammar.specs.declared.symbols.Symbol.TheVariants as s
use Rattle.ms_text_grammar.specs.Lexemes.{Lexeme, name_in}
use Rattle.ms_text_grammar.specs.Steps.{Rule, skip, stop}
use Rattle.ms_text_grammar.specs.Names.{local_by, global_by}
use Rattle.ms_text_grammar.specs.Types.{int_width, is_ptr, int_type_of, type_to, opens}
use Rattle.ms_text_grammar.specs.Values.{number_by, max_indices, constant_index, constant_indices, Address, gep_from, base_by, base_to, max_within, offset, is_int_width, int_value, local_value, simple_by, simple_value, value_by, value_within, flat_init, typed, array_init, struct_init, packed_init, nested_init, init_to}
use Rattle.ms_text_grammar.proofs.Bounds.{length_more}
use Rattle.ms_check_valid.specs.ReadLimits.{mentioned, type_depth, steps_depth, init_depth, items_depth, few_constant_indices, few_init_indices, few_items_indices}
use Rattle.ms_check_valid.proofs.TypeShapes.{init_mentions-array, init_mentions-struct}
use Rattle.ms_text_laws.proofs.Sound.{all_pushed, no_value, same_value, if_good, if_mapped, if_within}
use Rattle.ms_text_laws.proofs.Brings.{Brings, given, judged, chained, after, either, stopped, looped, items_bring}
use Rattle.ms_text_laws.proofs.SmallNames.{is_small_name, small_mentions, all_joined, all_so, all_among, all_mapped, local_by_small, global_by_small, global_read}
use Rattle.ms_text_laws.proofs.SmallTypes.{is_small_type, small_parts, type_read}

-- types of so many arrays and structs at most
abbrev pub are_shallow_types : ℕ → List Ty → Bool
are_shallow_types depth ts = list_all (λ t. nat_le (type_depth t) depth) ts

-- small names, few indices and shallow types
abbrev pub is_small_operand : Form → ℕ → Operand → Bool
is_small_operand form depth o = small_mentions form (operand_mentions o) && few_constant_indices o && are_shallow_types depth (operand_types o)

-- ---- indices

-- one more, where there is room for it
pub few_pushed : {A : Type 0} (most : ℕ) (xs : List A) (x : A) → nat_lt (length xs) most ≡ true → nat_le (length (xs ++ x ∷ [])) most ≡ true
few_pushed most xs x h =
    let room = ltb-true (length xs) most h in
    let more = length_more xs x in
    le-leb (length (xs ++ x ∷ [])) most (omega (arith, room, more))

-- at most 64 indices, whose types are shallow
abbrev FewIndices : ℕ → List (Ty × ℕ) → Type 0
FewIndices depth found = (nat_le (length found) 64 ≡ true) × (list_all (λ i. nat_le (type_depth i.0) depth) found ≡ true)

int_shallow : (depth width : ℕ) → nat_le (type_depth (Int width)) depth ≡ true
int_shallow depth width = le-leb 0 depth (omega arith)

index_read : (depth : ℕ) (found : List (Ty × ℕ)) → FewIndices depth found → Brings (constant_index found) (FewIndices depth)
unfolding constant_index
index_read depth found h =
    chained {P = λ width. nat_lt (length found) 64 ≡ true} (judged (λ t w e. (if_within (nat_lt (length found) max_indices) limit.Indices (int_type_of t) w e).0))
    (λ width room. after (λ n. given (few_pushed 64 found (Int width, n) room, all_pushed (λ i. nat_le (type_depth i.0) depth) found (Int width, n) h.1 (int_shallow depth width))))

indices_read : (depth : ℕ) → Brings constant_indices (FewIndices depth)
unfolding constant_indices
indices_read depth = looped (refl, refl) (λ found comma h e. index_read depth found h)

-- ---- steps

-- a step of a small type, and few indices
abbrev is_small_step : Form → ℕ → AddressStep → Bool
is_small_step form depth s = is_small_type form depth s.0 && nat_le (length s.1) 64 && list_all (λ i. nat_le (type_depth i.0) depth) s.1

-- a small name, and so many small steps at most
abbrev IsSmallAddress : Form → ℕ → ℕ → Address → Type 0
IsSmallAddress form depth most a = (is_small_name form a.0 ≡ true) × (length a.1 ≤ most) × (list_all (is_small_step form depth) a.1 ≡ true)

module _ (form : Form) (depth : ℕ) where
  step_parts : (s : AddressStep) → is_small_step form depth s ≡ true
      → (is_small_type form depth s.0 ≡ true) × (nat_le (length s.1) 64 ≡ true) × (list_all (λ i. nat_le (type_depth i.0) depth) s.1 ≡ true)
  step_parts s h =
      let all = and_parts (is_small_type form depth s.0 && nat_le (length s.1) 64) (list_all (λ i. nat_le (type_depth i.0) depth) s.1) h in
      let first = and_parts (is_small_type form depth s.0) (nat_le (length s.1) 64) all.0 in
      (first.0, first.1, all.1)

  step_small : (t : Ty) (indices : List (Ty × ℕ)) → is_small_type form depth t ≡ true → FewIndices depth indices → is_small_step form depth (t, indices) ≡ true
  step_small t indices w h =
      and_from (is_small_type form depth t && nat_le (length indices) 64) (list_all (λ i. nat_le (type_depth i.0) depth) indices)
      (and_from (is_small_type form depth t) (nat_le (length indices) 64) w h.0) h.1

  step_shallow : (s : AddressStep) → is_small_step form depth s ≡ true → are_shallow_types depth (s.0 ∷ map (λ i. i.0) s.1) ≡ true
  step_shallow s h =
      let parts = step_parts s h in
      and_from (nat_le (type_depth s.0) depth) (are_shallow_types depth (map (λ i. i.0) s.1)) (small_parts form depth s.0 parts.0).0
      (all_mapped (λ (i : Ty × ℕ). nat_le (type_depth i.0) depth) (λ u. nat_le (type_depth u) depth) (λ i. i.0) (λ i k. k) s.1 parts.2)

  steps_small : (a : Address) → IsSmallAddress form depth 64 a → is_small_operand form depth (operand.Offset a.0 a.1) ≡ true
  steps_small a h =
      let steps = a.1 in
      let types = flat_map (λ s. type_mentions s.0) steps in
      let few = nat_le (length steps) 64 in
      let fewer = list_all (λ s. nat_le (length s.1) 64) steps in
      let names = all_joined (λ x. is_small_name form (mentioned x)) types (OfGlobal a.0 ∷ [])
      (all_among (is_small_step form depth) (λ x. is_small_name form (mentioned x)) (λ s. type_mentions s.0) (λ s k. (small_parts form depth s.0 (step_parts s k).0).1) steps h.2)
      (and_from (is_small_name form a.0) true h.0 refl) in
      let counts = and_from few fewer (le-leb (length steps) 64 h.1) (all_so (is_small_step form depth) (λ s. nat_le (length s.1) 64) (λ s k. (step_parts s k).1) steps h.2) in
      and_from (small_mentions form (types ++ OfGlobal a.0 ∷ []) && (few && fewer)) (are_shallow_types depth (flat_map (λ s. s.0 ∷ map (λ i. i.0) s.1) steps))
      (and_from (small_mentions form (types ++ OfGlobal a.0 ∷ [])) (few && fewer) names counts)
      (all_among (is_small_step form depth) (λ t. nat_le (type_depth t) depth) (λ s. s.0 ∷ map (λ i. i.0) s.1) step_shallow steps h.2)

  gep_read : (most : ℕ) (base : Rule Address) → Brings base (IsSmallAddress form depth most) → Brings (gep_from form depth base) (IsSmallAddress form depth (suc most))
  unfolding gep_from
  gep_read most base p =
      after (λ words. after (λ paren. chained (type_read form depth) (λ t w. after (λ comma. after (λ pointer. chained p (λ a g.
      chained (indices_read depth) (λ indices h. after (λ close. given (around a t indices g w h)))))))))
    where
      around : (a : Address) (t : Ty) (indices : List (Ty × ℕ)) → IsSmallAddress form depth most a → is_small_type form depth t ≡ true → FewIndices depth indices
          → IsSmallAddress form depth (suc most) (a.0, (t, indices) ∷ a.1)
      around a t indices g w h =
          let few = g.1 in
          (g.0, omega (arith, few), and_from (is_small_step form depth (t, indices)) (list_all (is_small_step form depth) a.1) (step_small t indices w h) g.2)

  base_by_read : (most : ℕ) (inner : Rule Address) → Brings inner (IsSmallAddress form depth most) → (x : Symbol) → Brings (base_by form inner x) (IsSmallAddress form depth most)
  base_by_read most inner p s.GetElementPtr = p
  base_by_read most inner p x = chained (global_read form) (λ n g. given (g, omega arith, refl))

  base_read : (within : ℕ) → Brings (base_to form depth within) (IsSmallAddress form depth within)
  unfolding base_to
  base_read zero = after (λ x. base_by_read zero (stop (r.Limit limit.Indices)) (stopped (r.Limit limit.Indices)) x)
  base_read (suc within) =
      after (λ x. base_by_read (suc within) (skip >> gep_from form depth (base_to form depth within)) (after (λ taken. gep_read within (base_to form depth within) (base_read within))) x)

  offset_read : Brings (offset form depth) (λ o. is_small_operand form depth o ≡ true)
  unfolding offset
  offset_read = chained (gep_read max_within (base_to form depth max_within) (base_read max_within)) (λ a h. given (steps_small a h))

-- ---- values of one token

module _ (form : Form) (depth : ℕ) where
  abbrev IsSmall : Operand → Type 0
  IsSmall o = is_small_operand form depth o ≡ true

  named_small : (n : Name) → is_small_name form n ≡ true → (is_small_name form n && true && true && true) ≡ true
  named_small n h =
      and_from (is_small_name form n && true && true) true
      (and_from (is_small_name form n && true) true (and_from (is_small_name form n) true h refl) refl) refl

  int_read : (width : Option ℕ) (t : Lexeme) (v : Operand) → int_value width t ≡ Ok v → IsSmall v
  int_read None t v h = no_value _ v h
  int_read (Some width) t v h = subst IsSmall (if_mapped operand.Int (number_by width t) v (if_good (is_int_width width) _ _ v h).1).2 refl

  tested_read : (b : Bool) (a v : Operand) (e : Cause) → IsSmall a → cond b (Ok a) (Err e) ≡ Ok v → IsSmall v
  tested_read b a v e p h = subst IsSmall (same_value a v (if_good b (Ok a) e v h).1) p

  local_value_read : (locals : Bool) (t : Lexeme) (v : Operand) → local_value form locals t ≡ Ok v → IsSmall v
  local_value_read true t v h =
      let x = if_mapped operand.Local (local_by form t.symbol t) v h in
      subst IsSmall x.2 (named_small x.0 (local_by_small form t.symbol t x.0 x.1))
  local_value_read false t v h = no_value _ v h

  global_value_read : (t : Lexeme) (v : Operand) (n : Name) → global_by form t.symbol t ≡ Ok n → operand.Global n ≡ v → IsSmall v
  global_value_read t v n h e = subst IsSmall e (named_small n (global_by_small form t.symbol t n h))

  simple_by_read : (locals : Bool) (type : Ty) (x : Symbol) (t : Lexeme) (v : Operand) → simple_by form locals type x t ≡ Ok v → IsSmall v
  simple_by_read locals type s.Number t v h = int_read (int_width type) t v h
  simple_by_read locals type s.True t v h = tested_read _ (operand.Int 1) v _ refl h
  simple_by_read locals type s.False t v h = tested_read _ (operand.Int 0) v _ refl h
  simple_by_read locals type s.Null t v h = tested_read (is_ptr type) operand.Null v _ refl h
  simple_by_read locals type s.Undef t v h = subst IsSmall (same_value operand.Undef v h) refl
  simple_by_read locals type s.Poison t v h = subst IsSmall (same_value operand.Poison v h) refl
  simple_by_read locals type s.Local t v h = local_value_read locals t v h
  simple_by_read locals type s.NumberedLocal t v h = local_value_read locals t v h
  simple_by_read locals type s.Global t v h =
      let x = if_mapped operand.Global (global_by form t.symbol t) v h in
      global_value_read t v x.0 x.1 x.2
  simple_by_read locals type x t v h = no_value _ v h

  simple_read : (locals : Bool) (type : Ty) → Brings (simple_value form locals type) IsSmall
  unfolding simple_value
  simple_read locals type = judged (λ t v h. simple_by_read locals type t.symbol t v h)

  value_by_read : (locals : Bool) (type : Ty) (x : Symbol) → Brings (value_by form depth locals type x) IsSmall
  value_by_read locals type s.GetElementPtr = after (λ taken. offset_read form depth)
  value_by_read locals type x = simple_read locals type

  pub value_read : (locals : Bool) (type : Ty) → Brings (value_within form depth locals type) IsSmall
  unfolding value_within
  value_read locals type = after (λ x. value_by_read locals type x)

-- ---- initialisers

-- no deeper than it may be, with few indices and small names
abbrev pub is_small_init : Form → ℕ → Init → Bool
is_small_init form depth i = nat_le (init_depth i) depth && few_init_indices i && small_mentions form (init_mentions i)

-- an item with its type
abbrev is_small_item : Form → ℕ → Ty × Init → Bool
is_small_item form depth i = is_small_type form depth i.0 && is_small_init form depth i.1

-- the deepest of some items
abbrev deepest_item : List (Ty × Init) → ℕ
deepest_item [] = 0
deepest_item (i ∷ rest) = max (max (type_depth i.0) (init_depth i.1)) (deepest_item rest)

items_depth-items : (n : _) (row : Row_of-Init-Array-0-2 n) → items_depth row ≡ deepest_item (items-the_row-Init-Array-0-2 n row)
items_depth-items n end_of-Init-Array-0-2 = refl
items_depth-items n (more_of-Init-Array-0-2 t i rest) = ap (λ d. max (max (type_depth t) (init_depth i)) d) (items_depth-items _ rest)

few_items-items : (n : _) (row : Row_of-Init-Array-0-2 n) → few_items_indices row ≡ list_all (λ i. few_init_indices i.1) (items-the_row-Init-Array-0-2 n row)
few_items-items n end_of-Init-Array-0-2 = refl
few_items-items n (more_of-Init-Array-0-2 t i rest) = ap (λ b. few_init_indices i && b) (few_items-items _ rest)

listed_depth : (xs : List (Ty × Init)) → items_depth (hidden-the_row-Init-Array-0-2-0 xs) ≡ deepest_item xs
listed_depth xs = items_depth-items _ (hidden-the_row-Init-Array-0-2-0 xs) ∙ ap deepest_item (items_hidden-the_row-Init-Array-0-2-0 xs)

listed_few : (xs : List (Ty × Init)) → few_items_indices (hidden-the_row-Init-Array-0-2-0 xs) ≡ list_all (λ i. few_init_indices i.1) xs
listed_few xs = few_items-items _ (hidden-the_row-Init-Array-0-2-0 xs) ∙ ap (list_all (λ i. few_init_indices i.1)) (items_hidden-the_row-Init-Array-0-2-0 xs)

module _ (form : Form) (depth : ℕ) where
  -- the parts of what is small
  pub init_parts : (i : Init) → is_small_init form depth i ≡ true → (nat_le (init_depth i) depth ≡ true) × (few_init_indices i ≡ true) × (small_mentions form (init_mentions i) ≡ true)
  init_parts i h =
      let all = and_parts (nat_le (init_depth i) depth && few_init_indices i) (small_mentions form (init_mentions i)) h in
      let first = and_parts (nat_le (init_depth i) depth) (few_init_indices i) all.0 in
      (first.0, first.1, all.1)

  item_parts : (i : Ty × Init) → is_small_item form depth i ≡ true → (is_small_type form depth i.0 ≡ true) × (is_small_init form depth i.1 ≡ true)
  item_parts i h = and_parts (is_small_type form depth i.0) (is_small_init form depth i.1) h

  items_shallow : (xs : List (Ty × Init)) → list_all (is_small_item form depth) xs ≡ true → deepest_item xs ≤ depth
  items_shallow [] h = omega arith
  items_shallow (i ∷ rest) h =
      let parts = and_parts (is_small_item form depth i) (list_all (is_small_item form depth) rest) h in
      let item = item_parts i parts.0 in
      let type = leb-true (type_depth i.0) depth (small_parts form depth i.0 item.0).0 in
      let value = leb-true (init_depth i.1) depth (init_parts i.1 item.1).0 in
      let others = items_shallow rest parts.1 in
      omega (arith, type, value, others)

  items_few : (xs : List (Ty × Init)) → list_all (is_small_item form depth) xs ≡ true → list_all (λ i. few_init_indices i.1) xs ≡ true
  items_few xs h = all_so (is_small_item form depth) (λ i. few_init_indices i.1) (λ i k. (init_parts i.1 (item_parts i k).1).1) xs h

  items_named : (xs : List (Ty × Init)) → list_all (is_small_item form depth) xs ≡ true → small_mentions form (flat_map (λ i. type_mentions i.0 ++ init_mentions i.1) xs) ≡ true
  items_named xs h =
      all_among (is_small_item form depth) (λ x. is_small_name form (mentioned x)) (λ i. type_mentions i.0 ++ init_mentions i.1)
      (λ i k.
      let item = item_parts i k in
      all_joined (λ x. is_small_name form (mentioned x)) (type_mentions i.0) (init_mentions i.1) (small_parts form depth i.0 item.0).1 (init_parts i.1 item.1).2)
      xs h

  init_from : (most : ℕ) (i : Init) → init_depth i ≤ most → few_init_indices i ≡ true → small_mentions form (init_mentions i) ≡ true → is_small_init form most i ≡ true
  init_from most i d f n =
      and_from (nat_le (init_depth i) most && few_init_indices i) (small_mentions form (init_mentions i))
      (and_from (nat_le (init_depth i) most) (few_init_indices i) (le-leb (init_depth i) most d) f) n

  array_small : (xs : List (Ty × Init)) → list_all (is_small_item form depth) xs ≡ true → is_small_init form (suc depth) (initial.Array xs) ≡ true
  array_small xs h =
      let deep = items_shallow xs h in
      let same : init_depth (initial.Array xs) ≡ suc (deepest_item xs) = ap suc (listed_depth xs) in
      init_from (suc depth) (initial.Array xs) (omega (arith, deep, same)) (listed_few xs ∙ items_few xs h) (ap (small_mentions form) (init_mentions-array xs) ∙ items_named xs h)

  struct_small : (packed : Bool) (xs : List (Ty × Init)) → list_all (is_small_item form depth) xs ≡ true → is_small_init form (suc depth) (initial.Struct packed xs) ≡ true
  struct_small packed xs h =
      let deep = items_shallow xs h in
      let same : init_depth (initial.Struct packed xs) ≡ suc (deepest_item xs) = ap suc (listed_depth xs) in
      init_from (suc depth) (initial.Struct packed xs) (omega (arith, deep, same)) (listed_few xs ∙ items_few xs h) (ap (small_mentions form) (init_mentions-struct packed xs) ∙ items_named xs h)

  steps_within : (steps : List AddressStep) → are_shallow_types depth (flat_map (λ s. s.0 ∷ map (λ i. i.0) s.1) steps) ≡ true → steps_depth steps ≤ depth
  steps_within [] h = omega arith
  steps_within (s ∷ inner) h =
      let others = flat_map (λ i. i.0 ∷ map (λ j. j.0) i.1) inner in
      let parts = and_parts (are_shallow_types depth (s.0 ∷ map (λ i. i.0) s.1)) (are_shallow_types depth others)
      (sym (list_all-append (λ t. nat_le (type_depth t) depth) (s.0 ∷ map (λ i. i.0) s.1) others) ∙ h) in
      let first = leb-true (type_depth s.0) depth (and_parts (nat_le (type_depth s.0) depth) _ parts.0).0 in
      let rest = steps_within inner parts.1 in
      omega (arith, first, rest)

  value_depth : (o : Operand) → are_shallow_types depth (operand_types o) ≡ true → init_depth (initial.Value o) ≤ depth
  value_depth (operand.Offset x steps) h = steps_within steps h
  value_depth o h = omega arith

  value_small : (o : Operand) → is_small_operand form depth o ≡ true → is_small_init form depth (initial.Value o) ≡ true
  value_small o h =
      let all = and_parts (small_mentions form (operand_mentions o) && few_constant_indices o) (are_shallow_types depth (operand_types o)) h in
      let first = and_parts (small_mentions form (operand_mentions o)) (few_constant_indices o) all.0 in
      init_from depth (initial.Value o) (value_depth o all.1) first.1 first.0

  flat_read : (type : Ty) (x : Symbol) → Brings (flat_init form depth type x) (λ i. is_small_init form depth i ≡ true)
  flat_read type s.ZeroInitializer = after (λ taken. given (init_from depth initial.Zero (omega arith) refl refl))
  flat_read type s.CText =
      judged (λ t v h. subst (λ i. is_small_init form depth i ≡ true) (same_value (initial.Text (name_in t)) v h) (init_from depth (initial.Text (name_in t)) (omega arith) refl refl))
  flat_read type x = chained (value_read form depth false type) (λ o h. given (value_small o h))

module _ (form : Form) (depth : ℕ) (part : Rule (Ty × Init)) (each : Brings part (λ i. is_small_item form depth i ≡ true)) where
  nested_read : (type : Ty) (y x : Symbol) → Brings (nested_init part (flat_init form (suc depth) type y) x) (λ i. is_small_init form (suc depth) i ≡ true)
  unfolding array_init struct_init packed_init
  nested_read type y s.OpenBracket = after (λ taken. chained (items_bring s.CloseBracket part (is_small_item form depth) each) (λ xs h. given (array_small form depth xs h)))
  nested_read type y s.OpenBrace = after (λ taken. chained (items_bring s.CloseBrace part (is_small_item form depth) each) (λ xs h. given (struct_small form depth false xs h)))
  nested_read type y s.Less =
      after (λ taken. after (λ brace. chained (items_bring s.CloseBrace part (is_small_item form depth) each) (λ xs h. after (λ greater. given (struct_small form depth true xs h)))))
  nested_read type y x = flat_read form (suc depth) type y

typed_read : (form : Form) (depth : ℕ) → ((type : Ty) → Brings (init_to form depth type) (λ i. is_small_init form depth i ≡ true))
    → Brings (typed (type_to form depth) (init_to form depth)) (λ i. is_small_item form depth i ≡ true)
typed_read form depth inner =
    chained (type_read form depth) (λ t h. chained (inner t) (λ i k. given (and_from (is_small_type form depth t) (is_small_init form depth i) h k)))

pub init_read : (form : Form) (depth : ℕ) (type : Ty) → Brings (init_to form depth type) (λ i. is_small_init form depth i ≡ true)
unfolding init_to
init_read form zero type = after (λ x. either (opens x) (stopped (r.Limit limit.Types)) (flat_read form zero type x))
init_read form (suc depth) type =
    after (λ x. nested_read form depth (typed (type_to form depth) (init_to form depth)) (typed_read form depth (init_read form depth)) type x x)
