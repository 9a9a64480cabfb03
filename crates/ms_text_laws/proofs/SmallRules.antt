-- Each operation that is read keeps the limits, and carries no mark in a plain text.
use Rattle.std.proofs.Common.{◌≡◌, ℕ, Bool, true, false, not, ◌&&◌, ◌||◌, List, [], ◌∷◌, ◌++◌, map, length, Option, Some, None, Ok, refl, subst}
use Rattle.std.specs.Prelude.{nat_le, nat_lt, codes}
use Rattle.std.specs.List.{list_all}
use Rattle.std.specs.Str.{bytes_eq}
use Rattle.std.proofs.lemmas.Bool.{and_parts, and_from}
use Rattle.ms_bits.specs.declared.operations.BinOp.{BinOp}
use Rattle.ms_bits.specs.declared.operations.CastOp.{CastOp}
use Rattle.ms_lex.specs.Grammar.{give}
use Rattle.ms_ir.specs.declared.syntax.Name.{Name}
use Rattle.ms_ir.specs.declared.syntax.Ty.{Ty, Int, Ptr}
use Rattle.ms_ir.specs.declared.syntax.Operand.{Operand}
use Rattle.ms_ir.specs.declared.syntax.Operand.TheVariants as operand
use Rattle.ms_ir.specs.declared.syntax.Op.{Op}
use Rattle.ms_ir.specs.declared.syntax.Op.TheVariants as op
use Rattle.ms_ir.specs.declared.forms.Form.{Form}
use Rattle.ms_ir.specs.declared.forms.Form.TheVariants.{Plain, Instrumented}
use Rattle.ms_text_grammar.specs.declared.refusals.Limit.TheVariants as limit
use Rattle.ms_text_grammar.specs.declared.symbols.Symbol.{Symbol}
use Rattle.ms_text_grammar.specs.declared.symbols.Symbol.TheVariants as s
use Rattle.ms_text_grammar.specs.Lexemes.{Lexeme, name_in}
use Rattle.ms_text_grammar.specs.Steps.{Rule}
use Rattle.ms_text_grammar.specs.Names.{global_name}
use Rattle.ms_text_grammar.specs.Types.{int_type_of, value_type_of}
use Rattle.ms_text_grammar.specs.Values.{max_indices, value}
use Rattle.ms_text_grammar.specs.Skipped.{kind_by, attached_rest, attached, suffix_by, suffix, suffixes, suffixes_from}
use Rattle.ms_text_grammar.specs.Insts.{Marked, with_suffixes, binary_rule, compare_rule, cast_rule, select_rule, freeze_rule, address, load_rule, store_rule, index_by, index_turn, gep_rule, alloca_of, alloca_rule, call_type, is_printf, callee_by, callee, names_printf, max_parameters, argument, arguments, call_end, call_rule, edge, edge_by, edge_turn, phi_rule, target, branch_on, branch_rule, case_rest, switch_rule, ret_value, ret_rule}
use Rattle.ms_text_laws.proofs.Sound.{all_pushed, no_value, same_value, if_else, if_within}
use Rattle.ms_text_laws.proofs.Yields.{mapped_more}
use Rattle.ms_text_laws.proofs.Brings.{Brings, given, judged, chained, after, either, looped, listed_brings}
use Rattle.ms_text_laws.proofs.SmallNames.{is_small_name, global_name_small, local_read}
use Rattle.ms_text_laws.proofs.SmallTypes.{is_small_type, int_small, ptr_small, value_type_of_small, value_type_read, is_small_result, result_type_read, type_read}
use Rattle.ms_text_laws.proofs.SmallValues.{is_small_operand, few_pushed, value_read}
use Rattle.ms_text_laws.proofs.SmallOps.{is_small_pair, HasSmallParts}

-- ---- marks

-- the mark that an instruction of this form may have: none in a plain text
abbrev pub may_have : Form → Bool → Bool
may_have Plain marked = not marked
may_have Instrumented marked = true

unmarked : (form : Form) → may_have form false ≡ true
unmarked Plain = refl
unmarked Instrumented = refl

or_marked : (form : Form) (a b : Bool) → may_have form a ≡ true → may_have form b ≡ true → may_have form (a || b) ≡ true
or_marked Plain true b h k = h
or_marked Plain false b h k = k
or_marked Instrumented a b h k = refl

module _ (form : Form) where
  abbrev BringsMark : Rule Bool → Type 0
  BringsMark rule = Brings rule (λ marked. may_have form marked ≡ true)

  mark_allowed_here : (g : Form) (t : Lexeme) (v : Bool) → kind_by g s.NoSanitize t ≡ Ok v → may_have g v ≡ true
  mark_allowed_here Plain t v h = no_value _ v h
  mark_allowed_here Instrumented t v h = refl

  kind_read : (x : Symbol) (t : Lexeme) (v : Bool) → kind_by form x t ≡ Ok v → may_have form v ≡ true
  kind_read s.Meta t v h = subst (λ b. may_have form b ≡ true) (same_value false v h) (unmarked form)
  kind_read s.NoSanitize t v h = mark_allowed_here form t v h
  kind_read x t v h = no_value _ v h

  attached_rest_read : (marked marks : Bool) (x : Symbol) → may_have form marked ≡ true → may_have form marks ≡ true → BringsMark (attached_rest form marked marks x)
  attached_rest_read marked marks s.Bang h k = after (λ taken. after (λ brace. after (λ over. given h)))
  attached_rest_read marked marks x h k = after (λ kind. after (λ over. given (or_marked form marked marks h k)))

  attached_read : (marked : Bool) → may_have form marked ≡ true → BringsMark (attached form marked)
  unfolding attached
  attached_read marked h = chained {P = λ b. may_have form b ≡ true} (judged (λ t v e. kind_read t.symbol t v e)) (λ marks k. after (λ x. attached_rest_read marked marks x h k))

  suffix_by_read : (marked : Bool) (x : Symbol) → may_have form marked ≡ true → BringsMark (suffix_by form marked x)
  suffix_by_read marked s.Align h = after (λ taken. after (λ number. given h))
  suffix_by_read marked x h = attached_read marked h

  suffix_read : (marked : Bool) → may_have form marked ≡ true → BringsMark (suffix form marked)
  unfolding suffix
  suffix_read marked h = after (λ x. suffix_by_read marked x h)

  suffixes_read : (marked : Bool) → may_have form marked ≡ true → BringsMark (suffixes form marked)
  unfolding suffixes
  suffixes_read marked h = looped h (λ b comma k e. suffix_read b k)

  all_suffixes_read : (begun : Bool) → BringsMark (suffixes_from form begun)
  unfolding suffixes_from
  all_suffixes_read begun =
      chained {P = λ b. may_have form b ≡ true} (either begun (suffix_read false (unmarked form)) (given (unmarked form))) (λ marked h. suffixes_read marked h)

  -- an operation that keeps the limits, with its mark
  abbrev pub IsSmallMarked : Marked → Type 0
  IsSmallMarked m = HasSmallParts form m.0 × (may_have form m.1 ≡ true)

  pub suffixed : (rule : Rule Op) → Brings rule (HasSmallParts form) → Brings (with_suffixes form rule) IsSmallMarked
  unfolding with_suffixes
  suffixed rule each = chained each (λ o h. chained (all_suffixes_read false) (λ marked k. given (h, k)))

  -- ---- operands

  abbrev AllPairs : List (Ty × Operand) → Type 0
  AllPairs os = list_all (is_small_pair form) os ≡ true

  abbrev IsType : Ty → Type 0
  IsType t = is_small_type form 32 t ≡ true

  abbrev IsOperand : Operand → Type 0
  IsOperand o = is_small_operand form 32 o ≡ true

  operand_read : (type : Ty) → Brings (value form type) IsOperand
  operand_read type = value_read form 32 true type

  pair_more : (t : Ty) (a : Operand) (rest : List (Ty × Operand)) → IsType t → IsOperand a → AllPairs rest → AllPairs ((t, a) ∷ rest)
  pair_more t a rest h k all =
      and_from (is_small_pair form (t, a)) (list_all (is_small_pair form) rest) (and_from (is_small_type form 32 t) (is_small_operand form 32 a) h k) all

  one_pair : (t : Ty) (a : Operand) → IsType t → IsOperand a → AllPairs ((t, a) ∷ [])
  one_pair t a h k = pair_more t a [] h k refl

  two_pairs : (t u : Ty) (a b : Operand) → IsType t → IsType u → IsOperand a → IsOperand b → AllPairs ((t, a) ∷ (u, b) ∷ [])
  two_pairs t u a b h i k l = pair_more t a ((u, b) ∷ []) h k (one_pair u b i l)

  one_type : (t : Ty) → IsType t → list_all (is_small_type form 32) (t ∷ []) ≡ true
  one_type t h = and_from (is_small_type form 32 t) true h refl

  pair_pushed : (found : List (Ty × Operand)) (t : Ty) (a : Operand) → AllPairs found → IsType t → IsOperand a → AllPairs (found ++ (t, a) ∷ [])
  pair_pushed found t a all h k = all_pushed (is_small_pair form) found (t, a) all (and_from (is_small_type form 32 t) (is_small_operand form 32 a) h k)

  int_is : (width : ℕ) → IsType (Int width)
  int_is width = int_small form 32 width

  -- ---- arithmetic and choices

  pub binary_read : (o : BinOp) → Brings (binary_rule form o) (HasSmallParts form)
  unfolding binary_rule
  binary_read o =
      after (λ flags. after (λ width. chained (operand_read (Int width)) (λ a p. after (λ comma. chained (operand_read (Int width)) (λ b q.
      given (record { own = refl; parts = two_pairs (Int width) (Int width) a b (int_is width) (int_is width) p q; names = refl; counts = refl }))))))

  pub compare_read : Brings (compare_rule form) (HasSmallParts form)
  unfolding compare_rule
  compare_read =
      after (λ flags. after (λ predicate. chained (value_type_read form 32) (λ t w. chained (operand_read t) (λ a p. after (λ comma. chained (operand_read t) (λ b q.
      given (record { own = refl; parts = two_pairs t t a b w w p q; names = refl; counts = refl })))))))

  pub cast_read : (o : CastOp) → Brings (cast_rule form o) (HasSmallParts form)
  unfolding cast_rule
  cast_read o =
      after (λ flags. chained (value_type_read form 32) (λ t w. chained (operand_read t) (λ a p. after (λ word. chained (value_type_read form 32) (λ u v.
      given (record { own = one_type u v; parts = one_pair t a w p; names = refl; counts = refl }))))))

  pub select_read : Brings (select_rule form) (HasSmallParts form)
  unfolding select_rule
  select_read =
      after (λ bit. chained (operand_read (Int 1)) (λ c r. after (λ comma. chained (value_type_read form 32) (λ t w. chained (operand_read t) (λ a p.
      after (λ again. after (λ same. chained (operand_read t) (λ b q.
      given (record { own = refl; parts = pair_more (Int 1) c ((t, a) ∷ (t, b) ∷ []) (int_is 1) r (two_pairs t t a b w w p q); names = refl; counts = refl })))))))))

  pub freeze_read : Brings (freeze_rule form) (HasSmallParts form)
  unfolding freeze_rule
  freeze_read = chained (value_type_read form 32) (λ t w. chained (operand_read t) (λ a p. given (record { own = refl; parts = one_pair t a w p; names = refl; counts = refl })))

  -- ---- memory

  address_read : Brings (address form) IsOperand
  unfolding address
  address_read = after (λ comma. after (λ word. operand_read Ptr))

  pub load_read : Brings (load_rule form) (HasSmallParts form)
  unfolding load_rule
  load_read = chained (value_type_read form 32) (λ t w. chained address_read (λ a p. given (record { own = one_type t w; parts = one_pair Ptr a (ptr_small form 32) p; names = refl; counts = refl })))

  pub store_read : Brings (store_rule form) (HasSmallParts form)
  unfolding store_rule
  store_read =
      chained (value_type_read form 32) (λ t w. chained (operand_read t) (λ v p. chained address_read (λ a q.
      given (record { own = refl; parts = two_pairs t Ptr v a w (ptr_small form 32) p q; names = refl; counts = refl }))))

  -- at most 64 indices
  abbrev FewIndices : List (Ty × Operand) → Type 0
  FewIndices found = AllPairs found × (nat_le (length found) 64 ≡ true)

  index_by_read : (found : List (Ty × Operand)) (x : Symbol) → FewIndices found → Brings (index_by form found x) (λ i. FewIndices i.found)
  index_by_read found s.IntType h =
      chained {P = λ width. nat_lt (length found) 64 ≡ true} (judged (λ t w e. (if_within (nat_lt (length found) max_indices) limit.Indices (int_type_of t) w e).0))
      (λ width room. chained (operand_read (Int width)) (λ a p. given (pair_pushed found (Int width) a h.0 (int_is width) p, few_pushed 64 found (Int width, a) room)))
  index_by_read found x h = given h

  index_read : (found : List (Ty × Operand)) → FewIndices found → Brings (index_turn form found) (λ i. FewIndices i.found)
  unfolding index_turn
  index_read found h = after (λ x. index_by_read found x h)

  pub gep_read : Brings (gep_rule form) IsSmallMarked
  unfolding gep_rule
  gep_read =
      after (λ words. chained (type_read form 32) (λ t w. chained address_read (λ base p.
      chained {P = λ i. FewIndices i.found} (looped (refl, refl) (λ indices comma h e. index_read indices.found h)) (λ indices h. chained (all_suffixes_read indices.ended) (λ marked k.
      given (record { own = one_type t w; parts = pair_more Ptr base indices.found (ptr_small form 32) p h.0; names = refl; counts = h.1 }, k))))))

  alloca_is : (t : Ty) (found : List (Ty × Operand)) → IsType t → AllPairs found → HasSmallParts form (alloca_of t found)
  alloca_is t [] w h = record { own = one_type t w; parts = one_pair (Int 32) (operand.Int 1) (int_is 32) refl; names = refl; counts = refl }
  alloca_is t (count ∷ rest) w h =
      let first = and_parts (is_small_pair form count) (list_all (is_small_pair form) rest) h in
      record { own = one_type t w; parts = and_from (is_small_pair form count) true first.0 refl; names = refl; counts = refl }

  pub alloca_read : Brings (alloca_rule form) IsSmallMarked
  unfolding alloca_rule
  alloca_read =
      chained (type_read form 32) (λ t w. chained {P = λ i. FewIndices i.found} (looped (refl, refl) (λ indices comma h e. index_read indices.found h))
      (λ count h. chained (all_suffixes_read count.ended) (λ marked k. given (alloca_is t count.found w h.0, k))))

  -- ---- calls

  callee_by_read : (dotted : Bool) (x : Symbol) (t : Lexeme) (n : Name) → callee_by form dotted x t ≡ Ok n → is_small_name form n ≡ true
  callee_by_read dotted s.Global t n h =
      let other = if_else (bytes_eq (name_in t) (codes "main")) _ _ n h in
      let written = if_else (dotted && not (is_printf (name_in t))) _ (global_name form (name_in t)) n other.1 in
      global_name_small form (name_in t) n written.1
  callee_by_read dotted x t n h = no_value _ n h

  callee_read : (dotted : Bool) → Brings (callee form dotted) (λ n. is_small_name form n ≡ true)
  unfolding callee
  callee_read dotted = judged (λ t n h. callee_by_read dotted t.symbol t n h)

  -- at most 100 arguments, where they are counted
  abbrev AreArguments : Bool → List (Ty × Operand) → Type 0
  AreArguments counted found = AllPairs found × ((not counted || nat_le (length found) 100) ≡ true)

  counted_pushed : (counted : Bool) (found : List (Ty × Operand)) (x : Ty × Operand) → (not counted || nat_lt (length found) 100) ≡ true → (not counted || nat_le (length (found ++ x ∷ [])) 100) ≡ true
  counted_pushed true found x h = few_pushed 100 found x h
  counted_pushed false found x h = refl

  argument_read : (counted : Bool) (found : List (Ty × Operand)) → AreArguments counted found → Brings (argument form counted found) (AreArguments counted)
  unfolding argument
  argument_read counted found h =
      chained {P = λ t. IsType t × ((not counted || nat_lt (length found) 100) ≡ true)}
      (judged (λ t v e. let good = if_within (not counted || nat_lt (length found) max_parameters) limit.Parameters (value_type_of t) v e in (value_type_of_small form 32 t v good.1, good.0)))
      (λ t w. after (λ over. chained (operand_read t) (λ a p. given (pair_pushed found t a h.0 w.0 p, counted_pushed counted found (t, a) w.1))))

  none_counted : (counted : Bool) → AreArguments counted []
  none_counted true = (refl, refl)
  none_counted false = (refl, refl)

  arguments_read : (counted : Bool) → Brings (arguments form counted) (AreArguments counted)
  unfolding arguments
  arguments_read counted = listed_brings (AreArguments counted) s.CloseParen _ (argument form counted) [] (none_counted counted) (λ found h. argument_read counted found h)

  call_type_read : (named : Bool) → Brings (call_type named) (λ t. is_small_result form t ≡ true)
  call_type_read true = chained (value_type_read form 32) (λ t h. given h)
  call_type_read false = result_type_read form

  call_end_read : BringsMark (call_end form)
  unfolding call_end
  call_end_read = after (λ ended. either ended (given (unmarked form)) (after (λ bundle. all_suffixes_read false)))

  call_is : (ret : Option Ty) (x : Name) (args : List (Ty × Operand)) → is_small_result form ret ≡ true → is_small_name form x ≡ true → AreArguments (names_printf x) args → HasSmallParts form (op.Call ret x args)
  call_is None x args w g h = record { own = refl; parts = h.0; names = refl; counts = and_from (is_small_name form x) (not (names_printf x) || nat_le (length args) 100) g h.1 }
  call_is (Some t) x args w g h = record { own = one_type t w; parts = h.0; names = refl; counts = and_from (is_small_name form x) (not (names_printf x) || nat_le (length args) 100) g h.1 }

  pub call_read : (named : Bool) (first : Symbol) → Brings (call_rule form named first) IsSmallMarked
  unfolding call_rule
  call_read named first =
      after (λ word. after (λ over. chained (call_type_read named) (λ ret w. after (λ dotted. chained (callee_read dotted) (λ x g.
      after (λ paren. chained (arguments_read (names_printf x)) (λ args h. chained call_end_read (λ marked k. given (call_is ret x args w g h, k)))))))))

  -- ---- phis

  abbrev AreEdges : Ty → List (Operand × Name) → Type 0
  AreEdges t found = AllPairs (map (λ e. (t, e.0)) found) × (list_all (is_small_name form) (map (λ e. e.1) found) ≡ true)

  edge_read : (t : Ty) → Brings (edge form t) (λ e. IsOperand e.0 × (is_small_name form e.1 ≡ true))
  unfolding edge
  edge_read t = chained (operand_read t) (λ v p. after (λ comma. chained (local_read form) (λ from q. after (λ bracket. given (p, q)))))

  edge_more : (t : Ty) (found : List (Operand × Name)) (e : Operand × Name) → IsType t → AreEdges t found → IsOperand e.0 → is_small_name form e.1 ≡ true → AreEdges t (found ++ e ∷ [])
  edge_more t found e w h p q = (
    mapped_more (is_small_pair form) (λ x. (t, x.0)) found e h.0 (and_from (is_small_type form 32 t) (is_small_operand form 32 e.0) w p),
    mapped_more (is_small_name form) (λ x. x.1) found e h.1 q,
  )

  edge_by_read : (t : Ty) (found : List (Operand × Name)) (x : Symbol) → IsType t → AreEdges t found → Brings (edge_by form t found x) (λ edges. AreEdges t edges.found)
  edge_by_read t found s.OpenBracket w h = after (λ bracket. chained (edge_read t) (λ e p. given (edge_more t found e w h p.0 p.1)))
  edge_by_read t found x w h = given h

  edge_turn_read : (t : Ty) (found : List (Operand × Name)) → IsType t → AreEdges t found → Brings (edge_turn form t found) (λ edges. AreEdges t edges.found)
  unfolding edge_turn
  edge_turn_read t found w h = after (λ x. edge_by_read t found x w h)

  pub phi_read : Brings (phi_rule form) IsSmallMarked
  unfolding phi_rule
  phi_read =
      chained (value_type_read form 32) (λ t w. after (λ bracket. chained (edge_read t) (λ first p.
      chained {P = λ edges. AreEdges t edges.found} (looped (edge_more t [] first w (refl, refl) p.0 p.1) (λ edges comma h e. edge_turn_read t edges.found w h)) (λ edges h.
      chained (all_suffixes_read edges.ended) (λ marked k. given (record { own = one_type t w; parts = h.0; names = h.1; counts = refl }, k))))))

  -- ---- terminators

  target_read : Brings (target form) (λ n. is_small_name form n ≡ true)
  unfolding target
  target_read = after (λ word. local_read form)

  one_name : (n : Name) → is_small_name form n ≡ true → list_all (is_small_name form) (n ∷ []) ≡ true
  one_name n h = and_from (is_small_name form n) true h refl

  branch_on_read : Brings (branch_on form) (HasSmallParts form)
  unfolding branch_on
  branch_on_read =
      after (λ bit. chained (operand_read (Int 1)) (λ c r. after (λ comma. chained target_read (λ to p. after (λ again. chained target_read (λ other q.
      given (record { own = refl; parts = one_pair (Int 1) c (int_is 1) r; names = and_from (is_small_name form to) (is_small_name form other && true) p (one_name other q); counts = refl })))))))

  pub branch_read : Brings (branch_rule form) (HasSmallParts form)
  unfolding branch_rule
  branch_read = after (λ plain. either plain (chained target_read (λ to p. given (record { own = refl; parts = refl; names = one_name to p; counts = refl }))) branch_on_read)

  abbrev AreCases : List (ℕ × Name) → Type 0
  AreCases found = list_all (is_small_name form) (map (λ c. c.1) found) ≡ true

  case_read : (width : ℕ) (found : List (ℕ × Name)) → AreCases found → Brings (case_rest form width found) AreCases
  unfolding case_rest
  case_read width found h = after (λ n. after (λ comma. chained target_read (λ to q. given (mapped_more (is_small_name form) (λ c. c.1) found (n, to) h q))))

  pub switch_read : Brings (switch_rule form) (HasSmallParts form)
  unfolding switch_rule
  switch_read =
      after (λ width. chained (operand_read (Int width)) (λ v p. after (λ comma. chained target_read (λ other q. after (λ bracket.
      chained {P = AreCases} (looped refl (λ found t h e. case_read width found h)) (λ cases h. after (λ end.
      given (record { own = refl; parts = one_pair (Int width) v (int_is width) p; names = and_from (is_small_name form other) _ q h; counts = refl }))))))))

  ret_value_read : (t : Option Ty) → is_small_result form t ≡ true → Brings (ret_value form t) (HasSmallParts form)
  ret_value_read None w = given (record { own = refl; parts = refl; names = refl; counts = refl })
  ret_value_read (Some t) w = chained (operand_read t) (λ v p. given (record { own = refl; parts = one_pair t v w p; names = refl; counts = refl }))

  pub ret_read : Brings (ret_rule form) (HasSmallParts form)
  unfolding ret_rule
  ret_read = chained (result_type_read form) (λ t w. ret_value_read t w)

  pub unreachable_read : Brings (give op.Unreachable) (HasSmallParts form)
  unreachable_read = given (record { own = refl; parts = refl; names = refl; counts = refl })
