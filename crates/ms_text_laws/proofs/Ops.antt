-- Each instruction is read as what it was written of: after its first word, with its mark.
use Rattle.std.proofs.Common.{◌≡◌, ℕ, suc, ◌≤◌, ◌<◌, Bool, true, false, not, ◌&&◌, ◌||◌, List, [], ◌∷◌, ◌++◌, map, length, flat_map, Option, Some, None, refl, sym, ap, ◌∙◌, subst, append-nil, leb-true}
use Rattle.std.specs.Prelude.{codes, nat_lt, nat_le, is_some}
use Rattle.std.specs.List.{list_all}
use Rattle.std.proofs.lemmas.Bool.{and_parts}
use Rattle.ms_bits.specs.declared.operations.BinOp.{BinOp}
use Rattle.ms_bits.specs.declared.operations.BinOp.TheVariants as binary
use Rattle.ms_bits.specs.declared.operations.CastOp.{CastOp}
use Rattle.ms_bits.specs.declared.operations.CastOp.TheVariants as cast
use Rattle.ms_ir.specs.declared.syntax.Name.{Name}
use Rattle.ms_ir.specs.declared.syntax.Ty.{Ty, Int, Ptr, Array', Struct', Named}
use Rattle.ms_ir.specs.declared.syntax.Operand.{Operand}
use Rattle.ms_ir.specs.declared.syntax.Op.{Op}
use Rattle.ms_ir.specs.declared.syntax.Op.TheVariants as op
use Rattle.ms_ir.specs.Names.{name_eq, main_name}
use Rattle.ms_ir.specs.Instructions.{operands}
use Rattle.ms_bits.specs.NoFlags.{no_flags}
use Rattle.ms_ir.specs.declared.forms.Form.TheVariants.{Instrumented}
use Rattle.ms_text_grammar.specs.declared.states.BodySoFar.{BodySoFar}
use Rattle.ms_text_grammar.specs.declared.symbols.Symbol.{Symbol}
use Rattle.ms_text_grammar.specs.declared.symbols.Symbol.TheVariants as s
use Rattle.ms_text_grammar.specs.Lexemes.{Lexeme, symbol_of, word_symbol}
use Rattle.ms_text_grammar.specs.Steps.{Rule, binary_op, cast_op}
use Rattle.ms_text_grammar.specs.Insts.{names_printf, with_suffixes}
use Rattle.ms_text_grammar.specs.Bodies.{is_open, with_value, with_effect, with_end, with_call}
use Rattle.ms_text_grammar.specs.Lines.{value_line, marked_line, effect_line, end_line}
use Rattle.ms_check_valid.specs.FormedNames.{is_local_name, is_global_name}
use Rattle.ms_check_valid.specs.FormedCode.{is_width, is_int_type, is_value_type, type_formed, result_formed, number_formed, operand_formed, are_among, binary_flags, cast_flags, shape_formed, op_formed, name_formed}
use Rattle.ms_check_valid.specs.ReadLimits.{type_depth}
use Rattle.ms_ir.specs.Written.{Mention, OfLocal, type_mentions, operand_mentions, operands_mentions, labels, mentions, own_types, operand_types, op_types, result_type}
use Rattle.ms_text_grammar.specs.LayoutPieces.{word as word_token, sign, comma, with_commas, enclosed}
use Rattle.ms_text_grammar.specs.LayoutNames.{global_token}
use Rattle.ms_text_grammar.specs.LayoutTypes.{type_tokens, result_tokens}
use Rattle.ms_text_grammar.specs.LayoutValues.{value_tokens, typed_tokens, pair_tokens}
use Rattle.ms_text_grammar.specs.LayoutInsts.{binary_word, cast_word, predicate_text, flag_tokens, address_tokens, target_tokens, bit_tokens, edge_tokens, case_tokens, count_tokens, callee_type_tokens, returned_tokens, op_tokens, mark_tokens}
use Rattle.ms_text_laws.proofs.Limited.{Limits, binary_rule, cast_rule, call_rule, phi_line, call_line, instruction}
use Rattle.ms_text_laws.proofs.Takes.{Takes, given, chain}
use Rattle.ms_text_laws.proofs.Spelled.{is_below}
use Rattle.ms_text_laws.proofs.Types.{few_names, few_parts, TypeFits}
use Rattle.ms_text_laws.proofs.Values.{few_offsets}
use Rattle.ms_text_laws.proofs.Flags.{binary_symbol, cast_symbol, binary_word_symbol, cast_word_symbol, IsFresh, marked_taken}
use Rattle.ms_text_laws.proofs.Insts.{are_within, within_parts, OperandsFit, first_operand, second_operand, rest_operands, Local, CasesFit, binary_taken, compare_taken, cast_taken, select_taken, freeze_taken, load_taken, store_taken, jump_taken, branch_taken, switch_taken, ret_value_taken, ret_void_taken}
use Rattle.ms_text_laws.proofs.Marked.{EdgesFit, step_taken, alloca_taken, phi_taken, call_taken}

-- ---- the first word, and what is after it

abbrev pub op_head : Op → Lexeme
op_head (op.Binary o flags t a b) = word_token (binary_word o)
op_head (op.Icmp p flags t a b) = word_token (codes "icmp")
op_head (op.Cast o flags from a to) = word_token (cast_word o)
op_head (op.Select c t a b) = word_token (codes "select")
op_head (op.Freeze t a) = word_token (codes "freeze")
op_head (op.Phi t edges) = word_token (codes "phi")
op_head (op.Alloca t u count) = word_token (codes "alloca")
op_head (op.Load t a) = word_token (codes "load")
op_head (op.Store t v a) = word_token (codes "store")
op_head (op.Gep t base indices) = word_token (codes "getelementptr")
op_head (op.Call ret callee args) = word_token (codes "call")
op_head (op.Br to) = word_token (codes "br")
op_head (op.CondBr c to other) = word_token (codes "br")
op_head (op.Switch t v other cases) = word_token (codes "switch")
op_head (op.Ret value) = word_token (codes "ret")
op_head op.Unreachable = word_token (codes "unreachable")

abbrev pub op_symbol : Op → Symbol
op_symbol (op.Binary o flags t a b) = binary_symbol o
op_symbol (op.Icmp p flags t a b) = s.Icmp
op_symbol (op.Cast o flags from a to) = cast_symbol o
op_symbol (op.Select c t a b) = s.Select
op_symbol (op.Freeze t a) = s.Freeze
op_symbol (op.Phi t edges) = s.Phi
op_symbol (op.Alloca t u count) = s.Alloca
op_symbol (op.Load t a) = s.Load
op_symbol (op.Store t v a) = s.Store
op_symbol (op.Gep t base indices) = s.GetElementPtr
op_symbol (op.Call ret callee args) = s.Call
op_symbol (op.Br to) = s.Br
op_symbol (op.CondBr c to other) = s.Br
op_symbol (op.Switch t v other cases) = s.Switch
op_symbol (op.Ret value) = s.Ret
op_symbol op.Unreachable = s.Unreachable

pub head_symbol : (o : Op) → (op_head o).symbol ≡ op_symbol o
unfolding symbol_of word_symbol
head_symbol (op.Binary o flags t a b) = binary_word_symbol o
head_symbol (op.Icmp p flags t a b) = refl
head_symbol (op.Cast o flags from a to) = cast_word_symbol o
head_symbol (op.Select c t a b) = refl
head_symbol (op.Freeze t a) = refl
head_symbol (op.Phi t edges) = refl
head_symbol (op.Alloca t u count) = refl
head_symbol (op.Load t a) = refl
head_symbol (op.Store t v a) = refl
head_symbol (op.Gep t base indices) = refl
head_symbol (op.Call ret callee args) = refl
head_symbol (op.Br to) = refl
head_symbol (op.CondBr c to other) = refl
head_symbol (op.Switch t v other cases) = refl
head_symbol (op.Ret value) = refl
head_symbol op.Unreachable = refl

abbrev pub op_tail : Bool → Op → List Lexeme
op_tail dotted (op.Binary o flags t a b) = flag_tokens flags ++ (typed_tokens t a ++ comma ∷ value_tokens t b)
op_tail dotted (op.Icmp p flags t a b) = flag_tokens flags ++ word_token (predicate_text p) ∷ (typed_tokens t a ++ comma ∷ value_tokens t b)
op_tail dotted (op.Cast o flags from a to) = flag_tokens flags ++ (typed_tokens from a ++ word_token (codes "to") ∷ type_tokens to)
op_tail dotted (op.Select c t a b) = with_commas (bit_tokens c ∷ typed_tokens t a ∷ typed_tokens t b ∷ [])
op_tail dotted (op.Freeze t a) = typed_tokens t a
op_tail dotted (op.Phi t edges) = type_tokens t ++ with_commas (map (edge_tokens t) edges)
op_tail dotted (op.Alloca t u count) = with_commas (type_tokens t ∷ count_tokens u count)
op_tail dotted (op.Load t a) = with_commas (type_tokens t ∷ address_tokens a ∷ [])
op_tail dotted (op.Store t v a) = with_commas (typed_tokens t v ∷ address_tokens a ∷ [])
op_tail dotted (op.Gep t base indices) = with_commas (type_tokens t ∷ address_tokens base ∷ map pair_tokens indices)
op_tail dotted (op.Call ret callee args) = result_tokens ret ++ (callee_type_tokens dotted ret callee ++ global_token callee ∷ enclosed (codes "(") (codes ")") (map pair_tokens args))
op_tail dotted (op.Br to) = target_tokens to
op_tail dotted (op.CondBr c to other) = with_commas (bit_tokens c ∷ target_tokens to ∷ target_tokens other ∷ [])
op_tail dotted (op.Switch t v other cases) = with_commas (typed_tokens t v ∷ target_tokens other ∷ []) ++ sign (codes "[") ∷ (flat_map (case_tokens t) cases ++ sign (codes "]") ∷ [])
op_tail dotted (op.Ret value) = returned_tokens value
op_tail dotted op.Unreachable = []

pub op_split : (dotted : Bool) (o : Op) → op_tokens dotted o ≡ op_head o ∷ op_tail dotted o
unfolding op_tokens
op_split dotted (op.Binary o flags t a b) = refl
op_split dotted (op.Icmp p flags t a b) = refl
op_split dotted (op.Cast o flags from a to) = refl
op_split dotted (op.Select c t a b) = refl
op_split dotted (op.Freeze t a) = refl
op_split dotted (op.Phi t edges) = refl
op_split dotted (op.Alloca t u count) = refl
op_split dotted (op.Load t a) = refl
op_split dotted (op.Store t v a) = refl
op_split dotted (op.Gep t base indices) = refl
op_split dotted (op.Call ret callee args) = refl
op_split dotted (op.Br to) = refl
op_split dotted (op.CondBr c to other) = refl
op_split dotted (op.Switch t v other cases) = refl
op_split dotted (op.Ret value) = refl
op_split dotted op.Unreachable = refl

-- ---- what an instruction adds to a body

abbrev pub next_body : BodySoFar → Option Name → Op → Bool → BodySoFar
next_body b result (op.Phi t edges) marked = with_value b result true (op.Phi t edges, marked)
next_body b result (op.Store t v a) marked = with_effect b (op.Store t v a, marked)
next_body b result (op.Call ret callee args) marked = with_call b result (op.Call ret callee args, marked)
next_body b result (op.Br to) marked = with_end b (op.Br to, marked)
next_body b result (op.CondBr c to other) marked = with_end b (op.CondBr c to other, marked)
next_body b result (op.Switch t v other cases) marked = with_end b (op.Switch t v other cases, marked)
next_body b result (op.Ret value) marked = with_end b (op.Ret value, marked)
next_body b result op.Unreachable marked = with_end b (op.Unreachable, marked)
next_body b result o marked = with_value b result false (o, marked)

-- ---- operations within the limits

-- so many indices at most, in the constants too
abbrev pub few_indices_of : ℕ → Op → Bool
few_indices_of most (op.Gep t base indices) = nat_le (length indices) most && list_all (λ a. few_offsets most a.1) (operands (op.Gep t base indices))
few_indices_of most o = list_all (λ a. few_offsets most a.1) (operands o)

-- so many arguments of `printf` at most
abbrev pub few_printed : ℕ → Op → Bool
few_printed most (op.Call ret callee args) = not (names_printf callee) || nat_le (length args) most
few_printed most o = true

pub record OpFits (limits : Limits) (o : Op) : Type 0 where
  pub formed : op_formed o ≡ true
  pub shallow : are_within (suc limits.depth) (op_types o) ≡ true
  pub named : few_names limits.names (mentions o) ≡ true
  pub indices : few_indices_of limits.indices o ≡ true
  pub printed : few_printed limits.parameters o ≡ true

module _ (limits : Limits) (o : Op) (h : OpFits limits o) where
  first_two : (shape_formed o && list_all (λ a. operand_formed a.0 a.1) (operands o)) ≡ true
  first_two = (and_parts _ (list_all is_local_name (labels o)) h.formed).0

  pub shape : shape_formed o ≡ true
  shape = (and_parts (shape_formed o) _ first_two).0

  pub labelled : list_all is_local_name (labels o) ≡ true
  labelled = (and_parts _ (list_all is_local_name (labels o)) h.formed).1

  pub operands_fit : few_names limits.names (operands_mentions (operands o)) ≡ true → list_all (λ a. few_offsets limits.indices a.1) (operands o) ≡ true → OperandsFit limits (operands o)
  operands_fit named indices = record {
    formed = (and_parts (shape_formed o) _ first_two).1;
    shallow = (within_parts (suc limits.depth) (own_types o) (flat_map (λ a. a.0 ∷ operand_types a.1) (operands o)) h.shallow).1;
    named = named;
    indices = indices;
  }

-- names of blocks
abbrev LocalsFit : Limits → List Name → Type 0
LocalsFit limits xs = (list_all is_local_name xs ≡ true) × (few_names limits.names (map OfLocal xs) ≡ true)

first_local : (limits : Limits) (x : Name) (xs : List Name) → LocalsFit limits (x ∷ xs) → Local limits x
first_local limits x xs h = ((and_parts (is_local_name x) (list_all is_local_name xs) h.0).0, (and_parts (is_below limits.names x) (few_names limits.names (map OfLocal xs)) h.1).0)

rest_locals : (limits : Limits) (x : Name) (xs : List Name) → LocalsFit limits (x ∷ xs) → LocalsFit limits xs
rest_locals limits x xs h = ((and_parts (is_local_name x) (list_all is_local_name xs) h.0).1, (and_parts (is_below limits.names x) (few_names limits.names (map OfLocal xs)) h.1).1)

cases_fit : (limits : Limits) (w : ℕ) (cases : List (ℕ × Name)) → list_all (λ c. number_formed (Int w) c.0) cases ≡ true → LocalsFit limits (map (λ c. c.1) cases) → CasesFit limits w cases
cases_fit limits w [] h p = tt
cases_fit limits w (c ∷ cases) h p =
    let parts = and_parts (number_formed (Int w) c.0) (list_all (λ c. number_formed (Int w) c.0) cases) h in
    (((and_parts (is_width w) _ parts.0).1, first_local limits c.1 (map (λ c. c.1) cases) p), cases_fit limits w cases parts.1 (rest_locals limits c.1 (map (λ c. c.1) cases) p))

-- the edges of a phi
abbrev edge_mentions : Operand × Name → List Mention
edge_mentions e = operand_mentions e.0 ++ OfLocal e.1 ∷ []

edges_fit : (limits : Limits) (t : Ty) (edges : List (Operand × Name)) → list_all (λ (a : Ty × Operand). operand_formed a.0 a.1) (map (λ e. (t, e.0)) edges) ≡ true
    → are_within (suc limits.depth) (flat_map (λ (a : Ty × Operand). a.0 ∷ operand_types a.1) (map (λ e. (t, e.0)) edges)) ≡ true → few_names limits.names (flat_map edge_mentions edges) ≡ true
    → list_all (λ (a : Ty × Operand). few_offsets limits.indices a.1) (map (λ e. (t, e.0)) edges) ≡ true → list_all is_local_name (map (λ e. e.1) edges) ≡ true → EdgesFit limits t edges
edges_fit limits t [] f w n i l = tt
edges_fit limits t (e ∷ edges) f w n i l =
    let names = few_parts limits.names (edge_mentions e) (flat_map edge_mentions edges) n in
    let both_names = few_parts limits.names (operand_mentions e.0) (OfLocal e.1 ∷ []) names.0 in
    let formed = and_parts (operand_formed t e.0) _ f in
    let types = within_parts (suc limits.depth) (t ∷ operand_types e.0) (flat_map (λ a. a.0 ∷ operand_types a.1) (map (λ e. (t, e.0)) edges)) w in
    let offsets = and_parts (few_offsets limits.indices e.0) _ i in
    let locals = and_parts (is_local_name e.1) _ l in
    let alone : OperandsFit limits ((t, e.0) ∷ []) = record {
      formed = rw formed.0 refl;
      shallow = ap (are_within (suc limits.depth)) (append-nil (t ∷ operand_types e.0)) ∙ types.0;
      named = ap (few_names limits.names) (append-nil (operand_mentions e.0)) ∙ both_names.0;
      indices = rw offsets.0 refl;
    } in
    ((first_operand limits (t, e.0) [] alone, (locals.0, (and_parts (is_below limits.names e.1) true both_names.1).0)), edges_fit limits t edges formed.1 types.1 names.1 offsets.1 locals.1)

-- ---- lines

module _ (limits : Limits) (b : BodySoFar) (result : Option Name) (marked : Bool) (rest : List Lexeme) (fresh : IsFresh rest) where
  abbrev after : List Lexeme
  after = mark_tokens marked ++ rest

  valued_line : {rule : Rule Op} {ts : List Lexeme} {o : Op} → Takes rule ts o after → Takes (value_line Instrumented b result rule) ts (with_value b result false (o, marked)) rest
  unfolding value_line with_suffixes
  valued_line p = chain (chain p (chain (marked_taken marked rest fresh) given)) given

  effect_taken : {rule : Rule Op} {ts : List Lexeme} {o : Op} → Takes rule ts o after → Takes (effect_line Instrumented b rule) ts (with_effect b (o, marked)) rest
  unfolding effect_line with_suffixes
  effect_taken p = chain (chain p (chain (marked_taken marked rest fresh) given)) given

  end_taken : {rule : Rule Op} {ts : List Lexeme} {o : Op} → Takes rule ts o after → Takes (end_line Instrumented b rule) ts (with_end b (o, marked)) rest
  unfolding end_line with_suffixes
  end_taken p = chain (chain p (chain (marked_taken marked rest fresh) given)) given

  binary_line : (o : BinOp) {ts : List Lexeme} {c : BodySoFar} → Takes (value_line Instrumented b result (binary_rule limits o)) ts c rest → Takes (instruction limits b result (binary_symbol o)) ts c rest
  unfolding instruction binary_op
  binary_line binary.Add p = p
  binary_line binary.Sub p = p
  binary_line binary.Mul p = p
  binary_line binary.Udiv p = p
  binary_line binary.Sdiv p = p
  binary_line binary.Urem p = p
  binary_line binary.Srem p = p
  binary_line binary.Shl p = p
  binary_line binary.Lshr p = p
  binary_line binary.Ashr p = p
  binary_line binary.And p = p
  binary_line binary.Or p = p
  binary_line binary.Xor p = p

  cast_line : (o : CastOp) {ts : List Lexeme} {c : BodySoFar} → Takes (value_line Instrumented b result (cast_rule limits o)) ts c rest → Takes (instruction limits b result (cast_symbol o)) ts c rest
  unfolding instruction binary_op cast_op
  cast_line cast.Trunc p = p
  cast_line cast.Zext p = p
  cast_line cast.Sext p = p
  cast_line cast.PtrToInt p = p
  cast_line cast.IntToPtr p = p
  cast_line cast.Bitcast p = p

  -- the operands of an instruction whose names are those of its operands and labels
  plain_operands : (o : Op) (h : OpFits limits o) → mentions o ≡ operands_mentions (operands o) ++ map OfLocal (labels o) → list_all (λ a. few_offsets limits.indices a.1) (operands o) ≡ true → OperandsFit limits (operands o)
  plain_operands o h e indices = operands_fit limits o h (few_parts limits.names (operands_mentions (operands o)) (map OfLocal (labels o)) (ap (few_names limits.names) (sym e) ∙ h.named)).0 indices

  plain_labels : (o : Op) (h : OpFits limits o) → mentions o ≡ operands_mentions (operands o) ++ map OfLocal (labels o) → LocalsFit limits (labels o)
  plain_labels o h e = (labelled limits o h, (few_parts limits.names (operands_mentions (operands o)) (map OfLocal (labels o)) (ap (few_names limits.names) (sym e) ∙ h.named)).1)

  own_type : (t : Ty) (o : Op) (h : OpFits limits o) (others : List Ty) → own_types o ≡ t ∷ others → type_depth t ≤ suc limits.depth
  own_type t o h others e =
      let own : are_within (suc limits.depth) (t ∷ others) ≡ true = ap (are_within (suc limits.depth)) (sym e) ∙ (within_parts (suc limits.depth) (own_types o) (flat_map (λ a. a.0 ∷ operand_types a.1) (operands o)) h.shallow).0 in
      leb-true (type_depth t) (suc limits.depth) (and_parts (nat_le (type_depth t) (suc limits.depth)) (are_within (suc limits.depth) others) own).0

  named_call : (ret : Option Ty) → name_formed ret result ≡ true → is_open result ≡ is_some ret
  named_call ret h = elim ret as (λ r. name_formed r result ≡ true → is_open result ≡ is_some r) [
    | None ↦ elim result as (λ x. name_formed None x ≡ true → is_open x ≡ false) [
      | None ↦ λ p. refl
      | Some x ↦ λ p. absurd cc
    ]
    | Some t ↦ elim result as (λ x. name_formed (Some t) x ≡ true → is_open x ≡ true) [
      | None ↦ λ p. absurd cc
      | Some x ↦ λ p. refl
    ]
  ] h

  as_named : (ret : Option Ty) {ts : List Lexeme} {v : Op × Bool} → name_formed ret result ≡ true → Takes (call_rule limits (is_some ret) s.Call) ts v rest → Takes (call_rule limits (is_open result) s.Call) ts v rest
  as_named ret {ts = ts} {v = v} h p = subst (λ named. Takes (call_rule limits named s.Call) ts v rest) (sym (named_call ret h)) p

  printed_few : (ret : Option Ty) (x : Name) (args : List (Ty × Operand)) → few_printed limits.parameters (op.Call ret x args) ≡ true → names_printf x ≡ true → length args ≤ limits.parameters
  printed_few ret x args h e =
      let few : nat_le (length args) limits.parameters ≡ true = sym (ap (λ b. not b || nat_le (length args) limits.parameters) e) ∙ h in
      leb-true (length args) limits.parameters few

  no_edge : (t : Ty) → OpFits limits (op.Phi t []) → ⊥
  no_edge t h = let e = (and_parts (is_value_type t) false (shape limits (op.Phi t []) h)).1 in absurd cc

  no_switch : (t : Ty) (v : Operand) (other : Name) (cases : List (ℕ × Name)) → is_int_type t ≡ false → OpFits limits (op.Switch t v other cases) → ⊥
  no_switch t v other cases e h = let int = (and_parts (is_int_type t) (list_all (λ c. number_formed t c.0) cases) (shape limits (op.Switch t v other cases) h)).0 in absurd cc

  pub op_taken : (dotted : Bool) (o : Op) → 0 < limits.indices → OpFits limits o → name_formed (result_type o) result ≡ true → Takes (instruction limits b result (op_symbol o)) (op_tail dotted o ++ after) (next_body b result o marked) rest
  unfolding instruction binary_op cast_op phi_line call_line marked_line
  op_taken dotted (op.Binary o flags t x y) some h n =
      let all = plain_operands (op.Binary o flags t x y) h refl h.indices in
      let parts = and_parts (is_int_type t) (are_among flags (binary_flags o)) (shape limits (op.Binary o flags t x y) h) in
      binary_line o (valued_line (binary_taken limits o flags t x y after parts.0 parts.1 (first_operand limits (t, x) _ all) (second_operand limits (t, x) (t, y) _ all)))
  op_taken dotted (op.Icmp p flags t x y) some h n =
      let all = plain_operands (op.Icmp p flags t x y) h refl h.indices in
      let parts = and_parts (is_value_type t) (are_among flags (record no_flags { samesign = true })) (shape limits (op.Icmp p flags t x y) h) in
      valued_line (compare_taken limits p flags t x y after parts.0 parts.1 (first_operand limits (t, x) _ all) (second_operand limits (t, x) (t, y) _ all))
  op_taken dotted (op.Cast o flags from x to) some h n =
      let all = plain_operands (op.Cast o flags from x to) h refl h.indices in
      let parts = and_parts (is_value_type from && is_value_type to) (are_among flags (cast_flags o)) (shape limits (op.Cast o flags from x to) h) in
      let types = and_parts (is_value_type from) (is_value_type to) parts.0 in
      cast_line o (valued_line (cast_taken limits o flags from x to after types.0 types.1 parts.1 (first_operand limits (from, x) _ all)))
  op_taken dotted (op.Select c t x y) some h n =
      let all = plain_operands (op.Select c t x y) h refl h.indices in
      valued_line (select_taken limits c t x y after (shape limits (op.Select c t x y) h) (first_operand limits (Int 1, c) _ all) (second_operand limits (Int 1, c) (t, x) _ all) (second_operand limits (t, x) (t, y) _ (rest_operands limits (Int 1, c) _ all)))
  op_taken dotted (op.Freeze t x) some h n =
      let all = plain_operands (op.Freeze t x) h refl h.indices in
      valued_line (freeze_taken limits t x after (shape limits (op.Freeze t x) h) (first_operand limits (t, x) _ all))
  op_taken dotted (op.Phi t []) some h n = absurd (no_edge t h)
  op_taken dotted (op.Phi t (e ∷ edges)) some h n =
      let o : Op = op.Phi t (e ∷ edges) in
      let parts = and_parts (is_value_type t) (nat_lt 0 (length (e ∷ edges))) (shape limits o h) in
      let types = (within_parts (suc limits.depth) (own_types o) (flat_map (λ a. a.0 ∷ operand_types a.1) (operands o)) h.shallow).1 in
      chain (phi_taken limits t e edges marked rest parts.0 (edges_fit limits t (e ∷ edges) (and_parts (shape_formed o) _ (first_two limits o h)).1 types h.named h.indices (labelled limits o h)) fresh) given
  op_taken dotted (op.Alloca t u count) some h n =
      let o : Op = op.Alloca t u count in
      let names = few_parts limits.names (type_mentions t) (operand_mentions count) h.named in
      let all = operands_fit limits o h (ap (few_names limits.names) (append-nil (operand_mentions count)) ∙ names.1) h.indices in
      let parts = and_parts (type_formed t) (is_int_type u) (shape limits o h) in
      let type : TypeFits limits (suc limits.depth) t = record { formed = parts.0; shallow = own_type t o h [] refl; named = names.0 } in
      chain (alloca_taken limits t u count marked rest some type parts.1 (first_operand limits (u, count) _ all) fresh) given
  op_taken dotted (op.Load t x) some h n =
      let all = plain_operands (op.Load t x) h refl h.indices in
      valued_line (load_taken limits t x after (shape limits (op.Load t x) h) (first_operand limits (Ptr, x) _ all))
  op_taken dotted (op.Store t v x) some h n =
      let all = plain_operands (op.Store t v x) h refl h.indices in
      effect_taken (store_taken limits t v x after (shape limits (op.Store t v x) h) (first_operand limits (t, v) _ all) (second_operand limits (t, v) (Ptr, x) _ all))
  op_taken dotted (op.Gep t base indices) some h n =
      let o : Op = op.Gep t base indices in
      let names = few_parts limits.names (type_mentions t) (operand_mentions base ++ operands_mentions indices) h.named in
      let few = and_parts (nat_le (length indices) limits.indices) (list_all (λ a. few_offsets limits.indices a.1) (operands o)) h.indices in
      let all = operands_fit limits o h names.1 few.1 in
      let parts = and_parts (type_formed t) (list_all (λ i. is_int_type i.0) indices) (shape limits o h) in
      let type : TypeFits limits (suc limits.depth) t = record { formed = parts.0; shallow = own_type t o h [] refl; named = names.0 } in
      chain (step_taken limits t base indices marked rest type all parts.1 (leb-true (length indices) limits.indices few.0) fresh) given
  op_taken dotted (op.Call ret x args) some h n =
      let o : Op = op.Call ret x args in
      let names = and_parts (is_below limits.names x) (few_names limits.names (operands_mentions args)) h.named in
      let all = operands_fit limits o h names.1 h.indices in
      let third = and_parts (result_formed ret && is_global_name x && not (name_eq x main_name)) (list_all (λ a. is_value_type a.0) args) (shape limits o h) in
      let second = and_parts (result_formed ret && is_global_name x) (not (name_eq x main_name)) third.0 in
      let first = and_parts (result_formed ret) (is_global_name x) second.0 in
      chain (as_named ret n (call_taken limits dotted ret x args marked rest first.0 first.1 names.0 second.1 third.1 all (printed_few ret x args h.printed) fresh)) given
  op_taken dotted (op.Br to) some h n = end_taken (jump_taken limits to after (first_local limits to [] (plain_labels (op.Br to) h refl)))
  op_taken dotted (op.CondBr c to other) some h n =
      let o : Op = op.CondBr c to other in
      let all = plain_operands o h refl h.indices in
      let names = plain_labels o h refl in
      end_taken (branch_taken limits c to other after (first_operand limits (Int 1, c) _ all) (first_local limits to (other ∷ []) names) (first_local limits other [] (rest_locals limits to (other ∷ []) names)))
  op_taken dotted (op.Switch (Int w) v other cases) some h n =
      let o : Op = op.Switch (Int w) v other cases in
      let all = plain_operands o h refl h.indices in
      let names = plain_labels o h refl in
      let parts = and_parts (is_width w) (list_all (λ c. number_formed (Int w) c.0) cases) (shape limits o h) in
      end_taken (switch_taken limits w v other cases after parts.0 (first_operand limits (Int w, v) _ all) (first_local limits other (map (λ c. c.1) cases) names)
      (cases_fit limits w cases parts.1 (rest_locals limits other (map (λ c. c.1) cases) names)))
  op_taken dotted (op.Switch Ptr v other cases) some h n = absurd (no_switch Ptr v other cases refl h)
  op_taken dotted (op.Switch (Array' k form item) v other cases) some h n = absurd (no_switch (Array' k form item) v other cases refl h)
  op_taken dotted (op.Switch (Struct' packed form fields) v other cases) some h n = absurd (no_switch (Struct' packed form fields) v other cases refl h)
  op_taken dotted (op.Switch (Named x) v other cases) some h n = absurd (no_switch (Named x) v other cases refl h)
  op_taken dotted (op.Ret None) some h n = end_taken (ret_void_taken limits after)
  op_taken dotted (op.Ret (Some a)) some h n =
      let all = plain_operands (op.Ret (Some a)) h refl h.indices in
      end_taken (ret_value_taken limits a.0 a.1 after (shape limits (op.Ret (Some a)) h) (first_operand limits a [] all))
  op_taken dotted op.Unreachable some h n = end_taken given
