-- Declarations and functions are read as what they were written of.
use Rattle.std.proofs.Common.{◌≡◌, ℕ, ◌+◌, ◌≤◌, ◌<◌, ◌^◌, Bool, true, false, not, ◌&&◌, ◌||◌, cond, List, [], ◌∷◌, ◌++◌, map, length, Option, Some, None, Ok, Err, refl, sym, ap, ◌∙◌, subst, append_assoc, append-nil, arith, length-append, eq-eqb}
use Rattle.std.specs.Prelude.{codes}
use Rattle.std.specs.List.{list_all}
use Rattle.std.proofs.lemmas.Bool.{ltb-true, lt-ltb, and_right, and_from, and_parts}
use Rattle.ms_lex.specs.Numbers as read
use Rattle.ms_lex.specs.Grammar.{head}
use Rattle.ms_ir.specs.declared.syntax.Name.{Name}
use Rattle.ms_ir.specs.declared.syntax.Name.TheVariants.{Number, Text as Called}
use Rattle.ms_ir.specs.declared.syntax.Ty.{Ty, Int, Ptr, Array', Struct', Named}
use Rattle.ms_ir.specs.declared.syntax.Block.{Block}
use Rattle.ms_ir.specs.declared.syntax.Decl.{Decl}
use Rattle.ms_ir.specs.declared.syntax.Func.{Func}
use Rattle.ms_ir.specs.declared.forms.Form.TheVariants.{Instrumented}
use Rattle.ms_text_grammar.specs.declared.refusals.Cause.TheVariants as r
use Rattle.ms_text_grammar.specs.declared.refusals.Limit.TheVariants as limit
use Rattle.ms_text_grammar.specs.declared.states.Parameters.{Parameters}
use Rattle.ms_text_grammar.specs.declared.symbols.Symbol.{Symbol}
use Rattle.ms_text_grammar.specs.declared.symbols.Symbol.TheVariants as s
use Rattle.ms_text_grammar.specs.Lexemes.{Lexeme, end_of_text, is, same_symbol, symbol_of, name_in}
use Rattle.ms_text_grammar.specs.Steps.{word, within}
use Rattle.ms_text_grammar.specs.Types.{value_type_by, value_type_of}
use Rattle.ms_text_grammar.specs.Skipped.{is_attribute, attached_by, attachments}
use Rattle.ms_text_grammar.specs.Insts.{names_printf, is_i32}
use Rattle.ms_text_grammar.specs.Functions.{no_parameters, next_after as next_param, is_one_pointer as one_pointer_found, dots_come, linkage, function_tail, body_after}
use Rattle.ms_text_grammar.specs.Modules.{instructions_of}
use Rattle.ms_check_valid.specs.FormedNames.{are_bytes, is_local_name, is_global_name}
use Rattle.ms_check_valid.specs.FormedCode.{is_value_type, result_formed}
use Rattle.ms_text_grammar.specs.LayoutPieces.{word as word_token, sign, three_dots, with_commas, enclosed, flush}
use Rattle.ms_text_grammar.specs.LayoutNames.{local_token, global_token}
use Rattle.ms_text_grammar.specs.LayoutTypes.{type_tokens, result_tokens}
use Rattle.ms_text_grammar.specs.LayoutModules.{is_one_pointer, is_dotted, dots, parameter_tokens, head_line, blocks_lines, function_lines}
use Rattle.ms_text_laws.proofs.Limited.{Limits, local_name, has_room, parameter_type_of, parameter_name, typed_parameter, parameter, parameters, declaration, function, blocks as blocks_rule}
use Rattle.ms_text_laws.proofs.Takes.{Takes, given, taken, seen, chain, ended, by_symbol, word_taken, along}
use Rattle.ms_text_laws.proofs.Spelled.{is_below, int_token, int_token_symbol, int_token_width, local_name_good, local_number_symbol, local_text_symbol, local_number_in, local_text_in}
use Rattle.ms_text_laws.proofs.Listed.{AllTake, Closing, listed_back}
use Rattle.ms_text_laws.proofs.Types.{value_type_symbol, valued, regrouped, width_parts, void_symbol, ptr_symbol, close_paren, result_taken, type_closes, no_closer}
use Rattle.ms_text_laws.proofs.Values.{global_taken, open_paren_taken}
use Rattle.ms_text_laws.proofs.Flags.{IsFresh}
use Rattle.ms_text_laws.proofs.Marked.{no_attributes, one_token, value_type_formed}
use Rattle.ms_text_laws.proofs.Bodies.{line_tokens, line_tokens-append, BlocksFit, AreNextBlocks, lines_in, body_taken}

-- ---- numbers of parameters

abbrev pub IsNextParam : ℕ → Name → Type 0
IsNextParam k (Number n) = n ≡ k
IsNextParam k (Called x) = Unit {0}

abbrev pub AreNextParams : ℕ → List (Ty × Name) → Type 0
AreNextParams k [] = Unit {0}
AreNextParams k (p ∷ params) = IsNextParam k p.1 × AreNextParams (next_param p.1 k) params

abbrev pub next_params : ℕ → List (Ty × Name) → ℕ
next_params k [] = k
next_params k (p ∷ params) = next_params (next_param p.1 k) params

pub param_few : (k : ℕ) (x : Name) → next_param x k ≤ k + 1
param_few k (Number n) = omega arith
param_few k (Called x) = omega arith

-- the parameters that were found
abbrev state : List (Ty × Name) → ℕ → Parameters
state found next = record { found = found; next = next; dots = false }

-- what stands after a declared parameter
abbrev separates : Symbol → Bool
separates s.Comma = true
separates s.CloseParen = true
separates x = false

separates_no_attribute : (x : Symbol) → separates x ≡ true → is_attribute x ≡ false
separates_no_attribute s.Comma h = refl
separates_no_attribute s.CloseParen h = refl
separates_no_attribute x h = absurd cc

declared_close : Closing (λ t. separates t.symbol) s.CloseParen (sign (codes ")"))
unfolding same_symbol symbol_of
declared_close = record { closes = refl; no_comma = refl; allowed = refl; comma_allowed = refl }

-- unnamed parameters take the next numbers
abbrev unnamed : ℕ → List Ty → List (Ty × Name)
unnamed k [] = []
unnamed k (t ∷ ts) = (t, Number k) ∷ unnamed (k + 1) ts

abbrev after_unnamed : ℕ → List Ty → ℕ
after_unnamed k [] = k
after_unnamed k (t ∷ ts) = after_unnamed (k + 1) ts

unnamed_types : (k : ℕ) (ts : List Ty) → map (λ p. p.0) (unnamed k ts) ≡ ts
unnamed_types k [] = refl
unnamed_types k (t ∷ ts) = ap (λ us. t ∷ us) (unnamed_types (k + 1) ts)

module _ (limits : Limits) where
  -- ---- one parameter

  room : (found : List (Ty × Name)) (k : ℕ) → length found < limits.parameters → k ≤ length found → has_room limits (state found k) ≡ true
  room found k few low = and_from _ _ (lt-ltb (length found) limits.parameters few) (lt-ltb k limits.parameters (omega (arith, few, low)))

  type_good : (found : List (Ty × Name)) (k : ℕ) (t : Ty) (ts : List Lexeme) → is_value_type t ≡ true → has_room limits (state found k) ≡ true → parameter_type_of limits (state found k) (head end_of_text (type_tokens t ++ ts)) ≡ Ok t
  type_good found k Ptr ts h few = ap (λ b. within b limit.Parameters (value_type_of (word_token (codes "ptr")))) few ∙ ap (λ y. value_type_by y (word_token (codes "ptr"))) ptr_symbol
  type_good found k (Int w) ts h few =
      let width = width_parts w h in
      ap (λ b. within b limit.Parameters (value_type_of (int_token w))) few ∙ ap (λ y. value_type_by y (int_token w)) (int_token_symbol w width.0 width.1) ∙ ap (λ j. Ok (Int j)) (int_token_width w width.1)
  type_good found k (Array' n form item) ts h few = absurd cc
  type_good found k (Struct' packed form fields) ts h few = absurd cc
  type_good found k (Named x) ts h few = absurd cc

  local_no_attribute : (x : Name) → is_attribute (local_token x).symbol ≡ false
  local_no_attribute (Number n) = ap is_attribute (local_number_symbol n)
  local_no_attribute (Called x) = ap is_attribute (local_text_symbol x)

  name_taken : (x : Name) (k : ℕ) (rest : List Lexeme) → is_local_name x ≡ true → is_below limits.names x ≡ true → IsNextParam k x → Takes (parameter_name limits k) (local_token x ∷ rest) x rest
  unfolding parameter_name
  name_taken (Number n) k rest h few next =
      let small : n < 2 ^ 32 = ltb-true n (2 ^ 32) h in
      by_symbol s.NumberedLocal (local_number_symbol n)
      (valued (ap Number (sym next)) (taken (ap (λ b. cond b (Ok (Number k)) (Err r.Numbering)) (eq-eqb (read.decimal (name_in (local_token (Number n)))) k (local_number_in n small ∙ next)))))
  name_taken (Called x) k rest h few next =
      by_symbol s.Local (local_text_symbol x) (taken (ap (local_name limits) (local_text_in x (and_parts (are_bytes x) _ h).0) ∙ local_name_good limits x h few))

  no_dots : (printf : Bool) (ps : Parameters) (t : Ty) (ts : List Lexeme) → is_value_type t ≡ true → dots_come printf ps (head end_of_text (type_tokens t ++ ts)) ≡ Ok false
  unfolding same_symbol
  no_dots printf ps t ts h = ap Ok (and_right (printf && one_pointer_found ps.found) _ (value_type_symbol t ts h (λ x. same_symbol x s.Dots) false refl refl))

  param_taken : (p : Ty × Name) (found : List (Ty × Name)) (k : ℕ) (rest : List Lexeme) → is_value_type p.0 ≡ true → is_local_name p.1 ≡ true → is_below limits.names p.1 ≡ true → IsNextParam k p.1 → length found < limits.parameters → k ≤ length found
      → Takes (parameter limits false (state found k)) (parameter_tokens p ++ rest) (state (found ++ p ∷ []) (next_param p.1 k)) rest
  unfolding parameter typed_parameter
  param_taken p found k rest type local few next less low =
      let after : List Lexeme = local_token p.1 ∷ rest in
      along (append_assoc (type_tokens p.0) (local_token p.1 ∷ []) rest)
      (chain (seen (no_dots false (state found k) p.0 after type))
      (chain (one_token limits (parameter_type_of limits (state found k)) p.0 p.0 after type (type_good found k p.0 after type (room found k less low)))
      (chain (no_attributes after (local_no_attribute p.1)) (chain (name_taken p.1 k rest local few next) given))))

  -- a parameter of a declaration
  separate_name : (x : Symbol) (k : ℕ) (rest : List Lexeme) → separates x ≡ true → (head end_of_text rest).symbol ≡ x → Takes (parameter_name limits k) rest (Number k) rest
  unfolding parameter_name
  separate_name s.Comma k rest h e = by_symbol s.Comma e given
  separate_name s.CloseParen k rest h e = by_symbol s.CloseParen e given
  separate_name x k rest h e = absurd cc

  declared_taken : (printf : Bool) (t : Ty) (found : List (Ty × Name)) (k : ℕ) (rest : List Lexeme) → is_value_type t ≡ true → length found < limits.parameters → k ≤ length found → separates (head end_of_text rest).symbol ≡ true
      → Takes (parameter limits printf (state found k)) (type_tokens t ++ rest) (state (found ++ (t, Number k) ∷ []) (k + 1)) rest
  unfolding parameter typed_parameter
  declared_taken printf t found k rest type less low good =
      chain (seen (no_dots printf (state found k) t rest type))
      (chain (one_token limits (parameter_type_of limits (state found k)) t t rest type (type_good found k t rest type (room found k less low)))
      (chain (no_attributes rest (separates_no_attribute _ good)) (chain (separate_name _ k rest good refl) given)))

  -- ---- all parameters

  params_take : (params found : List (Ty × Name)) (k : ℕ) → list_all (λ p. is_value_type p.0 && is_local_name p.1) params ≡ true → list_all (λ p. is_below limits.names p.1) params ≡ true → AreNextParams k params
      → length found + length params ≤ limits.parameters → k ≤ length found
      → AllTake (λ t. true) (λ ps. not ps.dots) (parameter limits false) (map parameter_tokens params) (state found k) (state (found ++ params) (next_params k params))
  params_take [] found k types names numbers few low = ap (λ xs. state xs k) (append-nil found)
  params_take (p ∷ params) found k types names numbers few low =
      let parts = and_parts (is_value_type p.0 && is_local_name p.1) (list_all (λ p. is_value_type p.0 && is_local_name p.1) params) types in
      let first = and_parts (is_value_type p.0) (is_local_name p.1) parts.0 in
      let short = and_parts (is_below limits.names p.1) (list_all (λ p. is_below limits.names p.1) params) names in
      let next = param_few k p.1 in (
        refl,
        state (found ++ p ∷ []) (next_param p.1 k),
        λ rest good. param_taken p found k rest first.0 first.1 short.0 numbers.0 (omega (arith, few)) low,
        subst (λ xs. AllTake (λ t. true) (λ ps. not ps.dots) (parameter limits false) (map parameter_tokens params) (state (found ++ p ∷ []) (next_param p.1 k)) (state xs (next_params k (p ∷ params)))) (append_assoc found (p ∷ []) params)
            (params_take params (found ++ p ∷ []) (next_param p.1 k) parts.1 short.1 numbers.1 (omega (arith, few, length-append found (p ∷ []))) (omega (arith, low, next, length-append found (p ∷ [])))),
      )

  abbrev Declares : Bool → List (List Lexeme) → Parameters → Parameters → Type 0
  Declares printf parts start end = AllTake (λ t. separates t.symbol) (λ ps. not ps.dots) (parameter limits printf) parts start end

  declared_take : (printf : Bool) (ts : List Ty) (tail : List (List Lexeme)) (found : List (Ty × Name)) (k : ℕ) (end : Parameters) → list_all is_value_type ts ≡ true → length found + length ts ≤ limits.parameters → k ≤ length found
      → Declares printf tail (state (found ++ unnamed k ts) (after_unnamed k ts)) end → Declares printf (map type_tokens ts ++ tail) (state found k) end
  declared_take printf [] tail found k end types few low h = subst (λ xs. Declares printf tail (state xs k) end) (append-nil found) h
  declared_take printf (t ∷ ts) tail found k end types few low h =
      let parts = and_parts (is_value_type t) (list_all is_value_type ts) types in (
        refl,
        state (found ++ (t, Number k) ∷ []) (k + 1),
        λ rest good. declared_taken printf t found k rest parts.0 (omega (arith, few)) low good,
        declared_take printf ts tail (found ++ (t, Number k) ∷ []) (k + 1) end parts.1 (omega (arith, few, length-append found ((t, Number k) ∷ []))) (omega (arith, low, length-append found ((t, Number k) ∷ [])))
            (subst (λ xs. Declares printf tail (state xs (after_unnamed (k + 1) ts)) end) (sym (append_assoc found ((t, Number k) ∷ []) (unnamed (k + 1) ts))) h),
      )

  -- the dots, where they are written
  abbrev final : Bool → List Ty → Parameters
  final dotted ts = record { found = unnamed 0 ts; next = after_unnamed 0 ts; dots = dotted }

  one_found : (ts : List Ty) → is_one_pointer ts ≡ true → one_pointer_found (unnamed 0 ts) ≡ true
  one_found [] h = absurd cc
  one_found (t ∷ []) h = h
  one_found (t ∷ u ∷ ts) h = absurd cc

  dots_is : is s.Dots three_dots ≡ true
  unfolding same_symbol symbol_of
  dots_is = refl

  dots_take : (dotted printf : Bool) (ts : List Ty) → (dotted ≡ true → printf ≡ true) → (dotted ≡ true → is_one_pointer ts ≡ true) → Declares printf (dots dotted) (state (unnamed 0 ts) (after_unnamed 0 ts)) (final dotted ts)
  unfolding parameter
  dots_take false printf ts p q = refl
  dots_take true printf ts p q = (
    refl,
    final true ts,
    λ rest good. chain (seen (ap Ok (and_from (printf && one_pointer_found (unnamed 0 ts)) (is s.Dots three_dots) (and_from printf _ (p refl) (one_found ts (q refl))) dots_is))) (chain (taken refl) given),
    refl,
  )

  abbrev Begin : List (List Lexeme) → Type 0
  Begin [] = Unit {0}
  Begin (part ∷ parts) = (rest : List Lexeme) → is s.CloseParen (head end_of_text (part ++ rest)) ≡ false

  type_begins : (t : Ty) (rest : List Lexeme) → is_value_type t ≡ true → is s.CloseParen (head end_of_text (type_tokens t ++ rest)) ≡ false
  type_begins t rest h = (no_closer _ (type_closes t rest (value_type_formed limits t h))).0

  params_begin : (params : List (Ty × Name)) → list_all (λ p. is_value_type p.0 && is_local_name p.1) params ≡ true → Begin (map parameter_tokens params)
  params_begin [] h = tt
  params_begin (p ∷ params) h = λ rest.
      let type = (and_parts (is_value_type p.0) (is_local_name p.1) (and_parts (is_value_type p.0 && is_local_name p.1) (list_all (λ p. is_value_type p.0 && is_local_name p.1) params) h).0).0 in
      ap (λ ts. is s.CloseParen (head end_of_text ts)) (append_assoc (type_tokens p.0) (local_token p.1 ∷ []) rest) ∙ type_begins p.0 (local_token p.1 ∷ rest) type

  declared_begin : (ts : List Ty) (dotted : Bool) → list_all is_value_type ts ≡ true → Begin (map type_tokens ts ++ dots dotted)
  unfolding same_symbol symbol_of
  declared_begin [] false h = tt
  declared_begin [] true h = λ rest. refl
  declared_begin (t ∷ ts) dotted h = λ rest. type_begins t rest (and_parts (is_value_type t) (list_all is_value_type ts) h).0

  -- ---- in front of the result

  no_linkage : (ret : Option Ty) (ts : List Lexeme) → result_formed ret ≡ true → Takes (linkage Instrumented) (result_tokens ret ++ ts) tt (result_tokens ret ++ ts)
  unfolding linkage same_symbol
  no_linkage None ts h = ended (ap (λ x. Ok (same_symbol x s.ExternalWord || is_attribute x)) void_symbol)
  no_linkage (Some t) ts h = ended (value_type_symbol t ts h (λ x. Ok (same_symbol x s.ExternalWord || is_attribute x)) (Ok false) refl refl)

  no_attachments : (ret : Option Ty) (ts : List Lexeme) → result_formed ret ≡ true → Takes (attachments Instrumented) (result_tokens ret ++ ts) tt (result_tokens ret ++ ts)
  unfolding attachments
  no_attachments None ts h = ended (ap (attached_by Instrumented) void_symbol)
  no_attachments (Some t) ts h = ended (value_type_symbol t ts h (attached_by Instrumented) (Ok false) refl refl)

  -- ---- declarations

  -- a declaration as it may stand, within the limits
  pub record DeclFits (d : Decl) : Type 0 where
    pub global_name : is_global_name d.name ≡ true
    pub short_name : is_below limits.names d.name ≡ true
    pub result : result_formed d.ret ≡ true
    pub params : list_all is_value_type d.params ≡ true
    pub few_params : length d.params ≤ limits.parameters

  dotted_parts : (d : Decl) → is_dotted d ≡ true → (names_printf d.name ≡ true) × (is_one_pointer d.params ≡ true)
  unfolding is_dotted
  dotted_parts d h = let last = and_parts (names_printf d.name && is_i32 d.ret) (is_one_pointer d.params) h in ((and_parts (names_printf d.name) (is_i32 d.ret) last.0).0, last.1)

  declaration_tokens : (ret : Option Ty) (x : Name) (parts : List (List Lexeme)) (rest : List Lexeme)
      → (result_tokens ret ++ global_token x ∷ enclosed (codes "(") (codes ")") parts) ++ rest ≡ result_tokens ret ++ global_token x ∷ sign (codes "(") ∷ (with_commas parts ++ sign (codes ")") ∷ rest)
  declaration_tokens ret x parts rest =
      append_assoc (result_tokens ret) (global_token x ∷ enclosed (codes "(") (codes ")") parts) rest
      ∙ ap (λ ys. result_tokens ret ++ global_token x ∷ sign (codes "(") ∷ ys) (regrouped (with_commas parts) (sign (codes ")")) rest)

  pub declaration_taken : (d : Decl) (rest : List Lexeme) → DeclFits d → IsFresh rest
      → Takes (declaration limits) ((result_tokens d.ret ++ global_token d.name ∷ enclosed (codes "(") (codes ")") (map type_tokens d.params ++ dots (is_dotted d))) ++ rest) d rest
  unfolding declaration parameters
  declaration_taken d rest h fresh =
      let parts : List (List Lexeme) = map type_tokens d.params ++ dots (is_dotted d) in
      let printf : Bool = names_printf d.name in
      let takes = declared_take printf d.params (dots (is_dotted d)) [] 0 (final (is_dotted d) d.params) h.params (omega (arith, h.few_params)) (omega arith)
      (dots_take (is_dotted d) printf d.params (λ e. (dotted_parts d e).0) (λ e. (dotted_parts d e).1)) in
      along (declaration_tokens d.ret d.name parts rest)
      (chain (no_attachments d.ret _ h.result) (chain (no_linkage d.ret _ h.result) (chain (result_taken d.ret _ h.result) (chain (global_taken limits d.name _ h.global_name h.short_name) (chain open_paren_taken
      (chain (listed_back (λ t. separates t.symbol) (λ ps. not ps.dots) (parameter limits printf) s.CloseParen (sign (codes ")")) declared_close parts no_parameters (final (is_dotted d) d.params) rest (declared_begin d.params (is_dotted d) h.params) takes)
      (chain (no_attributes rest fresh.attribute) (valued (ap (λ ts. record { name = d.name; ret = d.ret; params = ts }) (unnamed_types 0 d.params)) given))))))))

  -- ---- functions

  -- a function as it may stand, within the limits, after so many instructions
  pub record FuncFits (before : ℕ) (f : Func) : Type 0 where
    pub global_name : is_global_name f.name ≡ true
    pub short_name : is_below limits.names f.name ≡ true
    pub result : result_formed f.ret ≡ true
    pub params : list_all (λ p. is_value_type p.0 && is_local_name p.1) f.params ≡ true
    pub short_params : list_all (λ p. is_below limits.names p.1) f.params ≡ true
    pub few_params : length f.params ≤ limits.parameters
    pub param_numbers : AreNextParams 0 f.params
    pub some_block : 0 < length f.blocks
    pub blocks : BlocksFit limits f.blocks
    pub numbers : AreNextBlocks (next_params 0 f.params) f.blocks
    pub few_numbers : next_params 0 f.params + lines_in f.blocks < limits.numbers
    pub few_insts : before + instructions_of f.blocks ≤ limits.instructions

  brace_symbol : (sign (codes "{")).symbol ≡ s.OpenBrace
  unfolding symbol_of
  brace_symbol = refl

  open_brace_taken : {ts : List Lexeme} → Takes (word s.OpenBrace) (sign (codes "{") ∷ ts) tt ts
  unfolding same_symbol
  open_brace_taken = word_taken s.OpenBrace refl brace_symbol

  no_tail : (ts : List Lexeme) → Takes (function_tail Instrumented) (sign (codes "{") ∷ ts) tt (sign (codes "{") ∷ ts)
  unfolding function_tail symbol_of
  no_tail ts = ended refl

  some_blocks : (some : 0 < limits.indices) (dotted : Bool) (bs all : List Block) (ps : Parameters) (before : ℕ) (rest : List Lexeme) → bs ≡ all → 0 < length all → BlocksFit limits all → AreNextBlocks ps.next all → ps.next + lines_in all < limits.numbers
      → before + instructions_of all ≤ limits.instructions
      → Takes (blocks_rule limits (body_after ps before)) (line_tokens (blocks_lines dotted all) ++ sign (codes "}") ∷ rest) all rest
  some_blocks some dotted bs [] ps before rest e h fits numbers few room = absurd (omega (arith, h))
  some_blocks some dotted bs (b ∷ all) ps before rest e h fits numbers few room =
      body_taken limits some dotted b all (body_after ps before) ps.next before rest (record { blocks = refl; name = refl; next_is = refl; count_is = refl }) fits numbers few room

  pub function_tokens : (dotted : Bool) (f : Func) (rest : List Lexeme) → line_tokens (function_lines dotted f) ++ rest
      ≡ word_token (codes "define") ∷ (result_tokens f.ret ++ global_token f.name ∷ sign (codes "(") ∷ (with_commas (map parameter_tokens f.params) ++ sign (codes ")") ∷ sign (codes "{") ∷ (line_tokens (blocks_lines dotted f.blocks) ++ sign (codes "}") ∷ rest)))
  unfolding function_lines head_line
  function_tokens dotted f rest =
      let params : List (List Lexeme) = map parameter_tokens f.params in
      let listed : List Lexeme = enclosed (codes "(") (codes ")") params in
      let body : List Lexeme = line_tokens (blocks_lines dotted f.blocks) in
      let after : List Lexeme = body ++ sign (codes "}") ∷ rest in
      ap (λ ys. (word_token (codes "define") ∷ (result_tokens f.ret ++ global_token f.name ∷ (listed ++ sign (codes "{") ∷ [])) ++ ys) ++ rest) (line_tokens-append (blocks_lines dotted f.blocks) (flush (sign (codes "}") ∷ []) ∷ []))
      ∙ append_assoc (word_token (codes "define") ∷ (result_tokens f.ret ++ global_token f.name ∷ (listed ++ sign (codes "{") ∷ []))) (body ++ sign (codes "}") ∷ []) rest
      ∙ ap (λ ys. (word_token (codes "define") ∷ (result_tokens f.ret ++ global_token f.name ∷ (listed ++ sign (codes "{") ∷ []))) ++ ys) (regrouped body (sign (codes "}")) rest)
      ∙ ap (λ ys. word_token (codes "define") ∷ ys) (append_assoc (result_tokens f.ret) (global_token f.name ∷ (listed ++ sign (codes "{") ∷ [])) after
      ∙ ap (λ ys. result_tokens f.ret ++ global_token f.name ∷ ys) (regrouped listed (sign (codes "{")) after ∙ ap (λ ys. sign (codes "(") ∷ ys) (regrouped (with_commas params) (sign (codes ")")) (sign (codes "{") ∷ after))))

  pub function_taken : (some : 0 < limits.indices) (dotted : Bool) (before : ℕ) (f : Func) (rest : List Lexeme) → FuncFits before f
      → Takes (function limits before) (result_tokens f.ret ++ global_token f.name ∷ sign (codes "(") ∷ (with_commas (map parameter_tokens f.params) ++ sign (codes ")") ∷ sign (codes "{") ∷ (line_tokens (blocks_lines dotted f.blocks) ++ sign (codes "}") ∷ rest))) f rest
  unfolding function parameters
  function_taken some dotted before f rest h =
      let ps : Parameters = state f.params (next_params 0 f.params) in
      let after : List Lexeme = sign (codes "{") ∷ (line_tokens (blocks_lines dotted f.blocks) ++ sign (codes "}") ∷ rest) in
      chain (no_linkage f.ret _ h.result) (chain (result_taken f.ret _ h.result) (chain (global_taken limits f.name _ h.global_name h.short_name) (chain open_paren_taken
      (chain (listed_back (λ t. true) (λ qs. not qs.dots) (parameter limits false) s.CloseParen (sign (codes ")")) close_paren (map parameter_tokens f.params) no_parameters ps after (params_begin f.params h.params)
      (params_take f.params [] 0 h.params h.short_params h.param_numbers (omega (arith, h.few_params)) (omega arith)))
      (chain (no_tail _) (chain open_brace_taken (chain (some_blocks some dotted f.blocks f.blocks ps before rest refl h.some_block h.blocks h.numbers h.few_numbers h.few_insts) given)))))))
