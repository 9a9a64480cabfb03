-- Entities and whole modules are read as what they were written of.
use Rattle.std.proofs.Common.{◌≡◌, ℕ, suc, ◌+◌, ◌≤◌, ◌<◌, ◌^◌, Bool, true, false, cond, List, [], ◌∷◌, ◌++◌, map, length, flat_map, Ok, Err, refl, sym, ap, ◌∙◌, subst, append_assoc, append-nil, arith, length-append}
use Rattle.std.specs.Prelude.{codes, nat_lt}
use Rattle.std.proofs.lemmas.Bool.{ltb-true, lt-ltb, and_parts}
use Rattle.ms_lex.specs.Tokens.{Text}
use Rattle.ms_lex.specs.Numbers as read
use Rattle.ms_lex.specs.Grammar.{head, give, loop, ◌>>=◌}
use Rattle.ms_ir.specs.declared.syntax.Name.{Name}
use Rattle.ms_ir.specs.declared.syntax.Name.TheVariants.{Number, Text as Called}
use Rattle.ms_ir.specs.declared.syntax.Ty.{Ty}
use Rattle.ms_ir.specs.declared.syntax.Func.{Func}
use Rattle.ms_ir.specs.declared.syntax.Decl.{Decl}
use Rattle.ms_ir.specs.declared.syntax.GlobalVar.{GlobalVar}
use Rattle.ms_ir.specs.declared.syntax.Module.{Module}
use Rattle.ms_ir.specs.declared.forms.Form.TheVariants.{Instrumented}
use Rattle.ms_text_grammar.specs.declared.refusals.Cause.TheVariants as r
use Rattle.ms_text_grammar.specs.declared.refusals.Limit.TheVariants as limit
use Rattle.ms_text_grammar.specs.declared.states.ModuleSoFar.{ModuleSoFar}
use Rattle.ms_text_grammar.specs.declared.symbols.Symbol.{Symbol}
use Rattle.ms_text_grammar.specs.declared.symbols.Symbol.TheVariants as s
use Rattle.ms_text_grammar.specs.Lexemes.{Lexeme, end_of_text, same_symbol, symbol_of, word_symbol, name_in}
use Rattle.ms_text_grammar.specs.Steps.{Verdict, word, judge_map}
use Rattle.ms_text_grammar.specs.Names.{reserved_global}
use Rattle.ms_text_grammar.specs.Skipped.{is_attribute_word, balanced}
use Rattle.ms_text_grammar.specs.Modules.{instructions_of, global_kind_by, metadata_entity}
use Rattle.ms_check_valid.specs.FormedNames.{are_bytes, is_local_name, is_global_name}
use Rattle.ms_check_valid.specs.Formed.{is_struct}
use Rattle.ms_text_grammar.specs.LayoutPieces.{Piece, tokens_in, Line, spaced, indent_of, pieces_of, word as word_token, sign, meta as meta_token, enclosed}
use Rattle.ms_text_grammar.specs.LayoutNames.{local_token, global_token}
use Rattle.ms_text_grammar.specs.LayoutTypes.{type_tokens, result_tokens}
use Rattle.ms_text_grammar.specs.LayoutValues.{init_tokens}
use Rattle.ms_text_grammar.specs.LayoutModules.{type_line, global_word, global_line, is_dotted, dots, declaration_line, function_lines, has_dots, has_mark, module_lines, mark_pieces, module_pieces}
use Rattle.ms_text_laws.proofs.Limited.{Limits, local_by, named_type, global_variable, global_begins, entity_begins_by, entity_begins, entity_by, entity, room_for_function, module_rule}
use Rattle.ms_text_laws.proofs.Takes.{Takes, given, taken, seen, chain, turned, ended, by_symbol, word_taken, along}
use Rattle.ms_text_laws.proofs.Spelled.{is_below, local_good, local_number_symbol, local_text_symbol, local_number_in, local_text_in, global_text_in, global_unreserved}
use Rattle.ms_text_laws.proofs.Types.{TypeFits, type_taken, struct_type_taken, valued}
use Rattle.ms_text_laws.proofs.Values.{InitFits, init_taken, global_symbol}
use Rattle.ms_text_laws.proofs.Flags.{Fresh, IsFresh}
use Rattle.ms_text_laws.proofs.Bodies.{line_tokens, line_tokens-append}
use Rattle.ms_text_laws.proofs.Functions.{DeclFits, declaration_taken, FuncFits, function_tokens, function_taken}

-- ---- the tokens of pieces

spaced_tokens : (later : Text) (ts : List Lexeme) (after : List Piece) → tokens_in (spaced later ts ++ after) ≡ ts ++ tokens_in after
spaced_tokens later [] after = refl
spaced_tokens later (t ∷ []) after = refl
spaced_tokens later (t ∷ u ∷ ts) after = ap (λ us. t ∷ us) (spaced_tokens later (u ∷ ts) after)

lines_tokens : (lines : List Line) (after : List Piece) → tokens_in (pieces_of lines ++ after) ≡ line_tokens lines ++ tokens_in after
lines_tokens [] after = refl
lines_tokens (l ∷ lines) after =
    ap tokens_in (append_assoc (spaced (10 ∷ indent_of lines) l.tokens) (pieces_of lines) after)
    ∙ spaced_tokens (10 ∷ indent_of lines) l.tokens (pieces_of lines ++ after)
    ∙ ap (λ ts. l.tokens ++ ts) (lines_tokens lines after)
    ∙ sym (append_assoc l.tokens (line_tokens lines) (tokens_in after))

-- ---- words

equals_taken : {ts : List Lexeme} → Takes (word s.Equals) (sign (codes "=") ∷ ts) tt ts
unfolding same_symbol symbol_of
equals_taken = word_taken s.Equals refl refl

type_word_taken : {ts : List Lexeme} → Takes (word s.TypeWord) (word_token (codes "type") ∷ ts) tt ts
unfolding same_symbol symbol_of word_symbol
type_word_taken = word_taken s.TypeWord refl refl

declare_symbol : (word_token (codes "declare")).symbol ≡ s.Declare
unfolding symbol_of word_symbol
declare_symbol = refl

define_symbol : (word_token (codes "define")).symbol ≡ s.Define
unfolding symbol_of word_symbol
define_symbol = refl

abbrev kind_symbol : Bool → Symbol
kind_symbol true = s.ConstantWord
kind_symbol false = s.GlobalWord

global_word_symbol : (constant : Bool) → (word_token (global_word constant)).symbol ≡ kind_symbol constant
unfolding symbol_of word_symbol
global_word_symbol true = refl
global_word_symbol false = refl

kind_good : (constant : Bool) (t : Lexeme) → (is_attribute_word (kind_symbol constant) ≡ false) × (global_kind_by (kind_symbol constant) t ≡ Ok constant)
kind_good true t = (refl, refl)
kind_good false t = (refl, refl)

-- ---- what is within the limits

module _ (limits : Limits) where
  -- a named type
  pub record NamedFits (t : Name × Ty) : Type 0 where
    pub local : is_local_name t.0 ≡ true
    pub short_name : is_below limits.names t.0 ≡ true
    pub struct : is_struct t.1 ≡ true
    pub type : TypeFits limits (suc limits.depth) t.1

  pub record GlobalFits (g : GlobalVar) : Type 0 where
    pub global_name : is_global_name g.name ≡ true
    pub short_name : is_below limits.names g.name ≡ true
    pub type : TypeFits limits (suc limits.depth) g.ty
    pub init : InitFits limits (suc limits.depth) g.ty g.init

  abbrev pub NamedsFit : List (Name × Ty) → Type 0
  NamedsFit [] = Unit {0}
  NamedsFit (t ∷ ts) = NamedFits t × NamedsFit ts

  abbrev pub GlobalsFit : List GlobalVar → Type 0
  GlobalsFit [] = Unit {0}
  GlobalsFit (g ∷ gs) = GlobalFits g × GlobalsFit gs

  abbrev pub DeclsFit : List Decl → Type 0
  DeclsFit [] = Unit {0}
  DeclsFit (d ∷ ds) = DeclFits limits d × DeclsFit ds

  -- functions after so many instructions
  abbrev pub FuncsFit : ℕ → List Func → Type 0
  FuncsFit before [] = Unit {0}
  FuncsFit before (f ∷ fs) = FuncFits limits before f × FuncsFit (before + instructions_of f.blocks) fs

  pub record ModuleFits (m : Module) : Type 0 where
    pub some_indices : 0 < limits.indices
    pub types : NamedsFit m.types
    pub globals : GlobalsFit m.globals
    pub decls : DeclsFit m.decls
    pub funcs : FuncsFit 0 m.funcs
    pub few_globals : length m.globals ≤ limits.globals
    pub few_functions : length m.funcs + length m.decls ≤ limits.functions

  -- ---- states

  abbrev state : List (Name × Ty) → List GlobalVar → List Decl → List Func → ℕ → ModuleSoFar
  state types globals decls funcs count = record { «module» = record { types = types; globals = globals; decls = decls; funcs = funcs }; count = count }

  abbrev Reads : ModuleSoFar → List Lexeme → ModuleSoFar → List Lexeme → Type 0
  Reads p ts v end = Takes (loop (entity_begins limits) (entity limits) p) ts v end

  -- an entity that begins with a token of this symbol
  entity_read : (x : Symbol) (p next : ModuleSoFar) (t : Lexeme) {ts rest end : List Lexeme} {v : ModuleSoFar} → t.symbol ≡ x → entity_begins_by limits p.«module» x t ≡ Ok true → Takes (entity_by limits p x t) ts next rest
      → Reads next rest v end → Reads p (t ∷ ts) v end
  unfolding entity_begins entity
  entity_read x p next t {ts = ts} {rest = rest} e begins body then =
      turned (ap (λ y. entity_begins_by limits p.«module» y t) e ∙ begins) (subst (λ y. Takes (entity_by limits p y t) ts next rest) (sym e) body) then

  -- ---- named types

  named_taken : (x : Name) (t : Ty) (rest : List Lexeme) → NamedFits (x, t) → Takes (named_type limits x) (sign (codes "=") ∷ word_token (codes "type") ∷ (type_tokens t ++ rest)) (x, t) rest
  unfolding named_type
  named_taken x t rest h = chain equals_taken (chain type_word_taken (chain (struct_type_taken limits t rest h.struct h.type) given))

  type_entity : (x : Name) (t : Ty) (found : List (Name × Ty)) (rest : List Lexeme) {v : ModuleSoFar} {end : List Lexeme} → NamedFits (x, t) → Reads (state (found ++ (x, t) ∷ []) [] [] [] 0) rest v end
      → Reads (state found [] [] [] 0) (local_token x ∷ sign (codes "=") ∷ word_token (codes "type") ∷ (type_tokens t ++ rest)) v end
  type_entity (Number n) t found rest h then =
      let x : Lexeme = local_token (Number n) in
      let spelt : read.decimal (name_in x) ≡ n = local_number_in n (ltb-true n (2 ^ 32) h.local) in
      let verdict : local_by limits s.NumberedLocal x ≡ Ok (Number n) = ap (λ y. local_by limits y x) (sym (local_number_symbol n)) ∙ local_good limits (Number n) h.local h.short_name in
      entity_read s.NumberedLocal (state found [] [] [] 0) (state (found ++ (Number n, t) ∷ []) [] [] [] 0) x (local_number_symbol n) (ap (judge_map (λ y. true)) verdict)
      (subst (λ k. Takes (named_type limits (Number k) >>= λ y. give (state (found ++ y ∷ []) [] [] [] 0)) (sign (codes "=") ∷ word_token (codes "type") ∷ (type_tokens t ++ rest)) (state (found ++ (Number n, t) ∷ []) [] [] [] 0) rest) (sym spelt)
      (chain (named_taken (Number n) t rest h) given)) then
  type_entity (Called w) t found rest h then =
      let x : Lexeme = local_token (Called w) in
      let spelt : name_in x ≡ w = local_text_in w (and_parts (are_bytes w) _ h.local).0 in
      let verdict : local_by limits s.Local x ≡ Ok (Called w) = ap (λ y. local_by limits y x) (sym (local_text_symbol w)) ∙ local_good limits (Called w) h.local h.short_name in
      entity_read s.Local (state found [] [] [] 0) (state (found ++ (Called w, t) ∷ []) [] [] [] 0) x (local_text_symbol w) (ap (judge_map (λ y. true)) verdict)
      (subst (λ k. Takes (named_type limits (Called k) >>= λ y. give (state (found ++ y ∷ []) [] [] [] 0)) (sign (codes "=") ∷ word_token (codes "type") ∷ (type_tokens t ++ rest)) (state (found ++ (Called w, t) ∷ []) [] [] [] 0) rest) (sym spelt)
      (chain (named_taken (Called w) t rest h) given)) then

  types_read : (ts found : List (Name × Ty)) (rest : List Lexeme) {v : ModuleSoFar} {end : List Lexeme} → NamedsFit ts → Reads (state (found ++ ts) [] [] [] 0) rest v end → Reads (state found [] [] [] 0) (line_tokens (map type_line ts) ++ rest) v end
  unfolding type_line
  types_read [] found rest {v = v} {end = end} h then = subst (λ xs. Reads (state xs [] [] [] 0) rest v end) (append-nil found) then
  types_read (t ∷ ts) found rest {v = v} {end = end} h then =
      along (append_assoc (local_token t.0 ∷ sign (codes "=") ∷ word_token (codes "type") ∷ type_tokens t.1) (line_tokens (map type_line ts)) rest)
      (type_entity t.0 t.1 found (line_tokens (map type_line ts) ++ rest) h.0
      (types_read ts (found ++ t ∷ []) rest h.1 (subst (λ xs. Reads (state xs [] [] [] 0) rest v end) (sym (append_assoc found (t ∷ []) ts)) then)))

  -- ---- globals

  global_body : (x : Name) (constant : Bool) (t : Ty) (g : GlobalVar) (rest : List Lexeme) → g ≡ record { name = x; constant = constant; ty = t; init = g.init } → TypeFits limits (suc limits.depth) t → InitFits limits (suc limits.depth) t g.init → IsFresh rest
      → Takes (global_variable limits x) (sign (codes "=") ∷ word_token (global_word constant) ∷ (type_tokens t ++ (init_tokens t g.init ++ rest))) g rest
  unfolding global_variable
  global_body x constant t g rest e type init fresh =
      let w : Lexeme = word_token (global_word constant) in
      let kind = kind_good constant w in
      chain equals_taken (chain (ended (ap (λ y. Ok (is_attribute_word y)) (global_word_symbol constant) ∙ ap Ok kind.0))
      (chain (taken (ap (λ y. global_kind_by y w) (global_word_symbol constant) ∙ kind.1)) (chain (type_taken limits t (suc limits.depth) _ type) (chain (init_taken limits g.init t (suc limits.depth) rest init)
      (chain (ended (ap Ok fresh.comma)) (valued (sym e) given))))))

  global_begin : (w : Text) (m : Module) → is_global_name (Called w) ≡ true → nat_lt (length w) limits.names ≡ true → length m.globals < limits.globals → global_begins limits m (global_token (Called w)) ≡ Ok true
  global_begin w m h few room =
      let spelt : name_in (global_token (Called w)) ≡ w = global_text_in w (and_parts (are_bytes w) _ h).0 in
      let inner : Verdict Bool = cond (nat_lt (length w) limits.names) (Ok true) (Err (r.Limit limit.Name)) in
      ap (λ text. cond (reserved_global Instrumented text) (Err r.Reserved) (cond (nat_lt (length m.globals) limits.globals) (cond (nat_lt (length text) limits.names) (Ok true) (Err (r.Limit limit.Name))) (Err (r.Limit limit.Globals)))) spelt
      ∙ ap (λ b. cond b (Err r.Reserved) (cond (nat_lt (length m.globals) limits.globals) inner (Err (r.Limit limit.Globals)))) (global_unreserved w h)
      ∙ ap (λ b. cond b inner (Err (r.Limit limit.Globals))) (lt-ltb (length m.globals) limits.globals room)
      ∙ ap (λ b. cond b (Ok true) (Err (r.Limit limit.Name))) few

  global_entity : (x : Name) (types : List (Name × Ty)) (g : GlobalVar) (found : List GlobalVar) (rest : List Lexeme) {v : ModuleSoFar} {end : List Lexeme} → g.name ≡ x → GlobalFits g → length found < limits.globals → IsFresh rest
      → Reads (state types (found ++ g ∷ []) [] [] 0) rest v end → Reads (state types found [] [] 0) (global_token x ∷ sign (codes "=") ∷ word_token (global_word g.constant) ∷ (type_tokens g.ty ++ (init_tokens g.ty g.init ++ rest))) v end
  global_entity (Number n) types g found rest e h room fresh then = let name = subst (λ y. is_global_name y ≡ true) e h.global_name in absurd cc
  global_entity (Called w) types g found rest e h room fresh then =
      let x : Lexeme = global_token (Called w) in
      let name = subst (λ y. is_global_name y ≡ true) e h.global_name in
      let short = subst (λ y. is_below limits.names y ≡ true) e h.short_name in
      let spelt : name_in x ≡ w = global_text_in w (and_parts (are_bytes w) _ name).0 in
      let p : ModuleSoFar = state types found [] [] 0 in
      entity_read s.Global p (state types (found ++ g ∷ []) [] [] 0) x (global_symbol (Called w)) (global_begin w p.«module» name short room)
      (subst (λ k. Takes (global_variable limits (Called k) >>= λ y. give (state types (found ++ y ∷ []) [] [] 0)) (sign (codes "=") ∷ word_token (global_word g.constant) ∷ (type_tokens g.ty ++ (init_tokens g.ty g.init ++ rest))) (state types (found ++ g ∷ []) [] [] 0) rest) (sym spelt)
      (chain (global_body (Called w) g.constant g.ty g rest (ap (λ y. record g { name = y }) e) h.type h.init fresh) given)) then

  fresh_global : (x : Name) → Fresh (global_token x).symbol
  unfolding symbol_of same_symbol
  fresh_global x = record { comma = refl; paren = refl; bracket = refl; attribute = refl }

  globals_fresh : (gs : List GlobalVar) (rest : List Lexeme) → IsFresh rest → IsFresh (line_tokens (map global_line gs) ++ rest)
  unfolding global_line
  globals_fresh [] rest h = h
  globals_fresh (g ∷ gs) rest h = fresh_global g.name

  global_tokens : (g : GlobalVar) (ts : List Lexeme) → (global_token g.name ∷ sign (codes "=") ∷ word_token (global_word g.constant) ∷ (type_tokens g.ty ++ init_tokens g.ty g.init)) ++ ts
      ≡ global_token g.name ∷ sign (codes "=") ∷ word_token (global_word g.constant) ∷ (type_tokens g.ty ++ (init_tokens g.ty g.init ++ ts))
  global_tokens g ts = ap (λ ys. global_token g.name ∷ sign (codes "=") ∷ word_token (global_word g.constant) ∷ ys) (append_assoc (type_tokens g.ty) (init_tokens g.ty g.init) ts)

  globals_read : (types : List (Name × Ty)) (gs found : List GlobalVar) (rest : List Lexeme) {v : ModuleSoFar} {end : List Lexeme} → GlobalsFit gs → length found + length gs ≤ limits.globals → IsFresh rest
      → Reads (state types (found ++ gs) [] [] 0) rest v end → Reads (state types found [] [] 0) (line_tokens (map global_line gs) ++ rest) v end
  unfolding global_line
  globals_read types [] found rest {v = v} {end = end} h few fresh then = subst (λ xs. Reads (state types xs [] [] 0) rest v end) (append-nil found) then
  globals_read types (g ∷ gs) found rest {v = v} {end = end} h few fresh then =
      let later : List Lexeme = line_tokens (map global_line gs) ++ rest in
      along (append_assoc (global_token g.name ∷ sign (codes "=") ∷ word_token (global_word g.constant) ∷ (type_tokens g.ty ++ init_tokens g.ty g.init)) (line_tokens (map global_line gs)) rest ∙ global_tokens g later)
      (global_entity g.name types g found later refl h.0 (omega (arith, few)) (globals_fresh gs rest fresh)
      (globals_read types gs (found ++ g ∷ []) rest h.1 (omega (arith, few, length-append found (g ∷ []))) fresh (subst (λ xs. Reads (state types xs [] [] 0) rest v end) (sym (append_assoc found (g ∷ []) gs)) then)))

  -- ---- declarations

  room_good : (m : Module) → length m.funcs + length m.decls < limits.functions → room_for_function limits m ≡ Ok true
  room_good m h = ap (λ b. cond b (Ok true) (Err (r.Limit limit.Functions))) (lt-ltb (length m.funcs + length m.decls) limits.functions h)

  fresh_declare : Fresh (word_token (codes "declare")).symbol
  unfolding same_symbol
  fresh_declare = rw declare_symbol (record { comma = refl; paren = refl; bracket = refl; attribute = refl })

  fresh_define : Fresh (word_token (codes "define")).symbol
  unfolding same_symbol
  fresh_define = rw define_symbol (record { comma = refl; paren = refl; bracket = refl; attribute = refl })

  decls_fresh : (ds : List Decl) (rest : List Lexeme) → IsFresh rest → IsFresh (line_tokens (map declaration_line ds) ++ rest)
  unfolding declaration_line
  decls_fresh [] rest h = h
  decls_fresh (d ∷ ds) rest h = fresh_declare

  decls_read : (types : List (Name × Ty)) (globals : List GlobalVar) (ds found : List Decl) (rest : List Lexeme) {v : ModuleSoFar} {end : List Lexeme} → DeclsFit ds → length found + length ds ≤ limits.functions → IsFresh rest
      → Reads (state types globals (found ++ ds) [] 0) rest v end → Reads (state types globals found [] 0) (line_tokens (map declaration_line ds) ++ rest) v end
  unfolding declaration_line
  decls_read types globals [] found rest {v = v} {end = end} h few fresh then = subst (λ xs. Reads (state types globals xs [] 0) rest v end) (append-nil found) then
  decls_read types globals (d ∷ ds) found rest {v = v} {end = end} h few fresh then =
      let later : List Lexeme = line_tokens (map declaration_line ds) ++ rest in
      let tokens : List Lexeme = result_tokens d.ret ++ global_token d.name ∷ enclosed (codes "(") (codes ")") (map type_tokens d.params ++ dots (is_dotted d)) in
      let p : ModuleSoFar = state types globals found [] 0 in
      along (append_assoc (word_token (codes "declare") ∷ tokens) (line_tokens (map declaration_line ds)) rest)
      (entity_read s.Declare p (state types globals (found ++ d ∷ []) [] 0) (word_token (codes "declare")) declare_symbol (room_good p.«module» (omega (arith, few)))
      (chain (declaration_taken limits d later h.0 (decls_fresh ds rest fresh)) given)
      (decls_read types globals ds (found ++ d ∷ []) rest h.1 (omega (arith, few, length-append found (d ∷ []))) fresh (subst (λ xs. Reads (state types globals xs [] 0) rest v end) (sym (append_assoc found (d ∷ []) ds)) then)))

  -- ---- functions

  abbrev pub total : ℕ → List Func → ℕ
  total before [] = before
  total before (f ∷ fs) = total (before + instructions_of f.blocks) fs

  funcs_read : (dotted : Bool) (some : 0 < limits.indices) (types : List (Name × Ty)) (globals : List GlobalVar) (decls : List Decl) (fs found : List Func) (count : ℕ) (rest : List Lexeme) {v : ModuleSoFar} {end : List Lexeme} → FuncsFit count fs
      → length found + length fs + length decls ≤ limits.functions
      → Reads (state types globals decls (found ++ fs) (total count fs)) rest v end → Reads (state types globals decls found count) (line_tokens (flat_map (function_lines dotted) fs) ++ rest) v end
  funcs_read dotted some types globals decls [] found count rest {v = v} {end = end} h few then = subst (λ xs. Reads (state types globals decls xs count) rest v end) (append-nil found) then
  funcs_read dotted some types globals decls (f ∷ fs) found count rest {v = v} {end = end} h few then =
      let later : List Lexeme = line_tokens (flat_map (function_lines dotted) fs) ++ rest in
      let p : ModuleSoFar = state types globals decls found count in
      along (ap (λ ys. ys ++ rest) (line_tokens-append (function_lines dotted f) (flat_map (function_lines dotted) fs)) ∙ append_assoc (line_tokens (function_lines dotted f)) (line_tokens (flat_map (function_lines dotted) fs)) rest
      ∙ function_tokens limits dotted f later)
      (entity_read s.Define p (state types globals decls (found ++ f ∷ []) (count + instructions_of f.blocks)) (word_token (codes "define")) define_symbol (room_good p.«module» (omega (arith, few)))
      (chain (function_taken limits some dotted count f later h.0) given)
      (funcs_read dotted some types globals decls fs (found ++ f ∷ []) (count + instructions_of f.blocks) rest h.1 (omega (arith, few, length-append found (f ∷ [])))
      (subst (λ xs. Reads (state types globals decls xs (total count (f ∷ fs))) rest v end) (sym (append_assoc found (f ∷ []) fs)) then)))

  funcs_fresh : (dotted : Bool) (fs : List Func) (rest : List Lexeme) → IsFresh rest → IsFresh (line_tokens (flat_map (function_lines dotted) fs) ++ rest)
  funcs_fresh dotted [] rest h = h
  funcs_fresh dotted (f ∷ fs) rest h =
      let later : List Lexeme = line_tokens (flat_map (function_lines dotted) fs) ++ rest in
      subst (λ ts. Fresh (head end_of_text ts).symbol)
      (sym (ap (λ ys. ys ++ rest) (line_tokens-append (function_lines dotted f) (flat_map (function_lines dotted) fs)) ∙ append_assoc (line_tokens (function_lines dotted f)) (line_tokens (flat_map (function_lines dotted) fs)) rest
      ∙ function_tokens limits dotted f later)) fresh_define

  -- ---- the line of the mark, and the end

  end_read : (p : ModuleSoFar) → Reads p [] p []
  unfolding entity_begins
  end_read p = ended refl

  node_taken : Takes (metadata_entity Instrumented) (sign (codes "=") ∷ sign (codes "!") ∷ sign (codes "{") ∷ sign (codes "}") ∷ []) tt []
  unfolding metadata_entity balanced word symbol_of same_symbol
  node_taken = chain (taken refl) (chain (seen refl) (chain given (by_symbol s.Bang refl (chain (taken refl) (chain (taken refl) (chain (ended refl) (chain given (taken refl))))))))

  node_symbol : (meta_token (codes "!0")).symbol ≡ s.Meta
  unfolding symbol_of
  node_symbol = refl

  mark_read : (marked : Bool) (p : ModuleSoFar) → Reads p (tokens_in (mark_pieces marked)) p []
  unfolding mark_pieces
  mark_read false p = end_read p
  mark_read true p = entity_read s.Meta p p (meta_token (codes "!0")) node_symbol refl (chain node_taken given) (end_read p)

  mark_fresh : (marked : Bool) → IsFresh (tokens_in (mark_pieces marked))
  unfolding mark_pieces same_symbol symbol_of
  mark_fresh false = record { comma = refl; paren = refl; bracket = refl; attribute = refl }
  mark_fresh true = record { comma = refl; paren = refl; bracket = refl; attribute = refl }

  -- ---- modules

  module_tokens : (m : Module) → tokens_in (module_pieces m)
      ≡ line_tokens (map type_line m.types) ++ (line_tokens (map global_line m.globals) ++ (line_tokens (map declaration_line m.decls) ++ (line_tokens (flat_map (function_lines (has_dots m)) m.funcs) ++ tokens_in (mark_pieces (has_mark m)))))
  unfolding module_pieces module_lines
  module_tokens m =
      let types : List Line = map type_line m.types in
      let globals : List Line = map global_line m.globals in
      let decls : List Line = map declaration_line m.decls in
      let funcs : List Line = flat_map (function_lines (has_dots m)) m.funcs in
      let mark : List Lexeme = tokens_in (mark_pieces (has_mark m)) in
      lines_tokens (types ++ (globals ++ (decls ++ funcs))) (mark_pieces (has_mark m))
      ∙ ap (λ ys. ys ++ mark) (line_tokens-append types (globals ++ (decls ++ funcs))) ∙ append_assoc (line_tokens types) (line_tokens (globals ++ (decls ++ funcs))) mark
      ∙ ap (λ ys. line_tokens types ++ ys) (ap (λ ys. ys ++ mark) (line_tokens-append globals (decls ++ funcs)) ∙ append_assoc (line_tokens globals) (line_tokens (decls ++ funcs)) mark
      ∙ ap (λ ys. line_tokens globals ++ ys) (ap (λ ys. ys ++ mark) (line_tokens-append decls funcs) ∙ append_assoc (line_tokens decls) (line_tokens funcs) mark))

  pub module_taken : (m : Module) → ModuleFits m → Takes (module_rule limits) (tokens_in (module_pieces m)) m []
  unfolding module_rule same_symbol
  module_taken m h =
      let mark = mark_fresh (has_mark m) in
      let funcs = funcs_fresh (has_dots m) m.funcs (tokens_in (mark_pieces (has_mark m))) mark in
      let decls = decls_fresh m.decls _ funcs in
      along (module_tokens m)
      (chain (types_read m.types [] _ h.types (globals_read m.types m.globals [] _ h.globals (omega (arith, h.few_globals)) decls
      (decls_read m.types m.globals m.decls [] _ h.decls (omega (arith, h.few_functions)) funcs
      (funcs_read (has_dots m) h.some_indices m.types m.globals m.decls m.funcs [] 0 _ h.funcs (omega (arith, h.few_functions))
      (mark_read (has_mark m) (state m.types m.globals m.decls m.funcs (total 0 m.funcs)))))))
      (chain (seen refl) given))
