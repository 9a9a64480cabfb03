-- What every function and every module that is read keeps of the limits.
use Rattle.std.proofs.Common.{◌≡◌, ◌≤◌, ◌<◌, ℕ, zero, suc, ◌+◌, Bool, true, false, true≢false, cond, ltb, not, ◌&&◌, List, [], ◌∷◌, ◌++◌, length, Option, Some, None, Result, Ok, Err, refl, ◌∙◌, sym, subst, ap, arith}
use Rattle.std.proofs.lemmas.Bool.{ltb-true}
use Rattle.ms_bits.specs.declared.operations.BinOp.{BinOp}
use Rattle.ms_bits.specs.declared.operations.CastOp.{CastOp}
use Rattle.ms_lex.specs.Tokens.{Text}
use Rattle.ms_lex.specs.Grammar.{Turns, give, ◌>>◌}
use Rattle.ms_ir.specs.declared.syntax.Block.{Block}
use Rattle.ms_ir.specs.declared.syntax.Decl.{Decl}
use Rattle.ms_ir.specs.declared.syntax.Func.{Func}
use Rattle.ms_ir.specs.declared.syntax.GlobalVar.{GlobalVar}
use Rattle.ms_ir.specs.declared.syntax.Inst.{Inst}
use Rattle.ms_ir.specs.declared.syntax.Module.{Module}
use Rattle.ms_ir.specs.declared.syntax.Name.{Name}
use Rattle.ms_ir.specs.declared.syntax.Name.TheVariants as name
use Rattle.ms_ir.specs.declared.syntax.Op.{Op}
use Rattle.ms_ir.specs.declared.forms.Form.{Form}
use Rattle.ms_text_grammar.specs.declared.refusals.Cause.{Cause}
use Rattle.ms_text_grammar.specs.declared.states.BodySoFar.{BodySoFar}
use Rattle.ms_text_grammar.specs.declared.states.ModuleSoFar.{ModuleSoFar}
use Rattle.ms_text_grammar.specs.declared.symbols.Symbol.{Symbol}
use Rattle.ms_text_grammar.specs.declared.symbols.Symbol.TheVariants as s
use Rattle.ms_text_grammar.specs.Lexemes.{Lexeme}
use Rattle.ms_text_grammar.specs.Steps.{Rule, refuse, word, binary_op, cast_op}
use Rattle.ms_text_grammar.specs.Insts.{Marked}
use Rattle.ms_text_grammar.specs.Bodies.{is_open, opened, opened_as, opened_by, max_instructions, name_or, line_begins, line_begins_by, begins_instruction, with_value, with_effect, with_end, with_call, is_void_call}
use Rattle.ms_text_grammar.specs.Lines.{value_line, marked_line, phi_line, call_line, effect_line, end_line, instruction_by, operation_by, instruction, named_line, record_line, line_by, line, is_whole, blocks}
use Rattle.ms_text_grammar.specs.Functions.{body_after, function}
use Rattle.ms_text_grammar.specs.Modules.{instructions_of, max_functions, max_globals, entity_begins, entity_begins_by, entity, entity_by, with_global, with_declaration, with_function, no_parts, module_rule}
use Rattle.ms_text_grammar.specs.Texts.{Reads, ReadsUpTo}
use Rattle.ms_text_grammar.specs.Bounds.{instructions_among, WithinLimits}

pub no_value : {A E : Type 0} (e : E) (a : A) → ◌≡◌ {A = Result A E} (Err e) (Ok a) → ⊥
no_value e a h = cc

-- ---- how many instructions stand in a body

pub length_more : {A : Type 0} (xs : List A) (x : A) → length (xs ++ x ∷ []) ≡ length xs + 1
length_more [] x = omega arith
length_more (y ∷ xs) x = let rest = length_more xs x in omega (arith, rest)

instructions_more : (bs : List Block) (b : Block) → instructions_of (bs ++ b ∷ []) ≡ instructions_of bs + length b.insts
instructions_more [] b = omega arith
instructions_more (c ∷ bs) b = let rest = instructions_more bs b in omega (arith, rest)

abbrev pub inside : BodySoFar → ℕ
inside b = instructions_of b.blocks + length b.insts

-- before a body, and within it, stand as many instructions as it counts, and those are not too many
pub record Kept (form : Form) (before : ℕ) (b : BodySoFar) : Type 0 where
  pub all : before + inside b ≡ b.count
  pub few : b.count ≤ max_instructions form
  pub closed : is_open b.name ≡ false → length b.insts ≡ 0

-- one instruction more
pub record Grown (a b : BodySoFar) : Type 0 where
  pub more : inside b ≡ inside a + 1
  pub count : b.count ≡ a.count + 1
  pub ended : is_open b.name ≡ false → length b.insts ≡ 0

module _ (a : BodySoFar) (open_here : is_open a.name ≡ true) where
  not_closed : {A : Type 0} → is_open a.name ≡ false → A
  not_closed h = absurd (true≢false (sym open_here ∙ h))

  value_grows : (result : Option Name) (phis : Bool) (m : Marked) → Grown a (with_value a result phis m)
  value_grows result phis m =
      let e = length_more {A = Inst} a.insts (record { op = m.0; result = Some (name_or result a.next); marked = m.1 }) in
      record { more = omega (arith, e); count = refl; ended = λ h. not_closed h }

  effect_grows : (m : Marked) → Grown a (with_effect a m)
  effect_grows m =
      let e = length_more {A = Inst} a.insts (record { op = m.0; result = None; marked = m.1 }) in
      record { more = omega (arith, e); count = refl; ended = λ h. not_closed h }

  end_grows : (m : Marked) → Grown a (with_end a m)
  end_grows m =
      let last : Inst = record { op = m.0; result = None; marked = m.1 } in
      let e = length_more a.insts last in
      let d = instructions_more a.blocks (record { name = name_or a.name 0; insts = a.insts ++ last ∷ [] }) in
      record { more = omega (arith, e, d); count = refl; ended = λ h. refl }

  call_grows_by : (b : Bool) (result : Option Name) (m : Marked) → Grown a (cond b (with_effect a m) (with_value a result false m))
  call_grows_by true result m = effect_grows m
  call_grows_by false result m = value_grows result false m

  call_grows : (result : Option Name) (m : Marked) → Grown a (with_call a result m)
  call_grows result m = call_grows_by (is_void_call m.0) result m

  -- ---- one line

  module _ (form : Form) (ts : List Lexeme) (v : BodySoFar) (rest : List Lexeme) where
    value_line_grows : (result : Option Name) (rule : Rule Op) → ReadsUpTo (value_line form a result rule) ts v rest → Grown a v
    unfolding value_line
    value_line_grows result rule h = subst (Grown a) (sym h.3.0) (value_grows result false h.0)

    marked_line_grows : (result : Option Name) (rule : Rule Marked) → ReadsUpTo (marked_line a result rule) ts v rest → Grown a v
    unfolding marked_line
    marked_line_grows result rule h = subst (Grown a) (sym h.3.0) (value_grows result false h.0)

    phi_line_grows : (result : Option Name) → ReadsUpTo (phi_line form a result) ts v rest → Grown a v
    unfolding phi_line
    phi_line_grows result h = subst (Grown a) (sym h.3.0) (value_grows result true h.0)

    call_line_grows : (result : Option Name) (first : Symbol) → ReadsUpTo (call_line form a result first) ts v rest → Grown a v
    unfolding call_line
    call_line_grows result first h = subst (Grown a) (sym h.3.0) (call_grows result h.0)

    effect_line_grows : (rule : Rule Op) → ReadsUpTo (effect_line form a rule) ts v rest → Grown a v
    unfolding effect_line
    effect_line_grows rule h = subst (Grown a) (sym h.3.0) (effect_grows h.0)

    end_line_grows : (rule : Rule Op) → ReadsUpTo (end_line form a rule) ts v rest → Grown a v
    unfolding end_line
    end_line_grows rule h = subst (Grown a) (sym h.3.0) (end_grows h.0)

    by_word : (result : Option Name) (x : Symbol) → ReadsUpTo (instruction_by form a result x) ts v rest → Grown a v
    by_word result s.Phi h = phi_line_grows result h
    by_word result s.Icmp h = value_line_grows result _ h
    by_word result s.Select h = value_line_grows result _ h
    by_word result s.Freeze h = value_line_grows result _ h
    by_word result s.Alloca h = marked_line_grows result _ h
    by_word result s.Load h = value_line_grows result _ h
    by_word result s.Store h = effect_line_grows _ h
    by_word result s.GetElementPtr h = marked_line_grows result _ h
    by_word result s.Tail h = call_line_grows result _ h
    by_word result s.MustTail h = call_line_grows result _ h
    by_word result s.NoTail h = call_line_grows result _ h
    by_word result s.Call h = call_line_grows result _ h
    by_word result s.Br h = end_line_grows _ h
    by_word result s.Switch h = end_line_grows _ h
    by_word result s.Ret h = end_line_grows _ h
    by_word result s.Unreachable h = end_line_grows _ h
    by_word result x h = absurd (no_value _ v h.0)

    by_operation : (result : Option Name) (x : Symbol) (b : Option BinOp) (c : Option CastOp) → ReadsUpTo (operation_by form a result x b c) ts v rest → Grown a v
    by_operation result x (Some b) c h = value_line_grows result _ h
    by_operation result x None (Some c) h = value_line_grows result _ h
    by_operation result x None None h = by_word result x h

    pub instruction_grows : (result : Option Name) (x : Symbol) → ReadsUpTo (instruction form a result x) ts v rest → Grown a v
    unfolding instruction
    instruction_grows result x h = by_operation result x (binary_op x) (cast_op x) h

pub named_line_grows : (form : Form) (a : BodySoFar) (open_here : is_open a.name ≡ true) (n : Name) (ts : List Lexeme) (v : BodySoFar) (rest : List Lexeme)
    → ReadsUpTo (named_line form a n) ts v rest → Grown a v
unfolding named_line
named_line_grows form a o n ts v rest h = instruction_grows a o form h.3.1 v rest (Some n) h.3.0 h.3.3

pub record_line_is : (form : Form) (a : BodySoFar) (ts : List Lexeme) (v : BodySoFar) (rest : List Lexeme) → ReadsUpTo (record_line form a) ts v rest → v ≡ a
unfolding record_line
record_line_is form a ts v rest h = h.3.3.0

-- ---- what a line keeps

module _ (form : Form) (before : ℕ) where
  -- a label or an unlabelled block opens where none is open
  opens_kept : (b : BodySoFar) (n : Name) (k : ℕ) → is_open b.name ≡ false → Kept form before b → Kept form before (opened_as b n k)
  opens_kept b n k shut h =
      let empty = h.closed shut in
      let whole = h.all in
      record { all = omega (arith, empty, whole); few = h.few; closed = λ e. refl }

  open_kept_by : (b : BodySoFar) (n : Option Name) → b.name ≡ n → Kept form before b → Kept form before (opened_by n b) × (is_open (opened_by n b).name ≡ true)
  open_kept_by b (Some n) e h = (h, ap is_open e)
  open_kept_by b None e h = (opens_kept b (name.Number b.next) 1 (ap is_open e) h, refl)

  open_kept : (b : BodySoFar) → Kept form before b → Kept form before (opened b) × (is_open (opened b).name ≡ true)
  unfolding opened
  open_kept b h = open_kept_by b b.name refl h

  open_count_by : (b : BodySoFar) (n : Option Name) → (opened_by n b).count ≡ b.count
  open_count_by b (Some n) = refl
  open_count_by b None = refl

  open_count : (b : BodySoFar) → (opened b).count ≡ b.count
  unfolding opened
  open_count b = open_count_by b b.name

  -- there is room for one more
  grown_kept : (a b : BodySoFar) → Kept form before a → a.count < max_instructions form → Grown a b → Kept form before b
  grown_kept a b h room g =
      let whole = h.all in
      let more = g.more in
      let count = g.count in
      record { all = omega (arith, whole, more, count); few = omega (arith, room, count); closed = g.ended }

-- ---- which lines begin

shut : (b : Bool) (v : Result Bool Cause) → cond b (Ok false) v ≡ Ok true → b ≡ false
shut true v h = absurd cc
shut false v h = refl

if_else : (b : Bool) (e : Cause) (v : Result Bool Cause) → cond b (Err e) v ≡ Ok true → v ≡ Ok true
if_else true e v h = absurd cc
if_else false e v h = h

if_good : (b : Bool) (e : Cause) (v : Result Bool Cause) → cond b v (Err e) ≡ Ok true → (b ≡ true) × (v ≡ Ok true)
if_good true e v h = (refl, h)
if_good false e v h = absurd cc

if_goes : (b : Bool) (v : Result Bool Cause) → cond b v (Ok false) ≡ Ok true → v ≡ Ok true
if_goes true v h = h
if_goes false v h = absurd cc

module _ (form : Form) (before : ℕ) (b : BodySoFar) (k : Kept form before b) (t : Lexeme) (ts : List Lexeme) (v : BodySoFar) (rest : List Lexeme) where
  room : ltb b.count (max_instructions form) ≡ true → (opened b).count < max_instructions form
  room e =
      let less = ltb-true b.count (max_instructions form) e in
      let same = open_count form before b in
      omega (arith, less, same)

  by_growth : ltb b.count (max_instructions form) ≡ true → Grown (opened b) v → Kept form before v
  by_growth e g = grown_kept form before (opened b) v (open_kept form before b k).0 (room e) g

  by_instruction : (x : Symbol) → ltb b.count (max_instructions form) ≡ true → ReadsUpTo (instruction form (opened b) None x) ts v rest → Kept form before v
  by_instruction x e h = by_growth e (instruction_grows (opened b) (open_kept form before b k).1 form ts v rest None x h)

  by_name : (n : Name) → ltb b.count (max_instructions form) ≡ true → ReadsUpTo (named_line form (opened b) n) ts v rest → Kept form before v
  by_name n e h = by_growth e (named_line_grows form (opened b) (open_kept form before b k).1 n ts v rest h)

  line_kept_by : (x : Symbol) → line_begins_by form b x t ≡ Ok true → ReadsUpTo (line_by form b x t) ts v rest → Kept form before v
  line_kept_by s.Label g h = subst (Kept form before) (sym h.0) (opens_kept form before b _ 0 (shut (is_open b.name) _ g) k)
  line_kept_by s.NumberedLabel g h = subst (Kept form before) (sym h.0) (opens_kept form before b _ 1 (shut (is_open b.name) _ g) k)
  line_kept_by s.DebugGroup g h = subst (Kept form before) (sym (record_line_is form (opened b) ts v rest h)) (open_kept form before b k).0
  line_kept_by s.Local g h = by_name _ (if_good (ltb b.count (max_instructions form)) _ _ (if_else _ _ _ g)).0 h
  line_kept_by s.NumberedLocal g h = by_name _ (if_good (ltb b.count (max_instructions form)) _ _ (if_good _ _ _ g).1).0 h
  line_kept_by s.Phi g h = by_instruction s.Phi (if_good (ltb b.count (max_instructions form)) _ _ (if_goes _ _ g)).0 h
  line_kept_by x g h = by_instruction x (if_good (ltb b.count (max_instructions form)) _ _ (if_goes (begins_instruction x) _ g)).0 h

  pub line_kept : line_begins form b t ≡ Ok true → ReadsUpTo (line form b t) ts v rest → Kept form before v
  unfolding line_begins line
  line_kept g h = line_kept_by t.symbol (if_good _ _ _ g).1 h

-- ---- turns keep what each of them keeps

module _ {S : Type 0} (begins : S → Lexeme → Result Bool Cause) (R : S → Lexeme → List Lexeme → S → List Lexeme → Type 0) (P : S → Type 0)
    (keep : (a : S) (t : Lexeme) (ts : List Lexeme) (v : S) (rest : List Lexeme) → begins a t ≡ Ok true → R a t ts v rest → P a → P v) where
  pub turns_kept : (n : ℕ) (a : S) (ts : List Lexeme) (v : S) (rest : List Lexeme) → Turns begins R n a ts v rest → P a → P v
  turns_kept zero a ts v rest h p = subst P (sym h.1) p
  turns_kept (suc n) a [] v rest h p = absurd h
  turns_kept (suc n) a (t ∷ ts) v rest h p = turns_kept n h.1 h.2 v rest h.4 (keep a t ts h.1 h.2 h.0 h.3 p)

-- ---- functions

pub blocks_end : (b : Bool) (body : BodySoFar) (mid : List Lexeme) (v : List Block) (rest : List Lexeme)
    → ReadsUpTo (cond b (word s.CloseBrace >> give body.blocks) refuse) mid v rest → (b ≡ true) × (v ≡ body.blocks)
blocks_end true body mid v rest h = (refl, h.3.0)
blocks_end false body mid v rest h = absurd (no_value _ v h.0)

pub not_open : (a b : Bool) → (not a && b) ≡ true → a ≡ false
not_open true b h = absurd (true≢false (sym h))
not_open false b h = refl

blocks_bound : (form : Form) (before : ℕ) (start : BodySoFar) (ts : List Lexeme) (v : List Block) (rest : List Lexeme)
    → Kept form before start → ReadsUpTo (blocks form start) ts v rest → before + instructions_of v ≤ max_instructions form
unfolding blocks
blocks_bound form before start ts v rest k h =
    let body = h.0 in
    let kept = turns_kept (line_begins form) (λ b t. ReadsUpTo (line form b t)) (Kept form before)
    (λ b t us w others g r p. line_kept form before b p t us w others g r) h.2.0 start ts body h.1 h.2.1 k in
    let end = blocks_end (is_whole body) body h.1 v rest h.3 in
    let empty = kept.closed (not_open (is_open body.name) _ end.0) in
    let whole = kept.all in
    let few = kept.few in
    let same = ap instructions_of end.1 in
    omega (arith, empty, whole, few, same)

pub function_bound : (form : Form) (before : ℕ) (ts : List Lexeme) (f : Func) (rest : List Lexeme)
    → before ≤ max_instructions form → ReadsUpTo (function form before) ts f rest → before + instructions_of f.blocks ≤ max_instructions form
unfolding function
function_bound form before ts f rest small h =
    let after = h.3.3.3.3.3.3.3 in
    let start : Kept form before (body_after h.3.3.3.3.0 before) = record { all = omega arith; few = small; closed = λ e. refl } in
    let bound = blocks_bound form before (body_after h.3.3.3.3.0 before) h.3.3.3.3.3.3.1 after.0 after.1 start after.2 in
    let same = ap (λ g. instructions_of g.blocks) after.3.0 in
    omega (arith, bound, same)

-- ---- modules

among_more : (fs : List Func) (f : Func) → instructions_among (fs ++ f ∷ []) ≡ instructions_among fs + instructions_of f.blocks
among_more [] f = omega arith
among_more (g ∷ fs) f = let rest = among_more fs f in omega (arith, rest)

-- what the entities so far keep
pub record KeptParts (form : Form) (p : ModuleSoFar) : Type 0 where
  pub all : instructions_among p.«module».funcs ≡ p.count
  pub bounds : WithinLimits form p.«module»

module _ (form : Form) (p : ModuleSoFar) (k : KeptParts form p) where
  global_kept : (g : GlobalVar) → length p.«module».globals < max_globals → KeptParts form (with_global p g)
  global_kept g room =
      let e = length_more p.«module».globals g in
      record { all = k.all; bounds = record { instructions = k.bounds.instructions; functions = k.bounds.functions; globals = omega (arith, e, room) } }

  declaration_kept : (d : Decl) → length p.«module».funcs + length p.«module».decls < max_functions → KeptParts form (with_declaration p d)
  declaration_kept d room =
      let e = length_more p.«module».decls d in
      record { all = k.all; bounds = record { instructions = k.bounds.instructions; functions = omega (arith, e, room); globals = k.bounds.globals } }

  function_kept : (f : Func) → length p.«module».funcs + length p.«module».decls < max_functions → p.count + instructions_of f.blocks ≤ max_instructions form
      → KeptParts form (with_function p f)
  function_kept f room few =
      let e = length_more p.«module».funcs f in
      let among = among_more p.«module».funcs f in
      let whole = k.all in
      record { all = omega (arith, among, whole); bounds = record { instructions = omega (arith, among, whole, few); functions = omega (arith, e, room); globals = k.bounds.globals } }

  pub few_here : p.count ≤ max_instructions form
  few_here =
      let whole = k.all in
      let few = k.bounds.instructions in
      omega (arith, whole, few)

  module _ (t : Lexeme) (ts : List Lexeme) (v : ModuleSoFar) (rest : List Lexeme) where
    same_kept : v ≡ p → KeptParts form v
    same_kept e = subst (KeptParts form) (sym e) k

    entity_kept_by : (x : Symbol) → entity_begins_by form p.«module» x t ≡ Ok true → ReadsUpTo (entity_by form p x t) ts v rest → KeptParts form v
    entity_kept_by s.SourceFilename g h = same_kept h.3.0
    entity_kept_by s.Target g h = same_kept h.3.0
    entity_kept_by s.Attributes g h = same_kept h.3.0
    entity_kept_by s.Local g h = subst (KeptParts form) (sym h.3.0) (record { all = k.all; bounds = record { instructions = k.bounds.instructions; functions = k.bounds.functions; globals = k.bounds.globals } })
    entity_kept_by s.NumberedLocal g h = subst (KeptParts form) (sym h.3.0) (record { all = k.all; bounds = record { instructions = k.bounds.instructions; functions = k.bounds.functions; globals = k.bounds.globals } })
    entity_kept_by s.Global g h =
        subst (KeptParts form) (sym h.3.0) (global_kept h.0 (ltb-true _ _ (if_good (ltb (length p.«module».globals) max_globals) _ _ (if_else _ _ _ g)).0))
    entity_kept_by s.Declare g h =
        subst (KeptParts form) (sym h.3.0) (declaration_kept h.0 (ltb-true _ _ (if_good (ltb (length p.«module».funcs + length p.«module».decls) max_functions) _ _ g).0))
    entity_kept_by s.Define g h =
        subst (KeptParts form) (sym h.3.0)
        (function_kept h.0 (ltb-true _ _ (if_good (ltb (length p.«module».funcs + length p.«module».decls) max_functions) _ _ g).0) (function_bound form p.count ts h.0 h.1 few_here h.2))
    entity_kept_by x g h = same_kept h.3.0

    pub entity_kept : entity_begins form p t ≡ Ok true → ReadsUpTo (entity form p t) ts v rest → KeptParts form v
    unfolding entity_begins entity
    entity_kept g h = entity_kept_by t.symbol g h

module_bound : (form : Form) (ts : List Lexeme) (m : Module) (rest : List Lexeme) → ReadsUpTo (module_rule form) ts m rest → WithinLimits form m
unfolding module_rule
module_bound form ts m rest h =
    let none : KeptParts form no_parts = record { all = refl; bounds = record { instructions = omega arith; functions = omega arith; globals = omega arith } } in
    let kept = turns_kept (entity_begins form) (λ p t. ReadsUpTo (entity form p t)) (KeptParts form)
    (λ p t us v others g r k. entity_kept form p k t us v others g r) h.2.0 no_parts ts h.0 h.1 h.2.1 none in
    subst (WithinLimits form) (sym h.3.3.0) kept.bounds

pub module_within : (form : Form) (text : Text) (m : Module) → Reads form text m → WithinLimits form m
module_within form text m h = module_bound form _ m [] h.2
