-- What a piece of the plain form reads, that of the instrumented form reads as the same: the words for it, and names, types and values.
use Rattle.std.proofs.Common.{◌≡◌, ℕ, zero, suc, Bool, true, false, true≢false, cond, ◌&&◌, List, [], ◌∷◌, Ok, Err, refl, sym, subst}
use Rattle.ms_lex.specs.Tokens.{Text}
use Rattle.ms_lex.specs.Grammar.{head, Turns, one, seq, loop}
use Rattle.ms_ir.specs.declared.syntax.Init.{Init}
use Rattle.ms_ir.specs.declared.syntax.Name.{Name}
use Rattle.ms_ir.specs.declared.syntax.Operand.{Operand}
use Rattle.ms_ir.specs.declared.syntax.Ty.{Ty}
use Rattle.ms_ir.specs.declared.forms.Form.TheVariants.{Plain, Instrumented}
use Rattle.ms_text_grammar.specs.declared.refusals.Cause.TheVariants as r
use Rattle.ms_text_grammar.specs.declared.symbols.Symbol.{Symbol}
use Rattle.ms_text_grammar.specs.declared.symbols.Symbol.TheVariants as s
use Rattle.ms_text_grammar.specs.Lexemes.{Lexeme, end_of_text, name_in}
use Rattle.ms_text_grammar.specs.Steps.{Rule, Verdict, judge_map, listed, items}
use Rattle.ms_text_grammar.specs.Names.{reserved_global, reserved_local, begins_msan, local_name, global_name, local_by, global_by, local, global}
use Rattle.ms_text_grammar.specs.Types.{flat, nested, type_to, struct_by, struct_type, array_rest, struct_rest, packed_rest, opens}
use Rattle.ms_text_grammar.specs.Values.{Address, gep_from, base_by, base_to, max_within, offset, simple_by, simple_value, value_by, value_within, flat_init, array_init, struct_init, packed_init, nested_init, init_to}
use Rattle.ms_text_grammar.specs.Texts.{ReadsUpTo}

-- the second piece reads what the first reads, as the same
pub record Under {A : Type 0} (g h : Rule A) : Type 0 where
  pub reads : (ts : List Lexeme) (v : A) (rest : List Lexeme) → ReadsUpTo g ts v rest → ReadsUpTo h ts v rest

pub same : {A : Type 0} {g : Rule A} → Under g g
same = record { reads = λ ts v rest h. h }

pub judged : {A : Type 0} {f g : Lexeme → Verdict A} → ((t : Lexeme) (a : A) → f t ≡ Ok a → g t ≡ Ok a) → Under (one f) (one g)
judged p = record { reads = λ ts v rest h. (p (head end_of_text ts) v h.0, h.1) }

pub next : {A B : Type 0} {g h : Rule A} {k l : A → Rule B} → Under g h → ((a : A) → Under (k a) (l a)) → Under (seq g k) (seq h l)
next p q = record { reads = λ ts v rest h. (h.0, h.1, p.reads ts h.0 h.1 h.2, (q h.0).reads h.1 v rest h.3) }

module _ {S : Type 0} (b c : S → Lexeme → Verdict Bool) (f g : S → Lexeme → Rule S)
    (p : (a : S) (t : Lexeme) (d : Bool) → b a t ≡ Ok d → c a t ≡ Ok d) (q : (a : S) (t : Lexeme) → Under (f a t) (g a t)) where
  turns_under : (n : ℕ) (a : S) (ts : List Lexeme) (v : S) (rest : List Lexeme)
      → Turns b (λ a t. ReadsUpTo (f a t)) n a ts v rest → Turns c (λ a t. ReadsUpTo (g a t)) n a ts v rest
  turns_under zero a [] v rest h = h
  turns_under zero a (t ∷ ts) v rest h = (p a t false h.0, h.1, h.2)
  turns_under (suc n) a [] v rest h = h
  turns_under (suc n) a (t ∷ ts) v rest h = (p a t true h.0, h.1, h.2, (q a t).reads ts h.1 h.2 h.3, turns_under n h.1 h.2 v rest h.4)

pub repeated : {S : Type 0} {b c : S → Lexeme → Verdict Bool} {f g : S → Lexeme → Rule S} {a : S}
    → ((a : S) (t : Lexeme) (d : Bool) → b a t ≡ Ok d → c a t ≡ Ok d) → ((a : S) (t : Lexeme) → Under (f a t) (g a t)) → Under (loop b f a) (loop c g a)
repeated {b = b} {c = c} {f = f} {g = g} {a = a} p q = record { reads = λ ts v rest h. (h.0, turns_under b c f g p q h.0 a ts v rest h.1) }

-- turns that begin alike
pub turning : {S : Type 0} {b : S → Lexeme → Verdict Bool} {f g : S → Lexeme → Rule S} {a : S} → ((a : S) (t : Lexeme) → Under (f a t) (g a t)) → Under (loop b f a) (loop b g a)
turning q = repeated (λ a t d h. h) q

pub either : {A : Type 0} (b : Bool) {g h k l : Rule A} → Under g h → Under k l → Under (cond b g k) (cond b h l)
either true p q = p
either false p q = q

pub listed_under : {S : Type 0} (closing : Symbol) (more : S → Bool) {f g : S → Rule S} (a : S) → ((a : S) → Under (f a) (g a)) → Under (listed closing more f a) (listed closing more g a)
unfolding listed
listed_under closing more a p = next same (λ empty. either empty same (next (p _) (λ first. next (turning (λ state comma. p state)) (λ all. same))))

pub items_under : {A : Type 0} (closing : Symbol) {f g : Rule A} → Under f g → Under (items closing f) (items closing g)
unfolding items
items_under closing p = listed_under closing (λ found. true) [] (λ found. next p (λ a. same))

-- ---- verdicts

pub unreserved_under : {A : Type 0} (p q : Bool) (v : Verdict A) (a : A) → (q ≡ true → p ≡ true) → cond p (Err r.Reserved) v ≡ Ok a → cond q (Err r.Reserved) v ≡ Ok a
unreserved_under true q v a f h = absurd cc
unreserved_under false true v a f h = absurd (true≢false (sym (f refl)))
unreserved_under false false v a f h = h

first_of_both : (a b : Bool) → (a && b) ≡ true → a ≡ true
first_of_both true b h = refl
first_of_both false b h = h

pub local_less : (text : Text) → reserved_local Instrumented text ≡ true → reserved_local Plain text ≡ true
unfolding reserved_local
local_less text h = first_of_both (begins_msan text) _ h

pub global_less : (text : Text) → reserved_global Instrumented text ≡ true → reserved_global Plain text ≡ true
unfolding reserved_global
global_less text h = first_of_both (begins_msan text) _ h

pub mapped_under : {A B : Type 0} (f : A → B) (v w : Verdict A) (b : B) → ((a : A) → v ≡ Ok a → w ≡ Ok a) → judge_map f v ≡ Ok b → judge_map f w ≡ Ok b
mapped_under f (Ok a) w b p h = subst (λ u. judge_map f u ≡ Ok b) (sym (p a refl)) h
mapped_under f (Err e) w b p h = absurd cc

pub local_name_under : (text : Text) (a : Name) → local_name Plain text ≡ Ok a → local_name Instrumented text ≡ Ok a
local_name_under text a h = unreserved_under (reserved_local Plain text) (reserved_local Instrumented text) _ a (local_less text) h

pub global_name_under : (text : Text) (a : Name) → global_name Plain text ≡ Ok a → global_name Instrumented text ≡ Ok a
global_name_under text a h = unreserved_under (reserved_global Plain text) (reserved_global Instrumented text) _ a (global_less text) h

pub local_by_under : (x : Symbol) (t : Lexeme) (a : Name) → local_by Plain x t ≡ Ok a → local_by Instrumented x t ≡ Ok a
local_by_under s.Local t a h = local_name_under (name_in t) a h
local_by_under x t a h = h

pub global_by_under : (x : Symbol) (t : Lexeme) (a : Name) → global_by Plain x t ≡ Ok a → global_by Instrumented x t ≡ Ok a
global_by_under s.Global t a h = global_name_under (name_in t) a h
global_by_under x t a h = h

pub local_under : Under (local Plain) (local Instrumented)
unfolding local
local_under = judged (λ t a h. local_by_under t.symbol t a h)

pub global_under : Under (global Plain) (global Instrumented)
unfolding global
global_under = judged (λ t a h. global_by_under t.symbol t a h)

-- ---- types

flat_under : (x : Symbol) → Under (flat Plain x) (flat Instrumented x)
flat_under s.Local = next local_under (λ n. same)
flat_under s.NumberedLocal = next local_under (λ n. same)
flat_under x = same

array_under : {f g : Rule Ty} → Under f g → Under (array_rest f) (array_rest g)
unfolding array_rest
array_under p = next same (λ n. next same (λ u. next p (λ t. same)))

struct_under : {f g : Rule Ty} → Under f g → Under (struct_rest f) (struct_rest g)
unfolding struct_rest
struct_under p = next (items_under _ p) (λ fields. same)

packed_under : {f g : Rule Ty} → Under f g → Under (packed_rest f) (packed_rest g)
unfolding packed_rest
packed_under p = next same (λ u. next (items_under _ p) (λ fields. same))

nested_under : {f g : Rule Ty} → Under f g → (x : Symbol) → Under (nested Plain f x) (nested Instrumented g x)
nested_under p s.OpenBracket = next same (λ u. array_under p)
nested_under p s.OpenBrace = next same (λ u. struct_under p)
nested_under p s.Less = next same (λ u. packed_under p)
nested_under p x = flat_under x

pub type_under : (depth : ℕ) → Under (type_to Plain depth) (type_to Instrumented depth)
unfolding type_to
type_under zero = next same (λ x. either (opens x) same (flat_under x))
type_under (suc depth) = next same (λ x. nested_under (type_under depth) x)

struct_by_under : (x : Symbol) → Under (struct_by Plain x) (struct_by Instrumented x)
struct_by_under s.OpenBrace = next same (λ u. struct_under (type_under 31))
struct_by_under s.Less = next same (λ u. packed_under (type_under 31))
struct_by_under x = same

pub struct_type_under : Under (struct_type Plain) (struct_type Instrumented)
unfolding struct_type
struct_type_under = next same (λ x. struct_by_under x)

-- ---- values

gep_from_under : (depth : ℕ) {g h : Rule Address} → Under g h → Under (gep_from Plain depth g) (gep_from Instrumented depth h)
unfolding gep_from
gep_from_under depth p = next same (λ u. next same (λ v. next (type_under depth) (λ t. next same (λ w. next same (λ x. next p (λ from. same))))))

base_by_under : {g h : Rule Address} → Under g h → (x : Symbol) → Under (base_by Plain g x) (base_by Instrumented h x)
base_by_under p s.GetElementPtr = p
base_by_under p x = next global_under (λ n. same)

base_under : (depth within : ℕ) → Under (base_to Plain depth within) (base_to Instrumented depth within)
unfolding base_to
base_under depth zero = next same (λ x. base_by_under same x)
base_under depth (suc within) = next same (λ x. base_by_under (next same (λ u. gep_from_under depth (base_under depth within))) x)

offset_under : (depth : ℕ) → Under (offset Plain depth) (offset Instrumented depth)
unfolding offset
offset_under depth = next (gep_from_under depth (base_under depth max_within)) (λ a. same)

simple_by_under : (locals : Bool) (type : Ty) (x : Symbol) (t : Lexeme) (a : Operand) → simple_by Plain locals type x t ≡ Ok a → simple_by Instrumented locals type x t ≡ Ok a
simple_by_under true type s.Local t a h = mapped_under _ (local_by Plain t.symbol t) _ a (local_by_under t.symbol t) h
simple_by_under true type s.NumberedLocal t a h = mapped_under _ (local_by Plain t.symbol t) _ a (local_by_under t.symbol t) h
simple_by_under locals type s.Global t a h = mapped_under _ (global_by Plain t.symbol t) _ a (global_by_under t.symbol t) h
simple_by_under false type x t a h = h
simple_by_under true type x t a h = h

simple_under : (locals : Bool) (type : Ty) → Under (simple_value Plain locals type) (simple_value Instrumented locals type)
unfolding simple_value
simple_under locals type = judged (λ t a h. simple_by_under locals type t.symbol t a h)

value_by_under : (depth : ℕ) (locals : Bool) (type : Ty) (x : Symbol) → Under (value_by Plain depth locals type x) (value_by Instrumented depth locals type x)
value_by_under depth locals type s.GetElementPtr = next same (λ u. offset_under depth)
value_by_under depth locals type x = simple_under locals type

pub value_under : (depth : ℕ) (locals : Bool) (type : Ty) → Under (value_within Plain depth locals type) (value_within Instrumented depth locals type)
unfolding value_within
value_under depth locals type = next same (λ x. value_by_under depth locals type x)

-- ---- initialisers

flat_init_under : (depth : ℕ) (type : Ty) (x : Symbol) → Under (flat_init Plain depth type x) (flat_init Instrumented depth type x)
flat_init_under depth type s.ZeroInitializer = same
flat_init_under depth type s.CText = same
flat_init_under depth type x = next (value_under depth false type) (λ v. same)

array_init_under : {f g : Rule (Ty × Init)} → Under f g → Under (array_init f) (array_init g)
unfolding array_init
array_init_under p = next (items_under _ p) (λ all. same)

struct_init_under : {f g : Rule (Ty × Init)} → Under f g → Under (struct_init f) (struct_init g)
unfolding struct_init
struct_init_under p = next (items_under _ p) (λ all. same)

packed_init_under : {f g : Rule (Ty × Init)} → Under f g → Under (packed_init f) (packed_init g)
unfolding packed_init
packed_init_under p = next same (λ u. next (items_under _ p) (λ all. same))

nested_init_under : {f g : Rule (Ty × Init)} {k l : Rule Init} → Under f g → Under k l → (x : Symbol) → Under (nested_init f k x) (nested_init g l x)
nested_init_under p q s.OpenBracket = next same (λ u. array_init_under p)
nested_init_under p q s.OpenBrace = next same (λ u. struct_init_under p)
nested_init_under p q s.Less = next same (λ u. packed_init_under p)
nested_init_under p q x = q

pub init_under : (depth : ℕ) (type : Ty) → Under (init_to Plain depth type) (init_to Instrumented depth type)
unfolding init_to
init_under zero type = next same (λ x. either (opens x) same (flat_init_under 0 type x))
init_under (suc depth) type =
    next same (λ x. nested_init_under (next (type_under depth) (λ t. next (init_under depth t) (λ i. same))) (flat_init_under (suc depth) type x) x)
