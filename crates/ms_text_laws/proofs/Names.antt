-- Names that are read are names as they may stand.
use Rattle.std.proofs.Common.{◌≡◌, ℕ, ◌^◌, Bool, true, false, not, ◌&&◌, ◌||◌, List, Ok, refl, subst}
use Rattle.std.specs.Prelude.{nat_lt, is_some}
use Rattle.std.proofs.lemmas.Bool.{and_from}
use Rattle.ms_lex.specs.Tokens.{Text}
use Rattle.ms_lex.specs.Numbers.{decimal}
use Rattle.ms_lex.specs.Grammar.{head}
use Rattle.ms_ir.specs.declared.syntax.Name.{Name}
use Rattle.ms_ir.specs.declared.syntax.Name.TheVariants as name
use Rattle.ms_ir.specs.Names.{lookup, runtime_functions, slots}
use Rattle.ms_ir.specs.declared.forms.Form.{Form}
use Rattle.ms_ir.specs.declared.forms.Form.TheVariants.{Plain, Instrumented}
use Rattle.ms_text_grammar.specs.declared.symbols.Symbol.{Symbol}
use Rattle.ms_text_grammar.specs.declared.symbols.Symbol.TheVariants as s
use Rattle.ms_text_grammar.specs.Lexemes.{Lexeme, end_of_text, name_in}
use Rattle.ms_text_grammar.specs.Names.{begins_msan, is_inserted, reserved_global, reserved_local, name_fits, text_name, local_name, global_name, number_name, local_by, global_by, local, global}
use Rattle.ms_text_grammar.specs.Texts.{ReadsUpTo}
use Rattle.ms_check_valid.specs.FormedNames.{are_bytes, is_local_name, is_global_name}
use Rattle.ms_text_laws.proofs.Sound.{IsSound, AllSound, sound_head, no_value, same_value, if_good, if_else}

-- ---- reserved names

free : (begins allowed : Bool) → begins ≡ false → (not begins || allowed) ≡ true
free true allowed h = absurd cc
free false allowed h = refl

allowed_local : (begins inserted : Bool) → (begins && not inserted) ≡ false → (not begins || inserted) ≡ true
allowed_local true true h = refl
allowed_local true false h = absurd cc
allowed_local false inserted h = refl

allowed_global : (begins function slot : Bool) → (begins && not (function || slot)) ≡ false → (not begins || function || slot) ≡ true
allowed_global true true slot h = refl
allowed_global true false true h = refl
allowed_global true false false h = absurd cc
allowed_global false true slot h = refl
allowed_global false false true h = refl
allowed_global false false false h = refl

plain_global : (begins function slot : Bool) → begins ≡ false → (not begins || function || slot) ≡ true
plain_global true function slot h = absurd cc
plain_global false true slot h = refl
plain_global false false true h = refl
plain_global false false false h = refl

local_allowed : (form : Form) (text : Text) → reserved_local form text ≡ false → (not (begins_msan text) || is_inserted text) ≡ true
unfolding reserved_local
local_allowed Plain text h = free (begins_msan text) (is_inserted text) h
local_allowed Instrumented text h = allowed_local (begins_msan text) (is_inserted text) h

global_allowed : (form : Form) (text : Text) → reserved_global form text ≡ false
    → (not (begins_msan text) || is_some (lookup runtime_functions (name.Text text)) || is_some (lookup slots (name.Text text))) ≡ true
unfolding reserved_global
global_allowed Plain text h = plain_global (begins_msan text) (is_some (lookup runtime_functions (name.Text text))) (is_some (lookup slots (name.Text text))) h
global_allowed Instrumented text h = allowed_global (begins_msan text) (is_some (lookup runtime_functions (name.Text text))) (is_some (lookup slots (name.Text text))) h

-- ---- verdicts

-- a name that isn't reserved is its text
text_name_is : (reserved : Bool) (text : Text) (n : Name) → text_name reserved text ≡ Ok n → (reserved ≡ false) × (name.Text text ≡ n)
text_name_is reserved text n h =
    let kept = if_else reserved _ _ n h in
    (kept.0, same_value (name.Text text) n (if_good (name_fits text) _ _ n kept.1).1)

pub local_name_formed : (form : Form) (text : Text) (n : Name) → are_bytes text ≡ true → local_name form text ≡ Ok n → is_local_name n ≡ true
local_name_formed form text n bytes h =
    let is = text_name_is (reserved_local form text) text n h in
    subst (λ m. is_local_name m ≡ true) is.1 (and_from (are_bytes text) (not (begins_msan text) || is_inserted text) bytes (local_allowed form text is.0))

pub global_name_formed : (form : Form) (text : Text) (n : Name) → are_bytes text ≡ true → global_name form text ≡ Ok n → is_global_name n ≡ true
global_name_formed form text n bytes h =
    let is = text_name_is (reserved_global form text) text n h in
    subst (λ m. is_global_name m ≡ true) is.1 (and_from (are_bytes text) _ bytes (global_allowed form text is.0))

pub number_name_formed : (k : ℕ) (n : Name) → number_name k ≡ Ok n → is_local_name n ≡ true
number_name_formed k n h =
    let good = if_good (nat_lt k (2 ^ 32)) _ _ n h in
    subst (λ m. is_local_name m ≡ true) (same_value (name.Number k) n good.1) good.0

pub local_by_formed : (form : Form) (x : Symbol) (t : Lexeme) (n : Name) → IsSound t → local_by form x t ≡ Ok n → is_local_name n ≡ true
local_by_formed form s.Local t n sound h = local_name_formed form (name_in t) n sound.bytes h
local_by_formed form s.NumberedLocal t n sound h = number_name_formed (decimal (name_in t)) n h
local_by_formed form x t n sound h = no_value _ n h

pub global_by_formed : (form : Form) (x : Symbol) (t : Lexeme) (n : Name) → IsSound t → global_by form x t ≡ Ok n → is_global_name n ≡ true
global_by_formed form s.Global t n sound h = global_name_formed form (name_in t) n sound.bytes h
global_by_formed form x t n sound h = no_value _ n h

-- ---- names that are used

pub local_formed : (form : Form) (ts : List Lexeme) (v : Name) (rest : List Lexeme) → AllSound ts → ReadsUpTo (local form) ts v rest → is_local_name v ≡ true
unfolding local
local_formed form ts v rest all h = local_by_formed form (head end_of_text ts).symbol (head end_of_text ts) v (sound_head ts all) h.0

pub global_formed : (form : Form) (ts : List Lexeme) (v : Name) (rest : List Lexeme) → AllSound ts → ReadsUpTo (global form) ts v rest → is_global_name v ≡ true
unfolding global
global_formed form ts v rest all h = global_by_formed form (head end_of_text ts).symbol (head end_of_text ts) v (sound_head ts all) h.0
