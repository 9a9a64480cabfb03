-- Calls are read as calls of a function's name with values.
use Rattle.std.proofs.Common.{◌≡◌, Bool, true, false, cond, not, ◌&&◌, ◌||◌, List, [], ◌∷◌, ◌++◌, length, Option, Some, None, Ok, Err, refl, ap, ◌∙◌}
use Rattle.std.specs.Prelude.{codes, nat_lt, is_none}
use Rattle.std.specs.List.{list_all}
use Rattle.std.specs.Str.{bytes_eq}
use Rattle.std.proofs.lemmas.Bool.{and_from}
use Rattle.ms_lex.specs.Tokens.{Text}
use Rattle.ms_ir.specs.declared.syntax.Name.{Name}
use Rattle.ms_ir.specs.declared.syntax.Name.TheVariants as name
use Rattle.ms_ir.specs.declared.syntax.Ty.{Ty}
use Rattle.ms_ir.specs.declared.syntax.Operand.{Operand}
use Rattle.ms_ir.specs.declared.syntax.Op.TheVariants as op
use Rattle.ms_ir.specs.Names.{name_eq, main_name}
use Rattle.ms_ir.specs.declared.forms.Form.{Form}
use Rattle.ms_text_grammar.specs.declared.refusals.Cause.TheVariants as r
use Rattle.ms_text_grammar.specs.declared.refusals.Limit.TheVariants as limit
use Rattle.ms_text_grammar.specs.declared.symbols.Symbol.{Symbol}
use Rattle.ms_text_grammar.specs.declared.symbols.Symbol.TheVariants as s
use Rattle.ms_text_grammar.specs.Lexemes.{Lexeme, name_in}
use Rattle.ms_text_grammar.specs.Names.{reserved_global, name_fits, text_name, global_name}
use Rattle.ms_text_grammar.specs.Types.{value_type_of}
use Rattle.ms_text_grammar.specs.Insts.{Marked, call_type, is_printf, callee_name, callee_by, callee, names_printf, max_parameters, argument, arguments, call_rule}
use Rattle.ms_text_grammar.specs.Bodies.{is_void_call}
use Rattle.ms_text_grammar.specs.Texts.{ReadsUpTo}
use Rattle.ms_check_valid.specs.FormedNames.{is_global_name}
use Rattle.ms_check_valid.specs.FormedCode.{is_value_type, result_formed, operand_formed}
use Rattle.ms_text_laws.proofs.Sound.{IsSound, AllSound, all_pushed, no_value, if_else, if_within}
use Rattle.ms_text_laws.proofs.Names.{global_name_formed}
use Rattle.ms_text_laws.proofs.FormedTypes.{value_type_of_formed, value_is_type}
use Rattle.ms_text_laws.proofs.Yields.{Yields, given, judged, chained, after, listed_yields}
use Rattle.ms_text_laws.proofs.Parts.{IsCall, AllOperands, op_is, value_type_read, result_type_read, value_read}

-- ---- the callee

-- the name of a function other than `main`
abbrev IsCallee : Name → Type 0
IsCallee n = (is_global_name n ≡ true) × (name_eq n main_name ≡ false)

text_is : (reserved : Bool) (text : Text) (n : Name) → text_name reserved text ≡ Ok n → n ≡ name.Text text
text_is true text n h = no_value _ n h
text_is false text n h = fitting (name_fits text) h
  where
    fitting : (b : Bool) → cond b (Ok (name.Text text)) (Err (r.Limit limit.Name)) ≡ Ok n → n ≡ name.Text text
    fitting true e = cc
    fitting false e = no_value _ n e

callee_named : (form : Form) (dotted : Bool) (t : Lexeme) (n : Name) → IsSound t → callee_name form dotted (name_in t) ≡ Ok n → IsCallee n
callee_named form dotted t n sound h =
    let other = if_else (bytes_eq (name_in t) (codes "main")) _ _ n h in
    let written = if_else (dotted && not (is_printf (name_in t))) _ (global_name form (name_in t)) n other.1 in
    let same = text_is (reserved_global form (name_in t)) (name_in t) n written.1 in
    (global_name_formed form (name_in t) n sound.bytes written.1, ap (λ x. name_eq x main_name) same ∙ other.0)

callee_is : (form : Form) (dotted : Bool) (x : Symbol) (t : Lexeme) (n : Name) → IsSound t → callee_by form dotted x t ≡ Ok n → IsCallee n
callee_is form dotted s.Global t n sound h = callee_named form dotted t n sound h
callee_is form dotted x t n sound h = no_value _ n h

callee_read : (form : Form) (dotted : Bool) → Yields (callee form dotted) IsCallee
unfolding callee
callee_read form dotted = judged (λ t n sound h. callee_is form dotted t.symbol t n sound h)

-- ---- arguments

-- values with their types
abbrev AreValues : List (Ty × Operand) → Type 0
AreValues found = (list_all (λ a. is_value_type a.0) found ≡ true) × AllOperands found

value_more : (found : List (Ty × Operand)) (t : Ty) (a : Operand) → AreValues found → is_value_type t ≡ true → operand_formed t a ≡ true → AreValues (found ++ (t, a) ∷ [])
value_more found t a h w p = (all_pushed (λ i. is_value_type i.0) found (t, a) h.0 w, all_pushed (λ i. operand_formed i.0 i.1) found (t, a) h.1 p)

argument_read : (form : Form) (counted : Bool) (found : List (Ty × Operand)) → AreValues found → Yields (argument form counted found) AreValues
unfolding argument
argument_read form counted found h =
    chained {P = λ t. is_value_type t ≡ true}
    (judged (λ t v sound e. value_type_of_formed t v sound (if_within (not counted || nat_lt (length found) max_parameters) limit.Parameters (value_type_of t) v e).1))
    (λ t w. after (λ over. chained (value_read form t (value_is_type t w)) (λ a p. given (value_more found t a h w p))))

arguments_read : (form : Form) (counted : Bool) → Yields (arguments form counted) AreValues
unfolding arguments
arguments_read form counted = listed_yields AreValues s.CloseParen _ (argument form counted) [] (refl, refl) (λ found h. argument_read form counted found h)

-- ---- calls

call_type_read : (named : Bool) → Yields (call_type named) (λ t. result_formed t ≡ true)
call_type_read true = chained value_type_read (λ t w. given w)
call_type_read false = result_type_read

void_is : (ret : Option Ty) (x : Name) (args : List (Ty × Operand)) → is_void_call (op.Call ret x args) ≡ is_none ret
void_is None x args = refl
void_is (Some t) x args = refl

call_is : (ret : Option Ty) (x : Name) (args : List (Ty × Operand)) → result_formed ret ≡ true → IsCallee x → AreValues args → IsCall (op.Call ret x args)
call_is ret x args f g h =
    let named = and_from (result_formed ret) (is_global_name x) f g.0 in
    let other = and_from (result_formed ret && is_global_name x) (not (name_eq x main_name)) named (ap not g.1) in
    let shape = and_from (result_formed ret && is_global_name x && not (name_eq x main_name)) (list_all (λ a. is_value_type a.0) args) other h.0 in
    (op_is (op.Call ret x args) shape h.1 refl, void_is ret x args, refl, refl)

call_yields : (form : Form) (named : Bool) (first : Symbol) → Yields (call_rule form named first) (λ m. IsCall m.0)
unfolding call_rule
call_yields form named first =
    after (λ word. after (λ over. chained (call_type_read named) (λ ret f. after (λ dotted. chained (callee_read form dotted) (λ x g.
    after (λ paren. chained (arguments_read form (names_printf x)) (λ args h. after (λ marked. given (call_is ret x args f g h)))))))))

pub call_read : (form : Form) (named : Bool) (first : Symbol) (ts : List Lexeme) (v : Marked) (rest : List Lexeme) → AllSound ts → ReadsUpTo (call_rule form named first) ts v rest → IsCall v.0
call_read form named first = (call_yields form named first).each
