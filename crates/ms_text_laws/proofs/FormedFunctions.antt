-- Declarations and functions that are read are formed.
use Rattle.std.proofs.Common.{◌≡◌, ◌<◌, ℕ, ◌^◌, Bool, true, false, cond, not, ◌&&◌, ◌==◌, nat_lt, List, [], ◌∷◌, map, length, flat_map, Option, Ok, refl, sym, subst, arith}
use Rattle.std.specs.List.{list_all}
use Rattle.std.proofs.lemmas.Bool.{ltb-true, and_parts, and_from}
use Rattle.std.proofs.lemmas.List.{map-append}
use Rattle.ms_lex.specs.Tokens.{Text}
use Rattle.ms_lex.specs.Numbers.{decimal}
use Rattle.ms_lex.specs.Grammar.{head, give, one, look, ◌>>◌}
use Rattle.ms_ir.specs.declared.syntax.Block.{Block}
use Rattle.ms_ir.specs.declared.syntax.Decl.{Decl}
use Rattle.ms_ir.specs.declared.syntax.Func.{Func}
use Rattle.ms_ir.specs.declared.syntax.Name.{Name}
use Rattle.ms_ir.specs.declared.syntax.Name.TheVariants as name
use Rattle.ms_ir.specs.declared.syntax.Ty.{Ty}
use Rattle.ms_ir.specs.declared.forms.Form.{Form}
use Rattle.ms_text_grammar.specs.declared.refusals.Limit.TheVariants as limit
use Rattle.ms_text_grammar.specs.declared.states.BodySoFar.{BodySoFar}
use Rattle.ms_text_grammar.specs.declared.states.Parameters.{Parameters}
use Rattle.ms_text_grammar.specs.declared.symbols.Symbol.{Symbol}
use Rattle.ms_text_grammar.specs.declared.symbols.Symbol.TheVariants as s
use Rattle.ms_text_grammar.specs.Lexemes.{Lexeme, end_of_text, name_in}
use Rattle.ms_text_grammar.specs.Steps.{next_symbol, skip, word}
use Rattle.ms_text_grammar.specs.Names.{global, local_name, reserved_local, name_fits}
use Rattle.ms_text_grammar.specs.Types.{value_type_of, result_type}
use Rattle.ms_text_grammar.specs.Skipped.{attributes, attachments}
use Rattle.ms_text_grammar.specs.Insts.{names_printf, max_parameters}
use Rattle.ms_text_grammar.specs.Functions.{no_parameters, has_room, parameter_type_of, parameter_name_by, parameter_name, next_after, with_parameter, typed_parameter, dots_come, parameter, parameters, linkage, declaration, function_tail, body_after, function}
use Rattle.ms_text_grammar.specs.Texts.{ReadsUpTo}
use Rattle.ms_check_valid.specs.FormedNames.{is_local_name, is_global_name, are_numbered}
use Rattle.ms_check_valid.specs.FormedCode.{is_value_type, result_formed}
use Rattle.ms_check_valid.specs.Formed.{decl_formed, block_formed, func_formed}
use Rattle.ms_ir.specs.Locals.{block_locals, locals}
use Rattle.ms_text_laws.proofs.Sound.{AllSound, sound_head, sound_rest, listed_keeps, all_pushed, same_value, if_good, if_else, if_within}
use Rattle.ms_text_laws.proofs.Names.{local_name_formed, global_formed}
use Rattle.ms_text_laws.proofs.FormedTypes.{value_type_of_formed, result_type_formed}
use Rattle.ms_text_laws.proofs.FormedBodies.{CountsTo, counts_on, counted, next_number, AreFormed, none_kept, blocks_formed}

-- ---- one parameter

-- the name of a parameter, in front of which so many numbers are taken
record IsNamed (number : ℕ) (n : Name) : Type 0 where
  local : is_local_name n ≡ true
  counts : CountsTo number (n ∷ []) (next_after n number)

unnamed : (number : ℕ) (n : Name) → number < 2 ^ 32 → n ≡ name.Number number → IsNamed number n
unnamed number n few e = subst (IsNamed number) (sym e) (record { local = (next_number number few).local; counts = (refl, refl) })

pub text_named : (form : Form) (t : Text) (n : Name) → local_name form t ≡ Ok n → n ≡ name.Text t
text_named form t n h = sym (same_value (name.Text t) n (if_good (name_fits t) _ _ n (if_else (reserved_local form t) _ _ n h).1).1)

module _ (form : Form) (number : ℕ) (few : number < 2 ^ 32) where
  named_by : (x : Symbol) (ts : List Lexeme) (v : Name) (rest : List Lexeme) → AllSound ts → ReadsUpTo (parameter_name_by form number x) ts v rest → IsNamed number v
  named_by s.Local ts v rest all h =
      let t : Lexeme = head end_of_text ts in
      record {
        local = local_name_formed form (name_in t) v (sound_head ts all).bytes h.0;
        counts = subst (λ n. CountsTo number (n ∷ []) (next_after n number)) (sym (text_named form (name_in t) v h.0)) refl;
      }
  named_by s.NumberedLocal ts v rest all h =
      let t : Lexeme = head end_of_text ts in
      unnamed number v few (sym (same_value (name.Number number) v (if_good (decimal (name_in t) == number) _ _ v h.0).1))
  named_by x ts v rest all h = unnamed number v few h.0

  parameter_named : (ts : List Lexeme) (v : Name) (rest : List Lexeme) → AllSound ts → ReadsUpTo (parameter_name form number) ts v rest → IsNamed number v
  unfolding parameter_name
  parameter_named ts v rest all h = named_by h.0 h.1 v rest (sound_rest next_symbol ts h.0 h.1 all h.2) h.3

abbrev is_parameter : Ty × Name → Bool
is_parameter p = is_value_type p.0 && is_local_name p.1

-- what the parameters so far keep
record Kept (ps : Parameters) : Type 0 where
  formed : list_all is_parameter ps.found ≡ true
  counts : CountsTo 0 (map (λ p. p.1) ps.found) ps.next

one_more : (ps : Parameters) (t : Ty) (n : Name) → is_value_type t ≡ true → IsNamed ps.next n → Kept ps → Kept (with_parameter ps t n)
one_more ps t n type h k = record {
  formed = all_pushed is_parameter ps.found (t, n) k.formed (and_from (is_value_type t) (is_local_name n) type h.local);
  counts = subst (λ names. CountsTo 0 names (next_after n ps.next)) (sym (map-append (λ (p : Ty × Name). p.1) ps.found ((t, n) ∷ [])))
      (counts_on 0 (map (λ p. p.1) ps.found) (n ∷ []) ps.next (next_after n ps.next) k.counts h.counts);
}

module _ (form : Form) (dotted : Bool) where
  typed_kept : (ps : Parameters) (ts : List Lexeme) (v : Parameters) (rest : List Lexeme) → AllSound ts → ReadsUpTo (typed_parameter form ps) ts v rest → Kept ps → Kept v
  unfolding typed_parameter
  typed_kept ps ts v rest all h k =
      let typed = if_within (has_room ps) limit.Parameters (value_type_of (head end_of_text ts)) h.0 h.2.0 in
      let room = ltb-true ps.next max_parameters (and_parts (nat_lt (length ps.found) max_parameters) (nat_lt ps.next max_parameters) typed.0).1 in
      let after = sound_rest (one (parameter_type_of ps)) ts h.0 h.1 all h.2 in
      let named = parameter_named form ps.next (omega (arith, room)) h.3.1 h.3.3.0 h.3.3.1 (sound_rest (attributes form) h.1 h.3.0 h.3.1 after h.3.2) h.3.3.2 in
      subst Kept (sym h.3.3.3.0) (one_more ps h.0 h.3.3.0 (value_type_of_formed (head end_of_text ts) h.0 (sound_head ts all) typed.1) named k)

  parameter_kept_by : (dots : Bool) (ps : Parameters) (ts : List Lexeme) (v : Parameters) (rest : List Lexeme) → AllSound ts
      → ReadsUpTo (cond dots (skip >> give (record ps { dots = true })) (typed_parameter form ps)) ts v rest → Kept ps → Kept v
  parameter_kept_by true ps ts v rest all h k = subst Kept (sym h.3.0) (record { formed = k.formed; counts = k.counts })
  parameter_kept_by false ps ts v rest all h k = typed_kept ps ts v rest all h k

  parameter_kept : (ps : Parameters) (ts : List Lexeme) (v : Parameters) (rest : List Lexeme) → AllSound ts → ReadsUpTo (parameter form dotted ps) ts v rest → Kept ps → Kept v
  unfolding parameter
  parameter_kept ps ts v rest all h k = parameter_kept_by h.0 ps h.1 v rest (sound_rest (look (dots_come dotted ps)) ts h.0 h.1 all h.2) h.3 k

  parameters_kept : (ts : List Lexeme) (v : Parameters) (rest : List Lexeme) → AllSound ts → ReadsUpTo (parameters form dotted) ts v rest → Kept v
  unfolding parameters
  parameters_kept ts v rest all h =
      listed_keeps s.CloseParen (λ ps. not ps.dots) (parameter form dotted) Kept parameter_kept no_parameters ts v rest all h (record { formed = refl; counts = refl })

types_among : (found : List (Ty × Name)) → list_all is_parameter found ≡ true → list_all is_value_type (map (λ p. p.0) found) ≡ true
types_among [] h = refl
types_among (p ∷ found) h =
    let parts = and_parts (is_parameter p) (list_all is_parameter found) h in
    and_from (is_value_type p.0) (list_all is_value_type (map (λ q. q.0) found)) (and_parts (is_value_type p.0) (is_local_name p.1) parts.0).0 (types_among found parts.1)

-- ---- declarations

decl_of : (n : Name) (ret : Option Ty) (ps : Parameters) → is_global_name n ≡ true → result_formed ret ≡ true → Kept ps → decl_formed (record { name = n; ret = ret; params = map (λ p. p.0) ps.found }) ≡ true
decl_of n ret ps global result k =
    and_from (is_global_name n && result_formed ret) (list_all is_value_type (map (λ p. p.0) ps.found)) (and_from (is_global_name n) (result_formed ret) global result) (types_among ps.found k.formed)

pub declaration_formed : (form : Form) (ts : List Lexeme) (v : Decl) (rest : List Lexeme) → AllSound ts → ReadsUpTo (declaration form) ts v rest → decl_formed v ≡ true
unfolding declaration
declaration_formed form ts v rest all h =
    let at_linkage = sound_rest (attachments form) ts h.0 h.1 all h.2 in
    let at_result = sound_rest (linkage form) h.1 h.3.0 h.3.1 at_linkage h.3.2 in
    let at_name = sound_rest result_type h.3.1 h.3.3.0 h.3.3.1 at_result h.3.3.2 in
    let n : Name = h.3.3.3.0 in
    let at_paren = sound_rest (global form) h.3.3.1 n h.3.3.3.1 at_name h.3.3.3.2 in
    let at_parameters = sound_rest (word s.OpenParen) h.3.3.3.1 h.3.3.3.3.0 h.3.3.3.3.1 at_paren h.3.3.3.3.2 in
    let ps : Parameters = h.3.3.3.3.3.0 in
    let kept = parameters_kept form (names_printf n) h.3.3.3.3.1 ps h.3.3.3.3.3.1 at_parameters h.3.3.3.3.3.2 in
    subst (λ d. decl_formed d ≡ true) (sym h.3.3.3.3.3.3.3.0)
    (decl_of n h.3.3.0 ps (global_formed form h.3.3.1 n h.3.3.3.1 at_name h.3.3.3.2) (result_type_formed h.3.1 h.3.3.0 h.3.3.1 at_result h.3.3.2) kept)

-- ---- functions

abbrev func : Name → Option Ty → Parameters → List Block → Func
func n ret ps bs = record { name = n; ret = ret; params = ps.found; blocks = bs }

func_of : (n : Name) (ret : Option Ty) (ps : Parameters) (bs : List Block) → is_global_name n ≡ true → result_formed ret ≡ true → Kept ps → AreFormed ps.next bs → func_formed (func n ret ps bs) ≡ true
func_of n ret ps bs global result k h =
    let f : Func = func n ret ps bs in
    let numbers : are_numbered (locals f) ≡ true =
    counted 0 (locals f) h.last (counts_on 0 (map (λ p. p.1) ps.found) (flat_map block_locals bs) ps.next h.last k.counts h.counts) in
    let named = and_from (is_global_name n) (result_formed ret) global result in
    let params = and_from (is_global_name n && result_formed ret) (list_all is_parameter ps.found) named k.formed in
    let some = and_from (is_global_name n && result_formed ret && list_all is_parameter ps.found) (nat_lt 0 (length bs)) params h.some in
    let blocks = and_from (is_global_name n && result_formed ret && list_all is_parameter ps.found && nat_lt 0 (length bs)) (list_all block_formed bs) some h.formed in
    and_from (is_global_name n && result_formed ret && list_all is_parameter ps.found && nat_lt 0 (length bs) && list_all block_formed bs) (are_numbered (locals f)) blocks numbers

pub function_formed : (form : Form) (before : ℕ) (ts : List Lexeme) (f : Func) (rest : List Lexeme) → AllSound ts → ReadsUpTo (function form before) ts f rest → func_formed f ≡ true
unfolding function
function_formed form before ts f rest all h =
    let at_result = sound_rest (linkage form) ts h.0 h.1 all h.2 in
    let at_name = sound_rest result_type h.1 h.3.0 h.3.1 at_result h.3.2 in
    let n : Name = h.3.3.0 in
    let at_paren = sound_rest (global form) h.3.1 n h.3.3.1 at_name h.3.3.2 in
    let at_parameters = sound_rest (word s.OpenParen) h.3.3.1 h.3.3.3.0 h.3.3.3.1 at_paren h.3.3.3.2 in
    let ps : Parameters = h.3.3.3.3.0 in
    let at_tail = sound_rest (parameters form false) h.3.3.3.1 ps h.3.3.3.3.1 at_parameters h.3.3.3.3.2 in
    let at_brace = sound_rest (function_tail form) h.3.3.3.3.1 h.3.3.3.3.3.0 h.3.3.3.3.3.1 at_tail h.3.3.3.3.3.2 in
    let at_blocks = sound_rest (word s.OpenBrace) h.3.3.3.3.3.1 h.3.3.3.3.3.3.0 h.3.3.3.3.3.3.1 at_brace h.3.3.3.3.3.3.2 in
    let after = h.3.3.3.3.3.3.3 in
    let start : BodySoFar = body_after ps before in
    let formed = blocks_formed form ps.next start h.3.3.3.3.3.3.1 after.0 after.1 (none_kept ps.next start refl refl refl) at_blocks after.2 in
    let kept = parameters_kept form false h.3.3.3.1 ps h.3.3.3.3.1 at_parameters h.3.3.3.3.2 in
    subst (λ g. func_formed g ≡ true) (sym after.3.0)
    (func_of n h.3.0 ps after.0 (global_formed form h.3.1 n h.3.3.1 at_name h.3.3.2) (result_type_formed h.1 h.3.0 h.3.1 at_result h.3.2) kept formed)
