-- A type's name that may stand is the one that its token is.
use Rattle.std.proofs.Common.{◌≡◌, ◌^◌, ℕ, Bool, true, false, cond, nat_lt, Ok, Err}
use Rattle.ms_lex.specs.Tokens.{Text}
use Rattle.ms_lex.specs.Numbers.{decimal}
use Rattle.ms_ir.specs.declared.syntax.Name.{Name}
use Rattle.ms_ir.specs.declared.syntax.Name.TheVariants as name
use Rattle.ms_ir.specs.declared.forms.Form.{Form}
use Rattle.ms_text_grammar.specs.declared.refusals.Cause.{Cause}
use Rattle.ms_text_grammar.specs.declared.refusals.Cause.TheVariants as r
use Rattle.ms_text_grammar.specs.declared.refusals.Limit.TheVariants as limit
use Rattle.ms_text_grammar.specs.declared.symbols.Symbol.{Symbol}
use Rattle.ms_text_grammar.specs.declared.symbols.Symbol.TheVariants as s
use Rattle.ms_text_grammar.specs.Lexemes.{Lexeme, name_in}
use Rattle.ms_text_grammar.specs.Steps.{Verdict, judge_map}
use Rattle.ms_text_grammar.specs.Names.{local_by, name_fits, reserved_local}
use Rattle.ms_read_top.specs.TypeNames.{type_name}

named_by : Bool → Bool → Text → Verdict Name
named_by reserved fits text = cond reserved (Err r.Reserved) (cond fits (Ok (name.Text text)) (Err (r.Limit limit.Name)))

text_is : (reserved fits : Bool) (text : Text) (n : Name) → named_by reserved fits text ≡ Ok n → n ≡ name.Text text
unfolding named_by
text_is true fits text n h = absurd cc
text_is false true text n h = cc
text_is false false text n h = absurd cc

numbered_by : Bool → ℕ → Verdict Name
numbered_by small k = cond small (Ok (name.Number k)) (Err r.Numbering)

number_is : (small : Bool) (k : ℕ) (n : Name) → numbered_by small k ≡ Ok n → n ≡ name.Number k
unfolding numbered_by
number_is true k n h = cc
number_is false k n h = absurd cc

no_name : (e : Cause) (n : Name) → ◌≡◌ {A = Verdict Name} (Err e) (Ok n) → ⊥
no_name e n h = cc

pub named : (form : Form) (symbol : Symbol) (t : Lexeme) (n : Name) → local_by form symbol t ≡ Ok n → n ≡ type_name symbol t
unfolding named_by numbered_by
named form s.Local t n h = text_is (reserved_local form (name_in t)) (name_fits (name_in t)) (name_in t) n h
named form s.NumberedLocal t n h = number_is (nat_lt (decimal (name_in t)) (2 ^ 32)) (decimal (name_in t)) n h
named form symbol t n h = absurd (no_name _ n h)

pub not_refused : (v : Verdict Name) (e : Cause) → judge_map (λ n. true) v ≡ Ok true → v ≡ Err e → ⊥
not_refused (Ok n) e h i = cc
not_refused (Err d) e h i = cc
