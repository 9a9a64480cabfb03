-- Functions and declarations as what is made of their last part.
use Rattle.std.proofs.Common.{◌≡◌, ℕ, List, Option, refl, ap, ◌∙◌, sym}
use Rattle.ms_lex.specs.Grammar.{Outcome, done, fails, and_then}
use Rattle.ms_ir.specs.declared.syntax.Name.{Name}
use Rattle.ms_ir.specs.declared.syntax.Ty.{Ty}
use Rattle.ms_ir.specs.declared.syntax.Block.{Block}
use Rattle.ms_ir.specs.declared.syntax.Func.{Func}
use Rattle.ms_ir.specs.declared.syntax.Decl.{Decl}
use Rattle.ms_ir.specs.declared.forms.Form.{Form}
use Rattle.ms_text_grammar.specs.declared.refusals.Cause.{Cause}
use Rattle.ms_text_grammar.specs.declared.states.Parameters.{Parameters}
use Rattle.ms_text_grammar.specs.declared.symbols.Symbol.TheVariants as s
use Rattle.ms_text_grammar.specs.Functions.{function_tail, parameters}
use Rattle.ms_text_grammar.specs.Insts.{names_printf}
use Rattle.ms_text_grammar.specs.Lexemes.{Lexeme}
use Rattle.ms_text_grammar.specs.Skipped.{attributes}
use Rattle.ms_text_grammar.specs.Steps.{word}
use Rattle.ms_read_cursor.specs.Reading.{run}
use Rattle.ms_read_body.specs.Headed.{types_after, declared, blocks_after, bodied}

abbrev Read : Type 0 → Type 0
Read = Outcome Lexeme Cause

-- what comes after two steps comes after the second
grouped : {A B C : Type 0} (o : Read A) (f : A → List Lexeme → Read B) (g : B → List Lexeme → Read C)
    → and_then (and_then o f) g ≡ and_then o (λ a ts. and_then (f a ts) g)
grouped (done a ts) f g = refl
grouped (fails e ts) f g = refl

alike : {A B : Type 0} (o : Read A) (f g : A → List Lexeme → Read B) → ((a : A) (ts : List Lexeme) → f a ts ≡ g a ts) → and_then o f ≡ and_then o g
alike (done a ts) f g same = same a ts
alike (fails e ts) f g same = refl

-- ---- declarations

abbrev with_types : Option Ty → Name → List Ty → List Lexeme → Read Decl
with_types result function types rest = done (record { name = function; ret = result; params = types }) rest

declared_is : (form : Form) (result : Option Ty) (function : Name) (ts : List Lexeme)
    → run (declared form result function) ts ≡ and_then (run (types_after form function) ts) (with_types result function)
unfolding declared
declared_is form result function ts = sym
    (grouped (run (word s.OpenParen) ts) _ (with_types result function)
    ∙ alike (run (word s.OpenParen) ts) _ _ (λ u after.
    grouped (run (parameters form (names_printf function)) after) _ (with_types result function)
    ∙ alike (run (parameters form (names_printf function)) after) _ _ (λ ps further. grouped (run (attributes form) further) _ (with_types result function))))

pub declared_reads : (form : Form) (result : Option Ty) (function : Name) (types : List Ty) (ts rest : List Lexeme)
    → run (types_after form function) ts ≡ done types rest
    → run (declared form result function) ts ≡ done (record { name = function; ret = result; params = types }) rest
declared_reads form result function types ts rest h = declared_is form result function ts ∙ ap (λ o. and_then o (with_types result function)) h

pub declared_stops : (form : Form) (result : Option Ty) (function : Name) (e : Cause) (ts rest : List Lexeme)
    → run (types_after form function) ts ≡ fails e rest → run (declared form result function) ts ≡ fails e rest
declared_stops form result function e ts rest h = declared_is form result function ts ∙ ap (λ o. and_then o (with_types result function)) h

-- ---- functions

abbrev with_blocks : Option Ty → Name → Parameters → List Block → List Lexeme → Read Func
with_blocks result n ps all rest = done (record { name = n; ret = result; params = ps.found; blocks = all }) rest

bodied_is : (form : Form) (before : ℕ) (result : Option Ty) (n : Name) (ps : Parameters) (ts : List Lexeme)
    → run (bodied form before result n ps) ts ≡ and_then (run (blocks_after form before ps) ts) (with_blocks result n ps)
unfolding bodied
bodied_is form before result n ps ts = sym
    (grouped (run (function_tail form) ts) _ (with_blocks result n ps)
    ∙ alike (run (function_tail form) ts) _ _ (λ u after. grouped (run (word s.OpenBrace) after) _ (with_blocks result n ps)))

pub bodied_reads : (form : Form) (before : ℕ) (result : Option Ty) (n : Name) (ps : Parameters) (all : List Block) (ts rest : List Lexeme)
    → run (blocks_after form before ps) ts ≡ done all rest
    → run (bodied form before result n ps) ts ≡ done (record { name = n; ret = result; params = ps.found; blocks = all }) rest
bodied_reads form before result n ps all ts rest h = bodied_is form before result n ps ts ∙ ap (λ o. and_then o (with_blocks result n ps)) h

pub bodied_stops : (form : Form) (before : ℕ) (result : Option Ty) (n : Name) (ps : Parameters) (e : Cause) (ts rest : List Lexeme)
    → run (blocks_after form before ps) ts ≡ fails e rest → run (bodied form before result n ps) ts ≡ fails e rest
bodied_stops form before result n ps e ts rest h = bodied_is form before result n ps ts ∙ ap (λ o. and_then o (with_blocks result n ps)) h
