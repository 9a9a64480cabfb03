-- A type by the depth that is left.
use Rattle.std.proofs.Common.{◌≡◌, ℕ, zero, suc, ◌-◌, ◌<◌, Bool, true, false, cond, List, refl, ap, arith}
use Rattle.ms_ir.specs.declared.syntax.Ty.{Ty}
use Rattle.ms_ir.specs.declared.syntax.Init.{Init}
use Rattle.ms_ir.specs.declared.forms.Form.{Form}
use Rattle.ms_text_grammar.specs.declared.symbols.Symbol.{Symbol}
use Rattle.ms_text_grammar.specs.declared.symbols.Symbol.TheVariants as s
use Rattle.ms_lex.specs.Grammar.{fails}
use Rattle.ms_text_grammar.specs.declared.refusals.Cause.TheVariants as r
use Rattle.ms_text_grammar.specs.declared.refusals.Limit.TheVariants as limit
use Rattle.ms_text_grammar.specs.Lexemes.{Lexeme}
use Rattle.ms_text_grammar.specs.Steps.{Rule, refuse, stop}
use Rattle.ms_text_grammar.specs.Types.{type_to, too_deep, nested, opens}
use Rattle.ms_text_grammar.specs.Values.{init_to, nested_init, flat_init}
use Rattle.ms_read_cursor.specs.Reading.{front, run}
use Rattle.ms_read_values.specs.Parts.{part_of}

pub type_ends : (form : Form) (depth : ℕ) (ts : List Lexeme) → depth ≡ 0 → run (type_to form depth) ts ≡ run (too_deep form (front ts).symbol) ts
unfolding type_to
type_ends form zero ts none = refl
type_ends form (suc depth) ts none = absurd (omega arith)

pub type_nests : (form : Form) (depth : ℕ) (ts : List Lexeme) → 0 < depth → run (type_to form depth) ts ≡ run (nested form (type_to form (depth - 1)) (front ts).symbol) ts
unfolding type_to
type_nests form zero ts some = absurd (omega arith)
type_nests form (suc depth) ts some = let e : suc depth - 1 ≡ depth = omega arith in rw e refl

-- what opens no bracket has no parts
nested_flat : (part : Rule (Ty × Init)) (plain : Rule Init) (symbol : Symbol) → opens symbol ≡ false → nested_init part plain symbol ≡ plain
nested_flat part plain s.OpenBracket h = absurd cc
nested_flat part plain s.OpenBrace h = absurd cc
nested_flat part plain s.Less h = absurd cc
nested_flat part plain symbol h = refl

nested_open : (part : Rule (Ty × Init)) (plain : Rule Init) (symbol : Symbol) → opens symbol ≡ true → nested_init part plain symbol ≡ nested_init part refuse symbol
nested_open part plain s.OpenBracket h = refl
nested_open part plain s.OpenBrace h = refl
nested_open part plain s.Less h = refl
nested_open part plain symbol h = absurd cc

pub init_flat : (form : Form) (depth : ℕ) (type : Ty) (ts : List Lexeme) → opens (front ts).symbol ≡ false → run (init_to form depth type) ts ≡ run (flat_init form depth type (front ts).symbol) ts
unfolding init_to part_of
init_flat form zero type ts h = ap (λ (b : Bool). run (cond b (stop (r.Limit limit.Types)) (flat_init form 0 type (front ts).symbol)) ts) h
init_flat form (suc depth) type ts h = ap (λ (piece : Rule Init). run piece ts) (nested_flat (part_of form depth) (flat_init form (suc depth) type (front ts).symbol) (front ts).symbol h)

pub init_ends : (form : Form) (depth : ℕ) (type : Ty) (ts : List Lexeme) → depth ≡ 0 → opens (front ts).symbol ≡ true → run (init_to form depth type) ts ≡ fails (r.Limit limit.Types) ts
unfolding init_to
init_ends form zero type ts none h = ap (λ (b : Bool). run (cond b (stop (r.Limit limit.Types)) (flat_init form 0 type (front ts).symbol)) ts) h
init_ends form (suc depth) type ts none h = absurd (omega arith)

pub init_opens : (form : Form) (depth : ℕ) (type : Ty) (ts : List Lexeme) → 0 < depth → opens (front ts).symbol ≡ true
    → run (init_to form depth type) ts ≡ run (nested_init (part_of form (depth - 1)) refuse (front ts).symbol) ts
unfolding init_to part_of
init_opens form zero type ts some h = absurd (omega arith)
init_opens form (suc depth) type ts some h =
    let e : suc depth - 1 ≡ depth = omega arith in
    rw e (ap (λ (piece : Rule Init). run piece ts) (nested_open (part_of form depth) (flat_init form (suc depth) type (front ts).symbol) (front ts).symbol h))
