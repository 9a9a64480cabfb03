-- The base of a constant `getelementptr` by its first symbol, and by how many more may stand in it.
use Rattle.std.proofs.Common.{◌≡◌, ℕ, zero, suc, ◌-◌, ◌<◌, List, refl, arith}
use Rattle.ms_ir.specs.declared.forms.Form.{Form}
use Rattle.ms_lex.specs.Grammar.{fails, ◌>>◌}
use Rattle.ms_text_grammar.specs.declared.refusals.Cause.TheVariants as r
use Rattle.ms_text_grammar.specs.declared.refusals.Limit.TheVariants as limit
use Rattle.ms_text_grammar.specs.Lexemes.{Lexeme}
use Rattle.ms_text_grammar.specs.Steps.{skip}
use Rattle.ms_text_grammar.specs.Values.{base_by, base_to, gep_from}
use Rattle.ms_read_cursor.specs.Reading.{front, run}
use Rattle.ms_read_values.specs.Rests.{inner_step}

pub base_is : (form : Form) (depth within : ℕ) (ts : List Lexeme) → run (base_to form depth within) ts ≡ run (base_by form (inner_step form depth within) (front ts).symbol) ts
unfolding base_to
base_is form depth zero ts = refl
base_is form depth (suc within) ts = refl

pub inner_ends : (form : Form) (depth within : ℕ) (ts : List Lexeme) → within ≡ 0 → run (inner_step form depth within) ts ≡ fails (r.Limit limit.Indices) ts
inner_ends form depth zero ts none = refl
inner_ends form depth (suc within) ts none = absurd (omega arith)

pub inner_goes : (form : Form) (depth within : ℕ) (ts : List Lexeme) → 0 < within
    → run (inner_step form depth within) ts ≡ run (skip >> gep_from form depth (base_to form depth (within - 1))) ts
inner_goes form depth zero ts some = absurd (omega arith)
inner_goes form depth (suc within) ts some = let e : suc within - 1 ≡ within = omega arith in rw e refl
