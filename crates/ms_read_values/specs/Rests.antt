-- The rests of types, values and suffixes, after the parts that were read.
use Rattle.std.specs.Prelude.{ℕ, zero, suc, Bool, ◌||◌, List, [], ◌∷◌, ◌++◌}
use Rattle.ms_lex.specs.Grammar.{give, ◌>>=◌, ◌>>◌}
use Rattle.ms_ir.specs.declared.syntax.Ty.{Ty}
use Rattle.ms_ir.specs.declared.syntax.Ty.TheVariants as ty
use Rattle.ms_ir.specs.declared.forms.Form.{Form}
use Rattle.ms_text_grammar.specs.declared.symbols.Symbol.TheVariants as s
use Rattle.ms_text_grammar.specs.declared.refusals.Cause.TheVariants as r
use Rattle.ms_text_grammar.specs.declared.refusals.Limit.TheVariants as limit
use Rattle.ms_text_grammar.specs.Steps.{Rule, word, skip, stop}
use Rattle.ms_text_grammar.specs.Names.{global}
use Rattle.ms_text_grammar.specs.Values.{Address, number, constant_indices, gep_from, base_to}
use Rattle.ms_text_grammar.specs.Skipped.{balanced, in_parens, meta}

-- type ']'
abbrev pub array_item : Rule Ty → ℕ → Rule Ty
array_item item n = do
  t ← item
  word s.CloseBracket
  give (ty.Array n t)

-- the number of an index
abbrev pub index_rest : ℕ → List (Ty × ℕ) → Rule (List (Ty × ℕ))
index_rest width found = do
  n ← number width
  give (found ++ (ty.Int width, n) ∷ [])

-- ',' 'ptr' base, indices ')'
abbrev pub step_rest : Rule Address → Ty → Rule Address
step_rest base t = do
  word s.Comma
  word s.PtrType
  from ← base
  indices ← constant_indices
  word s.CloseParen
  give (from.0, (t, indices) ∷ from.1)

-- indices ')'
abbrev pub step_end : Ty → Address → Rule Address
step_end t from = do
  indices ← constant_indices
  word s.CloseParen
  give (from.0, (t, indices) ∷ from.1)

-- 'getelementptr' and what stands after it, where so many may stand
abbrev pub inner_step : Form → ℕ → ℕ → Rule Address
inner_step form depth zero = stop (r.Limit limit.Indices)
inner_step form depth (suc within) = skip >> gep_from form depth (base_to form depth within)

-- a global
abbrev pub global_base : Form → Rule Address
global_base form = global form >>= λ x. give (x, [])

-- '{' balanced '}'
abbrev pub in_place : Form → Bool → Rule Bool
in_place form marked = do
  word s.OpenBrace
  balanced form s.CloseBrace
  give marked

-- metadata, or metadata '(' balanced ')'
abbrev pub by_name : Form → Bool → Bool → Rule Bool
by_name form marked marks = do
  meta
  in_parens form
  give (marked || marks)
