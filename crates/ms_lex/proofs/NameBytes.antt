-- A table of the bytes of names, read at a byte.
use Rattle.std.proofs.Common.{◌≡◌, ℕ, zero, suc, ◌+◌, ◌<◌, Bool, false, List, [], ◌∷◌, slice_index_or, ap, ◌∙◌, arith, not-suc-le-zero}
use Rattle.ms_lex.specs.Tokens.{is_name_byte}

-- the rows of a number of bytes from one on
unfoldable pub name_rows : ℕ → ℕ → List Bool
name_rows zero b = []
name_rows (suc rows) b = is_name_byte b ∷ name_rows rows (suc b)

row_of : (rows first b : ℕ) → b < rows → slice_index_or (name_rows rows first) b false ≡ is_name_byte (first + b)
unfolding name_rows
row_of zero first b lt = absurd (not-suc-le-zero lt)
row_of (suc rows) first zero lt =
    let here : first ≡ first + 0 = omega arith in ap is_name_byte here
row_of (suc rows) first (suc b) lt =
    let next : suc first + b ≡ first + suc b = omega arith in row_of rows (suc first) b (omega (arith, lt)) ∙ ap is_name_byte next

pub name_row : (table : List Bool) (b : ℕ) → table ≡ name_rows 256 0 → b < 256 → slice_index_or table b false ≡ is_name_byte b
name_row table b same lt =
    let from_none : 0 + b ≡ b = omega arith in ap (λ t. slice_index_or t b false) same ∙ row_of 256 0 b lt ∙ ap is_name_byte from_none
