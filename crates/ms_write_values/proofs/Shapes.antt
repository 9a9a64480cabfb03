-- How types and initialisers that hold others are written, by the lists of what they hold.
use Rattle.std.proofs.Common.{◌≡◌, ℕ, Bool, List, [], ◌∷◌, ◌++◌, map, refl, ap, ◌∙◌, append-nil}
use Rattle.std.specs.Prelude.{codes}
use Rattle.ms_ir.specs.declared.syntax.Ty.{Ty, Array, Struct, Row_of-Ty, end_of-Ty, more_of-Ty, items-the_row-Ty, items_hidden-the_row-Ty-1}
use Rattle.ms_ir.specs.declared.syntax.Ty.TheBlock.{hidden-the_row-Ty-0, hidden-the_row-Ty-1, shape-the_row-Ty-0}
use Rattle.ms_ir.specs.declared.syntax.Init.{Init, Row_of-Init-Array-0-2, end_of-Init-Array-0-2, more_of-Init-Array-0-2, items-the_row-Init-Array-0-2, items_hidden-the_row-Init-Array-0-2-0}
use Rattle.ms_ir.specs.declared.syntax.Init as initial
use Rattle.ms_ir.specs.declared.syntax.Init.TheBlock.{hidden-the_row-Init-Array-0-2-0}
use Rattle.ms_text_grammar.specs.LayoutPieces.{enclosed}
use Rattle.ms_text_grammar.specs.LayoutTypes.{array_tokens, struct_tokens, type_tokens, row_tokens}
use Rattle.ms_text_grammar.specs.LayoutValues.{init_tokens, items_tokens}
use Rattle.ms_write_values.specs.Parts.{item_tokens}

-- ---- types

row_tokens-items : (n : _) (r : Row_of-Ty n) → row_tokens r ≡ map type_tokens (items-the_row-Ty n r)
row_tokens-items n end_of-Ty = refl
row_tokens-items n (more_of-Ty t ts) = ap (λ l. type_tokens t ∷ l) (row_tokens-items _ ts)

array_by_row : (n : ℕ) (t : Ty) → type_tokens (Array n t) ≡ array_tokens n (type_tokens t ++ [])
unfolding hidden-the_row-Ty-0 shape-the_row-Ty-0 denote.Hole.Carrier.hidden
array_by_row n t = refl

pub type_array : (n : ℕ) (t : Ty) → type_tokens (Array n t) ≡ array_tokens n (type_tokens t)
type_array n t = array_by_row n t ∙ ap (array_tokens n) (append-nil (type_tokens t))

pub type_struct : (packed : Bool) (ts : List Ty) → type_tokens (Struct packed ts) ≡ struct_tokens packed (map type_tokens ts)
type_struct packed ts = ap (struct_tokens packed) (row_tokens-items _ (hidden-the_row-Ty-1 ts) ∙ ap (map type_tokens) (items_hidden-the_row-Ty-1 ts))

-- ---- initialisers

items_tokens-items : (n : _) (r : Row_of-Init-Array-0-2 n) → items_tokens r ≡ map item_tokens (items-the_row-Init-Array-0-2 n r)
items_tokens-items n end_of-Init-Array-0-2 = refl
items_tokens-items n (more_of-Init-Array-0-2 t i rest) = ap (λ l. item_tokens (t, i) ∷ l) (items_tokens-items _ rest)

items_listed : (xs : List (Ty × Init)) → items_tokens (hidden-the_row-Init-Array-0-2-0 xs) ≡ map item_tokens xs
items_listed xs = items_tokens-items _ (hidden-the_row-Init-Array-0-2-0 xs) ∙ ap (map item_tokens) (items_hidden-the_row-Init-Array-0-2-0 xs)

pub init_array : (t : Ty) (xs : List (Ty × Init)) → init_tokens t (initial.Array xs) ≡ enclosed (codes "[") (codes "]") (map item_tokens xs)
init_array t xs = ap (enclosed (codes "[") (codes "]")) (items_listed xs)

pub init_struct : (t : Ty) (packed : Bool) (xs : List (Ty × Init)) → init_tokens t (initial.Struct packed xs) ≡ struct_tokens packed (map item_tokens xs)
init_struct t packed xs = ap (struct_tokens packed) (items_listed xs)
