-- Tokens and lines after one another.
use Rattle.std.proofs.Common.{◌≡◌, ℕ, Bool, true, false, if◌then◌else◌, Option, Some, None, List, [], ◌∷◌, ◌++◌, refl, ap, ◌∙◌, append_assoc}
use Rattle.std.specs.Prelude.{codes, ◌||◌, ◌&&◌, ◌==◌}
use Rattle.ms_lex.specs.Tokens.{Text}
use Rattle.ms_text_grammar.specs.Lexemes.{Lexeme}
use Rattle.ms_text_grammar.specs.LayoutPieces.{Line, sign, with_commas}
use Rattle.ms_text_grammar.specs.LayoutInsts.{mark_tokens}
use Rattle.ms_text_grammar.specs.LayoutTypes.{struct_tokens}
use Rattle.ms_write_values.specs.Sheets.{Sheet, gap, put_text, put, put_line, put_lines}
use Rattle.ms_write_values.specs.Parts.{open_tokens, close_tokens}

pub put_append : (s : Sheet) (a b : List Lexeme) → put s (a ++ b) ≡ put (put s a) b
put_append s [] b = refl
put_append s (t ∷ a) b = put_append (put_text s t.spelling) a b

pub put_lines_append : (s : Sheet) (a b : List Line) → put_lines s (a ++ b) ≡ put_lines (put_lines s a) b
put_lines_append s [] b = refl
put_lines_append s (line ∷ a) b = put_lines_append (put_line s line) a b

-- a struct, packed or not, with what stands between its braces
struct_parts : (packed : Bool) (fields : List (List Lexeme)) → struct_tokens packed fields ≡ open_tokens packed ++ (with_commas fields ++ close_tokens packed)
struct_parts false fields = refl
struct_parts true fields =
    ap (λ ts. sign (codes "<") ∷ sign (codes "{") ∷ ts) (append_assoc (with_commas fields) (sign (codes "}") ∷ []) (sign (codes ">") ∷ []))

pub put_struct : (s : Sheet) (packed : Bool) (fields : List (List Lexeme))
    → put s (struct_tokens packed fields) ≡ put (put (put s (open_tokens packed)) (with_commas fields)) (close_tokens packed)
put_struct s packed fields =
    ap (put s) (struct_parts packed fields) ∙ put_append s (open_tokens packed) (with_commas fields ++ close_tokens packed)
    ∙ put_append (put s (open_tokens packed)) (with_commas fields) (close_tokens packed)

sheet : Text → Option ℕ → Sheet
sheet bytes last = record { bytes = bytes; last = last }

-- no space stands before a comma
comma_near : (last : Option ℕ) → gap last 44 ≡ []
comma_near None = refl
comma_near (Some a) = by (a == 40) (a == 64)
  where
    by : (after global : Bool) → (if after || true || false || (global && false) then [] else codes " ") ≡ []
    by true true = refl
    by true false = refl
    by false true = refl
    by false false = refl

pub put_mark : (s : Sheet) → put s (mark_tokens true) ≡ record { bytes = s.bytes ++ codes ", !nosanitize !0"; last = Some 33 }
unfolding sheet
put_mark s =
    ap (λ space. sheet (((s.bytes ++ (space ++ codes ",")) ++ codes " !nosanitize") ++ codes " !0") (Some 33)) (comma_near s.last)
    ∙ ap (λ bytes. sheet bytes (Some 33)) (append_assoc (s.bytes ++ codes ",") (codes " !nosanitize") (codes " !0") ∙ append_assoc s.bytes (codes ",") (codes " !nosanitize !0"))
