-- The dots of a declaration stand after its parameters: a declaration that has them has a parameter.
use Rattle.std.proofs.Common.{◌≡◌, Bool, true, false, List, [], ◌∷◌, ◌++◌, map, refl, ap, sym, ◌∙◌, append-nil, append_assoc}
use Rattle.std.specs.Prelude.{◌&&◌}
use Rattle.ms_ir.specs.declared.syntax.Decl.{Decl}
use Rattle.ms_ir.specs.declared.syntax.Ty.{Ty}
use Rattle.ms_text_grammar.specs.Insts.{names_printf, is_i32}
use Rattle.ms_text_grammar.specs.Lexemes.{Lexeme}
use Rattle.ms_text_grammar.specs.LayoutModules.{is_one_pointer, is_dotted, dots}
use Rattle.ms_text_grammar.specs.LayoutPieces.{comma, after_commas, with_commas}
use Rattle.ms_text_grammar.specs.LayoutTypes.{type_tokens}
use Rattle.ms_write_values.specs.Parts.{dot_tokens}
use Rattle.ms_write_values.specs.Sheets.{Sheet, put}
use Rattle.ms_write_values.proofs.Puts.{put_append}

after_append : (a b : List (List Lexeme)) → after_commas (a ++ b) ≡ after_commas a ++ after_commas b
after_append [] b = refl
after_append (part ∷ a) b = ap (λ ts. comma ∷ (part ++ ts)) (after_append a b) ∙ ap (λ ts. comma ∷ ts) (sym (append_assoc part (after_commas a) (after_commas b)))

with_dots : (ts : List Ty) (d : Bool) → (d ≡ true → is_one_pointer ts ≡ true) → with_commas (map type_tokens ts ++ dots d) ≡ with_commas (map type_tokens ts) ++ dot_tokens d
with_dots [] false h = refl
with_dots [] true h = let e : false ≡ true = h refl in absurd cc
with_dots (t ∷ ts) false h =
    ap (λ us. type_tokens t ++ after_commas us) (append-nil (map type_tokens ts)) ∙ sym (append-nil (type_tokens t ++ after_commas (map type_tokens ts)))
with_dots (t ∷ ts) true h =
    ap (λ us. type_tokens t ++ us) (after_append (map type_tokens ts) (dots true)) ∙ sym (append_assoc (type_tokens t) (after_commas (map type_tokens ts)) (dot_tokens true))

last_true : (a b c : Bool) → (a && b && c) ≡ true → c ≡ true
last_true true true c h = h
last_true true false c h = absurd cc
last_true false b c h = absurd cc

dotted_one : (d : Decl) → is_dotted d ≡ true → is_one_pointer d.params ≡ true
unfolding is_dotted
dotted_one d h = last_true (names_printf d.name) (is_i32 d.ret) (is_one_pointer d.params) h

pub put_dots : (s : Sheet) (d : Decl) → put s (with_commas (map type_tokens d.params ++ dots (is_dotted d))) ≡ put (put s (with_commas (map type_tokens d.params))) (dot_tokens (is_dotted d))
put_dots s d = ap (put s) (with_dots d.params (is_dotted d) (dotted_one d)) ∙ put_append s (with_commas (map type_tokens d.params)) (dot_tokens (is_dotted d))
