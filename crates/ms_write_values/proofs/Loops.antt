-- A step of the loops over lists, and the first item of a list that has one.
use Rattle.std.proofs.Common.{◌≡◌, ◌<◌, ◌≤◌, ℕ, ◌+◌, ◌-◌, List, ◌∷◌, ◌++◌, map, sym, ap, ◌∙◌, arith, take, drop, length, get_or, length-drop}
use Rattle.std.specs.Prelude.{codes, flat_map}
use Rattle.std.proofs.lemmas.List.{take_all}
use Rattle.ms_text_grammar.specs.Lexemes.{Lexeme}
use Rattle.ms_text_grammar.specs.LayoutPieces.{Line, after_commas, with_commas}
use Rattle.ms_write_values.specs.Sheets.{Sheet, put_text, put, put_lines}
use Rattle.ms_write_values.proofs.Puts.{put_append, put_lines_append}
use Rattle.ms_ir.proofs.Sizes.{drop_next}

after_first : {A : Type 0} (xs : List A) (x : A) → 1 ≤ length xs → x ≡ get_or xs 0 x → xs ≡ x ∷ take (length xs - 1) (drop 1 xs)
after_first xs x l is =
    drop_next xs 0 x l is ∙ ap (λ ys. x ∷ ys) (sym (take_all (length xs - 1) (drop 1 xs) (omega (arith, length-drop 1 xs))))

-- ---- tokens

pub commas_step : {A : Type 0} (f : A → List Lexeme) (xs : List A) (i : ℕ) (x : A) (now mid next whole : Sheet)
    → i < length xs → x ≡ get_or xs i x → mid ≡ put_text now (codes ",") → next ≡ put mid (f x)
    → put now (after_commas (map f (drop i xs))) ≡ whole → put next (after_commas (map f (drop (i + 1) xs))) ≡ whole
commas_step f xs i x now mid next whole l is m n w =
    let after = after_commas (map f (drop (i + 1) xs)) in
    ap (λ s. put s after) (n ∙ ap (λ s. put s (f x)) m)
    ∙ sym (put_append (put_text now (codes ",")) (f x) after)
    ∙ ap (λ ys. put now (after_commas (map f ys))) (sym (drop_next xs i x l is))
    ∙ w

pub commas_first : {A : Type 0} (f : A → List Lexeme) (xs : List A) (x : A) (now mid next : Sheet)
    → 1 ≤ length xs → x ≡ get_or xs 0 x → mid ≡ put now (f x) → next ≡ put mid (after_commas (map f (take (length xs - 1) (drop 1 xs))))
    → next ≡ put now (with_commas (map f xs))
commas_first f xs x now mid next l is m n =
    let rest = take (length xs - 1) (drop 1 xs) in
    n ∙ ap (λ s. put s (after_commas (map f rest))) m ∙ sym (put_append now (f x) (after_commas (map f rest)))
    ∙ ap (λ ys. put now (with_commas (map f ys))) (sym (after_first xs x l is))

pub tokens_step : {A : Type 0} (f : A → List Lexeme) (xs : List A) (i : ℕ) (x : A) (now next whole : Sheet)
    → i < length xs → x ≡ get_or xs i x → next ≡ put now (f x)
    → put now (flat_map f (drop i xs)) ≡ whole → put next (flat_map f (drop (i + 1) xs)) ≡ whole
tokens_step f xs i x now next whole l is n w =
    let after = flat_map f (drop (i + 1) xs) in
    ap (λ s. put s after) n ∙ sym (put_append now (f x) after) ∙ ap (λ ys. put now (flat_map f ys)) (sym (drop_next xs i x l is)) ∙ w

-- ---- lines

pub lines_step : {A : Type 0} (f : A → List Line) (xs : List A) (i : ℕ) (x : A) (now next whole : Sheet)
    → i < length xs → x ≡ get_or xs i x → next ≡ put_lines now (f x)
    → put_lines now (flat_map f (drop i xs)) ≡ whole → put_lines next (flat_map f (drop (i + 1) xs)) ≡ whole
lines_step f xs i x now next whole l is n w =
    let after = flat_map f (drop (i + 1) xs) in
    ap (λ s. put_lines s after) n ∙ sym (put_lines_append now (f x) after) ∙ ap (λ ys. put_lines now (flat_map f ys)) (sym (drop_next xs i x l is)) ∙ w

pub lines_first : {A : Type 0} (first : A → List Line) (f : A → List Line) (g : List A → List Line) → ((x : A) (ys : List A) → g (x ∷ ys) ≡ first x ++ flat_map f ys)
    → (xs : List A) (x : A) (now mid next : Sheet)
    → 1 ≤ length xs → x ≡ get_or xs 0 x → mid ≡ put_lines now (first x) → next ≡ put_lines mid (flat_map f (take (length xs - 1) (drop 1 xs)))
    → next ≡ put_lines now (g xs)
lines_first first f g split xs x now mid next l is m n =
    let rest = take (length xs - 1) (drop 1 xs) in
    n ∙ ap (λ s. put_lines s (flat_map f rest)) m ∙ sym (put_lines_append now (first x) (flat_map f rest))
    ∙ ap (put_lines now) (sym (split x rest) ∙ ap g (sym (after_first xs x l is)))
