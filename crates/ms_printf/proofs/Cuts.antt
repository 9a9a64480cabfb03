-- The cut of a format, piece by piece.
use Rattle.std.proofs.Common.{◌≡◌, ◌≤◌, ℕ, zero, suc, ◌+◌, List, [], ◌∷◌, ◌++◌, take, drop, length, Bool, true, false, eqb, Option, Some, None, option_map, IfSome, refl, sym, ap, ◌∙◌, subst, arith, if◌then◌else◌, append_assoc}
use Rattle.std.proofs.Math.Path.{ap₂}
use Rattle.std.proofs.lemmas.Bool.{ne_eqb}
use Rattle.ms_runs.specs.declared.formats.Piece.{Piece}
use Rattle.ms_runs.specs.declared.formats.Piece.TheVariants.{Text}
use Rattle.ms_runs.specs.declared.formats.Cut.{Cut}
use Rattle.ms_runs.specs.Formats.{letters, long_letters, lettered, by_letter, directive, plain_bytes, no_pieces, with_piece, cut_within, cut_of}

-- ---- what is left is shorter

dropped : (k : ℕ) (xs : List ℕ) → length (drop k xs) ≤ length xs
dropped zero xs = omega arith
dropped (suc k) [] = omega arith
dropped (suc k) (x ∷ xs) = let l = dropped k xs in omega (arith, l)

letter_short : (rows : List (ℕ × Piece)) (bs : List ℕ) → IfSome (by_letter rows bs) (λ d. length d.1 ≤ length bs)
letter_short rows [] = tt
letter_short rows (b ∷ bs) = by_piece (lettered rows b)
  where
    by_piece : (o : Option Piece) → IfSome {T = Piece × List ℕ} (option_map (λ p. (p, bs)) o) (λ d. length d.1 ≤ suc (length bs))
    by_piece None = tt
    by_piece (Some p) = omega arith

longer : (o : Option (Piece × List ℕ)) (n : ℕ) → IfSome o (λ d. length d.1 ≤ n) → IfSome o (λ d. length d.1 ≤ suc n)
longer None n h = tt
longer (Some d) n h = omega (arith, h)

directive_short : (bs : List ℕ) → IfSome (directive bs) (λ d. length d.1 ≤ length bs)
directive_short [] = tt
directive_short (b ∷ bs) = by_test (eqb b 108)
  where
    by_test : (t : Bool) → IfSome (if t then by_letter long_letters bs else by_letter letters (b ∷ bs)) (λ d. length d.1 ≤ suc (length bs))
    by_test true = longer (by_letter long_letters bs) (length bs) (letter_short long_letters bs)
    by_test false = letter_short letters (b ∷ bs)

-- ---- so many bytes are enough

same_within : (m n : ℕ) (format : List ℕ) → length format ≤ m → length format ≤ n → cut_within m format ≡ cut_within n format
same_within zero zero [] l k = refl
same_within zero (suc n) [] l k = refl
same_within (suc m) zero [] l k = refl
same_within (suc m) (suc n) [] l k = refl
same_within zero n (b ∷ bs) l k = absurd (omega (arith, l))
same_within (suc m) zero (b ∷ bs) l k = absurd (omega (arith, k))
same_within (suc m) (suc n) (b ∷ bs) l k =
    ap₂ (λ x y. if eqb b 37 then x else with_piece (Text (b ∷ take (plain_bytes bs) bs)) y) (by_directive (directive bs) (directive_short bs) (λ rest h. same_within m n rest (omega (arith, h, l)) (omega (arith, h, k))))
    (let d = dropped (plain_bytes bs) bs in same_within m n (drop (plain_bytes bs) bs) (omega (arith, d, l)) (omega (arith, d, k)))
  where
    by_directive : (o : Option (Piece × List ℕ)) → IfSome o (λ d. length d.1 ≤ length bs) → ((rest : List ℕ) → length rest ≤ length bs → cut_within m rest ≡ cut_within n rest)
        → (elim o as (λ z. Cut) [ Some d ↦ with_piece d.0 (cut_within m d.1) | None ↦ no_pieces true ]) ≡ (elim o as (λ z. Cut) [ Some d ↦ with_piece d.0 (cut_within n d.1) | None ↦ no_pieces true ])
    by_directive None h again = refl
    by_directive (Some d) h again = ap (with_piece d.0) (again d.1 h)

-- ---- one piece

pub first_directive : (bs : List ℕ) (p : Piece) (rest : List ℕ) → directive bs ≡ Some (p, rest) → cut_of (37 ∷ bs) ≡ with_piece p (cut_of rest)
first_directive bs p rest e =
    ap (λ o. elim o as (λ z. Cut) [ Some d ↦ with_piece d.0 (cut_within (length bs) d.1) | None ↦ no_pieces true ]) e
    ∙ ap (with_piece p) (same_within (length bs) (length rest) rest (short (directive bs) e (directive_short bs)) (omega arith))
  where
    short : (o : Option (Piece × List ℕ)) → o ≡ Some (p, rest) → IfSome o (λ d. length d.1 ≤ length bs) → length rest ≤ length bs
    short None q h = grind arith
    short (Some d) q h = subst (λ o. IfSome o (λ x. length x.1 ≤ length bs)) q h

pub no_directive : (bs : List ℕ) → directive bs ≡ None → cut_of (37 ∷ bs) ≡ no_pieces true
no_directive bs e = ap (λ o. elim o as (λ z. Cut) [ Some d ↦ with_piece d.0 (cut_within (length bs) d.1) | None ↦ no_pieces true ]) e

pub first_text : (b : ℕ) (bs : List ℕ) → eqb b 37 ≡ false → cut_of (b ∷ bs) ≡ with_piece (Text (take (plain_bytes (b ∷ bs)) (b ∷ bs))) (cut_of (drop (plain_bytes (b ∷ bs)) (b ∷ bs)))
first_text b bs e =
    ap (λ t. if t then elim (directive bs) as (λ z. Cut) [ Some d ↦ with_piece d.0 (cut_within (length bs) d.1) | None ↦ no_pieces true ]
    else with_piece (Text (b ∷ take (plain_bytes bs) bs)) (cut_within (length bs) (drop (plain_bytes bs) bs))) e
    ∙ ap (with_piece (Text (b ∷ take (plain_bytes bs) bs)))
    (same_within (length bs) (length (drop (plain_bytes bs) bs)) (drop (plain_bytes bs) bs) (dropped (plain_bytes bs) bs) (omega arith))
    ∙ ap (λ t. with_piece (Text (take (if t then 0 else suc (plain_bytes bs)) (b ∷ bs))) (cut_of (drop (if t then 0 else suc (plain_bytes bs)) (b ∷ bs)))) (sym e)

-- the same of a directive of so many bytes
pub by_directive : (format later : List ℕ) (first : ℕ) (p : Piece) (n : ℕ) → format ≡ first ∷ later → first ≡ 37 → directive later ≡ Some (p, drop n later)
    → cut_of format ≡ with_piece p (cut_of (drop (1 + n) format))
by_directive format later first p n e f d =
    subst (λ l. cut_of l ≡ with_piece p (cut_of (drop (1 + n) l))) (sym (e ∙ ap (λ b. b ∷ later) f))
    (first_directive later p (drop n later) d ∙ ap (λ k. with_piece p (cut_of (drop k (37 ∷ later)))) (next n))
  where
    next : (m : ℕ) → suc m ≡ 1 + m
    next m = omega arith

pub by_none : (format later : List ℕ) (first : ℕ) → format ≡ first ∷ later → first ≡ 37 → directive later ≡ None → cut_of format ≡ no_pieces true
by_none format later first e f d = subst (λ l. cut_of l ≡ no_pieces true) (sym (e ∙ ap (λ b. b ∷ later) f)) (no_directive later d)

-- and of a run of text
pub by_text : (format later : List ℕ) (first : ℕ) (p : Piece) (n : ℕ) → format ≡ first ∷ later → (first ≡ 37 → ⊥) → n ≡ plain_bytes format → p ≡ Text (take n format)
    → cut_of format ≡ with_piece p (cut_of (drop n format))
by_text format later first p n e f k t =
    subst (λ l. cut_of l ≡ with_piece (Text (take (plain_bytes l) l)) (cut_of (drop (plain_bytes l) l))) (sym e) (first_text first later (ne_eqb first 37 f))
    ∙ ap (λ m. with_piece (Text (take m format)) (cut_of (drop m format))) (sym k) ∙ ap (λ q. with_piece q (cut_of (drop n format))) (sym t)

-- ---- pieces so far

-- pieces, and then those of a cut
abbrev pub after : List Piece → Cut → Cut
after ps c = record { pieces = ps ++ c.pieces; bad = c.bad }

-- so far a format was cut into these pieces, and this is left of it
pub record CutSoFar (format : List ℕ) (ps : List Piece) (rest : List ℕ) : Type 0 where
  pub same : after ps (cut_of rest) ≡ cut_of format

pub began : (format : List ℕ) → CutSoFar format [] format
began format = record { same = refl }

one_more : (ps : List Piece) (p : Piece) (c : Cut) → after (ps ++ p ∷ []) c ≡ after ps (with_piece p c)
one_more ps p c = ap (λ qs. record { pieces = qs; bad = c.bad }) (append_assoc ps (p ∷ []) c.pieces)

pub more : (format : List ℕ) (ps : List Piece) (rest : List ℕ) (p : Piece) (left : List ℕ) → CutSoFar format ps rest → cut_of rest ≡ with_piece p (cut_of left) → CutSoFar format (ps ++ p ∷ []) left
more format ps rest p left h e = record { same = one_more ps p (cut_of left) ∙ ap (after ps) (sym e) ∙ h.same }

nothing_more : (ps : List Piece) → ps ++ [] ≡ ps
nothing_more [] = refl
nothing_more (p ∷ ps) = ap (λ qs. p ∷ qs) (nothing_more ps)

pub ended : (format : List ℕ) (ps : List Piece) → CutSoFar format ps [] → record { pieces = ps; bad = false } ≡ cut_of format
ended format ps h = ap (λ (qs : List Piece). record { pieces = qs; bad = false }) (sym (nothing_more ps)) ∙ h.same

pub stopped : (format : List ℕ) (ps : List Piece) (rest : List ℕ) → CutSoFar format ps rest → cut_of rest ≡ no_pieces true → record { pieces = ps; bad = true } ≡ cut_of format
stopped format ps rest h e = ap (λ (qs : List Piece). record { pieces = qs; bad = true }) (sym (nothing_more ps)) ∙ ap (after ps) (sym e) ∙ h.same
