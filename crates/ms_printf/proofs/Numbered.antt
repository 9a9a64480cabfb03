-- The directives of a format by their numbers.
use Rattle.std.proofs.Common.{◌≡◌, ◌≤◌, ◌<◌, ℕ, zero, suc, ◌+◌, ◌-◌, List, [], ◌∷◌, Bool, true, false, cond, refl, sym, ap, ◌∙◌, subst, arith, get_or, filter}
use Rattle.ms_bits.specs.Maps.{bytes_at}
use Rattle.ms_alloc.specs.Allocations.{Allocations}
use Rattle.ms_runs.specs.declared.formats.Piece.{Piece}
use Rattle.ms_runs.specs.declared.formats.Piece.TheVariants.{Text}
use Rattle.ms_runs.specs.declared.formats.Cut.{Cut}
use Rattle.ms_runs.specs.Formats.{takes_argument, is_string, asks_string, no_pieces, with_piece, cut_of}
use Rattle.ms_runs.specs.World.{World}
use Rattle.ms_printf.specs.declared.parts.FormatPart.{FormatPart}
use Rattle.ms_printf.specs.declared.parts.FormatPart.TheVariants.{Plain, Directive}
use Rattle.ms_printf.specs.Walks.{IsPart, piece_of, arguments_taken, asks_for_string}

abbrev asks_in : Cut → ℕ → Bool
asks_in c zero = false
asks_in c (suc k) = is_string (get_or (filter takes_argument c.pieces) k (Text []))

by_cut : (format : List ℕ) (k : ℕ) → asks_string format k ≡ asks_in (cut_of format) k
by_cut format zero = refl
by_cut format (suc k) = refl

nothing : (bad : Bool) (k : ℕ) → asks_in (no_pieces bad) k ≡ false
nothing bad zero = refl
nothing bad (suc zero) = refl
nothing bad (suc (suc k)) = refl

pub none_left : (f : ℕ → ℕ) (a n k : ℕ) → n ≡ 0 → asks_string (bytes_at f a n) k ≡ false
none_left f a n k e = by_cut (bytes_at f a n) k ∙ ap (λ (m : ℕ). asks_in (cut_of (bytes_at f a m)) k) e ∙ nothing false k

pub bad_left : (format : List ℕ) (k : ℕ) → cut_of format ≡ no_pieces true → asks_string format k ≡ false
bad_left format k e = by_cut format k ∙ ap (λ (c : Cut). asks_in c k) e ∙ nothing true k

first_is : (p : Piece) (c : Cut) → takes_argument p ≡ true → asks_in (with_piece p c) 1 ≡ is_string p
first_is p c e = ap (λ (b : Bool). is_string (get_or (cond b (p ∷ filter takes_argument c.pieces) (filter takes_argument c.pieces)) 0 (Text []))) e

later_is : (p : Piece) (c : Cut) (k : ℕ) → takes_argument p ≡ true → asks_in (with_piece p c) (suc (suc k)) ≡ asks_in c (suc k)
later_is p c k e = ap (λ (b : Bool). is_string (get_or (cond b (p ∷ filter takes_argument c.pieces) (filter takes_argument c.pieces)) (suc k) (Text []))) e

text_is : (bs : List ℕ) (c : Cut) (k : ℕ) → asks_in (with_piece (Text bs) c) k ≡ asks_in c k
text_is bs c zero = refl
text_is bs c (suc k) = refl

pub asked_here : (t : Allocations) (world : World) (part : FormatPart) (format rest : List ℕ) (k after : ℕ) → IsPart t part → cut_of format ≡ with_piece (piece_of world part) (cut_of rest)
    → 0 < k → after ≡ k - arguments_taken part → after ≡ 0 → asks_string format k ≡ asks_for_string part
asked_here t world (Plain addr len) format rest k after is e some taken none = absurd (omega (arith, some, taken, none))
asked_here t world (Directive p) format rest k after is e some taken none =
    let one : k ≡ 1 = omega (arith, some, taken, none) in
    by_cut format k ∙ ap (λ (c : Cut). asks_in c k) e ∙ ap (asks_in (with_piece p (cut_of rest))) one ∙ first_is p (cut_of rest) is

pub asked_later : (t : Allocations) (world : World) (part : FormatPart) (format rest : List ℕ) (k after : ℕ) → IsPart t part → cut_of format ≡ with_piece (piece_of world part) (cut_of rest)
    → after ≡ k - arguments_taken part → 0 < after → asks_string format k ≡ asks_string rest after
asked_later t world (Plain addr len) format rest k after is e taken some =
    let same : k ≡ after = omega (arith, taken) in
    by_cut format k ∙ ap (λ (c : Cut). asks_in c k) e ∙ text_is (bytes_at world.bytes addr len) (cut_of rest) k ∙ ap (asks_in (cut_of rest)) same ∙ sym (by_cut rest after)
asked_later t world (Directive p) format rest k zero is e taken some = absurd (omega (arith, some))
asked_later t world (Directive p) format rest k (suc after) is e taken some =
    let next : k ≡ suc (suc after) = omega (arith, taken) in
    by_cut format k ∙ ap (λ (c : Cut). asks_in c k) e ∙ ap (asks_in (with_piece p (cut_of rest))) next ∙ later_is p (cut_of rest) after is ∙ sym (by_cut rest (suc after))
