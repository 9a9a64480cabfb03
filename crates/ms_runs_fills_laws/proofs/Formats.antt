-- What a format prints where the strings that it asks for are the same.
use Rattle.std.proofs.Common.{◌≡◌, ◌<◌, ℕ, zero, suc, ◌+◌, List, [], ◌∷◌, map, length, Bool, true, false, Option, Some, None, Result, Ok, Err, refl, sym, ap, ◌∙◌, arith, if◌then◌else◌}
use Rattle.std.specs.Prelude.{filter, get_or, zip, slice_get, unwrap_or}
use Rattle.std.proofs.Math.Path.{ap₂}
use Rattle.ms_bits.specs.declared.traps.Trap.{Trap}
use Rattle.ms_bits.specs.declared.traps.Trap.TheVariants as trap
use Rattle.ms_ir.specs.declared.syntax.Ty.{Ty, Ptr}
use Rattle.ms_ir.specs.Equal.{type_eq}
use Rattle.ms_runs.specs.declared.formats.Piece.{Piece}
use Rattle.ms_runs.specs.declared.formats.Piece.TheVariants.{Text, Str}
use Rattle.ms_runs.specs.Formats.{takes_argument, is_string, with_arguments, piece_text, shown}
use Rattle.ms_runs.specs.Poisoned.{Poisoned}
use Rattle.ms_runs.specs.Masks.{word_at}
use Rattle.ms_runs_fills_laws.proofs.Reading.{AlikeWords, number_same}

-- the strings that pieces ask for are the same
abbrev pub StringsSame : (strings others : ℕ → Option (List ℕ)) → List Piece → List (Ty × ℕ) → Type 0
StringsSame strings others ps args =
    (j : ℕ) → is_string (get_or (filter takes_argument ps) j (Text [])) ≡ true → (a : Ty × ℕ) → slice_get args j ≡ Some a → type_eq a.0 Ptr ≡ true → strings a.1 ≡ others a.1

module _ (strings others : ℕ → Option (List ℕ)) where
  string_same : (a : Ty × ℕ) → (type_eq a.0 Ptr ≡ true → strings a.1 ≡ others a.1) → shown strings (Str, Some a) ≡ shown others (Str, Some a)
  string_same a h = by_test (type_eq a.0 Ptr) refl
    where
      by_test : (t : Bool) → type_eq a.0 Ptr ≡ t → (if t then piece_text strings Str a.1 else Err trap.Format) ≡ (if t then piece_text others Str a.1 else Err trap.Format)
      by_test true e = ap (λ o. elim o as (λ z. Result (List ℕ) Trap) [ Some bs ↦ Ok bs | None ↦ Err trap.BadAddress ]) (h e)
      by_test false e = refl

  none_some : (a : Ty × ℕ) → None ≡ Some a → ⊥
  none_some a e = grind arith

  pub all_same : (ps : List Piece) (args : List (Ty × ℕ)) → StringsSame strings others ps args → map (shown strings) (with_arguments ps args) ≡ map (shown others) (with_arguments ps args)
  all_same [] args h = refl
  all_same (Text bs ∷ ps) args h = ap (λ l. Ok bs ∷ l) (all_same ps args h)
  all_same (p ∷ ps) [] h = ap (λ l. Err trap.Format ∷ l) (all_same ps [] (λ j s a e. absurd (none_some a e)))
  all_same (Str ∷ ps) (a ∷ args) h = ap₂ (λ r l. r ∷ l) (string_same a (h 0 refl a refl)) (all_same ps args (λ j s c e. h (suc j) s c e))
  all_same (p ∷ ps) (a ∷ args) h = ap (λ l. shown strings (p, Some a) ∷ l) (all_same ps args (λ j s c e. h (suc j) s c e))

-- words without poisoned bits, with types
pub zip_same : (types : List Ty) (ps qs : List Poisoned) → AlikeWords ps qs → ((j : ℕ) → j < length types → (word_at j ps).mask ≡ 0)
    → zip types (map (λ p. p.value) ps) ≡ zip types (map (λ q. q.value) qs)
zip_same [] ps qs h z = refl
zip_same (t ∷ types) [] [] h z = refl
zip_same (t ∷ types) (p ∷ ps) (q ∷ qs) h z =
    ap₂ (λ v l. (t, v) ∷ l) (number_same p q h.0 (z 0 (omega arith))) (zip_same types ps qs h.1 (λ j l. z (suc j) (omega (arith, l))))
zip_same (t ∷ types) [] (q ∷ qs) h z = absurd h
zip_same (t ∷ types) (p ∷ ps) [] h z = absurd h

-- an item of two lists together
pub zip_at : (types : List Ty) (words : List ℕ) (j : ℕ) (a : Ty × ℕ) → slice_get (zip types words) j ≡ Some a → (slice_get types j ≡ Some a.0) × (get_or words j 0 ≡ a.1)
zip_at [] words j a e = grind arith
zip_at (t ∷ types) [] j a e = grind arith
zip_at (t ∷ types) (v ∷ words) zero a e = let same : (t, v) ≡ a = ap (λ o. unwrap_or o (t, v)) e in (ap (λ x. Some x.0) same, ap (λ x. x.1) same)
zip_at (t ∷ types) (v ∷ words) (suc j) a e = zip_at types words j a e
