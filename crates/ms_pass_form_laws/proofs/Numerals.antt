-- The names of inserted results are spelled as such.
use Rattle.std.proofs.Common.{◌≡◌, ℕ, ◌+◌, ◌<◌, List, [], ◌∷◌, Bool, true, false, refl, arith}
use Rattle.std.specs.Prelude.{◌&&◌, nat_lt, eqb, map, length, get_or, codes, if◌then◌else◌}
use Rattle.std.specs.List.{list_all}
use Rattle.std.specs.Char.{is_ascii_digit}
use Rattle.std.specs.Int.Digits.{digits_of, AllBelowBase}
use Rattle.std.proofs.Math.Path.{ap₂}
use Rattle.std.proofs.lemmas.Bool.{eqb-false, lt-ltb}
use Rattle.std.proofs.lemmas.Int.Digits.{all_below_base_digits_of, first_digits_of}
use Rattle.ms_ir.specs.Names.{is_digits, is_inserted_name}
use Rattle.ms_check_valid.specs.FormedNames.{is_local_name}
use Rattle.ms_pass_tasks.specs.Tasks.{numeral, msan_name}

one_digit : (d : ℕ) → d < 10 → is_ascii_digit (48 + d) ≡ true
one_digit d h = grind arith

each_digit : (ds : List ℕ) → AllBelowBase 10 ds → list_all is_ascii_digit (map (λ d. 48 + d) ds) ≡ true
each_digit [] h = refl
each_digit (d ∷ ds) h = ap₂ (λ a b. a && b) (one_digit d h.0) (each_digit ds h.1)

some_digits : (ds : List ℕ) → AllBelowBase 10 ds → 0 < get_or ds 0 0 → is_digits (map (λ d. 48 + d) ds) ≡ true
some_digits [] h p = absurd (omega (arith, p))
some_digits (d ∷ ds) h p = ap₂ (λ a b. a && b) (lt-ltb 0 (length (map (λ d. 48 + d) (d ∷ ds))) (omega arith)) (each_digit (d ∷ ds) h)

numeral_digits : (k : ℕ) → is_digits (numeral k) ≡ true
unfolding numeral
numeral_digits k = by_test (eqb k 0) refl
  where
    by_test : (b : Bool) → eqb k 0 ≡ b → is_digits (if b then codes "0" else map (λ d. 48 + d) (digits_of 10 k)) ≡ true
    by_test true e = refl
    by_test false e = some_digits (digits_of 10 k) (all_below_base_digits_of 10 k (omega arith)) (first_digits_of 10 k (omega arith) (omega (arith, eqb-false k 0 e)))

pub msan_inserted : (k : ℕ) → is_inserted_name (msan_name k) ≡ true
msan_inserted k = numeral_digits k

digit_byte : (b : ℕ) → is_ascii_digit b ≡ true → nat_lt b 256 ≡ true
digit_byte b e = grind arith

digits_bytes : (l : List ℕ) → list_all is_ascii_digit l ≡ true → list_all (λ b. nat_lt b 256) l ≡ true
digits_bytes [] e = refl
digits_bytes (b ∷ l) e = let h = both (is_ascii_digit b) (list_all is_ascii_digit l) e in ap₂ (λ x y. x && y) (digit_byte b h.0) (digits_bytes l h.1)
  where
    both : (c d : Bool) → (c && d) ≡ true → (c ≡ true) × (d ≡ true)
    both true d q = (refl, q)
    both false d q = grind arith

numeral_bytes : (l : List ℕ) → is_digits l ≡ true → list_all (λ b. nat_lt b 256) l ≡ true
numeral_bytes l e = digits_bytes l (second (nat_lt 0 (length l)) (list_all is_ascii_digit l) e)
  where
    second : (c d : Bool) → (c && d) ≡ true → d ≡ true
    second true d q = q
    second false d q = grind arith

pub msan_formed : (k : ℕ) → is_local_name (msan_name k) ≡ true
msan_formed k = ap₂ (λ a b. a && b) (numeral_bytes (numeral k) (numeral_digits k)) (msan_inserted k)
