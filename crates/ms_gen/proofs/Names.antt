-- The names of generated functions are those of functions, and differ from one another.
use Rattle.std.proofs.Common.{◌≡◌, ◌≢◌, ◌<◌, ◌^◌, ℕ, Bool, true, false, List, [], refl, ap, arith}
use Rattle.std.specs.Prelude.{codes, decimal, nat_lt}
use Rattle.std.proofs.lemmas.Bool.{lt-ltb}
use Rattle.std.proofs.lemmas.Fmt.{decimal_injective, IsAscii-decimal}
use Rattle.std.proofs.lemmas.List.{append_cancel_left}
use Rattle.std.proofs.lemmas.List.Sums.{list_all-from_AllPass}
use Rattle.std.proofs.lemmas.Str.Ascii.{All-from_ascii}
use Rattle.ms_ir.specs.declared.syntax.Name.{Name}
use Rattle.ms_ir.specs.declared.syntax.Name.TheVariants.{Number, Text}
use Rattle.ms_ir.specs.Names.{name_eq}
use Rattle.ms_ir.proofs.RootKinds.{name_same}
use Rattle.ms_check_valid.specs.FormedNames.{are_bytes, is_global_name}
use Rattle.ms_gen.specs.Generator.{name_of}

-- the bytes of a name that is a text
abbrev bytes_in : Name → List ℕ
bytes_in (Number n) = []
bytes_in (Text x) = x

-- functions with one name have one number
same_number : (j k : ℕ) → j < 2 ^ 64 → k < 2 ^ 64 → name_of j ≡ name_of k → j ≡ k
same_number j k a b e = decimal_injective j k a b (append_cancel_left (codes "f") (decimal j) (decimal k) (ap bytes_in e))

pub names_differ : (j k : ℕ) → j < 2 ^ 64 → k < 2 ^ 64 → j ≢ k → name_eq (name_of j) (name_of k) ≡ false
names_differ j k a b other = by_test (name_eq (name_of j) (name_of k)) refl
  where
    by_test : (t : Bool) → name_eq (name_of j) (name_of k) ≡ t → t ≡ false
    by_test true e = absurd (other (same_number j k a b (name_same (name_of j) (name_of k) e)))
    by_test false e = refl

-- digits are bytes
digits_are_bytes : (k : ℕ) → k < 2 ^ 64 → are_bytes (decimal k) ≡ true
digits_are_bytes k few = list_all-from_AllPass (λ b. nat_lt b 256) (decimal k) (λ i b l. lt-ltb _ 256 (omega (arith, All-from_ascii (decimal k) (IsAscii-decimal k few) i b l)))

pub name_is_global : (k : ℕ) → k < 2 ^ 64 → is_global_name (name_of k) ≡ true
name_is_global k few = rw (digits_are_bytes k few) refl
