-- The numbers that a token can spell.
use Rattle.std.proofs.Common.{◌≡◌, true, false, arith}
use Rattle.std.specs.Prelude.{ℤ, pos, negsuc}
use Rattle.std.proofs.lemmas.Int.{ints}
use Rattle.ms_lex.specs.Numbers.{IsOutside}
use Rattle.ms_text_grammar.specs.Steps.{is_givable}

pub outside_is : (n : ℤ) → IsOutside n → is_givable n ≡ false
outside_is (pos n) h = grind (arith, ints)
outside_is (negsuc n) h = grind (arith, ints)

pub inside_is : (n : ℤ) → (IsOutside n → ⊥) → is_givable n ≡ true
inside_is (pos n) h = grind (arith, ints)
inside_is (negsuc n) h = grind (arith, ints)
