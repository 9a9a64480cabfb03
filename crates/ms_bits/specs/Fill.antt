-- Uninitialised bytes and undefined words. LLVM Language Reference, "Undefined Values" and "Poison Values", leaves
-- them open; own: a fill, a list of bytes that is never empty, decides each of them.
use Rattle.std.specs.Prelude.{ℕ, zero, suc, ◌+◌, ◌*◌, ◌/◌, ◌%◌, ◌^◌, List, length, slice_index}
use Rattle.std.specs.Int.{bit_at}

-- the number whose bits below a place are those that a function gives
unfoldable pub number_of_bits : (ℕ → ℕ) → ℕ → ℕ
number_of_bits bit zero = 0
number_of_bits bit (suc n) = number_of_bits bit n + bit n * 2 ^ n

-- the k-th uninitialised byte that a run makes, counted from 0: the fill is gone through again and again
unfoldable pub made_byte : List ℕ → ℕ → ℕ
made_byte fill k = slice_index fill (k % length fill)

-- bit i of an undefined word, counted from the least
unfoldable pub undef_bit : List ℕ → ℕ → ℕ
undef_bit fill i = bit_at (made_byte fill (i / 8)) (i % 8)

-- an undefined word of so many bits
unfoldable pub undef_word_of : List ℕ → ℕ → ℕ
undef_word_of fill width = number_of_bits (undef_bit fill) width
