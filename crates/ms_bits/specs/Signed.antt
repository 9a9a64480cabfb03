-- Two's complement: what a word's bits are as a signed number, and the way back (LLVM Language Reference,
-- "Integer Type" and "Binary Operations"). A word of so many bits is a number below 2 to that power.
use Rattle.std.specs.Prelude.{ℕ, ◌-◌, ◌*◌, ◌%◌, ◌^◌, Bool, cond, ltb, leb, ℤ, pos, negsuc}

-- the signed reading of a number below 2 ^ width
unfoldable pub signed : ℕ → ℕ → ℤ
signed width n = cond (ltb (2 * n) (2 ^ width)) (pos n) (negsuc (2 ^ width - 1 - n))

-- a whole number modulo 2 ^ width; negsuc n is -1 - n
unfoldable pub wrap : ℕ → ℤ → ℕ
wrap width (pos n) = n % 2 ^ width
wrap width (negsuc n) = 2 ^ width - 1 - n % 2 ^ width

-- a whole number lies from -2 ^ (width - 1) to 2 ^ (width - 1) - 1
unfoldable pub fits_signed : ℕ → ℤ → Bool
fits_signed width (pos n) = ltb (2 * n) (2 ^ width)
fits_signed width (negsuc n) = ltb (2 * n) (2 ^ width)

-- a word's sign bit is 1
unfoldable pub negative : ℕ → ℕ → Bool
negative width a = leb (2 ^ width) (2 * a)
