-- Operations on two words of one width: the first trap whose condition holds, in the order of the enum Trap, or the
-- number that is answered. LLVM Language Reference, "Binary Operations" and "Bitwise Binary Operations"; own: a flag
-- that is broken, a shift by the width or more, a zero divisor and the signed quotient that overflows are traps.
use Rattle.std.specs.Prelude.{ℕ, ◌+◌, ◌-◌, ◌*◌, ◌/◌, ◌%◌, ◌^◌, Bool, cond, not, ◌&&◌, ltb, leb, eqb, pos, ◌+ℤ◌, ◌-ℤ◌, ◌*ℤ◌, int_div, int_rem, bit_and, bit_or, bit_xor, Result, Ok, Err}
use lib.Signed.{shr_z}
use Rattle.ms_bits.specs.Signed.{signed, wrap, fits_signed}
use Rattle.ms_bits.specs.Numeral.{Numeral}
use Rattle.ms_bits.specs.declared.operations.Flags.{Flags}
use Rattle.ms_bits.specs.declared.operations.BinOp.{BinOp}
use Rattle.ms_bits.specs.declared.operations.BinOp.TheVariants.{Add, Sub, Mul, Udiv, Sdiv, Urem, Srem, Shl, Lshr, Ashr, And, Or, Xor}
use Rattle.ms_bits.specs.declared.traps.Trap.{Trap}
use Rattle.ms_bits.specs.declared.traps.Trap.TheVariants.{Shift, ZeroDivisor, Overflow, Nuw, Nsw, Exact, Disjoint}

-- the number answered, as a word of so many bits
abbrev pub of_width : ℕ → Result ℕ Trap → Result Numeral Trap
of_width width (Ok n) = Ok (record { width = width; value = n })
of_width width (Err trap) = Err trap

-- 'add': the sum modulo 2 ^ width; 'nuw' and 'nsw' ask that the unsigned and the signed sum fit
unfoldable pub add_of : Flags → ℕ → ℕ → ℕ → Result ℕ Trap
add_of flags width a b =
    cond (flags.nuw && leb (2 ^ width) (a + b)) (Err Nuw)
    (cond (flags.nsw && not (fits_signed width (signed width a +ℤ signed width b))) (Err Nsw)
    (Ok ((a + b) % 2 ^ width)))

-- 'sub': the difference modulo 2 ^ width, with the same two flags
unfoldable pub sub_of : Flags → ℕ → ℕ → ℕ → Result ℕ Trap
sub_of flags width a b =
    cond (flags.nuw && ltb a b) (Err Nuw)
    (cond (flags.nsw && not (fits_signed width (signed width a -ℤ signed width b))) (Err Nsw)
    (Ok ((a + (2 ^ width - b)) % 2 ^ width)))

-- 'mul': the product modulo 2 ^ width, with the same two flags
unfoldable pub mul_of : Flags → ℕ → ℕ → ℕ → Result ℕ Trap
mul_of flags width a b =
    cond (flags.nuw && leb (2 ^ width) (a * b)) (Err Nuw)
    (cond (flags.nsw && not (fits_signed width (signed width a *ℤ signed width b))) (Err Nsw)
    (Ok ((a * b) % 2 ^ width)))

-- 'shl': to the left; with 'nuw' no 1 bit is shifted out, with 'nsw' none that differs from the result's sign bit
unfoldable pub shl_of : Flags → ℕ → ℕ → ℕ → Result ℕ Trap
shl_of flags width a b =
    cond (leb width b) (Err Shift)
    (cond (flags.nuw && leb (2 ^ width) (a * 2 ^ b)) (Err Nuw)
    (cond (flags.nsw && not (fits_signed width (signed width a *ℤ pos (2 ^ b)))) (Err Nsw)
    (Ok ((a * 2 ^ b) % 2 ^ width))))

-- 'udiv': the quotient of whole numbers; with 'exact' there is no remainder
unfoldable pub udiv_of : Flags → ℕ → ℕ → ℕ → Result ℕ Trap
udiv_of flags width a b =
    cond (eqb b 0) (Err ZeroDivisor)
    (cond (flags.exact && not (eqb (a % b) 0)) (Err Exact)
    (Ok (a / b)))

-- the least number is divided by -1
unfoldable pub quotient_overflows : ℕ → ℕ → ℕ → Bool
quotient_overflows width a b = eqb (2 * a) (2 ^ width) && eqb (b + 1) (2 ^ width)

-- 'sdiv': the signed quotient, rounded towards zero; with 'exact' there is no remainder
unfoldable pub sdiv_of : Flags → ℕ → ℕ → ℕ → Result ℕ Trap
sdiv_of flags width a b =
    cond (eqb b 0) (Err ZeroDivisor)
    (cond (quotient_overflows width a b) (Err Overflow)
    (cond (flags.exact && not (eqb (wrap width (int_rem (signed width a) (signed width b))) 0)) (Err Exact)
    (Ok (wrap width (int_div (signed width a) (signed width b))))))

-- 'lshr': to the right, with zeros from the left; with 'exact' no 1 bit is shifted out
unfoldable pub lshr_of : Flags → ℕ → ℕ → ℕ → Result ℕ Trap
lshr_of flags width a b =
    cond (leb width b) (Err Shift)
    (cond (flags.exact && not (eqb (a % 2 ^ b) 0)) (Err Exact)
    (Ok (a / 2 ^ b)))

-- 'ashr': to the right, with copies of the sign bit from the left; 'exact' as for 'lshr'
unfoldable pub ashr_of : Flags → ℕ → ℕ → ℕ → Result ℕ Trap
ashr_of flags width a b =
    cond (leb width b) (Err Shift)
    (cond (flags.exact && not (eqb (a % 2 ^ b) 0)) (Err Exact)
    (Ok (wrap width (shr_z (signed width a) (2 ^ b)))))

-- 'urem': the remainder of whole numbers
unfoldable pub urem_of : ℕ → ℕ → ℕ → Result ℕ Trap
urem_of width a b = cond (eqb b 0) (Err ZeroDivisor) (Ok (a % b))

-- 'srem': the signed remainder, with the dividend's sign
unfoldable pub srem_of : ℕ → ℕ → ℕ → Result ℕ Trap
srem_of width a b =
    cond (eqb b 0) (Err ZeroDivisor)
    (cond (quotient_overflows width a b) (Err Overflow)
    (Ok (wrap width (int_rem (signed width a) (signed width b)))))

-- 'or': with 'disjoint' no bit is 1 in both operands
unfoldable pub or_of : Flags → ℕ → ℕ → Result ℕ Trap
or_of flags a b =
    cond (flags.disjoint && not (eqb (bit_and a b) 0)) (Err Disjoint)
    (Ok (bit_or a b))

-- an operation on two numbers below 2 ^ width; a flag that it cannot carry is not looked at
unfoldable pub binary_of : BinOp → Flags → ℕ → ℕ → ℕ → Result ℕ Trap
binary_of Add flags width a b = add_of flags width a b
binary_of Sub flags width a b = sub_of flags width a b
binary_of Mul flags width a b = mul_of flags width a b
binary_of Udiv flags width a b = udiv_of flags width a b
binary_of Sdiv flags width a b = sdiv_of flags width a b
binary_of Urem flags width a b = urem_of width a b
binary_of Srem flags width a b = srem_of width a b
binary_of Shl flags width a b = shl_of flags width a b
binary_of Lshr flags width a b = lshr_of flags width a b
binary_of Ashr flags width a b = ashr_of flags width a b
binary_of And flags width a b = Ok (bit_and a b)
binary_of Or flags width a b = or_of flags a b
binary_of Xor flags width a b = Ok (bit_xor a b)
