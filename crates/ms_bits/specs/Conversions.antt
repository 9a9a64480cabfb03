-- What comparisons, casts and selections of words give, or the first trap whose condition holds (LLVM Language
-- Reference, "'icmp' Instruction", "Conversion Operations" and "'select' Instruction"; own: a broken flag is a trap).
use Rattle.std.specs.Prelude.{◌≡◌, ◌<◌, ◌≤◌, ℕ, zero, suc, ◌%◌, ◌^◌, Bool, cond, not, ◌&&◌, ltb, leb, eqb, int_lt, int_le, Result, Ok, Err}
use Rattle.std.specs.Bool.{beq}
use Rattle.ms_bits.specs.Signed.{signed, wrap, negative}
use Rattle.ms_bits.specs.declared.operations.Flags.{Flags}
use Rattle.ms_bits.specs.declared.traps.Trap.{Trap}
use Rattle.ms_bits.specs.declared.traps.Trap.TheVariants.{Nuw, Nsw, Nneg, Samesign}
use Rattle.ms_bits.specs.declared.operations.Pred.{Pred}
use Rattle.ms_bits.specs.declared.operations.Pred.TheVariants.{Eq, Ne, Ugt, Uge, Ult, Ule, Sgt, Sge, Slt, Sle}
use Rattle.ms_bits.specs.declared.operations.CastOp.{CastOp}
use Rattle.ms_bits.specs.declared.operations.CastOp.TheVariants.{Trunc, Zext, Sext, PtrToInt, IntToPtr, Bitcast}

-- a predicate holds of two words of one width
unfoldable pub holds : Pred → ℕ → ℕ → ℕ → Bool
holds Eq width a b = eqb a b
holds Ne width a b = not (eqb a b)
holds Ugt width a b = ltb b a
holds Uge width a b = leb b a
holds Ult width a b = ltb a b
holds Ule width a b = leb a b
holds Sgt width a b = int_lt (signed width b) (signed width a)
holds Sge width a b = int_le (signed width b) (signed width a)
holds Slt width a b = int_lt (signed width a) (signed width b)
holds Sle width a b = int_le (signed width a) (signed width b)

-- 'icmp': what it returns; 'samesign' asks for equal sign bits
unfoldable pub compare_of : Pred → Flags → ℕ → ℕ → ℕ → Result Bool Trap
compare_of predicate flags width a b =
    cond (flags.samesign && not (beq (negative width a) (negative width b))) (Err Samesign)
    (Ok (holds predicate width a b))

-- the widths that a cast of a word of so many bits may give: a pointer has 64
abbrev pub Allows : CastOp → ℕ → ℕ → Type 0
Allows Trunc width to = (1 ≤ to) × (to < width)
Allows Zext width to = (width < to) × (to ≤ 64)
Allows Sext width to = (width < to) × (to ≤ 64)
Allows PtrToInt width to = (width ≡ 64) × (1 ≤ to) × (to ≤ 64)
Allows IntToPtr width to = to ≡ 64
Allows Bitcast width to = to ≡ width

-- a cast of a word of so many bits to another width: 'trunc' with 'nuw' drops no 1 bit, and with 'nsw' its
-- sign-extended result is the operand; 'zext' with 'nneg' takes no negative operand
unfoldable pub cast_of : CastOp → Flags → ℕ → ℕ → ℕ → Result ℕ Trap
cast_of Trunc flags width a to =
    cond (flags.nuw && leb (2 ^ to) a) (Err Nuw)
    (cond (flags.nsw && not (eqb (wrap width (signed to (a % 2 ^ to))) a)) (Err Nsw)
    (Ok (a % 2 ^ to)))
cast_of Zext flags width a to = cond (flags.nneg && negative width a) (Err Nneg) (Ok a)
cast_of Sext flags width a to = Ok (wrap to (signed width a))
cast_of PtrToInt flags width a to = Ok (a % 2 ^ to)
cast_of IntToPtr flags width a to = Ok a
cast_of Bitcast flags width a to = Ok a

-- 'select': the second operand where the first, a word of one bit, is 1, else the third
unfoldable pub select_of : ℕ → ℕ → ℕ → ℕ
select_of zero a b = b
select_of (suc c) a b = a
