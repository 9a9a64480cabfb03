-- Functions of whole words, and the masks of what they give (LLVM Language Reference, "Bit Manipulation Intrinsics",
-- "Standard C/C++ Library Intrinsics", "Saturation Arithmetic Intrinsics", "'llvm.expect' Intrinsic"; own: a broken flag
-- traps, and the masks in this form). v, u and t are the numbers of words of w bits, and m, k and n their masks.
use Rattle.std.specs.Prelude.{◌≡◌, ℕ, ◌+◌, ◌-◌, ◌*◌, ◌/◌, ◌%◌, ◌^◌, max, min, Bool, true, false, ◌&&◌, cond, eqb, leb, ltb, bit_and, bit_or, bit_xor, if◌then◌else◌, Option, Some, None, Result, Ok, Err, count_ones, ℤ, pos, negsuc, ◌+ℤ◌, ◌-ℤ◌}
use lib.Count.{count_leading_zeros, count_trailing_zeros}
use Rattle.std.specs.Int.{bit_at}
use Rattle.ms_bits.specs.declared.traps.Trap.{Trap}
use Rattle.ms_bits.specs.declared.traps.Trap.TheVariants.{Nsw, ZeroPoison}
use Rattle.ms_bits.specs.declared.word_functions.WordFn.{WordFn}
use Rattle.ms_bits.specs.declared.word_functions.WordFn.TheVariants.{Ctpop, Ctlz, Cttz, Bswap, Bitreverse, Abs, Smax, Smin, Umax, Umin, Fshl, Fshr, UaddSat, UsubSat, SaddSat, SsubSat, Expect}
use Rattle.ms_bits.specs.declared.word_functions.WordWidth.{WordWidth}
use Rattle.ms_bits.specs.declared.word_functions.WordWidth.TheVariants.{I8, I16, I32, I64}
use Rattle.ms_bits.specs.declared.word_functions.BitMove.{BitMove}
use Rattle.ms_bits.specs.declared.word_functions.BitMove.TheVariants.{Bswap16, Bswap32, Bswap64, Bitreverse8, Bitreverse16, Bitreverse32, Bitreverse64, Fshl8, Fshl16, Fshl32, Fshl64, Fshr8, Fshr16, Fshr32, Fshr64}
use Rattle.ms_bits.specs.Signed.{signed}
use Rattle.ms_bits.specs.Fill.{number_of_bits}
use Rattle.ms_bits.specs.Formulas.{greatest, least, turned_sign, carry_mask}

-- the number of bits of a width
abbrev pub bits_of : WordWidth → ℕ
bits_of I8 = 8
bits_of I16 = 16
bits_of I32 = 32
bits_of I64 = 64

-- ---- bits that change their places

-- 'llvm.bswap': the bytes in the other order
unfoldable pub bswap_of : (w a : ℕ) → ℕ
bswap_of w a = number_of_bits (λ i. bit_at a (w - 8 - i / 8 * 8 + i % 8)) w

-- 'llvm.bitreverse': the bits in the other order
unfoldable pub bitreverse_of : (w a : ℕ) → ℕ
bitreverse_of w a = number_of_bits (λ i. bit_at a (w - 1 - i)) w

-- the w bits from bit k on of two words, of which the first stands above the second
unfoldable pub window : (w k a b : ℕ) → ℕ
window w k a b = (a * 2 ^ w + b) / 2 ^ k % 2 ^ w

-- 'llvm.fshl' and 'llvm.fshr': the two words shifted by the amount modulo the width, and the upper or lower word of that
unfoldable pub fshl_of : (w a b amount : ℕ) → ℕ
fshl_of w a b amount = window w (w - amount % w) a b

unfoldable pub fshr_of : (w a b amount : ℕ) → ℕ
fshr_of w a b amount = window w (amount % w) a b

-- ---- the greater and the smaller of two words

-- 'llvm.umax': the operand that is the greater one in all completions has the mask; else each bit in which they may differ
unfoldable pub greater_mask : (v m u k : ℕ) → ℕ
greater_mask v m u k =
    if leb (greatest u k) (least v m) then m else
    if leb (greatest v m) (least u k) then k else bit_or (bit_or (bit_xor v u) m) k

-- 'llvm.umin'
unfoldable pub smaller_mask : (v m u k : ℕ) → ℕ
smaller_mask v m u k =
    if leb (greatest u k) (least v m) then k else
    if leb (greatest v m) (least u k) then m else bit_or (bit_or (bit_xor v u) m) k

-- 'llvm.smax' and 'llvm.smin' are these of words with their sign bits turned
unfoldable pub smax_of : (w a b : ℕ) → ℕ
smax_of w a b = turned_sign w (max (turned_sign w a) (turned_sign w b))

unfoldable pub smin_of : (w a b : ℕ) → ℕ
smin_of w a b = turned_sign w (min (turned_sign w a) (turned_sign w b))

-- ---- counts

-- the number of places of a count up to a width of at most 64
unfoldable pub places : ℕ → ℕ
places w =
    if ltb w 2 then 1 else if ltb w 4 then 2 else if ltb w 8 then 3 else if ltb w 16 then 4 else if ltb w 32 then 5 else if ltb w 64 then 6 else 7

-- all places of a count
unfoldable pub count_mask : (w : ℕ) → Bool → ℕ
count_mask w known = if known then 0 else (2 ^ places w - 1)

-- 'llvm.ctpop': known where no bit is poisoned
unfoldable pub ctpop_mask : (w m : ℕ) → ℕ
ctpop_mask w m = count_mask w (eqb m 0)

-- 'llvm.ctlz': known where the highest bit that may be 1 is defined
unfoldable pub ctlz_mask : (w v m : ℕ) → ℕ
ctlz_mask w v m = count_mask w (leb m (least v m))

-- 'llvm.cttz': known where the lowest bit that may be 1 is defined
unfoldable pub cttz_mask : (w v m : ℕ) → ℕ
cttz_mask w v m = count_mask w (eqb (bit_and (bit_and (greatest v m) ((0 + (2 ^ w - greatest v m)) % 2 ^ w)) m) 0)

-- ---- the absolute value

-- 'llvm.abs': the least number is its own
unfoldable pub abs_of : (w a : ℕ) → ℕ
abs_of w a = if leb (2 ^ w) (2 * a) then (2 ^ w - a) else a

-- the mask itself where the word is known not to be negative, that of the difference 0 - a where it is known to be, else
-- from the lowest bit on that may be 1
unfoldable pub abs_mask : (w v m : ℕ) → ℕ
abs_mask w v m =
    if leb (2 ^ w) (2 * m) then carry_mask w (greatest v m) else
    if leb (2 ^ w) (2 * v) then carry_mask w m else m

-- ---- sums and differences that stay within the width

-- a whole number, or the nearest one that w bits hold with a sign
abbrev pub saturated : ℕ → ℤ → ℕ
saturated w (pos n) = min n (2 ^ (w - 1) - 1)
saturated w (negsuc n) = 2 ^ w - 1 - min n (2 ^ (w - 1) - 1)

-- every bit, where some bit of a mask is set
abbrev pub whole_mask : (w m : ℕ) → ℕ
whole_mask w m = if eqb m 0 then 0 else (2 ^ w - 1)

-- ---- all of them

-- what a function answers of three operands, of which it takes as many as it needs; a flag, the second operand of 'ctlz',
-- 'cttz' and 'abs', says that a case is poison, which traps
abbrev pub word_answer : WordFn → (w a b c : ℕ) → Result ℕ Trap
word_answer Ctpop w a b c = Ok (count_ones a)
word_answer Ctlz w a b c = cond (eqb b 1 && eqb a 0) (Err ZeroPoison) (Ok (count_leading_zeros w a))
word_answer Cttz w a b c = cond (eqb b 1 && eqb a 0) (Err ZeroPoison) (Ok (count_trailing_zeros w a))
word_answer Bswap w a b c = Ok (bswap_of w a)
word_answer Bitreverse w a b c = Ok (bitreverse_of w a)
word_answer Abs w a b c = cond (eqb b 1 && eqb (2 * a) (2 ^ w)) (Err Nsw) (Ok (abs_of w a))
word_answer Smax w a b c = Ok (smax_of w a b)
word_answer Smin w a b c = Ok (smin_of w a b)
word_answer Umax w a b c = Ok (max a b)
word_answer Umin w a b c = Ok (min a b)
word_answer Fshl w a b c = Ok (fshl_of w a b c)
word_answer Fshr w a b c = Ok (fshr_of w a b c)
word_answer UaddSat w a b c = Ok (min (a + b) (2 ^ w - 1))
word_answer UsubSat w a b c = Ok (a - b)
word_answer SaddSat w a b c = Ok (saturated w (signed w a +ℤ signed w b))
word_answer SsubSat w a b c = Ok (saturated w (signed w a -ℤ signed w b))
word_answer Expect w a b c = Ok a

-- the mask of the answer: where bits change their places alone, the same function of the masks, so far as the amount is known
abbrev pub word_mask : WordFn → (w v m u k t n : ℕ) → ℕ
word_mask Ctpop w v m u k t n = ctpop_mask w m
word_mask Ctlz w v m u k t n = ctlz_mask w v m
word_mask Cttz w v m u k t n = cttz_mask w v m
word_mask Bswap w v m u k t n = bswap_of w m
word_mask Bitreverse w v m u k t n = bitreverse_of w m
word_mask Abs w v m u k t n = abs_mask w v m
word_mask Smax w v m u k t n = greater_mask (turned_sign w v) m (turned_sign w u) k
word_mask Smin w v m u k t n = smaller_mask (turned_sign w v) m (turned_sign w u) k
word_mask Umax w v m u k t n = greater_mask v m u k
word_mask Umin w v m u k t n = smaller_mask v m u k
word_mask Fshl w v m u k t n = if eqb n 0 then fshl_of w m k t else (2 ^ w - 1)
word_mask Fshr w v m u k t n = if eqb n 0 then fshr_of w m k t else (2 ^ w - 1)
word_mask UaddSat w v m u k t n = whole_mask w (bit_or m k)
word_mask UsubSat w v m u k t n = whole_mask w (bit_or m k)
word_mask SaddSat w v m u k t n = whole_mask w (bit_or m k)
word_mask SsubSat w v m u k t n = whole_mask w (bit_or m k)
word_mask Expect w v m u k t n = m

-- a function whose second operand is a flag
abbrev pub is_flagged : WordFn → Bool
is_flagged Ctlz = true
is_flagged Cttz = true
is_flagged Abs = true
is_flagged f = false

-- a function takes words of this width: 'bswap' takes whole bytes
abbrev pub HasForm : WordFn → ℕ → Type 0
HasForm Bswap w = w % 8 ≡ 0
HasForm f w = Unit {0}

-- ---- functions that move bits alone

-- which function of whole words each of them is
abbrev pub move_fn : BitMove → WordFn
move_fn Bswap16 = Bswap
move_fn Bswap32 = Bswap
move_fn Bswap64 = Bswap
move_fn Bitreverse8 = Bitreverse
move_fn Bitreverse16 = Bitreverse
move_fn Bitreverse32 = Bitreverse
move_fn Bitreverse64 = Bitreverse
move_fn Fshl8 = Fshl
move_fn Fshl16 = Fshl
move_fn Fshl32 = Fshl
move_fn Fshl64 = Fshl
move_fn Fshr8 = Fshr
move_fn Fshr16 = Fshr
move_fn Fshr32 = Fshr
move_fn Fshr64 = Fshr

-- and at which width
abbrev pub move_width : BitMove → WordWidth
move_width Bswap16 = I16
move_width Bswap32 = I32
move_width Bswap64 = I64
move_width Bitreverse8 = I8
move_width Bitreverse16 = I16
move_width Bitreverse32 = I32
move_width Bitreverse64 = I64
move_width Fshl8 = I8
move_width Fshl16 = I16
move_width Fshl32 = I32
move_width Fshl64 = I64
move_width Fshr8 = I8
move_width Fshr16 = I16
move_width Fshr32 = I32
move_width Fshr64 = I64

-- which of them a function is at a width, if it is one
abbrev pub move_of : WordFn → WordWidth → Option BitMove
move_of Bswap I16 = Some Bswap16
move_of Bswap I32 = Some Bswap32
move_of Bswap I64 = Some Bswap64
move_of Bitreverse I8 = Some Bitreverse8
move_of Bitreverse I16 = Some Bitreverse16
move_of Bitreverse I32 = Some Bitreverse32
move_of Bitreverse I64 = Some Bitreverse64
move_of Fshl I8 = Some Fshl8
move_of Fshl I16 = Some Fshl16
move_of Fshl I32 = Some Fshl32
move_of Fshl I64 = Some Fshl64
move_of Fshr I8 = Some Fshr8
move_of Fshr I16 = Some Fshr16
move_of Fshr I32 = Some Fshr32
move_of Fshr I64 = Some Fshr64
move_of f n = None

-- what a function that moves bits alone gives; the others have no part in this
abbrev pub moved_by : WordFn → (w a b c : ℕ) → ℕ
moved_by Bswap w a b c = bswap_of w a
moved_by Bitreverse w a b c = bitreverse_of w a
moved_by Fshl w a b c = fshl_of w a b c
moved_by Fshr w a b c = fshr_of w a b c
moved_by f w a b c = 0

-- what each of them gives, which is never a trap
abbrev pub moved : BitMove → (a b c : ℕ) → ℕ
moved k a b c = moved_by (move_fn k) (bits_of (move_width k)) a b c
