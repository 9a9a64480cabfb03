-- What operations, comparisons, casts and selections give of words in range is in range.
use Rattle.std.proofs.Common.{◌<◌, ◌≤◌, ℕ, zero, suc, ◌+◌, ◌-◌, ◌*◌, ◌/◌, ◌%◌, ◌^◌, Bool, true, false, cond, not, ◌&&◌, eqb, int_div, int_rem, bit_or, Result, Ok, Err, IfOk, arith, subst, sym, pow_mono}
use Rattle.std.specs.Bool.{beq}
use Rattle.std.proofs.lemmas.Nat.{mod_below, pow_pos, shr_le, or_lt, xor_lt, and_le_l}
use lib.Signed.{shr_z}
use Rattle.ms_bits.specs.declared.operations.Flags.{Flags}
use Rattle.ms_bits.specs.declared.operations.BinOp.{BinOp}
use Rattle.ms_bits.specs.declared.operations.BinOp.TheVariants.{Add, Sub, Mul, Udiv, Sdiv, Urem, Srem, Shl, Lshr, Ashr, And, Or, Xor}
use Rattle.ms_bits.specs.declared.operations.CastOp.{CastOp}
use Rattle.ms_bits.specs.declared.operations.CastOp.TheVariants.{Trunc, Zext, Sext, PtrToInt, IntToPtr, Bitcast}
use Rattle.ms_bits.specs.declared.operations.Pred.{Pred}
use Rattle.ms_bits.specs.declared.traps.Trap.{Trap}
use Rattle.ms_bits.specs.declared.traps.Trap.TheVariants.{Shift, ZeroDivisor, Overflow, Nuw, Nsw, Exact, Disjoint, Nneg, Samesign}
use Rattle.ms_bits.specs.Signed.{signed, negative}
use Rattle.ms_bits.specs.Arithmetic.{binary_of, add_of, sub_of, mul_of, udiv_of, sdiv_of, urem_of, srem_of, shl_of, lshr_of, ashr_of, or_of}
use Rattle.ms_bits.specs.Conversions.{Allows, cast_of, compare_of, holds, select_of}
use Rattle.ms_runs.specs.Act.{truth}
use Rattle.ms_bits_laws.proofs.MaskFunctions.{from_bool-lt}
use Rattle.ms_bits_laws.proofs.OperationAgreement.{wrap-lt}

-- past a trap
past : (P : ℕ → Type 0) (c : Bool) (e : Trap) (r : Result ℕ Trap) → IfOk r P → IfOk (cond c (Err e) r) P
past P true e r h = tt
past P false e r h = h

cut : (w n : ℕ) → n % 2 ^ w < 2 ^ w
cut w n = mod_below n (2 ^ w) (pow_pos w)

-- what passes two traps, or three
past_two : (P : ℕ → Type 0) (c d : Bool) (e f : Trap) (v : ℕ) → P v → IfOk (cond c (Err e) (cond d (Err f) (Ok v))) P
past_two P c d e f v h = past P c e (cond d (Err f) (Ok v)) (past P d f (Ok v) h)

past_three : (P : ℕ → Type 0) (b c d : Bool) (g e f : Trap) (v : ℕ) → P v → IfOk (cond b (Err g) (cond c (Err e) (cond d (Err f) (Ok v)))) P
past_three P b c d g e f v h = past P b g (cond c (Err e) (cond d (Err f) (Ok v))) (past_two P c d e f v h)

pub binary_below : (o : BinOp) (flags : Flags) (w a b : ℕ) → a < 2 ^ w → b < 2 ^ w → IfOk (binary_of o flags w a b) (λ v. v < 2 ^ w)
unfolding binary_of add_of sub_of mul_of udiv_of sdiv_of urem_of srem_of shl_of lshr_of ashr_of or_of
binary_below Add flags w a b p q = past_two (λ v. v < 2 ^ w) _ _ Nuw Nsw _ (cut w (a + b))
binary_below Sub flags w a b p q = past_two (λ v. v < 2 ^ w) _ _ Nuw Nsw _ (cut w (a + (2 ^ w - b)))
binary_below Mul flags w a b p q = past_two (λ v. v < 2 ^ w) _ _ Nuw Nsw _ (cut w (a * b))
binary_below Udiv flags w a b p q = past_two (λ v. v < 2 ^ w) _ _ ZeroDivisor Exact _ (quotient w a b p)
  where
    quotient : (w a b : ℕ) → a < 2 ^ w → a / b < 2 ^ w
    quotient w a b p = omega (arith, p)
binary_below Sdiv flags w a b p q = past_three (λ v. v < 2 ^ w) _ _ _ ZeroDivisor Overflow Exact _ (wrap-lt w (int_div (signed w a) (signed w b)))
binary_below Urem flags w a b p q = past (λ v. v < 2 ^ w) (eqb b 0) ZeroDivisor (Ok (a % b)) (remainder w a b p)
  where
    remainder : (w a b : ℕ) → a < 2 ^ w → a % b < 2 ^ w
    remainder w a b p = omega (arith, p)
binary_below Srem flags w a b p q = past_two (λ v. v < 2 ^ w) _ _ ZeroDivisor Overflow _ (wrap-lt w (int_rem (signed w a) (signed w b)))
binary_below Shl flags w a b p q = past_three (λ v. v < 2 ^ w) _ _ _ Shift Nuw Nsw _ (cut w (a * 2 ^ b))
binary_below Lshr flags w a b p q = past_two (λ v. v < 2 ^ w) _ _ Shift Exact _ (omega (arith, shr_le a b, p))
binary_below Ashr flags w a b p q = past_two (λ v. v < 2 ^ w) _ _ Shift Exact _ (wrap-lt w (shr_z (signed w a) (2 ^ b)))
binary_below And flags w a b p q = omega (arith, and_le_l a b, p)
binary_below Or flags w a b p q = past (λ v. v < 2 ^ w) _ Disjoint (Ok (bit_or a b)) (or_lt w a b p q)
binary_below Xor flags w a b p q = xor_lt w a b p q

pub compare_below : (o : Pred) (flags : Flags) (w a b : ℕ) → IfOk (truth (compare_of o flags w a b)) (λ v. v < 2)
unfolding compare_of
compare_below o flags w a b = by_trap (flags.samesign && not (beq (negative w a) (negative w b))) (holds o w a b)
  where
    by_trap : (c answer : Bool) → IfOk (truth (cond c (Err Samesign) (Ok answer))) (λ v. v < 2)
    by_trap true answer = tt
    by_trap false answer = from_bool-lt answer

widened : (w to a : ℕ) → w ≤ to → a < 2 ^ w → a < 2 ^ to
widened w to a l p = omega (arith, pow_mono l, p)

pub cast_below : (o : CastOp) (flags : Flags) (w a to : ℕ) → w ≤ 64 → Allows o w to → a < 2 ^ w → IfOk (cast_of o flags w a to) (λ v. v < 2 ^ to)
unfolding cast_of
cast_below Trunc flags w a to l fits p = past_two (λ v. v < 2 ^ to) _ _ Nuw Nsw _ (cut to a)
cast_below Zext flags w a to l fits p = past (λ v. v < 2 ^ to) _ Nneg (Ok a) (widened w to a (omega (arith, fits.0)) p)
cast_below Sext flags w a to l fits p = wrap-lt to (signed w a)
cast_below PtrToInt flags w a to l fits p = cut to a
cast_below IntToPtr flags w a to l fits p = widened w to a (omega (arith, fits, l)) p
cast_below Bitcast flags w a to l fits p = subst (λ x. a < 2 ^ x) (sym fits) p

pub select_below : (bound c a b : ℕ) → a < bound → b < bound → select_of c a b < bound
unfolding select_of
select_below bound zero a b p q = q
select_below bound (suc c) a b p q = p
