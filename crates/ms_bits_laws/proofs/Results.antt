-- What an operation or a cast answers where it does not trap: the same number for all flags.
use Rattle.std.proofs.Common.{◌≡◌, ℕ, ◌+◌, ◌-◌, ◌*◌, ◌/◌, ◌%◌, ◌^◌, Bool, true, false, cond, not, ◌&&◌, leb, ltb, eqb, pos, ◌+ℤ◌, ◌-ℤ◌, ◌*ℤ◌, bit_and, bit_or, bit_xor, Result, Ok, Err}
use lib.Signed.{shr_z}
use Rattle.ms_bits.specs.declared.operations.Flags.{Flags}
use Rattle.ms_bits.specs.declared.operations.BinOp.TheVariants.{Add, Sub, Mul, Shl, Lshr, Ashr, And, Or, Xor}
use Rattle.ms_bits.specs.declared.operations.CastOp.TheVariants.{Trunc, Zext, Sext, PtrToInt, IntToPtr, Bitcast}
use Rattle.ms_bits.specs.declared.operations.Pred.{Pred}
use Rattle.ms_bits.specs.declared.traps.Trap.{Trap}
use Rattle.ms_bits.specs.declared.traps.Trap.TheVariants.{Shift, Nuw, Nsw, Exact}
use Rattle.ms_bits.specs.Signed.{signed, wrap, fits_signed}
use Rattle.ms_bits.specs.Arithmetic.{binary_of, add_of, sub_of, mul_of, shl_of, lshr_of, ashr_of, or_of}
use Rattle.ms_bits.specs.Conversions.{cast_of, compare_of, holds}

-- what is answered past a trap that isn't met
past : {A : Type 0} (c : Bool) (e : Trap) (x : Result A Trap) (r : A) → cond c (Err e) x ≡ Ok r → x ≡ Ok r
past true e x r h = cc
past false e x r h = h

-- a result that is no trap
abbrev pub answered : {A : Type 0} → A → Result A Trap
answered x = Ok x

same_ok : {A : Type 0} (x r : A) → answered x ≡ answered r → x ≡ r
same_ok x r h = cc

pub and_is : (f : Flags) (w a b r : ℕ) → binary_of And f w a b ≡ Ok r → bit_and a b ≡ r
unfolding binary_of
and_is f w a b r h = same_ok _ _ h

pub or_is : (f : Flags) (w a b r : ℕ) → binary_of Or f w a b ≡ Ok r → bit_or a b ≡ r
unfolding binary_of or_of
or_is f w a b r h = same_ok _ _ (past _ _ _ _ h)

pub xor_is : (f : Flags) (w a b r : ℕ) → binary_of Xor f w a b ≡ Ok r → bit_xor a b ≡ r
unfolding binary_of
xor_is f w a b r h = same_ok _ _ h

pub add_is : (f : Flags) (w a b r : ℕ) → binary_of Add f w a b ≡ Ok r → (a + b) % 2 ^ w ≡ r
unfolding binary_of add_of
add_is f w a b r h = same_ok _ _ (past (f.nsw && not (fits_signed w (signed w a +ℤ signed w b))) Nsw _ _ (past (f.nuw && leb (2 ^ w) (a + b)) Nuw _ _ h))

pub sub_is : (f : Flags) (w a b r : ℕ) → binary_of Sub f w a b ≡ Ok r → (a + (2 ^ w - b)) % 2 ^ w ≡ r
unfolding binary_of sub_of
sub_is f w a b r h = same_ok _ _ (past (f.nsw && not (fits_signed w (signed w a -ℤ signed w b))) Nsw _ _ (past (f.nuw && ltb a b) Nuw _ _ h))

pub mul_is : (f : Flags) (w a b r : ℕ) → binary_of Mul f w a b ≡ Ok r → (a * b) % 2 ^ w ≡ r
unfolding binary_of mul_of
mul_is f w a b r h = same_ok _ _ (past (f.nsw && not (fits_signed w (signed w a *ℤ signed w b))) Nsw _ _ (past (f.nuw && leb (2 ^ w) (a * b)) Nuw _ _ h))

pub shl_is : (f : Flags) (w a b r : ℕ) → binary_of Shl f w a b ≡ Ok r → (a * 2 ^ b) % 2 ^ w ≡ r
unfolding binary_of shl_of
shl_is f w a b r h = same_ok _ _ (past (f.nsw && not (fits_signed w (signed w a *ℤ pos (2 ^ b)))) Nsw _ _ (past (f.nuw && leb (2 ^ w) (a * 2 ^ b)) Nuw _ _ (past (leb w b) Shift _ _ h)))

pub lshr_is : (f : Flags) (w a b r : ℕ) → binary_of Lshr f w a b ≡ Ok r → a / 2 ^ b ≡ r
unfolding binary_of lshr_of
lshr_is f w a b r h = same_ok _ _ (past (f.exact && not (eqb (a % 2 ^ b) 0)) Exact _ _ (past (leb w b) Shift _ _ h))

pub ashr_is : (f : Flags) (w a b r : ℕ) → binary_of Ashr f w a b ≡ Ok r → wrap w (shr_z (signed w a) (2 ^ b)) ≡ r
unfolding binary_of ashr_of
ashr_is f w a b r h = same_ok _ _ (past (f.exact && not (eqb (a % 2 ^ b) 0)) Exact _ _ (past (leb w b) Shift _ _ h))

pub holds_is : (o : Pred) (f : Flags) (w a b : ℕ) (r : Bool) → compare_of o f w a b ≡ Ok r → holds o w a b ≡ r
unfolding compare_of
holds_is o f w a b r h = same_ok _ _ (past _ _ _ _ h)

pub trunc_is : (f : Flags) (w a to r : ℕ) → cast_of Trunc f w a to ≡ Ok r → a % 2 ^ to ≡ r
unfolding cast_of
trunc_is f w a to r h = same_ok _ _ (past (f.nsw && not (eqb (wrap w (signed to (a % 2 ^ to))) a)) Nsw _ _ (past (f.nuw && leb (2 ^ to) a) Nuw _ _ h))

pub zext_is : (f : Flags) (w a to r : ℕ) → cast_of Zext f w a to ≡ Ok r → a ≡ r
unfolding cast_of
zext_is f w a to r h = same_ok _ _ (past _ _ _ _ h)

pub sext_is : (f : Flags) (w a to r : ℕ) → cast_of Sext f w a to ≡ Ok r → wrap to (signed w a) ≡ r
unfolding cast_of
sext_is f w a to r h = same_ok _ _ h

pub ptrtoint_is : (f : Flags) (w a to r : ℕ) → cast_of PtrToInt f w a to ≡ Ok r → a % 2 ^ to ≡ r
unfolding cast_of
ptrtoint_is f w a to r h = same_ok _ _ h

pub inttoptr_is : (f : Flags) (w a to r : ℕ) → cast_of IntToPtr f w a to ≡ Ok r → a ≡ r
unfolding cast_of
inttoptr_is f w a to r h = same_ok _ _ h

pub bitcast_is : (f : Flags) (w a to r : ℕ) → cast_of Bitcast f w a to ≡ Ok r → a ≡ r
unfolding cast_of
bitcast_is f w a to r h = same_ok _ _ h
