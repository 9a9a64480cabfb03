-- Example programs beside those of `ms_ir`, and words and worlds for writing examples down.
use Rattle.std.specs.Prelude.{ℕ, zero, suc, ◌+◌, ◌*◌, true, List, [], ◌∷◌, ◌++◌, length, Some, codes}
use Rattle.ms_bits.specs.declared.operations.BinOp.TheVariants as binary
use Rattle.ms_bits.specs.declared.operations.CastOp.{CastOp}
use Rattle.ms_bits.specs.declared.operations.CastOp.TheVariants as cast
use Rattle.ms_bits.specs.declared.operations.Pred.TheVariants as predicate
use Rattle.ms_bits.specs.Conversions.{cast_of}
use Rattle.ms_ir.specs.declared.syntax.GlobalVar.{GlobalVar}
use Rattle.ms_ir.specs.declared.syntax.Init as init
use Rattle.ms_ir.specs.declared.syntax.Inst.{Inst}
use Rattle.ms_ir.specs.declared.syntax.Module.{Module}
use Rattle.ms_ir.specs.declared.syntax.Op.TheVariants as op
use Rattle.ms_ir.specs.declared.syntax.Operand.{Operand}
use Rattle.ms_ir.specs.declared.syntax.Operand.TheVariants as operand
use Rattle.ms_ir.specs.declared.syntax.Ty.{Ty, Ptr}
use Rattle.ms_bits.specs.NoFlags.{no_flags}
use Rattle.ms_runs.specs.Masks.{value_or_zero}
use Rattle.ms_runs.specs.Plain.{start_world}
use Rattle.ms_runs.specs.Poisoned.{Poisoned}
use Rattle.ms_runs.specs.World.{World}
use Rattle.ms_ir.specs.Declarations.{calloc, printf}
use Rattle.ms_runs_examples.specs.Programs.{shared_cell}
use Rattle.ms_ir.specs.Builders.{i8, i32, i64, array, local, int, undef, sets, does, binary as combine, icmp, convert, alloca, branch, ret, call, name, returns, block, main_blocks, main_of}
use Rattle.ms_runs_examples.specs.Setups.{defaults}

-- a word with a mask, from no origin
abbrev pub word : (value mask : ℕ) → Poisoned
word value mask = record { value = value; mask = mask; origin = 0 }

-- what a cast does to a mask
abbrev pub cast_mask : CastOp → (from mask to : ℕ) → ℕ
cast_mask o from mask to = value_or_zero (cast_of o no_flags from mask to)

-- an undefined word is and-ed with a number and returned
abbrev pub masked_undef : ℕ → Module
masked_undef bits = main_of (sets 1 (combine binary.And i32 undef (int bits)) ∷ does (ret (local 1)) ∷ []) []

-- one of two bytes is loaded, and it is undefined which
abbrev pub indexed_by_undef : Module
indexed_by_undef = main_of (
    sets 1 (alloca (array 2 i8)) ∷ sets 2 (combine binary.And i64 undef (int 1)) ∷ sets 3 (op.Gep i8 (local 1) ((i64, local 2) ∷ []))
    ∷ sets 4 (op.Load i8 (local 3)) ∷ does (ret (int 0)) ∷ []) []

-- a byte of a block of zero bytes is compared with 0 and branched on
abbrev pub branch_on_zeroed : Module
branch_on_zeroed = main_blocks (
    block 0 (
    sets 1 (call calloc (int 1 ∷ int 1 ∷ [])) ∷ sets 2 (op.Load i8 (local 1)) ∷ sets 3 (icmp predicate.Eq i8 (local 2) (int 0))
    ∷ does (branch 3 4 5) ∷ [])
    ∷ block 4 (does (ret (int 0)) ∷ []) ∷ block 5 (does (ret (int 1)) ∷ []) ∷ []) (calloc ∷ [])

-- a byte is loaded and stored where it was, so many times, with results from a number on
abbrev pub copies : (times from : ℕ) → List Inst
copies zero from = []
copies (suc n) from = sets from (op.Load i8 (local 1)) ∷ does (op.Store i8 (local from) (local 1)) ∷ copies n (suc from)

-- an undefined byte is stored, loaded and stored sixteen times, and returned
abbrev pub sixteen_copies : Module
sixteen_copies = main_of (
    sets 1 (alloca i8) ∷ does (op.Store i8 undef (local 1)) ∷ (copies 16 2
    ++ sets 18 (op.Load i8 (local 1)) ∷ sets 19 (convert cast.Zext i8 (local 18) i32) ∷ does (ret (local 19)) ∷ [])) []

-- pairs of the origin before, from a number on, and a site, from another one on, two apart
abbrev pub pairs_from : (times old site : ℕ) → List (ℕ × ℕ)
pairs_from zero old site = []
pairs_from (suc n) old site = (old, site) ∷ pairs_from n (suc old) (site + 2)

-- what sixteen stores of one byte leave, where the second root was stored first
abbrev pub sixteen_pairs : List (ℕ × ℕ)
sixteen_pairs = pairs_from 16 2 2

-- a world with pairs
abbrev pub with_pairs : List (ℕ × ℕ) → World
with_pairs pairs = record (start_world shared_cell defaults) { pairs = pairs }

-- a constant of these bytes
abbrev pub text_global : List ℕ → List ℕ → GlobalVar
text_global x bytes = record { name = name x; constant = true; ty = array (length bytes) i8; init = init.Text bytes }

-- `printf` is called with a format, whose zero byte is among its bytes, and further arguments; what it gives is returned
abbrev pub prints_by : List ℕ → List (Ty × Operand) → Module
prints_by format rest =
    record (main_of (sets 1 (op.Call (Some i32) (name (codes "printf")) ((Ptr, operand.Global (name (codes "f"))) ∷ rest)) ∷ returns 1) (printf ∷ [])) {
      globals = text_global (codes "f") format ∷ text_global (codes "s") (118 ∷ 0 ∷ []) ∷ text_global (codes "t") (118 ∷ []) ∷ [];
    }

-- the string `v`
abbrev pub letter_v : Ty × Operand
letter_v = (Ptr, operand.Global (name (codes "s")))

-- the same byte without a zero byte after it
abbrev pub no_string : Ty × Operand
no_string = (Ptr, operand.Global (name (codes "t")))
