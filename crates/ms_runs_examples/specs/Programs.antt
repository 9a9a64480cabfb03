-- The example modules: whole programs, of which this repository says how they end.
use Rattle.std.specs.Prelude.{ℕ, true, List, [], ◌∷◌, ◌++◌, Some, codes}
use Rattle.ms_bits.specs.declared.operations.BinOp.TheVariants as binary
use Rattle.ms_bits.specs.declared.operations.CastOp.TheVariants as cast
use Rattle.ms_bits.specs.declared.operations.Pred.TheVariants as predicate
use Rattle.ms_ir.specs.declared.syntax.Init as init
use Rattle.ms_ir.specs.declared.syntax.Inst.{Inst}
use Rattle.ms_ir.specs.declared.syntax.Module.{Module}
use Rattle.ms_ir.specs.declared.syntax.Name.TheVariants.{Number, Text}
use Rattle.ms_ir.specs.declared.syntax.Op.TheVariants as op
use Rattle.ms_ir.specs.declared.syntax.Operand.TheVariants as operand
use Rattle.ms_ir.specs.declared.syntax.Ty as ty
use Rattle.ms_bits.specs.NoFlags.{no_flags}
use Rattle.ms_ir.specs.Builders.{i8, i16, i32, i64, array, local, int, undef, sets, does, binary as combine, icmp, convert, alloca, byte_at, branch, ret, name, call, block, main_func, module_of, main_blocks, main_of}
use Rattle.ms_ir.specs.Declarations.{malloc, free, memset, putchar, puts, write}

-- `main` returns 0
abbrev pub returns_zero : Module
returns_zero = main_of (does (ret (int 0)) ∷ []) []

-- an unset word is compared with 0 and branched on
abbrev pub branch_on_unset : Module
branch_on_unset = main_blocks (
    block 0 (
    sets 1 (alloca i32) ∷ sets 2 (op.Load i32 (local 1)) ∷ sets 3 (icmp predicate.Eq i32 (local 2) (int 0)) ∷ does (branch 3 4 5) ∷ [])
    ∷ block 4 (does (ret (int 0)) ∷ []) ∷ block 5 (does (ret (int 1)) ∷ []) ∷ []) []

-- an unset word is and-ed with 0 and then branched on
abbrev pub masked_to_zero : Module
masked_to_zero = main_blocks (
    block 0 (
    sets 1 (alloca i32) ∷ sets 2 (op.Load i32 (local 1)) ∷ sets 3 (combine binary.And i32 (local 2) (int 0))
    ∷ sets 4 (icmp predicate.Eq i32 (local 3) (int 0)) ∷ does (branch 4 5 6) ∷ [])
    ∷ block 5 (does (ret (int 0)) ∷ []) ∷ block 6 (does (ret (int 1)) ∷ []) ∷ []) []

-- a word of which four bits are undefined is compared with a bound and branched on
abbrev pub ordered_compare : ℕ → Module
ordered_compare bound = main_blocks (
    block 0 (
    sets 1 (combine binary.And i8 undef (int 15)) ∷ sets 2 (combine binary.Or i8 (local 1) (int 32))
    ∷ sets 3 (icmp predicate.Ult i8 (local 2) (int bound)) ∷ does (branch 3 4 5) ∷ [])
    ∷ block 4 (does (ret (int 0)) ∷ []) ∷ block 5 (does (ret (int 1)) ∷ []) ∷ []) []

-- an unset word is or-ed with 1 and compared with 0
abbrev pub set_bit_is_not_zero : Module
set_bit_is_not_zero = main_blocks (
    block 0 (
    sets 1 (alloca i32) ∷ sets 2 (op.Load i32 (local 1)) ∷ sets 3 (combine binary.Or i32 (local 2) (int 1))
    ∷ sets 4 (icmp predicate.Eq i32 (local 3) (int 0)) ∷ does (branch 4 5 6) ∷ [])
    ∷ block 5 (does (ret (int 0)) ∷ []) ∷ block 6 (does (ret (int 1)) ∷ []) ∷ []) []

-- an undefined condition selects one of two words
abbrev pub select_undef : Module
select_undef = main_of (sets 1 (op.Select undef i32 (int 6) (int 4)) ∷ does (ret (local 1)) ∷ []) []

-- the exclusive or of two unset words
abbrev pub two_unset : Module
two_unset = main_of (
    sets 1 (alloca i32) ∷ sets 2 (alloca i32) ∷ sets 3 (op.Load i32 (local 1)) ∷ sets 4 (op.Load i32 (local 2))
    ∷ sets 5 (combine binary.Xor i32 (local 3) (local 4)) ∷ does (ret (local 5)) ∷ []) []

-- prints a byte
abbrev pub prints_byte : ℕ → ℕ → ℕ → List Inst
prints_byte widened byte answer = sets widened (convert cast.Zext i8 (local byte) i32) ∷ sets answer (call putchar (local widened ∷ [])) ∷ []

-- a word of two bytes, whose high one is undefined, is stored among eight unset bytes, of which three are printed
abbrev pub shared_cell : Module
shared_cell = main_of (
    sets 1 (alloca (array 8 i8)) ∷ sets 2 (combine binary.And i16 undef (int 0xff00)) ∷ sets 3 (byte_at (local 1) 3)
    ∷ does (op.Store i16 (local 2) (local 3)) ∷ sets 4 (op.Load i8 (local 1)) ∷ (prints_byte 5 4 6
    ++ sets 7 (byte_at (local 1) 4) ∷ sets 8 (op.Load i8 (local 7)) ∷ (prints_byte 9 8 10
    ++ sets 11 (op.Load i8 (local 3)) ∷ (prints_byte 12 11 13 ++ does (ret (int 0)) ∷ [])))) (putchar ∷ [])

-- an addition carries an undefined bit up, and the branch prints A or B
abbrev pub lost_in_addition : Module
lost_in_addition = main_blocks (
    block 0 (
    sets 1 (combine binary.And i32 undef (int 1)) ∷ sets 2 (combine binary.Add i32 (local 1) (int 1))
    ∷ sets 3 (combine binary.Lshr i32 (local 2) (int 1)) ∷ sets 4 (icmp predicate.Eq i32 (local 3) (int 0)) ∷ does (branch 4 5 7) ∷ [])
    ∷ block 5 (sets 6 (call putchar (int 65 ∷ [])) ∷ does (ret (int 0)) ∷ [])
    ∷ block 7 (sets 8 (call putchar (int 66 ∷ [])) ∷ does (ret (int 0)) ∷ []) ∷ []) (putchar ∷ [])

-- a function that calls itself until its argument is 1
abbrev pub recursion : ℕ → Module
recursion depth = module_of (
    record {
      name = Text (codes "f");
      ret = Some i32;
      params = (i32, Number 0) ∷ [];
      blocks =
          block 1 (sets 2 (icmp predicate.Eq i32 (local 0) (int 1)) ∷ does (branch 2 3 4) ∷ [])
          ∷ block 3 (does (ret (int 7)) ∷ [])
          ∷ block 4 (
          sets 5 (combine binary.Sub i32 (local 0) (int 1))
          ∷ sets 6 (op.Call (Some i32) (Text (codes "f")) ((i32, local 5) ∷ [])) ∷ does (ret (local 6)) ∷ [])
          ∷ [];
    }
    ∷ main_func (
    block 0 (sets 1 (op.Call (Some i32) (Text (codes "f")) ((i32, int depth) ∷ [])) ∷ does (ret (local 1)) ∷ []) ∷ [])
    ∷ []) []

-- an undefined third argument is returned, and a further call comes before its use
abbrev pub nested_call : Module
nested_call = module_of (
    record {
      name = Text (codes "g");
      ret = Some i32;
      params = (i32, Number 0) ∷ (i32, Number 1) ∷ (i32, Number 2) ∷ [];
      blocks = block 3 (does (ret (local 2)) ∷ []) ∷ [];
    }
    ∷ main_func (block 0 (
    sets 1 (op.Call (Some i32) (Text (codes "g")) ((i32, int 1) ∷ (i32, int 2) ∷ (i32, undef) ∷ []))
    ∷ sets 2 (op.Call (Some i32) (Text (codes "g")) ((i32, int 3) ∷ (i32, int 4) ∷ (i32, int 5) ∷ []))
    ∷ does (ret (local 1)) ∷ []) ∷ [])
    ∷ []) []

-- four bytes are written, of which the third is unset
abbrev pub write_with_gap : Module
write_with_gap = main_of (
    sets 1 (alloca (array 4 i8)) ∷ sets 2 (call putchar (int 62 ∷ [])) ∷ sets 3 (call memset (local 1 ∷ int 65 ∷ int 2 ∷ []))
    ∷ sets 4 (byte_at (local 1) 3) ∷ does (op.Store i8 (int 66) (local 4))
    ∷ sets 5 (call write (int 1 ∷ local 1 ∷ int 4 ∷ [])) ∷ does (ret (int 0)) ∷ []) (putchar ∷ memset ∷ write ∷ [])

-- an unmarked store to the address of a shadow byte
abbrev pub store_to_shadow : Module
store_to_shadow = main_of (
    sets 1 (alloca i32) ∷ sets 2 (convert cast.PtrToInt ty.Ptr (local 1) i64)
    ∷ sets 3 (combine binary.Xor i64 (local 2) (int 87960930222080)) ∷ sets 4 (convert cast.IntToPtr i64 (local 3) ty.Ptr)
    ∷ does (op.Store i32 (int 1) (local 4)) ∷ does (ret (int 0)) ∷ []) []

-- the text of an ordinary compiler: it fills an array on the heap in a loop, reads it and prints a string
abbrev pub clang_unoptimised : Module
clang_unoptimised = record {
  types = [];
  globals = record { name = name (codes ".str"); constant = true; ty = array 3 i8; init = init.Text (111 ∷ 107 ∷ 0 ∷ []) } ∷ [];
  decls = malloc ∷ puts ∷ free ∷ [];
  funcs = main_func (
      block 0 (
      sets 1 (alloca i32) ∷ sets 2 (alloca ty.Ptr) ∷ sets 3 (alloca i32) ∷ does (op.Store i32 (int 0) (local 1))
      ∷ sets 4 (call malloc (int 16 ∷ [])) ∷ does (op.Store ty.Ptr (local 4) (local 2))
      ∷ does (op.Store i32 (int 0) (local 3)) ∷ does (op.Br (Number 5)) ∷ [])
      ∷ block 5 (sets 6 (op.Load i32 (local 3)) ∷ sets 7 (icmp predicate.Slt i32 (local 6) (int 4)) ∷ does (branch 7 8 17) ∷ [])
      ∷ block 8 (
      sets 9 (op.Load i32 (local 3)) ∷ sets 10 (op.Load ty.Ptr (local 2)) ∷ sets 11 (op.Load i32 (local 3))
      ∷ sets 12 (convert cast.Sext i32 (local 11) i64) ∷ sets 13 (op.Gep i32 (local 10) ((i64, local 12) ∷ []))
      ∷ does (op.Store i32 (local 9) (local 13)) ∷ does (op.Br (Number 14)) ∷ [])
      ∷ block 14 (
      sets 15 (op.Load i32 (local 3)) ∷ sets 16 (op.Binary binary.Add (record no_flags { nsw = true }) i32 (local 15) (int 1))
      ∷ does (op.Store i32 (local 16) (local 3)) ∷ does (op.Br (Number 5)) ∷ [])
      ∷ block 17 (
      sets 18 (op.Load ty.Ptr (local 2)) ∷ sets 19 (op.Gep i32 (local 18) ((i64, int 3) ∷ [])) ∷ sets 20 (op.Load i32 (local 19))
      ∷ sets 21 (icmp predicate.Eq i32 (local 20) (int 3)) ∷ does (branch 21 22 24) ∷ [])
      ∷ block 22 (sets 23 (call puts (operand.Global (name (codes ".str")) ∷ [])) ∷ does (op.Br (Number 24)) ∷ [])
      ∷ block 24 (sets 25 (op.Load ty.Ptr (local 2)) ∷ does (call free (local 25 ∷ [])) ∷ does (ret (int 0)) ∷ [])
      ∷ []) ∷ [];
}

-- a word is stored, loaded and combined; without the store the word is unset
abbrev pub store_and_load : List Inst → Module
store_and_load stores = main_of (
    sets 1 (alloca i32) ∷ (stores ++ sets 2 (op.Load i32 (local 1)) ∷ sets 3 (combine binary.Xor i32 (local 2) (int 10)) ∷ does (ret (local 3)) ∷ [])) []

-- the greatest signed number is added to, by an addition that says it doesn't wrap
abbrev pub sum_wraps : Module
sum_wraps = main_of (
    sets 1 (op.Binary binary.Add (record no_flags { nsw = true }) i32 (int 2147483647) (int 1)) ∷ does (ret (int 0)) ∷ []) []

-- an undefined divisor
abbrev pub undef_divisor : Module
undef_divisor = main_of (sets 1 (combine binary.Udiv i32 (int 8) undef) ∷ does (ret (int 0)) ∷ []) []

-- an undefined word is frozen
abbrev pub frozen : Module
frozen = main_of (sets 1 (op.Freeze i32 undef) ∷ does (ret (local 1)) ∷ []) []

-- three bytes are printed, each before a branch whose two ways are one
abbrev pub three_branches : Module
three_branches = main_blocks (
    block 0 (sets 1 (call putchar (int 97 ∷ [])) ∷ does (op.CondBr undef (Number 2) (Number 2)) ∷ [])
    ∷ block 2 (sets 3 (call putchar (int 98 ∷ [])) ∷ does (op.CondBr undef (Number 4) (Number 4)) ∷ [])
    ∷ block 4 (sets 5 (call putchar (int 99 ∷ [])) ∷ does (op.CondBr undef (Number 6) (Number 6)) ∷ [])
    ∷ block 6 (does (ret (int 0)) ∷ []) ∷ []) (putchar ∷ [])

-- an undefined word is added to, by an addition that says it doesn't wrap
abbrev pub undef_sum : Module
undef_sum = main_of (sets 1 (op.Binary binary.Add (record no_flags { nsw = true }) i32 undef (int 1)) ∷ does (ret (local 1)) ∷ []) []

-- an undefined byte is stored and loaded
abbrev pub undef_stored : Module
undef_stored = main_of (
    sets 1 (alloca i8) ∷ does (op.Store i8 undef (local 1)) ∷ sets 2 (op.Load i8 (local 1)) ∷ sets 3 (convert cast.Zext i8 (local 2) i32)
    ∷ does (ret (local 3)) ∷ []) []

-- one undefined bit is added to
abbrev pub carry_of_undef : Module
carry_of_undef = main_of (sets 1 (combine binary.And i32 undef (int 16)) ∷ sets 2 (combine binary.Add i32 (local 1) (int 3)) ∷ does (ret (local 2)) ∷ []) []

-- a phi that names a block twice, each time with an undefined operand: each is a root of its own, and a run takes the first
abbrev pub two_edges : Module
two_edges = main_blocks (
    block 0 (does (op.CondBr (int 1) (Number 2) (Number 2)) ∷ [])
    ∷ block 2 (sets 3 (op.Phi i32 ((undef, Number 0) ∷ (undef, Number 0) ∷ [])) ∷ does (ret (local 3)) ∷ []) ∷ []) []
