-- Modules whose texts the examples write.
use Rattle.std.specs.Prelude.{ℕ, true, false, List, [], ◌∷◌, Some, None, codes}
use Rattle.ms_bits.specs.declared.operations.BinOp.TheVariants as binary
use Rattle.ms_bits.specs.declared.operations.CastOp.TheVariants as cast
use Rattle.ms_bits.specs.declared.operations.Pred.TheVariants as predicate
use Rattle.ms_ir.specs.declared.syntax.Init.{Init}
use Rattle.ms_ir.specs.declared.syntax.Init as initial
use Rattle.ms_ir.specs.declared.syntax.Inst.{Inst}
use Rattle.ms_ir.specs.declared.syntax.Module.{Module}
use Rattle.ms_ir.specs.declared.syntax.Name.TheVariants.{Number, Text as Called}
use Rattle.ms_ir.specs.declared.syntax.Op.{Op}
use Rattle.ms_ir.specs.declared.syntax.Op.TheVariants as op
use Rattle.ms_ir.specs.declared.syntax.Operand.{Operand}
use Rattle.ms_ir.specs.declared.syntax.Operand.TheVariants as operand
use Rattle.ms_ir.specs.declared.syntax.Ty.{Ty}
use Rattle.ms_ir.specs.declared.syntax.Ty as ty
use Rattle.ms_bits.specs.NoFlags.{no_flags}
use Rattle.ms_ir.specs.Builders.{i1, i8, i16, i32, i64, local, int, undef, sets, does, declares, ret, block, main_func, alloca, typed}
use Rattle.ms_ir.specs.Declarations.{malloc, free, putchar, msan_check, msan_load_origin}
use Rattle.ms_runs_examples.specs.ReadModules.{variable, named_block}

-- ---- names and strings

-- names that need quotes, and bytes of a string that are written by their digits
abbrev pub odd_names : Module
odd_names = record {
  types = (Called (codes "a b"), ty.Struct false (i8 ∷ [])) ∷ [];
  globals =
      variable (codes ".str") true (ty.Array 7 i8) (initial.Text (97 ∷ 34 ∷ 92 ∷ 10 ∷ 0 ∷ 126 ∷ 255 ∷ []))
      ∷ variable (codes "1st") false i8 (initial.Value (int 0))
      ∷ variable [] false ty.Ptr (initial.Value (operand.Global (Called (codes ".str"))))
      ∷ variable (200 ∷ 126 ∷ 127 ∷ []) false (ty.Named (Called (codes "a b"))) initial.Zero
      ∷ variable (codes "-5") false i8 (initial.Value (int 128)) ∷ [];
  decls = [];
  funcs = record {
    name = Called (codes "two words");
    ret = None;
    params = (ty.Ptr, Called (codes "p\"q")) ∷ (i32, Called (codes "x_1$")) ∷ [];
    blocks =
        named_block (codes "en try") (
        record { op = op.Binary binary.Add no_flags i32 (operand.Local (Called (codes "x_1$"))) (int 5); result = Some (Called (codes "5")); marked = false }
        ∷ does (op.Store i32 (operand.Local (Called (codes "5"))) (operand.Local (Called (codes "p\"q"))))
        ∷ does (op.Br (Called (codes "c"))) ∷ [])
        ∷ named_block (codes "c") (does (op.Ret None) ∷ []) ∷ [];
  } ∷ [];
}

-- ---- types, initialisers and jumps

-- `printf` as it is declared with one pointer
abbrev pub printf_name : List ℕ
printf_name = codes "printf"

-- structs and arrays with their values, calls of `printf`, switches and phis
abbrev pub many_parts : Module
many_parts = record {
  types =
      (Called (codes "pair"), ty.Struct false (i32 ∷ ty.Array 2 i8 ∷ []))
      ∷ (Number 0, ty.Struct true (i8 ∷ ty.Ptr ∷ []))
      ∷ (Called (codes "none"), ty.Struct false []) ∷ [];
  globals =
      variable (codes "g") false (ty.Named (Called (codes "pair"))) (initial.Struct false (
      (i32, initial.Value (int 4294967295)) ∷ (ty.Array 2 i8, initial.Array ((i8, initial.Value (int 1)) ∷ (i8, initial.Value undef) ∷ [])) ∷ []))
      ∷ variable (codes "h") true (ty.Struct true (i8 ∷ [])) (initial.Struct true ((i8, initial.Value (int 2)) ∷ []))
      ∷ variable (codes "no_items") false (ty.Array 0 i8) (initial.Array [])
      ∷ variable (codes "no_fields") false (ty.Struct false []) (initial.Struct false [])
      ∷ variable (codes "bit") false i1 (initial.Value (int 1))
      ∷ variable (codes "step") false ty.Ptr (initial.Value (
      operand.Offset (Called (codes "g")) ((ty.Named (Called (codes "pair")), (i64, 18446744073709551615) ∷ (i32, 1) ∷ (i1, 1) ∷ []) ∷ [])))
      ∷ variable (codes "within") false ty.Ptr (initial.Value (
      operand.Offset (Called (codes "g")) ((ty.Array 2 i8, (i64, 0) ∷ (i64, 1) ∷ []) ∷ (ty.Named (Called (codes "pair")), (i32, 0) ∷ (i32, 1) ∷ []) ∷ []))) ∷ [];
  decls = declares printf_name (Some i32) (ty.Ptr ∷ []) ∷ free ∷ malloc ∷ [];
  funcs = main_func (
      block 0 (does (op.Switch i8 undef (Number 1) ((255, Number 2) ∷ (2, Called (codes "x")) ∷ [])) ∷ [])
      ∷ block 1 (does (op.Switch i1 (int 1) (Number 2) ((1, Called (codes "x")) ∷ (0, Number 2) ∷ [])) ∷ [])
      ∷ block 2 (
      sets 3 (op.Phi i32 ((int 0, Number 0) ∷ (int 4294967294, Number 1) ∷ []))
      ∷ sets 4 (op.Phi ty.Ptr ((operand.Global (Called (codes "g")), Number 0) ∷ (operand.Null, Number 1) ∷ []))
      ∷ sets 5 (op.Call (Some i32) (Called printf_name) ((ty.Ptr, operand.Global (Called (codes "g"))) ∷ (i32, local 3) ∷ []))
      ∷ does (op.Call None (Called (codes "free")) ((ty.Ptr, local 4) ∷ []))
      ∷ does (op.Switch i64 (int 0) (Called (codes "x")) []) ∷ [])
      ∷ named_block (codes "x") (does (ret (int 0)) ∷ []) ∷ [])
      ∷ [];
}

-- ---- dots

-- a declaration, and a call of `printf` with a result or without one
abbrev pub calls_printf : List Ty → Inst → Module
calls_printf params inst = record {
  types = [];
  globals = [];
  decls = declares printf_name (Some i32) params ∷ [];
  funcs = main_func (block 0 (inst ∷ does (ret (int 0)) ∷ []) ∷ []) ∷ [];
}

-- a call of `printf` with one pointer
abbrev pub printf_call : Inst
printf_call = sets 1 (op.Call (Some i32) (Called printf_name) ((ty.Ptr, operand.Null) ∷ []))

-- the same without a result
abbrev pub printf_effect : Inst
printf_effect = does (op.Call None (Called printf_name) ((ty.Ptr, operand.Null) ∷ []))

-- ---- marked instructions

-- the name of an inserted result
abbrev pub inserted : Operand
inserted = operand.Local (Called (codes "__msan.0"))

-- a marked instruction
abbrev pub marked_as : List ℕ → Op → Inst
marked_as x o = record { op = o; result = Some (Called x); marked = true }

-- instructions of every other kind, with their flags, and some that are marked
abbrev pub marked_parts : Module
marked_parts = record {
  types = [];
  globals = variable (codes "__msan_retval_tls") false i64 (initial.Value (int 0)) ∷ [];
  decls = putchar ∷ msan_check ∷ msan_load_origin ∷ [];
  funcs = main_func (
      block 0 (
      sets 1 (alloca i32)
      ∷ sets 2 (op.Alloca (ty.Array 8 i8) i64 (int 1))
      ∷ marked_as (codes "__msan.0") (op.Cast cast.PtrToInt no_flags ty.Ptr (local 1) i64)
      ∷ marked_as (codes "__msan.1") (op.Binary binary.Xor no_flags i64 inserted (int 87960930222080))
      ∷ marked_as (codes "__msan.2") (op.Call (Some i32) msan_load_origin.name (typed msan_load_origin.params (local 1 ∷ inserted ∷ [])))
      ∷ record { op = op.Call None msan_check.name (typed msan_check.params (inserted ∷ int 32 ∷ int 1 ∷ int 3 ∷ int 0 ∷ int 3 ∷ [])); result = None; marked = true }
      ∷ sets 3 (op.Load i32 (local 1))
      ∷ record { op = op.Store i64 (int 0) (operand.Global (Called (codes "__msan_retval_tls"))); result = None; marked = true }
      ∷ sets 4 (op.Binary binary.Add (record no_flags { nuw = true; nsw = true }) i32 (local 3) (int 1))
      ∷ sets 5 (op.Binary binary.Ashr (record no_flags { exact = true }) i32 (local 4) (int 1))
      ∷ sets 6 (op.Binary binary.Or (record no_flags { disjoint = true }) i32 (local 5) operand.Poison)
      ∷ sets 7 (op.Cast cast.Trunc (record no_flags { nsw = true }) i32 (local 6) i16)
      ∷ sets 8 (op.Cast cast.Zext (record no_flags { nneg = true }) i16 (local 7) i64)
      ∷ sets 9 (op.Icmp predicate.Ule (record no_flags { samesign = true }) i64 (local 8) (int 9223372036854775808))
      ∷ sets 10 (op.Select (int 0) i1 (local 9) (int 1))
      ∷ sets 11 (op.Freeze ty.Ptr (local 2))
      ∷ sets 12 (op.Gep (ty.Array 8 i8) (local 11) ((i64, int 0) ∷ (i1, int 1) ∷ (i64, local 8) ∷ []))
      ∷ does (op.Store i8 (int 127) (local 12))
      ∷ does (op.CondBr (local 10) (Number 13) (Number 14)) ∷ [])
      ∷ block 13 (does op.Unreachable ∷ [])
      ∷ block 14 (sets 15 (op.Call (Some i32) putchar.name ((i32, int 65) ∷ [])) ∷ does (ret (local 15)) ∷ []) ∷ [])
      ∷ [];
}
