-- Example modules at which one clause fails.
use Rattle.std.specs.Prelude.{ℕ, true, false, List, [], ◌∷◌, ◌++◌, slice_index_or, Option, Some, None, codes}
use Rattle.ms_bits.specs.declared.operations.BinOp.TheVariants as binary
use Rattle.ms_bits.specs.declared.operations.Pred.TheVariants as predicate
use Rattle.ms_ir.specs.declared.syntax.Name.{Name}
use Rattle.ms_ir.specs.declared.syntax.Name.TheVariants.{Number, Text}
use Rattle.ms_ir.specs.declared.syntax.Ty.{Ty}
use Rattle.ms_ir.specs.declared.syntax.Ty as ty
use Rattle.ms_ir.specs.declared.syntax.Operand.{Operand}
use Rattle.ms_ir.specs.declared.syntax.Operand.TheVariants as operand
use Rattle.ms_ir.specs.declared.syntax.Init.{Init}
use Rattle.ms_ir.specs.declared.syntax.Init as initial
use Rattle.ms_ir.specs.declared.syntax.Op.{Op}
use Rattle.ms_ir.specs.declared.syntax.Op.TheVariants as op
use Rattle.ms_ir.specs.declared.syntax.Inst.{Inst}
use Rattle.ms_ir.specs.declared.syntax.Func.{Func}
use Rattle.ms_ir.specs.declared.syntax.Decl.{Decl}
use Rattle.ms_ir.specs.declared.syntax.GlobalVar.{GlobalVar}
use Rattle.ms_ir.specs.declared.syntax.Module.{Module}
use Rattle.ms_ir.specs.Builders.{struct_of_two, i8, i32, i64, local, int, sets, does, binary as combine, icmp, branch, ret, name, call, block, main_func, module_of, main_blocks, main_of}
use Rattle.ms_ir.specs.Declarations.{getchar, putchar}
use Rattle.ms_ir.specs.Locals.{Spelled}

-- a name spelled with `@`
abbrev pub symbol : List ℕ → Spelled
symbol x = record { global = true; name = Text x }

-- a name spelled with `%`
abbrev pub percent : Name → Spelled
percent x = record { global = false; name = x }

-- a module with globals whose `main` has these instructions
abbrev pub with_globals : List GlobalVar → List Inst → Module
with_globals globals insts = record (main_of insts []) { globals = globals }

-- a global
abbrev pub global_of : List ℕ → Ty → Init → GlobalVar
global_of x t start = record { name = Text x; constant = false; ty = t; init = start }

-- `main` returns 0
abbrev pub ends : List Inst
ends = does (ret (int 0)) ∷ []

-- a value is defined on one of two paths to its use
abbrev pub undefined_on_a_path : Module
undefined_on_a_path = main_blocks (
    block 0 (sets 1 (call getchar []) ∷ sets 2 (icmp predicate.Eq i32 (local 1) (int 0)) ∷ does (branch 2 3 5) ∷ [])
    ∷ block 3 (sets 4 (combine binary.Add i32 (local 1) (int 1)) ∷ does (op.Br (Number 5)) ∷ [])
    ∷ block 5 (does (ret (local 4)) ∷ []) ∷ []) (getchar ∷ [])

-- no function is defined
abbrev pub empty_module : Module
empty_module = module_of [] []

-- `main` is defined twice
abbrev pub main_twice : Module
main_twice = module_of (main_func (block 0 ends ∷ []) ∷ main_func (block 0 ends ∷ []) ∷ []) []

-- `main` returns a result that it doesn't have
abbrev pub returns_unknown : Module
returns_unknown = main_of (does (ret (local 9)) ∷ []) []

-- `main` returns a word of another width
abbrev pub returns_wide : Module
returns_wide = main_of (does (op.Ret (Some (i64, int 0))) ∷ []) []

-- the entry block goes to itself
abbrev pub branches_to_entry : Module
branches_to_entry = main_of (does (op.Br (Number 0)) ∷ []) []

-- an external is declared with another type
abbrev pub wide_putchar : Decl
wide_putchar = record putchar { params = i64 ∷ [] }

-- and called
abbrev pub calls_wide_putchar : Module
calls_wide_putchar = main_of (sets 1 (call wide_putchar (int 65 ∷ [])) ∷ ends) (wide_putchar ∷ [])

-- an `alloca` is marked
abbrev pub marked_alloca : Module
marked_alloca = main_of (record { op = op.Alloca i32 i32 (int 1); result = Some (name (codes "__msan.1")); marked = true } ∷ ends) []

-- a global that is too large
abbrev pub large_global : Module
large_global = with_globals (global_of (codes "g") (ty.Array 67108865 i8) initial.Zero ∷ []) ends

-- ---- parts of example modules

-- `main` with instructions, at the end of which it returns 0
abbrev pub body : List Inst → Module
body insts = main_of (insts ++ ends) []

-- the same, with declarations
abbrev pub body_with : List Decl → List Inst → Module
body_with decls insts = main_of (insts ++ ends) decls

-- a module with named types
abbrev pub with_types : List (Name × Ty) → Module → Module
with_types types m = record m { types = types }

-- a module with a further function, which has one block
abbrev pub with_func : List ℕ → Option Ty → List (Ty × Name) → List Inst → Module → Module
with_func x ret params insts m = record m {
  funcs = m.funcs ++ record {
    name = Text x;
    ret = ret;
    params = params;
    blocks = record { name = name (codes "entry"); insts = insts } ∷ [];
  } ∷ [];
}

-- a function that returns nothing and does nothing
abbrev pub with_empty_func : List ℕ → List (Ty × Name) → Module → Module
with_empty_func x params m = with_func x None params (does (op.Ret None) ∷ []) m

-- a call of a function that returns nothing
abbrev pub calls_void : List ℕ → List (Ty × Operand) → Inst
calls_void x args = does (op.Call None (Text x) args)

-- an instruction whose result is bound to a name
abbrev pub binds : List ℕ → Op → Inst
binds x o = record { op = o; result = Some (Text x); marked = false }

-- a marked instruction whose result is bound to a name
abbrev pub binds_marked : List ℕ → Op → Inst
binds_marked x o = record { op = o; result = Some (Text x); marked = true }

-- a marked instruction without a result
abbrev pub does_marked : Op → Inst
does_marked o = record { op = o; result = None; marked = true }

-- the operand that is a global
abbrev pub at_global : List ℕ → Operand
at_global x = operand.Global (Text x)

-- the operand that is a local
abbrev pub at_local : List ℕ → Operand
at_local x = operand.Local (Text x)

-- a struct of a word and a byte
abbrev pub word_and_byte : Ty
word_and_byte = struct_of_two false i32 i8

-- the place of a part of such a struct
abbrev pub part_of : List (Ty × Operand) → Inst
part_of indices = sets 1 (op.Gep word_and_byte operand.Null indices)

-- two ways from the block 0 to the block 3, one over the block 2, where a phi has edges
abbrev pub joins : List (Operand × Name) → Module
joins edges = main_blocks (
    block 0 (sets 1 (icmp predicate.Eq i32 (int 0) (int 0)) ∷ does (branch 1 2 3) ∷ [])
    ∷ block 2 (does (op.Br (Number 3)) ∷ [])
    ∷ block 3 (sets 4 (op.Phi i32 edges) ∷ does (ret (local 4)) ∷ []) ∷ []) []

-- two edges from the block 0 to the block 2, where a phi has edges
abbrev pub joins_twice : List (Operand × Name) → Module
joins_twice edges = main_blocks (
    block 0 (sets 1 (icmp predicate.Eq i32 (int 0) (int 0)) ∷ does (branch 1 2 2) ∷ [])
    ∷ block 2 (sets 3 (op.Phi i32 edges) ∷ does (ret (local 3)) ∷ []) ∷ []) []

-- a type that holds itself
abbrev pub endless : List (Name × Ty)
endless = (name (codes "t"), struct_of_two false i8 (ty.Named (name (codes "t")))) ∷ []

-- the first function of a module
abbrev pub first_func : Module → Func
first_func m = slice_index_or m.funcs 0 (main_func [])
