-- Modules with guest threads, of which this repository says how they end.
use Rattle.std.specs.Prelude.{ℕ, List, [], ◌∷◌, ◌++◌, Some, codes}
use Rattle.ms_bits.specs.declared.operations.CastOp.TheVariants as cast
use Rattle.ms_ir.specs.declared.syntax.Decl.{Decl}
use Rattle.ms_ir.specs.declared.syntax.Func.{Func}
use Rattle.ms_ir.specs.declared.syntax.Inst.{Inst}
use Rattle.ms_ir.specs.declared.syntax.Module.{Module}
use Rattle.ms_ir.specs.declared.syntax.Name.TheVariants.{Number, Text}
use Rattle.ms_ir.specs.declared.syntax.Op.TheVariants as op
use Rattle.ms_ir.specs.declared.syntax.Operand.{Operand}
use Rattle.ms_ir.specs.declared.syntax.Operand.TheVariants as operand
use Rattle.ms_ir.specs.declared.syntax.Ty as ty
use Rattle.ms_ir.specs.Builders.{i32, i64, local, int, sets, does, convert, alloca, ret, call, block, main_func, module_of, declares}
use Rattle.ms_ir.specs.Declarations.{putchar, free}

abbrev pub pthread_create : Decl
pthread_create = declares (codes "pthread_create") (Some i32) (ty.Ptr ∷ ty.Ptr ∷ ty.Ptr ∷ ty.Ptr ∷ [])

abbrev pub pthread_join : Decl
pthread_join = declares (codes "pthread_join") (Some i32) (i64 ∷ ty.Ptr ∷ [])

abbrev pub sched_yield : Decl
sched_yield = declares (codes "sched_yield") (Some i32) []

-- `@w`, the function of a thread
abbrev pub worker : List Inst → Func
worker insts = record { name = Text (codes "w"); ret = Some ty.Ptr; params = (ty.Ptr, Number 0) ∷ []; blocks = block 1 insts ∷ [] }

abbrev pub returns_pointer : Operand → Inst
returns_pointer a = does (op.Ret (Some (ty.Ptr, a)))

-- `main` makes a fiber of `@w` with an argument, whose number stands at `%1`
abbrev pub makes : ℕ → (id argument : Operand) → Inst
makes n id argument = sets n (call pthread_create (id ∷ operand.Null ∷ operand.Global (Text (codes "w")) ∷ argument ∷ []))

-- a fiber prints 66; `main` makes it, yields, prints 65, and joins it
abbrev pub prints_from_two : Module
prints_from_two = module_of (
    worker (sets 2 (call putchar (int 66 ∷ [])) ∷ returns_pointer (local 0) ∷ [])
    ∷ main_func (block 0 (
    sets 1 (alloca i64) ∷ makes 2 (local 1) operand.Null ∷ sets 3 (call sched_yield []) ∷ sets 4 (call putchar (int 65 ∷ []))
    ∷ sets 5 (op.Load i64 (local 1)) ∷ sets 6 (call pthread_join (local 5 ∷ operand.Null ∷ [])) ∷ does (ret (int 0)) ∷ []) ∷ []) ∷ [])
    (putchar ∷ pthread_create ∷ pthread_join ∷ sched_yield ∷ [])

-- two fibers join each other, and `main` joins one of them
abbrev pub joins_round : Module
joins_round = module_of (
    worker (sets 2 (convert cast.PtrToInt ty.Ptr (local 0) i64) ∷ sets 3 (call pthread_join (local 2 ∷ operand.Null ∷ [])) ∷ returns_pointer operand.Null ∷ [])
    ∷ main_func (block 0 (
    sets 1 (alloca i64) ∷ sets 2 (convert cast.IntToPtr i64 (int 2) ty.Ptr) ∷ sets 3 (convert cast.IntToPtr i64 (int 1) ty.Ptr)
    ∷ makes 4 (local 1) (local 2) ∷ makes 5 (local 1) (local 3) ∷ sets 6 (call pthread_join (int 1 ∷ operand.Null ∷ [])) ∷ does (ret (int 0)) ∷ []) ∷ []) ∷ [])
    (pthread_create ∷ pthread_join ∷ [])

-- a fiber returns a word that isn't set, `main` joins it and returns the word
abbrev pub joins_unset : Module
joins_unset = module_of (
    worker (sets 2 (alloca ty.Ptr) ∷ sets 3 (op.Load ty.Ptr (local 2)) ∷ returns_pointer (local 3) ∷ [])
    ∷ main_func (block 0 (
    sets 1 (alloca i64) ∷ sets 2 (alloca i64) ∷ makes 3 (local 1) operand.Null ∷ sets 4 (call pthread_join (int 1 ∷ local 2 ∷ []))
    ∷ sets 5 (op.Load i32 (local 2)) ∷ does (ret (local 5)) ∷ []) ∷ []) ∷ [])
    (pthread_create ∷ pthread_join ∷ [])

-- a fiber does something with room of its own and returns a pointer; `main` joins it and goes on with the pointer, `%5`
abbrev pub with_own_room : List Inst → Operand → List Inst → Module
with_own_room insts answer after = module_of (
    worker (sets 2 (alloca i32) ∷ (insts ++ returns_pointer answer ∷ []))
    ∷ main_func (block 0 (
    sets 1 (alloca i64) ∷ sets 2 (alloca ty.Ptr) ∷ makes 3 (local 1) operand.Null ∷ sets 4 (call pthread_join (int 1 ∷ local 2 ∷ []))
    ∷ sets 5 (op.Load ty.Ptr (local 2)) ∷ after) ∷ []) ∷ [])
    (pthread_create ∷ pthread_join ∷ free ∷ [])

-- `main` reads the room of a fiber that has ended
abbrev pub reads_room_of_ended : Module
reads_room_of_ended = with_own_room [] (local 2) (sets 6 (op.Load i32 (local 5)) ∷ does (ret (local 6)) ∷ [])

-- a fiber frees its room itself
abbrev pub frees_own_room : Module
frees_own_room = with_own_room (does (call free (local 2 ∷ [])) ∷ []) operand.Null (does (ret (int 0)) ∷ [])
