-- Words that build modules: types, operands, operations, instructions, blocks, functions.
use Rattle.std.specs.Prelude.{ℕ, Bool, false, List, [], ◌∷◌, Option, Some, None, option_map, codes}
use Rattle.ms_bits.specs.declared.operations.BinOp.{BinOp}
use Rattle.ms_bits.specs.declared.operations.CastOp.{CastOp}
use Rattle.ms_bits.specs.declared.operations.Pred.{Pred}
use Rattle.ms_ir.specs.declared.syntax.Block.{Block}
use Rattle.ms_ir.specs.declared.syntax.Decl.{Decl}
use Rattle.ms_ir.specs.declared.syntax.Func.{Func}
use Rattle.ms_ir.specs.declared.syntax.Inst.{Inst}
use Rattle.ms_ir.specs.declared.syntax.Module.{Module}
use Rattle.ms_ir.specs.declared.syntax.Name.{Name}
use Rattle.ms_ir.specs.declared.syntax.Name.TheVariants.{Number, Text}
use Rattle.ms_ir.specs.declared.syntax.Op.{Op}
use Rattle.ms_ir.specs.declared.syntax.Op.TheVariants as op
use Rattle.ms_ir.specs.declared.syntax.Operand.{Operand}
use Rattle.ms_ir.specs.declared.syntax.Operand.TheVariants as operand
use Rattle.ms_ir.specs.declared.syntax.Ty.{Ty, Array', Struct', more_of-Ty, end_of-Ty}
use Rattle.ms_ir.specs.declared.syntax.Ty as ty
use Rattle.ms_bits.specs.NoFlags.{no_flags}

-- the integer type of one bit
abbrev pub i1 : Ty
i1 = ty.Int 1

-- the integer type of 8 bits
abbrev pub i8 : Ty
i8 = ty.Int 8

-- the integer type of 16 bits
abbrev pub i16 : Ty
i16 = ty.Int 16

-- the integer type of 32 bits
abbrev pub i32 : Ty
i32 = ty.Int 32

-- the integer type of 64 bits
abbrev pub i64 : Ty
i64 = ty.Int 64

-- an array of n elements
abbrev pub array : ℕ → Ty → Ty
array n t = Array' n _ (more_of-Ty t end_of-Ty)

-- a struct of two fields; true: packed
abbrev pub struct_of_two : Bool → Ty → Ty → Ty
struct_of_two packed a b = Struct' packed (_ ∷ _ ∷ []) (more_of-Ty a (more_of-Ty b end_of-Ty))

-- a struct of three fields; true: packed
abbrev pub struct_of_three : Bool → Ty → Ty → Ty → Ty
struct_of_three packed a b c = Struct' packed (_ ∷ _ ∷ _ ∷ []) (more_of-Ty a (more_of-Ty b (more_of-Ty c end_of-Ty)))

-- the operand that is the result with a number
abbrev pub local : ℕ → Operand
local n = operand.Local (Number n)

-- the operand that is an integer
abbrev pub int : ℕ → Operand
int n = operand.Int n

-- the operand that is an undefined word
abbrev pub undef : Operand
undef = operand.Undef

-- the unmarked instruction whose result has a number
abbrev pub sets : ℕ → Op → Inst
sets n o = record { op = o; result = Some (Number n); marked = false }

-- an unmarked instruction without a result
abbrev pub does : Op → Inst
does o = record { op = o; result = None; marked = false }

-- an operation without flags
abbrev pub binary : BinOp → Ty → Operand → Operand → Op
binary o t a b = op.Binary o no_flags t a b

-- a comparison without flags
abbrev pub icmp : Pred → Ty → Operand → Operand → Op
icmp predicate t a b = op.Icmp predicate no_flags t a b

-- a cast without flags
abbrev pub convert : CastOp → Ty → Operand → Ty → Op
convert o from a to = op.Cast o no_flags from a to

-- room for one value of a type on the stack
abbrev pub alloca : Ty → Op
alloca t = op.Alloca t i32 (int 1)

-- the address of a byte at a distance
abbrev pub byte_at : Operand → ℕ → Op
byte_at base n = op.Gep i8 base ((i64, int n) ∷ [])

-- a branch on the result with a number to one of two blocks
abbrev pub branch : ℕ → ℕ → ℕ → Op
branch condition a b = op.CondBr (local condition) (Number a) (Number b)

-- a return of a word of 32 bits
abbrev pub ret : Operand → Op
ret a = op.Ret (Some (i32, a))

-- a name that is a text
abbrev pub name : List ℕ → Name
name text = Text text

-- a function that is declared: its name, the type of its result and those of its parameters
abbrev pub declares : List ℕ → Option Ty → List Ty → Decl
declares x result params = record { name = Text x; ret = result; params = params }

-- arguments with the types of the parameters
abbrev pub typed : List Ty → List Operand → List (Ty × Operand)
typed [] arguments = []
typed (t ∷ ts) [] = []
typed (t ∷ ts) (a ∷ rest) = (t, a) ∷ typed ts rest

-- a call of a declared function
abbrev pub call : Decl → List Operand → Op
call callee arguments = op.Call callee.ret callee.name (typed callee.params arguments)

-- an unmarked call of a declared function; its result, if it has one, has a number
abbrev pub calls : ℕ → Decl → List Operand → Inst
calls n callee arguments = record { op = call callee arguments; result = option_map (λ t. Number n) callee.ret; marked = false }

-- the end of `main`: the word of 32 bits with the number n is returned
abbrev pub returns : ℕ → List Inst
returns n = does (ret (local n)) ∷ []

-- the end of a block that no run reaches
abbrev pub unreachable : List Inst
unreachable = does op.Unreachable ∷ []

-- a block with a number
abbrev pub block : ℕ → List Inst → Block
block n insts = record { name = Number n; insts = insts }

-- `main` with its blocks
abbrev pub main_func : List Block → Func
main_func blocks = record { name = Text (codes "main"); ret = Some i32; params = []; blocks = blocks }

-- a module of functions and what they call
abbrev pub module_of : List Func → List Decl → Module
module_of funcs decls = record { types = []; globals = []; decls = decls; funcs = funcs }

-- a module of `main` alone, with blocks, and what it calls
abbrev pub main_blocks : List Block → List Decl → Module
main_blocks blocks decls = module_of (main_func blocks ∷ []) decls

-- a module of `main` alone, with one block, and what it calls
abbrev pub main_of : List Inst → List Decl → Module
main_of insts decls = main_blocks (block 0 insts ∷ []) decls

-- a module whose first instruction is a call
abbrev pub calls_first : Decl → List Operand → List Inst → Module
calls_first callee arguments insts = main_of (calls 1 callee arguments ∷ insts) (callee ∷ [])
