-- Generated modules: a chain of functions, each of which stores its parameter, loads it back, computes on it and calls the
-- function before it (own).
use Rattle.std.specs.Prelude.{ℕ, zero, suc, ◌+◌, ◌*◌, ◌/◌, ◌%◌, ◌^◌, ◌-◌, List, [], ◌∷◌, ◌++◌, map, Some, nat_eq, if◌then◌else◌, codes, decimal}
use Rattle.std.specs.Fn.{iterate}
use Rattle.std.specs.List.{range_with_len}
use Rattle.ms_bits.specs.declared.operations.BinOp.{BinOp}
use Rattle.ms_bits.specs.declared.operations.BinOp.TheVariants.{And, Or, Xor, Add}
use Rattle.ms_ir.specs.declared.syntax.Func.{Func}
use Rattle.ms_ir.specs.declared.syntax.Inst.{Inst}
use Rattle.ms_ir.specs.declared.syntax.Module.{Module}
use Rattle.ms_ir.specs.declared.syntax.Name.{Name}
use Rattle.ms_ir.specs.declared.syntax.Name.TheVariants.{Number, Text}
use Rattle.ms_ir.specs.declared.syntax.Op.{Op}
use Rattle.ms_ir.specs.declared.syntax.Op.TheVariants as op
use Rattle.ms_ir.specs.declared.syntax.Operand.{Operand}
use Rattle.ms_ir.specs.Builders.{i32, local, int, sets, does, binary, alloca, ret, calls, block, main_func, module_of}
use Rattle.ms_ir.specs.Declarations.{putchar}

-- ---- draws

-- the state after a draw, in the linear congruence for words of 64 bits (Knuth, The Art of Computer Programming, volume 2,
-- "The Linear Congruential Method")
abbrev pub next_state : ℕ → ℕ
next_state state = (state * 6364136223846793005 + 1442695040888963407) % 2 ^ 64

-- the state after so many draws
abbrev pub state_after : (draws state : ℕ) → ℕ
state_after draws state = iterate next_state draws state

-- what the draw with a number, counted from 1, gives below a bound
abbrev pub draw : (number state bound : ℕ) → ℕ
draw number state bound = state_after number state / 2 ^ 33 % bound

-- the operation that a number below 4 stands for
abbrev pub operation_of : ℕ → BinOp
operation_of n = if nat_eq n 0 then And else if nat_eq n 1 then Or else if nat_eq n 2 then Xor else Add

-- ---- functions

-- the name of the function with a number
abbrev pub name_of : ℕ → Name
name_of number = Text (codes "f" ++ decimal number)

-- a call of the function with a number
abbrev pub call_of : ℕ → Operand → Op
call_of number argument = op.Call (Some i32) (name_of number) ((i32, argument) ∷ [])

-- an operation on the result with a number: two draws give what it is, and the constant beside it
abbrev pub operation_on : (value state : ℕ) → Inst
operation_on value state = sets (value + 1) (binary (operation_of (draw 1 state 4)) i32 (local value) (int (draw 2 state 65536)))

-- the parameter is stored, and loaded back
abbrev pub beginning : List Inst
beginning = sets 2 (alloca i32) ∷ does (op.Store i32 (local 0) (local 2)) ∷ sets 3 (op.Load i32 (local 2)) ∷ []

-- so many operations, the first of which is on what was loaded, and each of the others on the result of the one before
unfoldable pub operations : (count state : ℕ) → List Inst
operations count state = map (λ k. operation_on (k + 3) (state_after (2 * k) state)) (range_with_len 0 count)

-- the end of a function: each but the first calls the one before it
abbrev pub ending : ℕ → List Inst
ending zero = does (ret (local 11)) ∷ []
ending (suc before) = sets 12 (call_of before (local 11)) ∷ does (ret (local 12)) ∷ []

-- the instructions of the function with a number, whose draws begin at a state
abbrev pub body_of : (number state : ℕ) → List Inst
body_of number state = beginning ++ (operations 8 state ++ ending number)

abbrev pub function_of : (number state : ℕ) → Func
function_of number state = record {
  name = name_of number;
  ret = Some i32;
  params = (i32, Number 0) ∷ [];
  blocks = block 1 (body_of number state) ∷ [];
}

-- ---- modules

-- the functions, each of which takes sixteen draws
abbrev pub functions_of : (seed count : ℕ) → List Func
functions_of seed count = map (λ k. function_of k (state_after (16 * k) seed)) (range_with_len 0 count)

-- `main` calls the last function with 1, and prints what it gives
abbrev pub main_body_of : ℕ → List Inst
main_body_of count = sets 1 (call_of (count - 1) (int 1)) ∷ calls 2 putchar (local 1 ∷ []) ∷ does (ret (int 0)) ∷ []

abbrev pub main_of : ℕ → Func
main_of count = main_func (block 0 (main_body_of count) ∷ [])

-- the module of a seed and a number of functions
abbrev pub generated : (seed functions : ℕ) → Module
generated seed functions = module_of (functions_of seed functions ++ main_of functions ∷ []) (putchar ∷ [])
