-- What the last instruction of a word or of a task comes to.
use Rattle.std.proofs.Common.{◌≡◌, ℕ, List, [], refl, ap}
use Rattle.std.specs.Prelude.{Some, None}
use Rattle.std.specs.Int.{from_bool}
use Rattle.ms_bits.specs.declared.operations.CastOp.{CastOp}
use Rattle.ms_bits.specs.declared.operations.CastOp.TheVariants.{Trunc, Zext, Sext, PtrToInt, IntToPtr, Bitcast}
use Rattle.ms_bits.specs.declared.operations.Pred.{Pred}
use Rattle.ms_bits.specs.declared.word_functions.BitMove.{BitMove}
use Rattle.ms_bits.specs.declared.word_functions.BitMove.TheVariants.{Bswap16, Bswap32, Bswap64, Bitreverse8, Bitreverse16, Bitreverse32, Bitreverse64, Fshl8, Fshl16, Fshl32, Fshl64, Fshr8, Fshr16, Fshr32, Fshr64}
use Rattle.ms_bits.specs.Arithmetic.{binary_of, or_of, add_of, sub_of, mul_of}
use Rattle.ms_bits.specs.Conversions.{cast_of, compare_of, holds}
use Rattle.ms_ir.specs.declared.calls.RuntimeFn.{RuntimeFn}
use Rattle.ms_ir.specs.declared.calls.RuntimeFn.TheVariants as function
use Rattle.ms_ir.specs.declared.syntax.Name.{Name}
use Rattle.ms_ir.specs.declared.syntax.Ty.{Ty}
use Rattle.ms_ir.specs.declared.syntax.Operand.{Operand}
use Rattle.ms_bits.specs.NoFlags.{no_flags}
use Rattle.ms_ir.specs.Names.{lookup, bit_moves, runtime_functions, runtime_name}
use Rattle.ms_runs.specs.World.{World, Setting, Here, Gives, Ends, stuck, gives}
use Rattle.ms_ir.specs.Instructions.{operands}
use Rattle.ms_runs.specs.Act.{truth}
use Rattle.ms_runs.specs.Masks.{value_or_zero}
use Rattle.ms_runs.specs.Plain.{slots_after, act_marked}
use Rattle.ms_runs.specs.Runtime.{runtime}
use Rattle.ms_pass_tasks.specs.Tasks.{Operation, And, Or, Xor, Add, Sub, Mul, Task, Sets, Tries, Fetches, Puts, Calls, parts, last_op, flatten_all, binop_of}
use Rattle.ms_pass_tasks.specs.Meaning.{operation_of, task_effect}

pub arith_gives : (site : ℕ) (o : Operation) (width a b : ℕ) (w : World) → gives site (binary_of (binop_of o) no_flags width a b) w ≡ Gives (operation_of o width a b) w
unfolding binary_of or_of add_of sub_of mul_of
arith_gives site And width a b w = refl
arith_gives site Or width a b w = refl
arith_gives site Xor width a b w = refl
arith_gives site Add width a b w = refl
arith_gives site Sub width a b w = refl
arith_gives site Mul width a b w = refl

pub cast_gives : (site : ℕ) (o : CastOp) (width a to : ℕ) (w : World) → gives site (cast_of o no_flags width a to) w ≡ Gives (value_or_zero (cast_of o no_flags width a to)) w
unfolding cast_of
cast_gives site Trunc width a to w = refl
cast_gives site Zext width a to w = refl
cast_gives site Sext width a to w = refl
cast_gives site PtrToInt width a to w = refl
cast_gives site IntToPtr width a to w = refl
cast_gives site Bitcast width a to w = refl

pub test_gives : (site : ℕ) (p : Pred) (width a b : ℕ) (w : World) → gives site (truth (compare_of p no_flags width a b)) w ≡ Gives (from_bool (holds p width a b)) w
unfolding compare_of
test_gives site p width a b w = refl

move_known : (k : BitMove) → lookup runtime_functions (runtime_name (function.Move k)) ≡ Some (function.Move k)
unfolding bit_moves
move_known Bswap16 = refl
move_known Bswap32 = refl
move_known Bswap64 = refl
move_known Bitreverse8 = refl
move_known Bitreverse16 = refl
move_known Bitreverse32 = refl
move_known Bitreverse64 = refl
move_known Fshl8 = refl
move_known Fshl16 = refl
move_known Fshl32 = refl
move_known Fshl64 = refl
move_known Fshr8 = refl
move_known Fshr16 = refl
move_known Fshr32 = refl
move_known Fshr64 = refl

pub runtime_known : (f : RuntimeFn) → lookup runtime_functions (runtime_name f) ≡ Some f
runtime_known function.Check = refl
runtime_known function.CheckMemory = refl
runtime_known function.CheckString = refl
runtime_known function.Blind = refl
runtime_known function.Poison = refl
runtime_known function.Unpoison = refl
runtime_known function.Copy = refl
runtime_known function.Fill = refl
runtime_known function.StoreOrigin = refl
runtime_known function.LoadOrigin = refl
runtime_known function.Size = refl
runtime_known function.CheckFormat = refl
runtime_known function.ThreadResult = refl
runtime_known (function.Move k) = move_known k

-- a task whose last instruction takes words
abbrev pub TakesWords : Task → Type 0
TakesWords (Sets x t e) = ⊥
TakesWords _ = Unit {0}

-- the operands of a task's last instruction are those that hold its words
pub last_operands : (t : Task) → TakesWords t → (n : ℕ) → operands (last_op t (flatten_all (parts t) n).operands) ≡ (flatten_all (parts t) n).operands
last_operands (Sets x t e) k n = absurd k
last_operands (Tries x o t a b) k n = refl
last_operands (Fetches x t a) k n = refl
last_operands (Puts t a b) k n = refl
last_operands (Calls x f args) k n = refl

pub last_slots : (t : Task) (os : List (Ty × Operand)) (words : List ℕ) (cells : ℕ → ℕ) → slots_after (last_op t os) words cells ≡ slots_after (last_op t []) words cells
last_slots (Sets x t e) os words cells = refl
last_slots (Tries x o t a b) os words cells = refl
last_slots (Fetches x t a) os words cells = refl
last_slots (Puts t a b) os words cells = refl
last_slots (Calls x f args) os words cells = refl

pub last_effect : (s : Setting) (h : Here) (names : Name → ℕ) (t : Task) → TakesWords t → (os : List (Ty × Operand)) (words : List ℕ) (cells : ℕ → ℕ) (w : World)
    → act_marked s h (last_op t os) words cells w ≡ task_effect s h names t words cells w
last_effect s h names (Sets x t e) k os words cells w = absurd k
last_effect s h names (Tries x o t a b) k os words cells w = refl
last_effect s h names (Fetches x t a) k os words cells w = refl
last_effect s h names (Puts t a b) k os words cells w = refl
last_effect s h names (Calls x f args) k os words cells w = ap (λ r. elim r [ Some g ↦ runtime s g words w | None ↦ Ends stuck w ]) (runtime_known f)
