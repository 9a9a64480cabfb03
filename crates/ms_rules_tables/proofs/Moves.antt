-- What a function that moves bits takes to give its mask.
use Rattle.std.proofs.Common.{◌≡◌, ℕ, List, [], ◌∷◌, map, Option, Some, None, refl}
use Rattle.ms_bits.specs.declared.word_functions.WordFn.{WordFn}
use Rattle.ms_bits.specs.declared.word_functions.WordFn.TheVariants as word
use Rattle.ms_bits.specs.declared.word_functions.WordWidth.{WordWidth}
use Rattle.ms_bits.specs.declared.word_functions.BitMove.{BitMove}
use Rattle.ms_bits.specs.declared.word_functions.BitMove.TheVariants.{Bswap16, Bswap32, Bswap64, Bitreverse8, Bitreverse16, Bitreverse32, Bitreverse64, Fshl8, Fshl16, Fshl32, Fshl64, Fshr8, Fshr16, Fshr32, Fshr64}
use Rattle.ms_ir.specs.declared.calls.External.{External}
use Rattle.ms_ir.specs.declared.calls.External.TheVariants.{Word}
use Rattle.ms_ir.specs.declared.calls.RuntimeFn.TheVariants as function
use Rattle.ms_ir.specs.declared.syntax.Op.{Op}
use Rattle.ms_ir.specs.Signatures.{runtime_signature}
use Rattle.ms_pass_tasks.specs.Tasks.{mask_name, origin_name}
use Rattle.ms_pass_tasks.specs.Environments.{Tracked, number, is_zero}
use Rattle.ms_pass_tasks.specs.ResultMasks.{moved_args, move_args, mask_expr, origin_expr, answer_expr, answer_origin_expr}
use Rattle.ms_pass_tasks.specs.ResultTasks.{external_move, answer_tasks, result_width}
use Rattle.ms_rules_tables.specs.Rules.{args_with, defined, answered}

pub args_are : (f : WordFn) (w : ℕ) (a b c : Tracked) → moved_args f w a b c ≡ args_with (is_zero c.mask) f w a b c
args_are word.Fshl w a b c = refl
args_are word.Fshr w a b c = refl
args_are f w a b c = refl

pub args_typed : (k : BitMove) (ts : List Tracked) → map (λ a. a.0) (move_args k ts) ≡ (runtime_signature (function.Move k)).params
args_typed Bswap16 ts = refl
args_typed Bswap32 ts = refl
args_typed Bswap64 ts = refl
args_typed Bitreverse8 ts = refl
args_typed Bitreverse16 ts = refl
args_typed Bitreverse32 ts = refl
args_typed Bitreverse64 ts = refl
args_typed Fshl8 ts = refl
args_typed Fshl16 ts = refl
args_typed Fshl32 ts = refl
args_typed Fshl64 ts = refl
args_typed Fshr8 ts = refl
args_typed Fshr16 ts = refl
args_typed Fshr32 ts = refl
args_typed Fshr64 ts = refl

-- the tasks of an answer
pub answer_is : (v : ℕ) (k : Option BitMove) (o : Op) (ts : List Tracked) → answered v (result_width o) k (origin_expr o ts) (mask_expr o ts) ts ≡ answer_tasks (mask_name v) (origin_name v) k o ts
answer_is v (Some k) o ts = refl
answer_is v None o ts = refl

-- that of any other external is clean
pub clean_answer : (v w : ℕ) (e : External) (ts : List Tracked) → ((f : WordFn) (n : WordWidth) → e ≡ Word f n → ⊥)
    → defined v w (number 0) (number 0) ≡ answered v w (external_move (Some e)) (answer_origin_expr (Some e) ts) (answer_expr (Some e) ts) ts
clean_answer v w (Word f n) ts other = absurd (other f n refl)
clean_answer v w e ts other = refl
