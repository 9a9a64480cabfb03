-- The thread calls of a module (POSIX, "pthread_create", "pthread_join" and "sched_yield").
use Rattle.std.specs.Prelude.{ℕ, Bool, false, Option, Some, None}
use Rattle.std.specs.List.{list_any}
use Rattle.ms_ir.specs.declared.syntax.Name.{Name}
use Rattle.ms_ir.specs.declared.syntax.Op.{Op}
use Rattle.ms_ir.specs.declared.syntax.Op.TheVariants as op
use Rattle.ms_ir.specs.declared.syntax.Block.{Block}
use Rattle.ms_ir.specs.declared.syntax.Func.{Func}
use Rattle.ms_ir.specs.declared.syntax.Module.{Module}
use Rattle.ms_ir.specs.declared.calls.External.{External}
use Rattle.ms_ir.specs.Signatures.{is_thread_call}
use Rattle.ms_ir.specs.Instructions.{func_index, external_named}

-- a callee is a thread call
abbrev pub is_asked : Option External → Bool
is_asked None = false
is_asked (Some e) = is_thread_call e

-- an operation is one
abbrev pub calls_thread : (Name → Option ℕ) → Op → Bool
calls_thread func (op.Call ret callee args) = is_asked (external_named func callee)
calls_thread func o = false

-- a block, a function and a module have one
abbrev pub is_block_threaded : (Name → Option ℕ) → Block → Bool
is_block_threaded func b = list_any (λ i. calls_thread func i.op) b.insts

abbrev pub is_func_threaded : (Name → Option ℕ) → Func → Bool
is_func_threaded func f = list_any (is_block_threaded func) f.blocks

abbrev pub is_threaded : Module → Bool
is_threaded m = list_any (is_func_threaded (func_index m.funcs)) m.funcs
