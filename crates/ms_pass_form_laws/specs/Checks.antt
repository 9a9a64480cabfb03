-- How many checks of words stand in a function, and how many its instructions ask for (own; checks after Stepanov and
-- Serebryany, CGO 2015).
use Rattle.std.specs.Prelude.{ℕ, Bool, true, false, not, List, filter, length, if◌then◌else◌, Option, Some, None, slice_get}
use Rattle.ms_ir.specs.declared.syntax.Name.{Name}
use Rattle.ms_ir.specs.declared.syntax.Ty.{Ty}
use Rattle.ms_ir.specs.declared.syntax.Operand.{Operand}
use Rattle.ms_ir.specs.declared.syntax.Op.{Op}
use Rattle.ms_ir.specs.declared.syntax.Op.TheVariants as op
use Rattle.ms_ir.specs.declared.syntax.Inst.{Inst}
use Rattle.ms_ir.specs.declared.syntax.Func.{Func}
use Rattle.ms_ir.specs.declared.syntax.Module.{Module}
use Rattle.ms_ir.specs.declared.calls.RuntimeFn.TheVariants.{Check}
use Rattle.ms_ir.specs.Names.{name_eq, main_name, runtime_name}
use Rattle.ms_ir.specs.Instructions.{operands, func_index, over_blocks}
use Rattle.ms_runs.specs.Uses.{CheckedUse, Word, uses}
use Rattle.ms_check_valid.specs.CleanValues.{is_clean_operand}

-- ---- calls

-- a call of the runtime function that checks a word
abbrev pub is_check : Op → Bool
is_check (op.Call ret callee args) = name_eq callee (runtime_name Check)
is_check o = false

-- 1 for such a call
abbrev pub one_check : Inst → ℕ
one_check inst = if is_check inst.op then 1 else 0

-- how many stand in a function
abbrev pub check_calls : Func → ℕ
check_calls f = over_blocks one_check f.blocks

-- ---- uses

-- the operand at a place is clean, or there is none
abbrev pub is_clean_at : (Name → Bool) → List (Ty × Operand) → ℕ → Bool
is_clean_at clean os k = elim (slice_get os k) [ Some o ↦ is_clean_operand clean o.1 | None ↦ true ]

-- a use that is checked as a word, whose operand isn't clean
abbrev pub is_unclean : (Name → Bool) → List (Ty × Operand) → CheckedUse → Bool
is_unclean clean os (Word kind k) = not (is_clean_at clean os k)
is_unclean clean os u = false

-- how many of them an instruction has; one that was inserted has none
abbrev pub unclean_uses : (Name → Bool) → (Name → Option ℕ) → (main : Bool) → Inst → ℕ
unclean_uses clean func main inst = if inst.marked then 0 else length (filter (is_unclean clean (operands inst.op)) (uses func main inst.op))

-- how many a function of a module has
abbrev pub unclean_checks : (Name → Bool) → Module → Func → ℕ
unclean_checks clean m f = over_blocks (unclean_uses clean (func_index m.funcs) (name_eq f.name main_name)) f.blocks
