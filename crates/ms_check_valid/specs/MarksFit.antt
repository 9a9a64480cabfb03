-- Marks stand on inserted instructions alone, and no other instruction depends on these (own; a mark is the metadata
-- `!nosanitize`).
use Rattle.std.specs.Prelude.{ℕ, Bool, true, false, not, ◌&&◌, ◌||◌, List, [], ◌∷◌, filter, if◌then◌else◌, Option, Some, None, is_some}
use Rattle.std.specs.List.{list_any}
use Rattle.ms_ir.specs.declared.syntax.Name.{Name}
use Rattle.ms_ir.specs.declared.syntax.Op.{Op}
use Rattle.ms_ir.specs.declared.syntax.Op.TheVariants as op
use Rattle.ms_ir.specs.declared.syntax.Inst.{Inst}
use Rattle.ms_ir.specs.declared.syntax.Func.{Func}
use Rattle.ms_ir.specs.declared.syntax.Module.{Module}
use Rattle.ms_ir.specs.Names.{lookup, runtime_functions, is_reserved, is_inserted_name}
use Rattle.ms_ir.specs.Equal.{has_name}
use Rattle.ms_ir.specs.Written.{Mention, OfType, OfLocal, OfGlobal, mentions}
use Rattle.ms_ir.specs.Locals.{results, func_insts}
use Rattle.ms_ir.specs.Spots.{found_at_insts}

-- an instruction may be marked: terminators and `alloca` may not, and a call that may goes to a runtime function
abbrev pub may_be_marked : Op → Bool
may_be_marked (op.Alloca t u count) = false
may_be_marked (op.Br to) = false
may_be_marked (op.CondBr c to other) = false
may_be_marked (op.Switch t v other cases) = false
may_be_marked (op.Ret v) = false
may_be_marked op.Unreachable = false
may_be_marked (op.Call ret callee args) = is_some (lookup runtime_functions callee)
may_be_marked o = true

-- a result, if there is one, is named so
abbrev pub all_results : (Name → Bool) → Option Name → Bool
all_results named None = true
all_results named (Some x) = named x

-- the results of marked instructions
abbrev pub marked_results : Func → List Name
marked_results f = results (filter (λ inst. inst.marked) (func_insts f))

-- a name is reserved, or that of a marked result
abbrev pub is_inserted : List Name → Mention → Bool
is_inserted marked (OfType x) = is_reserved x
is_inserted marked (OfLocal x) = is_reserved x || has_name marked x
is_inserted marked (OfGlobal x) = is_reserved x

-- a marked instruction may be marked, and its result is named as inserted; an unmarked one has no such result, and uses
-- no inserted name
abbrev pub mark_fits : Func → Inst → Bool
mark_fits f inst =
    if inst.marked
    then may_be_marked inst.op && all_results is_inserted_name inst.result
    else all_results (λ x. not (is_inserted_name x)) inst.result && not (list_any (is_inserted (marked_results f)) (mentions inst.op))

-- the sites of instructions whose marks don't fit, in text order
abbrev pub bad_marks : Module → List ℕ
bad_marks m = found_at_insts (λ at inst. if mark_fits at.func inst then [] else at.site ∷ []) m
