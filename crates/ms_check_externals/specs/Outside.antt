-- What stands for the outside of a module, part by part, as the parts of the code look at it. What `first_bad_external`
-- promises does not name this.
use Rattle.std.specs.Prelude.{Bool, not, ◌&&◌, List, [], ◌++◌, flat_map}
use Rattle.std.specs.List.{list_all}
use Rattle.ms_ir.specs.declared.syntax.Name.{Name}
use Rattle.ms_ir.specs.declared.syntax.Ty.{Ty}
use Rattle.ms_ir.specs.declared.syntax.Operand.{Operand}
use Rattle.ms_ir.specs.declared.syntax.Op.{Op}
use Rattle.ms_ir.specs.declared.syntax.Op.TheVariants as op
use Rattle.ms_ir.specs.declared.syntax.Inst.{Inst}
use Rattle.ms_ir.specs.declared.syntax.Block.{Block}
use Rattle.ms_ir.specs.declared.syntax.Func.{Func}
use Rattle.ms_ir.specs.Names.{lookup, externals, is_kept}
use Rattle.ms_ir.specs.Equal.{has_name}
use Rattle.ms_check_valid.specs.ExternalsFit.{name_unless, flag_fits}

-- a call has a flag that doesn't fit, in a module that defines functions with these names
abbrev pub is_misflagged : List Name → Name → List (Ty × Operand) → Bool
is_misflagged functions callee args = not (list_all (flag_fits (lookup externals callee)) args) && not (has_name functions callee)

-- the callee of such a call
abbrev pub flagged_in : List Name → Op → List Name
flagged_in functions (op.Call ret callee args) = name_unless (not (is_misflagged functions callee args)) callee
flagged_in functions o = []

-- in instructions
abbrev pub flagged_among : List Name → List Inst → List Name
flagged_among functions insts = flat_map (λ inst. flagged_in functions inst.op) insts

-- in blocks
abbrev pub flagged_within : List Name → List Block → List Name
flagged_within functions blocks = flat_map (λ b. flagged_among functions b.insts) blocks

-- a function's name where it is kept, and those callees
abbrev pub func_faults : List Name → Func → List Name
func_faults functions f = name_unless (not (is_kept f.name)) f.name ++ flagged_within functions f.blocks
