-- The roots of a module: what makes uninitialised bytes or bits, in text order (own). They are numbered from 1 on.
use Rattle.std.specs.Prelude.{ℕ, ◌+◌, List, [], ◌∷◌, ◌++◌, if◌then◌else◌, Option, Some, None, eqb, slice_get, ◌-◌}
use Rattle.ms_ir.specs.declared.syntax.Name.{Name}
use Rattle.ms_ir.specs.declared.syntax.Ty.{Ty}
use Rattle.ms_ir.specs.declared.syntax.Operand.{Operand}
use Rattle.ms_ir.specs.declared.syntax.Operand.TheVariants as operand
use Rattle.ms_ir.specs.declared.syntax.Op.{Op}
use Rattle.ms_ir.specs.declared.syntax.Op.TheVariants as op
use Rattle.ms_ir.specs.declared.syntax.Inst.{Inst}
use Rattle.ms_ir.specs.declared.syntax.Block.{Block}
use Rattle.ms_ir.specs.declared.syntax.Func.{Func}
use Rattle.ms_ir.specs.declared.syntax.Module.{Module}
use Rattle.ms_ir.specs.declared.calls.External.{External}
use Rattle.ms_ir.specs.declared.calls.External.TheVariants.{Malloc, Realloc, LifetimeStart}
use Rattle.ms_ir.specs.declared.places.Root.{Root}
use Rattle.ms_ir.specs.declared.places.RootKind.{RootKind}
use Rattle.ms_ir.specs.declared.places.RootKind.TheVariants as kind
use Rattle.ms_ir.specs.Instructions.{operands, func_index, one_unmarked, over_insts, over_blocks, external_named}

-- a root of a kind at a site
abbrev pub root : RootKind → ℕ → Root
root k site = record { kind = k; site = site }

-- the roots that undefined operands are, in written order
abbrev pub undef_roots : ℕ → List (Ty × Operand) → List Root
undef_roots site [] = []
undef_roots site ((t, operand.Undef) ∷ rest) = root kind.Undef site ∷ undef_roots site rest
undef_roots site ((t, operand.Poison) ∷ rest) = root kind.Undef site ∷ undef_roots site rest
undef_roots site (o ∷ rest) = undef_roots site rest

-- the root that a call of an external is, if it makes uninitialised bytes
abbrev pub call_roots : ℕ → Option External → List Root
call_roots site (Some Malloc) = root kind.Malloc site ∷ []
call_roots site (Some Realloc) = root kind.Realloc site ∷ []
call_roots site (Some LifetimeStart) = root kind.Lifetime site ∷ []
call_roots site _ = []

-- the root that an instruction is itself, if it is one
abbrev pub own_roots : (Name → Option ℕ) → ℕ → Op → List Root
own_roots func site (op.Alloca t u count) = root kind.Alloca site ∷ []
own_roots func site (op.Call ret callee args) = call_roots site (external_named func callee)
own_roots func site _ = []

-- the roots of an instruction at a site: its undefined operands come first, then itself; a marked one has none
abbrev pub inst_roots : (Name → Option ℕ) → ℕ → Inst → List Root
inst_roots func site inst = if inst.marked then [] else (undef_roots site (operands inst.op) ++ own_roots func site inst.op)

-- the roots of instructions, the first unmarked one of which has a site
abbrev pub insts_roots : (Name → Option ℕ) → ℕ → List Inst → List Root
insts_roots func site [] = []
insts_roots func site (inst ∷ rest) = inst_roots func site inst ++ insts_roots func (site + one_unmarked inst) rest

-- the roots of blocks
abbrev pub blocks_roots : (Name → Option ℕ) → ℕ → List Block → List Root
blocks_roots func site [] = []
blocks_roots func site (b ∷ rest) = insts_roots func site b.insts ++ blocks_roots func (site + over_insts one_unmarked b.insts) rest

-- the roots of functions
abbrev pub funcs_roots : (Name → Option ℕ) → ℕ → List Func → List Root
funcs_roots func site [] = []
funcs_roots func site (f ∷ rest) = blocks_roots func site f.blocks ++ funcs_roots func (site + over_blocks one_unmarked f.blocks) rest

-- the roots of a module
abbrev pub roots_of : Module → List Root
roots_of m = funcs_roots (func_index m.funcs) 1 m.funcs

-- the root with a number, if the module has it
abbrev pub root_numbered : Module → ℕ → Option Root
root_numbered m n = if eqb n 0 then None else slice_get (roots_of m) (n - 1)
