-- An instruction's operands, places in a module, and the numbers of sites and roots (LLVM Language Reference,
-- "Instruction Reference"; own: sites, roots and marks).
use Rattle.std.specs.Prelude.{◌≡◌, ℕ, suc, ◌+◌, Bool, true, false, not, List, [], ◌∷◌, map, take, drop, filter, if◌then◌else◌, Option, Some, None, unwrap_or, option_map, is_some, slice_get}
use Rattle.ms_ir.specs.declared.syntax.Name.{Name}
use Rattle.ms_ir.specs.declared.syntax.Ty.{Ty}
use Rattle.ms_ir.specs.declared.syntax.Ty as ty
use Rattle.ms_ir.specs.declared.syntax.Operand.{Operand}
use Rattle.ms_ir.specs.declared.syntax.Operand.TheVariants as operand
use Rattle.ms_ir.specs.declared.syntax.Op.{Op}
use Rattle.ms_ir.specs.declared.syntax.Op.TheVariants as op
use Rattle.ms_ir.specs.declared.syntax.Inst.{Inst}
use Rattle.ms_ir.specs.declared.syntax.Block.{Block}
use Rattle.ms_ir.specs.declared.syntax.Func.{Func}
use Rattle.ms_ir.specs.declared.syntax.Module.{Module}
use Rattle.ms_ir.specs.declared.calls.External.{External}
use Rattle.ms_ir.specs.declared.calls.External.TheVariants.{Malloc, Realloc, LifetimeStart}
use Rattle.ms_ir.specs.Names.{name_eq, lookup, externals, is_reserved}

-- the operands of an instruction with their types, in written order
abbrev pub operands : Op → List (Ty × Operand)
operands (op.Binary o flags t a b) = (t, a) ∷ (t, b) ∷ []
operands (op.Icmp p flags t a b) = (t, a) ∷ (t, b) ∷ []
operands (op.Cast o flags t a u) = (t, a) ∷ []
operands (op.Select c t a b) = (ty.Int 1, c) ∷ (t, a) ∷ (t, b) ∷ []
operands (op.Freeze t a) = (t, a) ∷ []
operands (op.Phi t edges) = map (λ e. (t, e.0)) edges
operands (op.Alloca t u count) = (u, count) ∷ []
operands (op.Load t addr) = (ty.Ptr, addr) ∷ []
operands (op.Store t v addr) = (t, v) ∷ (ty.Ptr, addr) ∷ []
operands (op.Gep t base indices) = (ty.Ptr, base) ∷ indices
operands (op.Call ret callee args) = args
operands (op.Br to) = []
operands (op.CondBr c to other) = (ty.Int 1, c) ∷ []
operands (op.Switch t v other cases) = (t, v) ∷ []
operands (op.Ret None) = []
operands (op.Ret (Some v)) = v ∷ []
operands op.Unreachable = []

-- an instruction is a phi
abbrev pub is_phi : Op → Bool
is_phi (op.Phi t edges) = true
is_phi o = false

-- the place of the function with a name, counted from 0
abbrev pub func_index : List Func → Name → Option ℕ
func_index [] x = None
func_index (f ∷ fs) x = if name_eq f.name x then Some 0 else option_map suc (func_index fs x)

-- the place of the block with a name, counted from 0; the number of blocks where none has it
abbrev pub block_index : List Block → Name → ℕ
block_index [] x = 0
block_index (b ∷ bs) x = if name_eq b.name x then 0 else suc (block_index bs x)

-- the function at a place
abbrev pub func_at : Module → ℕ → Option Func
func_at m f = slice_get m.funcs f

-- the blocks of the function at a place
abbrev pub blocks_at : Module → ℕ → List Block
blocks_at m f = unwrap_or (option_map (λ g. g.blocks) (func_at m f)) []

-- the instructions of block b of function f
abbrev pub insts_at : Module → ℕ → ℕ → List Inst
insts_at m f b = unwrap_or (option_map (λ k. k.insts) (slice_get (blocks_at m f) b)) []

-- the sum of a count over instructions
abbrev pub over_insts : (Inst → ℕ) → List Inst → ℕ
over_insts count [] = 0
over_insts count (inst ∷ rest) = count inst + over_insts count rest

-- the sum of a count over the instructions of blocks
abbrev pub over_blocks : (Inst → ℕ) → List Block → ℕ
over_blocks count [] = 0
over_blocks count (b ∷ bs) = over_insts count b.insts + over_blocks count bs

-- the sum of a count over the instructions of functions
abbrev pub over_funcs : (Inst → ℕ) → List Func → ℕ
over_funcs count [] = 0
over_funcs count (f ∷ fs) = over_blocks count f.blocks + over_funcs count fs

-- the sum of a count over the instructions that stand in the text before instruction p of block b of function f
abbrev pub before : (Inst → ℕ) → Module → ℕ → ℕ → ℕ → ℕ
before count m f b p = over_funcs count (take f m.funcs) + over_blocks count (take b (blocks_at m f)) + over_insts count (take p (insts_at m f b))

-- 1 for an unmarked instruction, which has a site
abbrev pub one_unmarked : Inst → ℕ
one_unmarked inst = if inst.marked then 0 else 1

-- the site of an instruction: unmarked ones are numbered from 1 in text order, and a marked one has the next one's
abbrev pub site_at : Module → ℕ → ℕ → ℕ → ℕ
site_at m f b p = 1 + before one_unmarked m f b p

-- 1 for an undefined operand, which is a root
abbrev pub one_undef : Operand → ℕ
one_undef operand.Undef = 1
one_undef operand.Poison = 1
one_undef _ = 0

-- the number of undefined operands
abbrev pub count_undefs : List (Ty × Operand) → ℕ
count_undefs [] = 0
count_undefs (o ∷ rest) = one_undef o.1 + count_undefs rest

-- an external makes uninitialised bytes
abbrev pub makes_unset : Option External → Bool
makes_unset (Some Malloc) = true
makes_unset (Some Realloc) = true
makes_unset (Some LifetimeStart) = true
makes_unset _ = false

-- the external with a name, where the module defines no function of this name
abbrev pub external_named : (Name → Option ℕ) → Name → Option External
external_named func x = if is_some (func x) then None else lookup externals x

-- an instruction is itself a root: an 'alloca', or a call of an external that makes uninitialised bytes
abbrev pub is_root : (Name → Option ℕ) → Op → Bool
is_root func (op.Alloca t u count) = true
is_root func (op.Call ret callee args) = makes_unset (external_named func callee)
is_root func _ = false

-- the number of roots of an instruction: its undefined operands come first, then itself; a marked one has none
abbrev pub roots_in : (Name → Option ℕ) → Inst → ℕ
roots_in func inst = if inst.marked then 0 else (count_undefs (operands inst.op) + (if is_root func inst.op then 1 else 0))

-- the number of roots that stand in the text before instruction p of block b of function f; roots are numbered from 1
abbrev pub root_at : (Name → Option ℕ) → Module → ℕ → ℕ → ℕ → ℕ
root_at func m f b p = before (roots_in func) m f b p

-- the number of roots of a module
abbrev pub count_roots : Module → ℕ
count_roots m = over_funcs (roots_in (func_index m.funcs)) m.funcs

-- an instruction is none of those that were inserted
abbrev pub is_unmarked : Inst → Bool
is_unmarked inst = not inst.marked

-- a block without marked instructions
abbrev pub strip_block : Block → Block
strip_block b = record b { insts = filter is_unmarked b.insts }

-- a function without marked instructions
abbrev pub strip_func : Func → Func
strip_func f = record f { blocks = map strip_block f.blocks }

-- a module without marked instructions, and without reserved globals and declarations
abbrev pub strip : Module → Module
strip m = record {
  types = m.types;
  globals = filter (λ g. not (is_reserved g.name)) m.globals;
  decls = filter (λ d. not (is_reserved d.name)) m.decls;
  funcs = map strip_func m.funcs;
}

-- the first of some instructions, if there is one, is not marked
abbrev pub HeadUnmarked : List Inst → Type 0
HeadUnmarked [] = Unit {0}
HeadUnmarked (i ∷ is) = i.marked ≡ false

-- no instruction is marked
abbrev pub NoMarks : Module → Type 0
NoMarks m = (func block place : ℕ) → HeadUnmarked (drop place (insts_at m func block))
