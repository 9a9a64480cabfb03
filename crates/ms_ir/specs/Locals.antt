-- The names of a module and of a function, and what they stand for (LLVM Language Reference, "Identifiers", "Functions").
use Rattle.std.specs.Prelude.{ℕ, Bool, List, ◌∷◌, ◌++◌, map, flat_map, filter_map, Option, Some, None, option_map, unwrap_or, slice_get}
use Rattle.ms_ir.specs.declared.syntax.Name.{Name}
use Rattle.ms_ir.specs.declared.syntax.Name.TheVariants.{Number}
use Rattle.ms_ir.specs.declared.syntax.Ty.{Ty}
use Rattle.ms_ir.specs.declared.syntax.Inst.{Inst}
use Rattle.ms_ir.specs.declared.syntax.Block.{Block}
use Rattle.ms_ir.specs.declared.syntax.Func.{Func}
use Rattle.ms_ir.specs.declared.syntax.Module.{Module}
use Rattle.ms_ir.specs.Names.{lookup}
use Rattle.ms_ir.specs.Written.{result_type}

-- the names of the results of instructions, as they stand
abbrev pub results : List Inst → List Name
results insts = filter_map (λ inst. inst.result) insts

-- the name of a block, and those of its results
abbrev pub block_locals : Block → List Name
block_locals b = b.name ∷ results b.insts

-- the names of the parameters
abbrev pub parameter_names : Func → List Name
parameter_names f = map (λ p. p.1) f.params

-- the names of a function as they stand: the parameters, and then blocks and results, which share them
abbrev pub locals : Func → List Name
locals f = parameter_names f ++ flat_map block_locals f.blocks

-- the names of the blocks
abbrev pub block_names : Func → List Name
block_names f = map (λ b. b.name) f.blocks

-- the name of the block with a number
abbrev pub block_name_at : Func → ℕ → Name
block_name_at f b = unwrap_or (option_map (λ k. k.name) (slice_get f.blocks b)) (Number 0)

-- the name of the entry block
abbrev pub entry_name : Func → Name
entry_name f = block_name_at f 0

-- the instructions of a function
abbrev pub func_insts : Func → List Inst
func_insts f = flat_map (λ b. b.insts) f.blocks

-- a result with its type
abbrev pub typed_result : Inst → Option (Name × Ty)
typed_result inst = elim inst.result [ Some x ↦ option_map (λ t. (x, t)) (result_type inst.op) | None ↦ None ]

-- the parameters and results with their types
abbrev pub values : Func → List (Name × Ty)
values f = map (λ p. (p.1, p.0)) f.params ++ filter_map typed_result (func_insts f)

-- the type of the parameter or result with a name; none for a block
abbrev pub value_type : Func → Name → Option Ty
value_type f x = lookup (values f) x

-- the names spelled with `@`: those of globals, declarations and functions, which share them
abbrev pub global_names : Module → List Name
global_names m = map (λ g. g.name) m.globals

abbrev pub declared_names : Module → List Name
declared_names m = map (λ d. d.name) m.decls

abbrev pub function_names : Module → List Name
function_names m = map (λ f. f.name) m.funcs

abbrev pub symbols : Module → List Name
symbols m = global_names m ++ (declared_names m ++ function_names m)

-- the names of the named types
abbrev pub type_names : Module → List Name
type_names m = map (λ t. t.0) m.types

-- a name as it is spelled: with `@` or with `%`
pub record Spelled : Type 0 where
  pub global : Bool
  pub name : Name
