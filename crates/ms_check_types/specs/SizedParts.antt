-- What the parts of the code come to that look for types without sizes. What `first_unsized` promises does not name this.
use Rattle.std.specs.Prelude.{ℕ, Bool, true, false, ◌&&◌, not, List, [], ◌∷◌, map, if◌then◌else◌, Option, Some, None, is_some}
use Rattle.std.specs.List.{list_all}
use Rattle.ms_ir.specs.declared.syntax.Name.{Name}
use Rattle.ms_ir.specs.declared.syntax.Ty.{Ty, Named}
use Rattle.ms_ir.specs.declared.syntax.Operand.{Operand}
use Rattle.ms_ir.specs.declared.syntax.Op.{Op}
use Rattle.ms_ir.specs.declared.syntax.Init.{Init}
use Rattle.ms_ir.specs.declared.syntax.Block.{Block}
use Rattle.ms_ir.specs.declared.syntax.Func.{Func}
use Rattle.ms_ir.specs.declared.syntax.GlobalVar.{GlobalVar}
use Rattle.ms_ir.specs.Instructions.{operands}
use Rattle.ms_ir.specs.Equal.{AddressStep}
use Rattle.ms_ir.specs.Layout.{Types, size_of}
use Rattle.ms_ir.specs.Locals.{Spelled}
use Rattle.ms_ir.specs.Written.{type_parts, operand_types, own_types, init_types}
use Rattle.ms_check_valid.specs.SizesFit.{sized, spelled_unless, taken_with, passes_limit, func_types}

-- a type and all types within it have sizes
abbrev pub has_sizes : Types → Ty → Bool
has_sizes types t = list_all (λ u. is_some (size_of types u)) (type_parts t)

-- the types in a step of a constant address have sizes
abbrev pub is_step_sized : Types → AddressStep → Bool
is_step_sized types s = list_all (has_sizes types) (s.0 ∷ map (λ i. i.0) s.1)

-- the types in an operand with its type have sizes
abbrev pub is_typed_sized : Types → Ty × Operand → Bool
is_typed_sized types a = list_all (has_sizes types) (a.0 ∷ operand_types a.1)

-- the types in an instruction have sizes
abbrev pub is_op_sized : Types → Op → Bool
is_op_sized types o = list_all (has_sizes types) (own_types o) && list_all (is_typed_sized types) (operands o)

-- the types in a block have sizes
abbrev pub is_block_sized : Types → Block → Bool
is_block_sized types b = list_all (λ inst. is_op_sized types inst.op) b.insts

-- the types in a function have sizes
abbrev pub is_func_sized : Types → Func → Bool
is_func_sized types f = list_all (is_block_sized types) f.blocks

-- the types in an item of an initialiser have sizes
abbrev pub is_item_sized : Types → Ty × Init → Bool
is_item_sized types i = list_all (has_sizes types) (i.0 ∷ init_types i.1)

-- the bytes that the globals take after one more, where its types have sizes and they don't pass their limit with it
abbrev pub taken_after : Types → ℕ → GlobalVar → Option ℕ
taken_after types taken g =
    if sized types (g.ty ∷ init_types g.init) && not (passes_limit taken (taken_with types taken g)) then Some (taken_with types taken g) else None

-- a named type, where it or a type in its definition has no size
abbrev pub type_faults : Types → Name × Ty → List Spelled
type_faults types t = spelled_unless (sized types (Named t.0 ∷ t.1 ∷ [])) false t.0

-- a function, where a type in it has no size
abbrev pub func_faults : Types → Func → List Spelled
func_faults types f = spelled_unless (sized types (func_types f)) true f.name
