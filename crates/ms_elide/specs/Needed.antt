-- What has to be clean so that values are, where the names of a function stand for their places (own). What the crate
-- promises does not name this file.
use Rattle.std.specs.Prelude.{ℕ, suc, Bool, false, List, [], ◌∷◌, ◌++◌, map, flat_map, filter_map, length, take, Option, Some, None, option_map, if◌then◌else◌, slice_index_or}
use Rattle.ms_ir.specs.declared.syntax.Name.{Name}
use Rattle.ms_ir.specs.declared.syntax.Operand.{Operand}
use Rattle.ms_ir.specs.declared.syntax.Operand.TheVariants as operand
use Rattle.ms_ir.specs.declared.syntax.Ty.{Ty}
use Rattle.ms_ir.specs.declared.calls.External.{External}
use Rattle.ms_ir.specs.declared.calls.External.TheVariants as external
use Rattle.ms_ir.specs.declared.syntax.Op.{Op}
use Rattle.ms_ir.specs.declared.syntax.Op.TheVariants as op
use Rattle.ms_ir.specs.declared.syntax.Inst.{Inst}
use Rattle.ms_ir.specs.declared.syntax.Block.{Block}
use Rattle.ms_ir.specs.declared.syntax.Func.{Func}
use Rattle.ms_ir.specs.Instructions.{operands, external_named}
use Rattle.ms_check_tables.specs.FirstPlace.{first_place}
use Rattle.ms_check_valid.specs.CleanValues.{is_division}
use Rattle.ms_elide.specs.declared.needs.Need.{Need}
use Rattle.ms_elide.specs.declared.needs.Need.TheVariants.{Nothing, Local, Never}

-- the places of locals that have to be clean; none where nothing helps
abbrev pub Needs : Type 0
Needs = Option (List ℕ)

abbrev pub needed : Need → Needs
needed Nothing = Some []
needed (Local k) = Some (k ∷ [])
needed Never = None

-- what an operand needs
abbrev pub operand_needs : (Name → Option ℕ) → Operand → Needs
operand_needs place operand.Undef = None
operand_needs place operand.Poison = None
operand_needs place (operand.Local x) = option_map (λ k. k ∷ []) (place x)
operand_needs place o = Some []

abbrev pub operand_needs_at : (Name → Option ℕ) → Option Operand → Needs
operand_needs_at place None = Some []
operand_needs_at place (Some o) = operand_needs place o

-- what two need together
abbrev pub both_needs : Needs → Needs → Needs
both_needs None other = None
both_needs (Some ks) other = option_map (λ more. ks ++ more) other

-- what operands need
abbrev pub all_needs : (Name → Option ℕ) → List Operand → Needs
all_needs place [] = Some []
all_needs place (o ∷ rest) = both_needs (operand_needs place o) (all_needs place rest)

-- how many arguments of an external have to be clean
abbrev pub answer_premises : Option External → List (Ty × Operand) → Option ℕ
answer_premises None args = None
answer_premises (Some (external.Word f n)) args = Some (length args)
answer_premises (Some e) args = Some 0

-- how many of the operands have to be clean
abbrev pub premises : (Name → Option ℕ) → Op → Option ℕ
premises func (op.Binary o flags t a b) = Some (if is_division o then 1 else 2)
premises func (op.Icmp p flags t a b) = Some 2
premises func (op.Cast o flags from a to) = Some 1
premises func (op.Select c t a b) = Some 3
premises func (op.Freeze t a) = Some 0
premises func (op.Phi t edges) = Some (length edges)
premises func (op.Alloca t u count) = Some 0
premises func (op.Gep t base indices) = Some (suc (length indices))
premises func (op.Call ret callee args) = answer_premises (external_named func callee) args
premises func o = None

-- what the result of an operation needs
abbrev pub op_needs : (Name → Option ℕ) → (Name → Option ℕ) → Op → Needs
op_needs place func o = elim (premises func o) [ Some n ↦ all_needs place (take n (map (λ a. a.1) (operands o))) | None ↦ None ]

-- the locals of a function in the order of their places, the results with the operation that gives them
abbrev pub Row : Type 0
Row = Name × Option Op

abbrev pub result_row : Inst → Option Row
result_row inst = option_map (λ x. (x, Some inst.op)) inst.result

abbrev pub result_rows : List Inst → List Row
result_rows insts = filter_map result_row insts

abbrev pub block_rows : Block → List Row
block_rows b = (b.name, None) ∷ result_rows b.insts

abbrev pub rows : Func → List Row
rows f = map (λ p. (p.1, None)) f.params ++ flat_map block_rows f.blocks

-- what a local needs
abbrev pub row_needs : (Name → Option ℕ) → (Name → Option ℕ) → Row → Needs
row_needs place func row = elim row.1 [ Some o ↦ op_needs place func o | None ↦ None ]

-- the local with a name is a member, by its place
abbrev pub is_member : List Name → List Bool → Name → Bool
is_member locals members x = elim (first_place locals x) [ Some k ↦ slice_index_or members k false | None ↦ false ]
