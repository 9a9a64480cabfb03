-- Kinds of instructions, by how they are written (own).
use Rattle.ms_ir.specs.declared.syntax.Op.{Op}
use Rattle.ms_ir.specs.declared.syntax.Op.TheVariants as op

-- an operation, a comparison, a cast, a choice or a 'freeze'
abbrev pub IsComputation : Op → Type 0
IsComputation (op.Binary o flags t a b) = Unit {0}
IsComputation (op.Icmp p flags t a b) = Unit {0}
IsComputation (op.Cast o flags from a to) = Unit {0}
IsComputation (op.Select c t a b) = Unit {0}
IsComputation (op.Freeze t a) = Unit {0}
IsComputation o = ⊥

-- memory is made, read or written, or an address is made
abbrev pub IsAccess : Op → Type 0
IsAccess (op.Alloca t u count) = Unit {0}
IsAccess (op.Load t a) = Unit {0}
IsAccess (op.Store t v a) = Unit {0}
IsAccess (op.Gep t base indices) = Unit {0}
IsAccess o = ⊥

-- a block ends
abbrev pub IsTerminator : Op → Type 0
IsTerminator (op.Br to) = Unit {0}
IsTerminator (op.CondBr c to other) = Unit {0}
IsTerminator (op.Switch t v other cases) = Unit {0}
IsTerminator (op.Ret v) = Unit {0}
IsTerminator op.Unreachable = Unit {0}
IsTerminator o = ⊥
