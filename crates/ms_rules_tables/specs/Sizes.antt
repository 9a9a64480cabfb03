-- The size of what an `alloca` makes room for.
use Rattle.std.specs.Prelude.{ℕ}
use Rattle.ms_ir.specs.declared.syntax.Op.{Op}
use Rattle.ms_ir.specs.declared.syntax.Op.TheVariants as op
use Rattle.ms_ir.specs.Layout.{Types, size_in}

-- the size of one element of an `alloca`; 0 of another operation
abbrev pub element_size : Types → Op → ℕ
element_size types (op.Alloca t u count) = size_in types t
element_size types _ = 0
