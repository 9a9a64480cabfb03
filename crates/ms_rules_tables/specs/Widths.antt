-- The widths on which rules work.
use Rattle.std.specs.Prelude.{◌≤◌}
use Rattle.ms_ir.specs.declared.syntax.Op.{Op}
use Rattle.ms_ir.specs.declared.syntax.Op.TheVariants as op
use Rattle.ms_ir.specs.Layout.{width_of}

-- an operation or a comparison works on words of 1 to 64 bits
abbrev pub HasWidths : Op → Type 0
HasWidths (op.Binary o f t a b) = (1 ≤ width_of t) × (width_of t ≤ 64)
HasWidths (op.Icmp p f t a b) = (1 ≤ width_of t) × (width_of t ≤ 64)
HasWidths _ = Unit {0}
