-- The type of a value by the width of an integer type.
use Rattle.std.proofs.Common.{◌≡◌, ℕ, Option, Some, None, refl, ap}
use Rattle.ms_read_values.specs.declared.value_types.ScalarType.TheInside.{Inside}
use Rattle.ms_ir.specs.declared.syntax.Ty.{Ty, Int}
use Rattle.ms_ir.specs.declared.syntax.Ty.TheVariants as ty

-- what has no width is `ptr`
abbrev pub type_of : Option ℕ → Ty
type_of None = ty.Ptr
type_of (Some width) = ty.Int width

abbrev pub width_of : Ty → Option ℕ
width_of (Int width) = Some width
width_of _ = None

-- the width is kept in the type
width_kept : (width : Option ℕ) → width_of (type_of width) ≡ width
width_kept None = refl
width_kept (Some width) = refl

abbrev pub seen : Inside → Ty
seen v = type_of v.width

abbrev pub inside : Ty → Inside
inside type = record { width = width_of type }

pub inside_kept : (v : Inside) → inside (seen v) ≡ v
inside_kept v = ap (λ (width : Option ℕ). record { width = width }) (width_kept v.width)
