-- What runtime functions take.
use Rattle.ms_ir.specs.declared.syntax.Ty.{Ty, Int, Ptr}
use Rattle.ms_rules_builder.specs.declared.arguments.Parameter.{Parameter}
use Rattle.ms_rules_builder.specs.declared.arguments.Parameter.TheVariants.{Pointer, Bits}

-- the type of a parameter
abbrev pub parameter_type : Parameter → Ty
parameter_type Pointer = Ptr
parameter_type (Bits w) = Int w
