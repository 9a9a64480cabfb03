-- The words of a function's values, by their names (own).
use Rattle.std.specs.Prelude.{◌%◌, ◌^◌, ℕ, Option, option_map}
use Rattle.ms_bits.specs.Numeral.{Numeral}
use Rattle.ms_ir.specs.declared.syntax.Name.{Name}
use Rattle.ms_ir.specs.declared.syntax.Func.{Func}
use Rattle.ms_ir.specs.Layout.{width_of}
use Rattle.ms_ir.specs.Locals.{value_type}

-- the word of a value by its name, in a function with these values so far: it is cut to the width of its type, as an operand is
-- when it is read; a name that no parameter or result has gives none
abbrev pub word_named : Func → (Name → ℕ) → Name → Option Numeral
word_named func values x = option_map (λ t. record { width = width_of t; value = values x % 2 ^ width_of t }) (value_type func x)
