-- What is said to be clean in an example. No other definition rests on it.
use Rattle.std.specs.Prelude.{ℕ, Bool}
use Rattle.ms_ir.specs.declared.syntax.Name.{Name}
use Rattle.ms_ir.specs.declared.syntax.Name.TheVariants.{Number}
use Rattle.ms_ir.specs.Names.{name_eq}

-- in each function the value with the printed number 1 alone
abbrev pub the_address : ℕ → Name → Bool
the_address n x = name_eq x (Number 1)
