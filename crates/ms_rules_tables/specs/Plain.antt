-- What rules of no width of their own work on.
use Rattle.std.specs.Prelude.{List, Option}
use Rattle.ms_ir.specs.declared.syntax.Name.{Name}
use Rattle.ms_pass_tasks.specs.Environments.{Tracked}
use Rattle.ms_rules_builder.specs.Steps.{Inputs}

-- operands, and the result of the instruction
abbrev pub plain : List Tracked → Option Name → Inputs
plain ts x = record { operands = ts; width = 0; ones = 0; sign = 0; result = x }
