use Rattle.std.proofs.Common.{◌≡◌, map, drop}
use Rattle.std.specs.Prelude.{flat_map}
use Rattle.ms_ir.specs.Instructions.{operands}
use Rattle.ms_ir.specs.Written.{operand_mentions, operands_mentions}
use Rattle.ms_check_tables.specs.Sought.{first_sought}
use Rattle.ms_check_tables.proofs.uses.in_operands.Given as goal

abbrev pub invariant-loop-place : goal.invariant-loop-place
invariant-loop-place g l =
    first_sought (g.S.Search.sought l.search) (flat_map operand_mentions (drop l.place (map (λ o. o.1) (operands l.op))))
    ≡ first_sought (g.S.Search.sought l.search) (operands_mentions (operands l.op))
