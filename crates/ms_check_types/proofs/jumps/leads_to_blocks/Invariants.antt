use Rattle.std.proofs.Common.{◌≡◌, drop}
use Rattle.std.specs.List.{list_all}
use Rattle.ms_ir.specs.Equal.{has_name}
use Rattle.ms_ir.specs.Locals.{block_names}
use Rattle.ms_ir.specs.Written.{targets}
use Rattle.ms_check_types.specs.Bodies.{func_of}
use Rattle.ms_check_types.proofs.jumps.leads_to_blocks.Given as goal

abbrev pub invariant-loop-place : goal.invariant-loop-place
invariant-loop-place l =
    list_all (has_name (block_names (func_of l.body))) (drop l.place (targets l.op)) ≡ list_all (has_name (block_names (func_of l.body))) (targets l.op)
