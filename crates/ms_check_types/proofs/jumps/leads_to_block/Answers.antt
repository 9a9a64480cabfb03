use Rattle.std.proofs.Common.{ap, ◌∙◌}
use Rattle.ms_ir.specs.Equal.{has_name}
use Rattle.ms_ir.specs.Locals.{block_names}
use Rattle.ms_check_types.specs.Bodies.{func_of}
use Rattle.ms_check_types.specs.Typed.{holds_at}
use Rattle.ms_check_types.proofs.jumps.leads_to_block.Goals as goal

pub returns-in-Some : goal.returns-in-Some
returns-in-Some c = c.is_block.ensures ∙ ap (holds_at (has_name (block_names (func_of c.args.body.now)))) c.in-Some.ensures

pub returns-in-None : goal.returns-in-None
returns-in-None c = ap (holds_at (has_name (block_names (func_of c.args.body.now)))) c.in-None.ensures
