use Rattle.std.proofs.Common.{sym, ◌∙◌, arith}
use Rattle.ms_ir.specs.Equal.{has_name}
use Rattle.ms_ir.specs.Locals.{block_names}
use Rattle.ms_ir.specs.Written.{targets}
use Rattle.ms_check_types.specs.Bodies.{func_of}
use Rattle.ms_check_types.proofs.OneByOne.{all_on, all_stop, all_done}
use Rattle.ms_check_types.proofs.jumps.leads_to_blocks.Goals as goal

pub returns-then-not-leads_to_block : goal.returns-then-not-leads_to_block
returns-then-not-leads_to_block c =
    all_stop (has_name (block_names (func_of c.args.body.now))) (targets c.args.op.now) c.loop-place.place _ (sym c.leads_to_block.ensures ∙ c.if-not-leads_to_block.true) c.loop-place.invariant

pub loop-place-preserved : goal.loop-place-preserved
loop-place-preserved c =
    all_on (has_name (block_names (func_of c.args.body.now))) (targets c.args.op.now) c.loop-place.place _ (sym c.leads_to_block.ensures ∙ c.if-not-leads_to_block.false) c.loop-place.invariant

pub returns : goal.returns
returns c = all_done (has_name (block_names (func_of c.args.body.now))) (targets c.args.op.now) c.loop-place.place _ (omega arith) c.loop-place.invariant
