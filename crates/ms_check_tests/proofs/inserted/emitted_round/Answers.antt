use Rattle.ms_check_tests.proofs.OneInst.{stands, few_values}
use Rattle.ms_check_tests.proofs.inserted.emitted_round.Goals as goal

pub emit-requires-clause-stands : goal.emit-requires-clause-stands
emit-requires-clause-stands c = stands c.args.m.now c.args.func.now c.args.block.now c.args.inst.now c.requires.one_func c.requires.one_block c.requires.one_inst c.requires.unmarked

pub emit-requires-clause-above : goal.emit-requires-clause-above
emit-requires-clause-above c = few_values c.args.m.now c.args.func.now c.args.block.now c.args.inst.now c.requires.one_func c.requires.no_params c.requires.one_block c.requires.one_inst c.requires.no_result c.args.next c.requires.above
