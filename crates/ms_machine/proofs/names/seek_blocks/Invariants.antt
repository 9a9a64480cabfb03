use Rattle.std.proofs.Common.{drop}
use Rattle.std.specs.Prelude.{flat_map}
use Rattle.ms_ir.specs.Locals.{block_locals}
use Rattle.ms_machine.proofs.Naming.{Passed}
use Rattle.ms_machine.proofs.names.seek_blocks.Given as goal

abbrev pub invariant-loop-block : goal.invariant-loop-block
invariant-loop-block l = Passed (flat_map block_locals l.blocks) (flat_map block_locals (drop l.block-index l.blocks)) l.name l.from l.passed
