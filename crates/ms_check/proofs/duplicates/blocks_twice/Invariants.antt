use Rattle.std.proofs.Common.{◌≡◌, drop}
use Rattle.std.specs.Prelude.{slice_get, flat_map}
use Rattle.ms_ir.specs.Locals.{block_locals}
use Rattle.ms_check_valid.specs.NamesOnce.{repeats}
use Rattle.ms_check.proofs.duplicates.blocks_twice.Given as goal

abbrev pub invariant-loop-block : goal.invariant-loop-block
invariant-loop-block l = slice_get (repeats l.seen (flat_map block_locals (drop l.block-index l.blocks))) 0 ≡ slice_get (repeats l.fn.seen (flat_map block_locals l.blocks)) 0
