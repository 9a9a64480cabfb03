use Rattle.std.proofs.Common.{◌≡◌}
use Rattle.std.specs.Prelude.{slice_get}
use Rattle.ms_check_externals.specs.Outside.{flagged_among, flagged_within}
use Rattle.ms_check_externals.proofs.Firsts.{first_from}
use Rattle.ms_check_externals.proofs.flags.first_in_blocks.Given as goal

abbrev pub invariant-loop-block : goal.invariant-loop-block
invariant-loop-block l = first_from (λ b. flagged_among l.functions b.insts) l.blocks l.block-index ≡ slice_get (flagged_within l.functions l.blocks) 0
