use Rattle.std.proofs.Common.{refl}
use Rattle.ms_ir.specs.Names.{word_externals, bit_moves, is_kept}
use Rattle.ms_runs_examples.proofs.faults.externals_differ.Goals as goal

pub returns-clause-none_of_them : goal.returns-clause-none_of_them
unfolding word_externals is_kept bit_moves
returns-clause-none_of_them c = refl
