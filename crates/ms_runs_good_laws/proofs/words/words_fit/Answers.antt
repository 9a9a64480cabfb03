use Rattle.ms_runs_good_laws.proofs.WordRanges.{binary_below, compare_below, cast_below, select_below}
use Rattle.ms_runs_good_laws.proofs.words.words_fit.Goals as goal

pub returns-clause-operations : goal.returns-clause-operations
returns-clause-operations c = binary_below

pub returns-clause-comparisons : goal.returns-clause-comparisons
returns-clause-comparisons c = compare_below

pub returns-clause-casts : goal.returns-clause-casts
returns-clause-casts c = cast_below

pub returns-clause-selections : goal.returns-clause-selections
returns-clause-selections c = select_below
