use Rattle.std.proofs.Common.{refl}
use Rattle.ms_bits.specs.Words.{words}
use Rattle.ms_runs_laws.specs.Formulas.{formulas}
use Rattle.ms_runs_examples.proofs.told_runs.blind_places.Goals as goal

pub returns-clause-sites : goal.returns-clause-sites
unfolding words formulas
returns-clause-sites c = refl

pub returns-clause-places : goal.returns-clause-places
unfolding words formulas
returns-clause-places c = refl
