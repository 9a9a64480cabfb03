use Rattle.ms_runs_laws.proofs.Stripped.{roots_kept}
use Rattle.ms_runs_laws.proofs.Numbering.{sites_agree, root_numbers_agree}
use Rattle.ms_runs_laws.proofs.stripping.same_numbers.Goals as goal

pub returns-clause-sites : goal.returns-clause-sites
returns-clause-sites c = sites_agree

pub returns-clause-roots : goal.returns-clause-roots
returns-clause-roots c = root_numbers_agree

pub returns-clause-number_of_roots : goal.returns-clause-number_of_roots
returns-clause-number_of_roots c = roots_kept
