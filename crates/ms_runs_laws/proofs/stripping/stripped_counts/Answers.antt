use Rattle.ms_runs_laws.proofs.Stripped.{sites_skip, roots_skip, insts_kept}
use Rattle.ms_runs_laws.proofs.Numbering.{before_same}
use Rattle.ms_runs_laws.proofs.stripping.stripped_counts.Goals as goal

pub returns-clause-sites : goal.returns-clause-sites
returns-clause-sites c = sites_skip

pub returns-clause-roots : goal.returns-clause-roots
returns-clause-roots c = roots_skip

pub returns-clause-instructions : goal.returns-clause-instructions
returns-clause-instructions c = insts_kept

pub returns-clause-places : goal.returns-clause-places
returns-clause-places c = λ count skips j m e f b p q rest. before_same count skips j m e f b p q rest
