use Rattle.ms_where.proofs.Numbered.{numbered, told}
use Rattle.ms_where.proofs.laws.law_sites_are_numbered.Goals as goal

pub returns-clause-numbered : goal.returns-clause-numbered
returns-clause-numbered c = numbered

pub returns-clause-told : goal.returns-clause-told
returns-clause-told c = told
