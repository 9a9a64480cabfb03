use Rattle.ms_check_valid.proofs.TestedPaths.{tested_uses}
use Rattle.ms_check_valid.proofs.laws.law_tested_paths.Goals as goal

pub returns : goal.returns
returns c = tested_uses
