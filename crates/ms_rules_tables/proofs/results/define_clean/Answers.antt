use Rattle.std.proofs.Common.{refl}
use Rattle.ms_pass_tasks.specs.Environments.{number}
use Rattle.ms_rules_tables.proofs.results.define_clean.Goals as goal

pub returns : goal.returns
returns c = c.define_word.ensures (number 0) (number 0) refl refl
