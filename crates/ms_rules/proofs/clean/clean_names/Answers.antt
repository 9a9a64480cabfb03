use Rattle.std.proofs.Common.{rules, append-nil}
use Rattle.ms_rules.proofs.CleanNames.{clean_are}
use Rattle.ms_rules.proofs.clean.clean_names.Goals as goal

pub returns : goal.returns
returns c = λ x. clean_are c.args.values.now c.into_iter-name-iterator.ensures.into_iter_gives.6 c.loop-name.names (search (rules, append-nil)) x
