use Rattle.std.proofs.Common.{arith}
use Rattle.ms_rules.specs.Scopes.{env_of}
use Rattle.ms_rules.proofs.RootCounts.{after_low}
use Rattle.ms_rules.proofs.after.push_after.Goals as goal

pub overflow_add-tracking : goal.overflow_add-tracking
overflow_add-tracking c = omega (arith, after_low (env_of c.args.scope.now) c.args.inst.now.op c.args.tracking.now c.requires.tracked c.requires.roots)
