use Rattle.std.proofs.Common.{arith}
use Rattle.ms_ir.specs.Instructions.{is_root}
use Rattle.ms_rules.specs.Scopes.{env_of, given_of}
use Rattle.ms_rules.proofs.RootCounts.{roots_fit}
use Rattle.ms_rules.proofs.around.push_plain.Goals as goal

pub overflow_add-result : goal.overflow_add-result
overflow_add-result c =
    omega (arith, roots_fit (env_of c.args.scope.now) c.args.inst.now.op c.in_ok-tracking.tracking (is_root (given_of c.args.scope.now).func c.args.inst.now.op) c.in_ok-tracking.ensures.is, c.own_roots.ensures)
