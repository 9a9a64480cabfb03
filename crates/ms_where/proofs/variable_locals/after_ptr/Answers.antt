use Rattle.std.proofs.Common.{sym, arith}
use Rattle.std.specs.Prelude.{codes}
use Rattle.ms_where.specs.Variables.{is_spelled}
use Rattle.ms_where.proofs.LastSpelled.{none_before, at_end}
use Rattle.ms_where.proofs.variable_locals.after_ptr.Goals as goal

pub loop-number-init : goal.loop-number-init
loop-number-init c =
    let first = c.args.mark.now.first in
    (sym (none_before (is_spelled c.args.marked.now (codes "ptr")) first first (omega arith)), λ gone. absurd (omega arith))

pub returns : goal.returns
returns c =
    at_end (is_spelled c.args.marked.now (codes "ptr")) c.args.mark.now.first c.args.mark.now.after c.loop-number.number c.loop-number.after
    (omega arith) c.loop-number.invariant.1 (omega arith) c.loop-number.invariant.0
