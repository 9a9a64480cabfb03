use Rattle.std.proofs.Common.{sym, subst}
use Rattle.ms_machine_frames.specs.Meaning.{IsJump}
use Rattle.ms_trail_uses.proofs.Jumping.{jump_taken, other_taken, first_taken, case_taken}
use Rattle.ms_trail_uses.proofs.edges.taken.Goals as goal

pub returns-in-Jump-clause-taken : goal.returns-in-Jump-clause-taken
returns-in-Jump-clause-taken c = jump_taken c.args.view.now.fill.now c.args.view.now.values.now c.args.code.now c.in-Jump.edge c.in-Jump.is

pub returns-in-Jump-clause-jumps : goal.returns-in-Jump-clause-jumps
returns-in-Jump-clause-jumps c = subst IsJump (sym c.in-Jump.is) tt

pub returns-then-value_of-eq0-clause-taken : goal.returns-then-value_of-eq0-clause-taken
returns-then-value_of-eq0-clause-taken c =
    let k = c.in-Branch in
    other_taken c.args.view.now.fill.now c.args.view.now.values.now c.args.code.now k.cond k.taken k.other c.value_of.result k.is c.value_of.ensures.word c.if-value_of-eq0.true

pub returns-then-value_of-eq0-clause-jumps : goal.returns-then-value_of-eq0-clause-jumps
returns-then-value_of-eq0-clause-jumps c = subst IsJump (sym c.in-Branch.is) tt

pub returns-else-value_of-eq0-clause-taken : goal.returns-else-value_of-eq0-clause-taken
returns-else-value_of-eq0-clause-taken c =
    let k = c.in-Branch in
    first_taken c.args.view.now.fill.now c.args.view.now.values.now c.args.code.now k.cond k.taken k.other c.value_of.result k.is c.value_of.ensures.word c.if-value_of-eq0.false

pub returns-else-value_of-eq0-clause-jumps : goal.returns-else-value_of-eq0-clause-jumps
returns-else-value_of-eq0-clause-jumps c = subst IsJump (sym c.in-Branch.is) tt

pub returns-in-Switch-clause-taken : goal.returns-in-Switch-clause-taken
returns-in-Switch-clause-taken c =
    let k = c.in-Switch in
    case_taken c.args.view.now.fill.now c.args.view.now.values.now c.args.code.now k.value k.cases c.as_slice.result.now k.other c.edge_by.result.now c.value_of-in-Switch.result k.is c.value_of-in-Switch.ensures.word c.as_slice.ensures
    c.edge_by.ensures

pub returns-in-Switch-clause-jumps : goal.returns-in-Switch-clause-jumps
returns-in-Switch-clause-jumps c = subst IsJump (sym c.in-Switch.is) tt
