use Rattle.std.proofs.Common.{◌+◌, drop, ap}
use Rattle.std.proofs.Math.ListN.{drop_of_length-le}
use Rattle.ms_machine_code.specs.Constants.{global_constants, globals_constants}
use Rattle.ms_machine_operands.proofs.Pushing.{pushing_first, pushing_next, pushing_last}
use Rattle.ms_machine_operands.proofs.initial.push_globals.Goals as goal
use Rattle.ms_ir.proofs.Sizes.{drop_next}

pub push_global-requires-clause-readable : goal.push_global-requires-clause-readable
push_global-requires-clause-readable c =
    let l = c.loop-global in
    let g = c.global-item.result in
    pushing_first c.args.tables.now.whole.now c.args.words.now.items l.words.items (globals_constants c.args.globals.now) (globals_constants (drop l.global-index c.args.globals.now))
    (global_constants g) (globals_constants (drop (l.global-index + 1) c.args.globals.now))
    (ap globals_constants (drop_next c.args.globals.now l.global-index g c.loop-global-test.true c.global-item.is)) l.invariant

pub loop-global-preserved : goal.loop-global-preserved
loop-global-preserved c =
    let l = c.loop-global in
    let g = c.global-item.result in
    pushing_next c.args.tables.now.whole.now c.args.words.now.items l.words.items c.push_global.new.words.items (globals_constants c.args.globals.now) (globals_constants (drop l.global-index c.args.globals.now))
    (global_constants g) (globals_constants (drop (l.global-index + 1) c.args.globals.now))
    (ap globals_constants (drop_next c.args.globals.now l.global-index g c.loop-global-test.true c.global-item.is)) c.in_ok-push_global.ensures l.invariant

pub returns : goal.returns
returns c =
    let l = c.loop-global in
    pushing_last c.args.tables.now.whole.now c.args.words.now.items l.words.items (globals_constants c.args.globals.now) (globals_constants (drop l.global-index c.args.globals.now))
    (ap globals_constants (drop_of_length-le c.args.globals.now c.loop-global-test.false)) l.invariant
