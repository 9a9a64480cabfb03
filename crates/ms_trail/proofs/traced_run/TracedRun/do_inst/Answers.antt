use Rattle.std.proofs.Common.{sym}
use Rattle.ms_trail_uses.proofs.Jumping.{sets_computed}
use Rattle.ms_trail.proofs.traced_run.TracedRun.do_inst.Goals as goal

pub compute-requires-clause-computed : goal.compute-requires-clause-computed
compute-requires-clause-computed c = sets_computed _ _ c.requires.ready.fits.routines c.args.code.now c.in-Some.to (sym c.in-Some.ensures) c.requires.ready.fits.fits

pub compute-requires-clause-sets : goal.compute-requires-clause-sets
compute-requires-clause-sets c = sym c.in-Some.ensures

pub do_jump_or_other-requires-clause-sets : goal.do_jump_or_other-requires-clause-sets
do_jump_or_other-requires-clause-sets c = sym c.in-None.ensures
