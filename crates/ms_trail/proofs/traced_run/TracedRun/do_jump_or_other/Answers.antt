use Rattle.std.proofs.Common.{length, sym, subst}
use Rattle.ms_trail_uses.specs.Taken.{HasCondition}
use Rattle.ms_trail.proofs.Masked.{view_is, taken_same}
use Rattle.ms_trail.proofs.Readying.{same_count, filled}
use Rattle.ms_trail_uses.proofs.Jumping.{has_condition, taken_edge}
use Rattle.ms_machine_frames.specs.Meaning.{phis_in}
use Rattle.ms_trail.proofs.traced_run.TracedRun.do_jump_or_other.Goals as goal

pub taken-requires-clause-view : goal.taken-requires-clause-view
taken-requires-clause-view c =
    let f = c.args.self.now in
    view_is c.view-view.result f.fiber.frame.values.items f.shade.masks.items f.fill.now c.view-view.ensures.values c.view-view.ensures.masks c.view-view.ensures.fill
    (same_count f c.args.code.now c.requires.ready) (filled f c.args.code.now c.requires.ready)

pub taken-requires-clause-condition : goal.taken-requires-clause-condition
taken-requires-clause-condition c =
    let f = c.args.self.now in
    subst (λ l. HasCondition (length l) c.args.code.now) (sym c.view-view.ensures.values)
    (has_condition (length f.fiber.frame.values.items) (phis_in c.requires.ready.fits.routines) c.requires.ready.fits.routines c.args.code.now c.requires.ready.fits.fits)

pub jump-requires-clause-jumps : goal.jump-requires-clause-jumps
jump-requires-clause-jumps c = c.in-Some.ensures.jumps

pub jump-requires-clause-taken : goal.jump-requires-clause-taken
jump-requires-clause-taken c =
    let f = c.args.self.now in
    taken_same c.view-view.result f.fiber.frame.values.items f.fill.now c.args.code.now c.in-Some.edge.now c.view-view.ensures.values c.view-view.ensures.fill c.in-Some.ensures.taken

pub jump-requires-clause-moves : goal.jump-requires-clause-moves
jump-requires-clause-moves c =
    let f = c.args.self.now in
    (taken_edge (length f.fiber.frame.values.items) (phis_in c.requires.ready.fits.routines) c.requires.ready.fits.routines f.fiber.frame.values.items f.fill.now c.requires.ready.run.state.world c.args.code.now c.in-Some.edge.now c.in-Some.ensures.jumps
    (taken_same c.view-view.result f.fiber.frame.values.items f.fill.now c.args.code.now c.in-Some.edge.now c.view-view.ensures.values c.view-view.ensures.fill c.in-Some.ensures.taken) c.requires.ready.fits.fits).moves

pub do_access_or_call-requires-clause-stays : goal.do_access_or_call-requires-clause-stays
do_access_or_call-requires-clause-stays c = c.in-None.ensures.taken
