use Rattle.std.proofs.Common.{length, sym, subst}
use Rattle.ms_trail_uses.specs.Used.{IsUsing}
use Rattle.ms_trail.proofs.Masked.{view_is, read_same}
use Rattle.ms_trail.proofs.Finding.{row_within, same_here, filled_here, using_fits, found_none, found_some}
use Rattle.ms_machine_frames.specs.Meaning.{phis_in}
use Rattle.ms_trail.proofs.traced_run.TracedRun.found.Goals as goal

pub row-requires : goal.row-requires
row-requires c = let g = c.requires.going in row_within c.args.self.now.m.now g.0 g.1 c.args.self.now g.2.1 c.args.code.now c.requires.due

pub first_used-requires-clause-view : goal.first_used-requires-clause-view
first_used-requires-clause-view c =
    let g = c.requires.going in
    let f = c.args.self.now in
    view_is c.view-view.result f.fiber.frame.values.items f.shade.masks.items f.fill.now c.view-view.ensures.values c.view-view.ensures.masks c.view-view.ensures.fill
    (same_here f.m.now g.0 g.1 f g.2.1 c.args.code.now c.requires.due) (filled_here f.m.now g.0 g.1 f g.2.1 c.args.code.now c.requires.due)

pub first_used-requires-clause-using : goal.first_used-requires-clause-using
first_used-requires-clause-using c =
    let f = c.args.self.now in
    subst (λ l. IsUsing (length l) c.args.code.now) (sym c.view-view.ensures.values) (using_fits (length f.fiber.frame.values.items) (phis_in c.requires.fits.routines) c.requires.fits.routines c.args.code.now c.requires.fits.fits)

pub returns-in-None : goal.returns-in-None
returns-in-None c = λ u t one o.
    let f = c.args.self.now in
    found_none f.m.now u t f o c.args.code.now c.requires.due c.row.result c.row.ensures one c.first_used.result
    (λ w shows. read_same c.view-view.result f.fiber.frame.values.items f.shade.masks.items f.fill.now w c.row.result.inst.now.op c.args.code.now c.first_used.result c.view-view.ensures.values c.view-view.ensures.masks c.view-view.ensures.fill (c.first_used.ensures _ w shows))
    c.in-None.is

pub returns-in_ok-read_by-in-Some : goal.returns-in_ok-read_by-in-Some
returns-in_ok-read_by-in-Some c = λ u t one o.
    let f = c.args.self.now in
    found_some f.m.now u t f o c.args.code.now c.requires.due c.row.result c.row.ensures one c.first_used.result
    (λ w shows. read_same c.view-view.result f.fiber.frame.values.items f.shade.masks.items f.fill.now w c.row.result.inst.now.op c.args.code.now c.first_used.result c.view-view.ensures.values c.view-view.ensures.masks c.view-view.ensures.fill (c.first_used.ensures _ w shows))
    c.in-Some.used c.in-Some.is _ (c.in_ok-read_by-in-Some.ensures u t o)
