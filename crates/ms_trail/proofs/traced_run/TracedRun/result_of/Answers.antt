use Rattle.ms_trail.proofs.Masked.{mask_same, place_same}
use Rattle.ms_trail.proofs.traced_run.TracedRun.result_of.Goals as goal

pub returns-then-mask-eq0-clause-mask : goal.returns-then-mask-eq0-clause-mask
returns-then-mask-eq0-clause-mask c =
    mask_same c.view-view.result.fill.now c.args.self.now.fill.now c.view-view.result.values.now c.args.self.now.fiber.frame.values.items c.view-view.result.masks.now c.args.self.now.shade.masks.items c.args.code.now c.computed-mask.result
    c.view-view.ensures.fill c.view-view.ensures.values c.view-view.ensures.masks c.computed-mask.ensures

pub returns-then-mask-eq0-clause-place : goal.returns-then-mask-eq0-clause-place
returns-then-mask-eq0-clause-place c = λ some. absurd (some c.if-mask-eq0.true)

pub returns-clause-mask : goal.returns-clause-mask
returns-clause-mask c =
    mask_same c.view-view.result.fill.now c.args.self.now.fill.now c.view-view.result.values.now c.args.self.now.fiber.frame.values.items c.view-view.result.masks.now c.args.self.now.shade.masks.items c.args.code.now c.computed-mask.result
    c.view-view.ensures.fill c.view-view.ensures.values c.view-view.ensures.masks c.computed-mask.ensures

pub returns-clause-place : goal.returns-clause-place
returns-clause-place c = λ some.
    place_same c.view-view.result.fill.now c.args.self.now.fill.now c.view-view.result.values.now c.args.self.now.fiber.frame.values.items c.view-view.result.masks.now c.args.self.now.shade.masks.items c.args.op.now c.args.code.now
    c.result_place-place.result c.view-view.ensures.fill c.view-view.ensures.values c.view-view.ensures.masks c.result_place-place.ensures
