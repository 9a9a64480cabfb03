use Rattle.std.proofs.Common.{◌≡◌, ◌∙◌, ◌-◌, ◌<◌, ℕ, suc, refl, arith}
use Rattle.ms_trail_moves.specs.Traces.{one_report}
use Rattle.ms_trail.proofs.Tracing.{following_start, own, following_goes, following_on, following_over, following_log, following_reported, following_spent}
use Rattle.ms_trail.proofs.traces.trace.Goals as goal

one_after : (n : ℕ) → 0 < n → n ≡ suc (n - 1)
one_after n some = omega (arith, some)

pub loop-left-init : goal.loop-left-init
loop-left-init c = following_start c.args.m.now c.args.setup.now c.in_ok-run.run' c.in_ok-run.ensures.is c.in_ok-run.ensures.made c.requires.limits.steps

pub step-requires : goal.step-requires
step-requires c = record { going = following_goes c.args.m.now c.args.setup.now c.loop-left.left (c.loop-left.left - 1) (one_after c.loop-left.left c.loop-left-test.true) c.loop-left.run c.loop-left.invariant }

pub loop-left-preserved : goal.loop-left-preserved
loop-left-preserved c =
    let m = c.args.m.now in
    let setup = c.args.setup.now in
    let left = c.loop-left.left in
    let g = c.loop-left.invariant in
    let one = one_after left c.loop-left-test.true in
    following_on m setup left (left - 1) one c.loop-left.run g _ c.step.new.self c.in-On.is (c.in_ok-step.ensures.turned (one_report setup) g.run refl (own m setup left (left - 1) one c.loop-left.run g)) c.in_ok-step.ensures.grew

pub returns-in-Over : goal.returns-in-Over
returns-in-Over c =
    let m = c.args.m.now in
    let setup = c.args.setup.now in
    let left = c.loop-left.left in
    let g = c.loop-left.invariant in
    let one = one_after left c.loop-left-test.true in
    following_over m setup left (left - 1) one c.loop-left.run g _ c.step.new.self c.in-Over.is (c.in_ok-step.ensures.turned (one_report setup) g.run refl (own m setup left (left - 1) one c.loop-left.run g))

pub returns-in-Reported : goal.returns-in-Reported
returns-in-Reported c =
    let m = c.args.m.now in
    let setup = c.args.setup.now in
    let left = c.loop-left.left in
    let g = c.loop-left.invariant in
    let one = one_after left c.loop-left-test.true in
    let turned = c.in_ok-step.ensures.turned (one_report setup) g.run refl (own m setup left (left - 1) one c.loop-left.run g) in
    c.reported.ensures g.run.moves (following_log m setup left (left - 1) one c.loop-left.run g _ c.in-Reported.at c.step.new.self c.in-Reported.is turned) ∙ following_reported m setup left (left - 1) one c.loop-left.run g _ c.in-Reported.at c.step.new.self c.in-Reported.is turned

pub returns : goal.returns
returns c = following_spent c.args.m.now c.args.setup.now c.loop-left.left c.loop-left.run c.loop-left.invariant (omega arith)
