use Rattle.std.proofs.Common.{◌+◌, Bool, refl, subst, arith}
use Rattle.ms_host.specs.State.{nothing_beside}
use Rattle.ms_trail.specs.declared.traced_run.TracedRun.{TracedRun}
use Rattle.ms_trail_uses.specs.Stepping.{Stepped}
use Rattle.ms_trail.proofs.Computed.{computed_over, computed_on, computed_asks}
use Rattle.ms_trail.proofs.Readying.{runs_of, row_within, few_operands, same_count, filled, bare, few_made, place_within}
use Rattle.ms_trail.proofs.traced_run.TracedRun.compute.Goals as goal

pub row-row-requires : goal.row-row-requires
row-row-requires c = row_within c.args.self.now c.args.code.now c.requires.ready

pub due_site-site-requires : goal.due_site-site-requires
due_site-site-requires c = runs_of c.args.self.now c.args.code.now c.requires.ready

pub result_of-found-requires-clause-same : goal.result_of-found-requires-clause-same
result_of-found-requires-clause-same c = same_count c.args.self.now c.args.code.now c.requires.ready

pub result_of-found-requires-clause-filled : goal.result_of-found-requires-clause-filled
result_of-found-requires-clause-filled c = filled c.args.self.now c.args.code.now c.requires.ready

pub step-requires-clause-runs : goal.step-requires-clause-runs
step-requires-clause-runs c = runs_of c.args.self.now c.args.code.now c.requires.ready

pub step-requires-clause-room : goal.step-requires-clause-room
step-requires-clause-room c = few_made c.args.self.now c.args.code.now c.requires.ready

pub step-requires-clause-bare : goal.step-requires-clause-bare
step-requires-clause-bare c = bare c.args.self.now c.args.code.now c.requires.ready

pub put_mask-requires : goal.put_mask-requires
put_mask-requires c = place_within c.args.self.now c.args.code.now c.requires.ready c.args.to c.requires.sets

pub tell_result-requires-clause-roots : goal.tell_result-requires-clause-roots
tell_result-requires-clause-roots c = few_operands c.args.self.now c.args.code.now c.requires.ready c.row-row.result c.row-row.ensures

pub returns-else-on-clause-went : goal.returns-else-on-clause-went
returns-else-on-clause-went c = λ u t o passes.
    let m = c.args.self.now.m.now in
    let fiber = c.step.new.fiber in
    let world = c.step.new.world in
    computed_over m u t c.args.self.now o c.args.code.now passes c.requires.ready.due fiber world
    (subst (λ (b : Bool). Stepped m u nothing_beside o.state b fiber world) c.if-on.false
    (c.in_ok-on.ensures.stepped u nothing_beside o.state o.running (computed_asks m c.args.self.now.fiber c.args.self.now.world c.args.code.now c.requires.ready.due _ c.requires.computed u nothing_beside o.state o.running)))

pub returns-in_ok-tell_result-clause-went : goal.returns-in_ok-tell_result-clause-went
returns-in_ok-tell_result-clause-went c = λ u t o passes.
    let old : TracedRun = c.args.self.now in
    let m = old.m.now in
    let fiber = c.step.new.fiber in
    let world = c.step.new.world in
    let row = c.row-row.result in
    let new : TracedRun = record old { fiber = fiber; world = world; shade = record old.shade { masks = c.put_mask.new.masks }; log = c.tell_result.new.log; event = old.event + 1 } in
    computed_on m u t old o c.args.code.now passes c.requires.ready.due _ c.args.to c.result_of-found.result.0 c.result_of-found.result.1 c.due_site-site.result row new
    (subst (λ (b : Bool). Stepped m u nothing_beside o.state b fiber world) c.if-on.true
    (c.in_ok-on.ensures.stepped u nothing_beside o.state o.running (computed_asks m old.fiber old.world c.args.code.now c.requires.ready.due _ c.requires.computed u nothing_beside o.state o.running)))
    c.requires.computed c.requires.sets
    c.row-row.ensures c.result_of-found.ensures.mask c.result_of-found.ensures.place (record { whole = refl; below = refl; made = refl; tables = refl; fill = refl }) refl
    c.put_mask.ensures refl c.due_site-site.ensures (c.in_ok-tell_result.ensures.told t.moves o.log)

pub returns-in_ok-tell_result-clause-grew : goal.returns-in_ok-tell_result-clause-grew
returns-in_ok-tell_result-clause-grew c = record { count = omega (arith, c.tell_result.ensures.count); world = c.step.ensures.made; calls = omega arith }

pub returns-else-on-clause-grew : goal.returns-else-on-clause-grew
returns-else-on-clause-grew c = record { count = omega arith; world = c.step.ensures.made; calls = omega arith }
