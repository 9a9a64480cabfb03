use Rattle.std.proofs.Common.{◌+◌, Bool, true, refl, sym, subst, arith}
use Rattle.ms_host.specs.State.{nothing_beside}
use Rattle.ms_trail.specs.declared.traced_run.TracedRun.{TracedRun}
use Rattle.ms_trail_uses.specs.Stepping.{Stepped}
use Rattle.ms_trail.proofs.Computed.{computed_over}
use Rattle.ms_trail.proofs.Inward.{IsInward, asks_nothing}
use Rattle.ms_trail.proofs.Loaded.{loaded_on}
use Rattle.ms_trail.proofs.Readying.{runs_of, row_within, same_count, filled, bare, few_made, load_small, load_source, load_within}
use Rattle.ms_trail.proofs.traced_run.TracedRun.load.Goals as goal

pub row-row-requires : goal.row-row-requires
row-row-requires c = row_within c.args.self.now c.args.code.now c.requires.ready

pub due_site-site-requires : goal.due_site-site-requires
due_site-site-requires c = runs_of c.args.self.now c.args.code.now c.requires.ready

pub value-first-requires-clause-same : goal.value-first-requires-clause-same
value-first-requires-clause-same c = same_count c.args.self.now c.args.code.now c.requires.ready

pub value-first-requires-clause-filled : goal.value-first-requires-clause-filled
value-first-requires-clause-filled c = filled c.args.self.now c.args.code.now c.requires.ready

pub value-first-requires-clause-source : goal.value-first-requires-clause-source
value-first-requires-clause-source c = load_source c.args.self.now c.args.code.now c.requires.ready c.args.size c.args.cut c.args.addr c.args.to c.requires.is

pub loaded_mask-mask-requires : goal.loaded_mask-mask-requires
loaded_mask-mask-requires c = load_small c.args.self.now c.args.code.now c.requires.ready c.args.size c.args.cut c.args.addr c.args.to c.requires.is

pub step-requires-clause-runs : goal.step-requires-clause-runs
step-requires-clause-runs c = runs_of c.args.self.now c.args.code.now c.requires.ready

pub step-requires-clause-room : goal.step-requires-clause-room
step-requires-clause-room c = few_made c.args.self.now c.args.code.now c.requires.ready

pub step-requires-clause-bare : goal.step-requires-clause-bare
step-requires-clause-bare c = bare c.args.self.now c.args.code.now c.requires.ready

pub put_mask-requires : goal.put_mask-requires
put_mask-requires c = load_within c.args.self.now c.args.code.now c.requires.ready c.args.size c.args.cut c.args.addr c.args.to c.requires.is

pub returns-else-on-clause-went : goal.returns-else-on-clause-went
returns-else-on-clause-went c = λ u t o passes.
    let m = c.args.self.now.m.now in
    let old : TracedRun = c.args.self.now in
    let fiber = c.step.new.fiber in
    let world = c.step.new.world in
    computed_over m u t old o c.args.code.now passes c.requires.ready.due fiber world
    (subst (λ (b : Bool). Stepped m u nothing_beside o.state b fiber world) c.if-on.false
    (c.in_ok-on.ensures.stepped u nothing_beside o.state o.running
    (asks_nothing m old.fiber old.world c.args.code.now c.requires.ready.due (subst IsInward (sym c.requires.is) tt) u nothing_beside o.state o.running)))

pub returns-in_ok-tell_loaded-clause-went : goal.returns-in_ok-tell_loaded-clause-went
returns-in_ok-tell_loaded-clause-went c = λ u t o passes.
    let old : TracedRun = c.args.self.now in
    let m = old.m.now in
    let fiber = c.step.new.fiber in
    let world = c.step.new.world in
    let new : TracedRun = record old { fiber = fiber; world = world; shade = record old.shade { masks = c.put_mask.new.masks }; log = c.tell_loaded.new.log; event = old.event + 1 } in
    let stepped : Stepped m u nothing_beside o.state true fiber world =
    subst (λ (b : Bool). Stepped m u nothing_beside o.state b fiber world) c.if-on.true
    (c.in_ok-on.ensures.stepped u nothing_beside o.state o.running
    (asks_nothing m old.fiber old.world c.args.code.now c.requires.ready.due (subst IsInward (sym c.requires.is) tt) u nothing_beside o.state o.running))
    in
    loaded_on m u t old o c.args.code.now passes c.requires.ready.due c.args.size c.args.cut c.args.addr c.args.to c.requires.is stepped.0 stepped.1.0 c.value-first.result c.value-first.ensures
    c.loaded_source-from.result c.loaded_mask-mask.result c.loaded_source-from.ensures c.due_site-site.result c.row-row.result new stepped.1.1 c.row-row.ensures c.loaded_mask-mask.ensures
    (record { whole = refl; below = refl; made = refl; tables = refl; fill = refl }) refl c.put_mask.ensures refl c.due_site-site.ensures (c.in_ok-tell_loaded.ensures.told t.moves o.log)

pub returns-in_ok-tell_loaded-clause-grew : goal.returns-in_ok-tell_loaded-clause-grew
returns-in_ok-tell_loaded-clause-grew c = record { count = omega (arith, c.tell_loaded.ensures.count); world = c.step.ensures.made; calls = omega arith }

pub returns-else-on-clause-grew : goal.returns-else-on-clause-grew
returns-else-on-clause-grew c = record { count = omega arith; world = c.step.ensures.made; calls = omega arith }
