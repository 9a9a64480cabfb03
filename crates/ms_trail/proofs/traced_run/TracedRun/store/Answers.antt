use Rattle.std.proofs.Common.{◌+◌, Bool, true, refl, sym, subst, arith}
use Rattle.ms_ir.specs.Instructions.{operands}
use Rattle.ms_host.specs.State.{nothing_beside}
use Rattle.ms_trail_moves.specs.declared.moves.Source.{Source}
use Rattle.ms_trail_moves.specs.Sources.{sources, source_at}
use Rattle.ms_trail.specs.declared.traced_run.TracedRun.{TracedRun}
use Rattle.ms_trail_uses.specs.Stepping.{Stepped}
use Rattle.ms_trail.proofs.Computed.{computed_over}
use Rattle.ms_trail.proofs.Inward.{IsInward, asks_nothing}
use Rattle.ms_trail.proofs.Writing.{good_stored, store_on}
use Rattle.ms_trail.proofs.Readying.{runs_of, row_within, few_operands, same_count, filled, bare, few_made, store_small, store_value, store_source}
use Rattle.ms_trail.proofs.traced_run.TracedRun.store.Goals as goal

pub row-row-requires : goal.row-row-requires
row-row-requires c = row_within c.args.self.now c.args.code.now c.requires.ready

pub due_site-site-requires : goal.due_site-site-requires
due_site-site-requires c = runs_of c.args.self.now c.args.code.now c.requires.ready

pub step-requires-clause-runs : goal.step-requires-clause-runs
step-requires-clause-runs c = runs_of c.args.self.now c.args.code.now c.requires.ready

pub step-requires-clause-room : goal.step-requires-clause-room
step-requires-clause-room c = few_made c.args.self.now c.args.code.now c.requires.ready

pub step-requires-clause-bare : goal.step-requires-clause-bare
step-requires-clause-bare c = bare c.args.self.now c.args.code.now c.requires.ready

pub returns-clause-went : goal.returns-clause-went
returns-clause-went c = λ u t o passes.
    let m = c.args.self.now.m.now in
    let old : TracedRun = c.args.self.now in
    let fiber = c.step.new.fiber in
    let world = c.step.new.world in
    computed_over m u t old o c.args.code.now passes c.requires.ready.due fiber world
    (subst (λ (b : Bool). Stepped m u nothing_beside o.state b fiber world) c.if-on.false
    (c.in_ok-on.ensures.stepped u nothing_beside o.state o.running
    (asks_nothing m old.fiber old.world c.args.code.now c.requires.ready.due (subst IsInward (sym c.requires.is) tt) u nothing_beside o.state o.running)))

pub returns-clause-grew : goal.returns-clause-grew
returns-clause-grew c = record { count = omega arith; world = c.step.ensures.made; calls = omega arith }

pub value-first-requires-clause-same : goal.value-first-requires-clause-same
value-first-requires-clause-same c = same_count c.args.self.now c.args.code.now c.requires.ready

pub value-first-requires-clause-filled : goal.value-first-requires-clause-filled
value-first-requires-clause-filled c = filled c.args.self.now c.args.code.now c.requires.ready

pub value-first-requires-clause-source : goal.value-first-requires-clause-source
value-first-requires-clause-source c = store_source c.args.self.now c.args.code.now c.requires.ready c.args.size c.args.value c.args.addr c.requires.is

pub mask-mask-requires-clause-same : goal.mask-mask-requires-clause-same
mask-mask-requires-clause-same c = same_count c.args.self.now c.args.code.now c.requires.ready

pub mask-mask-requires-clause-filled : goal.mask-mask-requires-clause-filled
mask-mask-requires-clause-filled c = filled c.args.self.now c.args.code.now c.requires.ready

pub mask-mask-requires-clause-source : goal.mask-mask-requires-clause-source
mask-mask-requires-clause-source c = store_value c.args.self.now c.args.code.now c.requires.ready c.args.size c.args.value c.args.addr c.requires.is

pub stored_source-requires : goal.stored_source-requires
stored_source-requires c = few_operands c.args.self.now c.args.code.now c.requires.ready c.row-row.result c.row-row.ensures

pub shade_stored-requires-clause-size : goal.shade_stored-requires-clause-size
shade_stored-requires-clause-size c = store_small c.args.self.now c.args.code.now c.requires.ready c.args.size c.args.value c.args.addr c.requires.is

pub shade_stored-requires-clause-low : goal.shade_stored-requires-clause-low
shade_stored-requires-clause-low c = λ a e. absurd (c.in_ok-from.ensures.word a e)

pub shade_stored-requires-clause-few : goal.shade_stored-requires-clause-few
shade_stored-requires-clause-few c = omega (arith, c.requires.ready.room.few, store_small c.args.self.now c.args.code.now c.requires.ready c.args.size c.args.value c.args.addr c.requires.is)

pub returns-then-on-clause-went : goal.returns-then-on-clause-went
returns-then-on-clause-went c = λ u t o passes.
    let old : TracedRun = c.args.self.now in
    let m = old.m.now in
    let fiber = c.step.new.fiber in
    let world = c.step.new.world in
    let from : Source = source_at 0 (sources old.shade.number (operands c.row-row.result.inst.now.op) c.row-row.result.roots) in
    let new : TracedRun = record old { fiber = fiber; world = c.shade_stored.new.world; log = c.shade_stored.new.log; event = old.event + 1 } in
    let stepped : Stepped m u nothing_beside o.state true fiber world =
    subst (λ (b : Bool). Stepped m u nothing_beside o.state b fiber world) c.if-on.true
    (c.in_ok-on.ensures.stepped u nothing_beside o.state o.running
    (asks_nothing m old.fiber old.world c.args.code.now c.requires.ready.due (subst IsInward (sym c.requires.is) tt) u nothing_beside o.state o.running))
    in
    store_on m u t old o c.args.code.now passes c.requires.ready.due stepped.0 stepped.1.0 c.args.size c.args.value c.args.addr c.requires.is c.value-first.result c.value-first.ensures new world stepped.1.1 c.mask-mask.result c.due_site-site.result
    from c.row-row.result c.row-row.ensures c.mask-mask.ensures refl c.due_site-site.ensures (record { whole = refl; below = refl; made = refl; tables = refl; fill = refl }) refl refl
    c.shade_stored.ensures.keeps
    (c.in_ok-shade_stored.ensures.stored nothing_beside stepped.0.world t.moves from c.in_ok-from.ensures.read stepped.1.1.shows stepped.1.1.sound.world
    (good_stored m u t old o c.args.code.now passes c.requires.ready.due stepped.0 stepped.1.0 c.args.size c.args.value c.args.addr c.requires.is c.value-first.result c.value-first.ensures) o.log)

pub returns-then-on-clause-grew : goal.returns-then-on-clause-grew
returns-then-on-clause-grew c = record {
  count = omega (arith, c.shade_stored.ensures.count, store_small c.args.self.now c.args.code.now c.requires.ready c.args.size c.args.value c.args.addr c.requires.is);
  world = omega (arith, c.shade_stored.ensures.made, c.step.ensures.made);
  calls = omega arith;
}
