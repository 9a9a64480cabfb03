use Rattle.std.proofs.Common.{◌≤◌, ◌+◌, ◌*◌, ◌^◌, Bool, true, refl, sym, subst, arith}
use Rattle.ms_host.specs.State.{nothing_beside}
use Rattle.ms_trail.specs.declared.traced_run.TracedRun.{TracedRun}
use Rattle.ms_trail_uses.specs.Stepping.{Stepped}
use Rattle.ms_trail.specs.Ready.{IsReady}
use Rattle.ms_trail.proofs.Computed.{computed_over}
use Rattle.ms_trail.proofs.Inward.{IsInward, asks_nothing}
use Rattle.ms_trail.proofs.Writing.{many_bytes, few_bytes, base_within, alloca_on}
use Rattle.ms_trail.proofs.Readying.{runs_of, row_within, few_roots, same_count, filled, bare, few_made, alloca_source, alloca_within}
use Rattle.ms_trail.proofs.traced_run.TracedRun.alloca.Goals as goal

pub row-row-requires : goal.row-row-requires
row-row-requires c = row_within c.args.self.now c.args.code.now c.requires.ready

pub due_site-site-requires : goal.due_site-site-requires
due_site-site-requires c = runs_of c.args.self.now c.args.code.now c.requires.ready

pub step-requires-clause-runs : goal.step-requires-clause-runs
step-requires-clause-runs c = runs_of c.args.self.now c.args.code.now c.requires.ready

pub step-requires-clause-room : goal.step-requires-clause-room
step-requires-clause-room c = few_made c.args.self.now c.args.code.now c.requires.ready

pub step-requires-clause-bare : goal.step-requires-clause-bare
step-requires-clause-bare c = bare c.args.self.now c.args.code.now c.requires.ready

pub returns-else-on-clause-went : goal.returns-else-on-clause-went
returns-else-on-clause-went c = λ u t o passes.
    let m = c.args.self.now.m.now in
    let old : TracedRun = c.args.self.now in
    let fiber = c.step.new.fiber in
    let world = c.step.new.world in
    computed_over m u t old o c.args.code.now passes c.requires.ready.due fiber world
    (subst (λ (b : Bool). Stepped m u nothing_beside o.state b fiber world) c.if-on.false
    (c.in_ok-on.ensures.stepped u nothing_beside o.state o.running
    (asks_nothing m old.fiber old.world c.args.code.now c.requires.ready.due (subst IsInward (sym c.requires.is) tt) u nothing_beside o.state o.running)))

pub returns-else-on-clause-grew : goal.returns-else-on-clause-grew
returns-else-on-clause-grew c = record { count = omega arith; world = c.step.ensures.made; calls = omega arith }

pub own_root-root-requires : goal.own_root-root-requires
own_root-root-requires c = few_roots c.args.self.now c.args.code.now c.requires.ready c.row-row.result c.row-row.ensures

pub value-many-requires-clause-same : goal.value-many-requires-clause-same
value-many-requires-clause-same c = same_count c.args.self.now c.args.code.now c.requires.ready

pub value-many-requires-clause-filled : goal.value-many-requires-clause-filled
value-many-requires-clause-filled c = filled c.args.self.now c.args.code.now c.requires.ready

pub value-many-requires-clause-source : goal.value-many-requires-clause-source
value-many-requires-clause-source c = alloca_source c.args.self.now c.args.code.now c.requires.ready c.args.size c.args.count c.args.to c.requires.is

pub put_mask-requires : goal.put_mask-requires
put_mask-requires c = alloca_within c.args.self.now c.args.code.now c.requires.ready c.args.size c.args.count c.args.to c.requires.is

pub overflow_mul-n : goal.overflow_mul-n
overflow_mul-n c =
    let r : IsReady c.args.self.now c.args.code.now = c.requires.ready in
    let old : TracedRun = c.args.self.now in
    let m = old.m.now in
    let fiber = c.step.new.fiber in
    let world = c.step.new.world in
    let stepped : Stepped m r.setup nothing_beside r.is.state true fiber world =
    subst (λ (b : Bool). Stepped m r.setup nothing_beside r.is.state b fiber world) c.if-on.true
    (c.in_ok-on.ensures.stepped r.setup nothing_beside r.is.state r.is.running
    (asks_nothing m old.fiber old.world c.args.code.now r.due (subst IsInward (sym c.requires.is) tt) r.setup nothing_beside r.is.state r.is.running))
    in
    let bound : c.args.size * c.value-many.result ≤ 2 ^ 26 =
    subst (λ n. n ≤ 2 ^ 26) (sym (many_bytes m r.setup r.run old r.is c.args.code.now r.passes r.due stepped.0 stepped.1.0 c.args.size c.args.count c.args.to c.requires.is c.value-many.result c.value-many.ensures))
    (few_bytes m r.setup r.run old r.is c.args.code.now r.passes r.due stepped.0 stepped.1.0 c.args.size c.args.count c.args.to c.requires.is)
    in
    omega (arith, bound)

pub value_at-base-requires : goal.value_at-base-requires
value_at-base-requires c =
    let r : IsReady c.args.self.now c.args.code.now = c.requires.ready in
    let old : TracedRun = c.args.self.now in
    let m = old.m.now in
    let fiber = c.step.new.fiber in
    let world = c.step.new.world in
    let stepped : Stepped m r.setup nothing_beside r.is.state true fiber world =
    subst (λ (b : Bool). Stepped m r.setup nothing_beside r.is.state b fiber world) c.if-on.true
    (c.in_ok-on.ensures.stepped r.setup nothing_beside r.is.state r.is.running
    (asks_nothing m old.fiber old.world c.args.code.now r.due (subst IsInward (sym c.requires.is) tt) r.setup nothing_beside r.is.state r.is.running))
    in
    base_within m r.setup r.run old r.is c.args.code.now r.passes r.due stepped.0 stepped.1.0 c.args.size c.args.count c.args.to c.requires.is fiber world stepped.1.1

pub unset-requires : goal.unset-requires
unset-requires c =
    let r : IsReady c.args.self.now c.args.code.now = c.requires.ready in
    let old : TracedRun = c.args.self.now in
    let m = old.m.now in
    let fiber = c.step.new.fiber in
    let world = c.step.new.world in
    let stepped : Stepped m r.setup nothing_beside r.is.state true fiber world =
    subst (λ (b : Bool). Stepped m r.setup nothing_beside r.is.state b fiber world) c.if-on.true
    (c.in_ok-on.ensures.stepped r.setup nothing_beside r.is.state r.is.running
    (asks_nothing m old.fiber old.world c.args.code.now r.due (subst IsInward (sym c.requires.is) tt) r.setup nothing_beside r.is.state r.is.running))
    in
    let bound : c.args.size * c.value-many.result ≤ 2 ^ 26 =
    subst (λ n. n ≤ 2 ^ 26) (sym (many_bytes m r.setup r.run old r.is c.args.code.now r.passes r.due stepped.0 stepped.1.0 c.args.size c.args.count c.args.to c.requires.is c.value-many.result c.value-many.ensures))
    (few_bytes m r.setup r.run old r.is c.args.code.now r.passes r.due stepped.0 stepped.1.0 c.args.size c.args.count c.args.to c.requires.is)
    in
    record { few = omega (arith, bound, r.room.few) }

pub returns-in_ok-unset-clause-went : goal.returns-in_ok-unset-clause-went
returns-in_ok-unset-clause-went c = λ u t o passes.
    let old : TracedRun = c.args.self.now in
    let m = old.m.now in
    let fiber = c.step.new.fiber in
    let world = c.step.new.world in
    let new : TracedRun = record old { fiber = fiber; world = c.unset.new.world; shade = record old.shade { masks = c.put_mask.new.masks }; log = c.unset.new.log; event = old.event + 1 } in
    let stepped : Stepped m u nothing_beside o.state true fiber world =
    subst (λ (b : Bool). Stepped m u nothing_beside o.state b fiber world) c.if-on.true
    (c.in_ok-on.ensures.stepped u nothing_beside o.state o.running
    (asks_nothing m old.fiber old.world c.args.code.now c.requires.ready.due (subst IsInward (sym c.requires.is) tt) u nothing_beside o.state o.running))
    in
    alloca_on m u t old o c.args.code.now passes c.requires.ready.due stepped.0 stepped.1.0 c.args.size c.args.count c.args.to c.requires.is new world stepped.1.1 c.value_at-base.result c.own_root-root.result c.value-many.result c.due_site-site.result
    c.row-row.result c.row-row.ensures c.value_at-base.ensures c.value-many.ensures c.own_root-root.ensures c.due_site-site.ensures (record { whole = refl; below = refl; made = refl; tables = refl; fill = refl }) refl c.put_mask.ensures refl
    c.unset.ensures.keeps (c.in_ok-unset.ensures.unset nothing_beside stepped.0.world t.moves stepped.1.1.shows stepped.1.1.sound.world o.log)

pub returns-in_ok-unset-clause-grew : goal.returns-in_ok-unset-clause-grew
returns-in_ok-unset-clause-grew c =
    let r : IsReady c.args.self.now c.args.code.now = c.requires.ready in
    let old : TracedRun = c.args.self.now in
    let m = old.m.now in
    let fiber = c.step.new.fiber in
    let world = c.step.new.world in
    let stepped : Stepped m r.setup nothing_beside r.is.state true fiber world =
    subst (λ (b : Bool). Stepped m r.setup nothing_beside r.is.state b fiber world) c.if-on.true
    (c.in_ok-on.ensures.stepped r.setup nothing_beside r.is.state r.is.running
    (asks_nothing m old.fiber old.world c.args.code.now r.due (subst IsInward (sym c.requires.is) tt) r.setup nothing_beside r.is.state r.is.running))
    in
    let bound : c.args.size * c.value-many.result ≤ 2 ^ 26 =
    subst (λ n. n ≤ 2 ^ 26) (sym (many_bytes m r.setup r.run old r.is c.args.code.now r.passes r.due stepped.0 stepped.1.0 c.args.size c.args.count c.args.to c.requires.is c.value-many.result c.value-many.ensures))
    (few_bytes m r.setup r.run old r.is c.args.code.now r.passes r.due stepped.0 stepped.1.0 c.args.size c.args.count c.args.to c.requires.is)
    in
    record { count = omega (arith, bound, c.unset.ensures.count); world = omega (arith, c.unset.ensures.made, c.step.ensures.made); calls = omega arith }
