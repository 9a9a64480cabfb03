use Rattle.std.proofs.Common.{◌≡◌, arith, sym, ◌∙◌, None}
use Rattle.ms_ir.specs.Spots.{spot}
use Rattle.ms_check_tables.proofs.Items.{none_left, none_then}
use Rattle.ms_check_tables.proofs.Walks.{insts_stopped, insts_passed, insts_sum}
use Rattle.ms_check_tables.proofs.walk.first_in_insts.Goals as goal

pub returns-in-Some-clause-first : goal.returns-in-Some-clause-first
returns-in-Some-clause-first g c =
    let at = spot c.args.func.now c.args.block c.loop-place.place c.loop-place.site in
    insts_stopped (g.C.Clause.look c.args.clause.now) at c.args.insts.now c.loop-place.place c.index-insts-place.result c.in-Some.fault _ (omega arith) c.index-insts-place.is
    (sym c.in-Some.is ∙ c.in_ok-fault.ensures.first) c.loop-place.invariant.first

pub loop-place-preserved : goal.loop-place-preserved
loop-place-preserved g c =
    let none : c.in_ok-fault.field-0 ≡ None = none_left c.in_ok-fault.field-0 c.in_default.not-Some in
    record {
      first = insts_passed (g.C.Clause.look c.args.clause.now) c.args.func.now c.args.block c.loop-place.site c.next_site.result c.args.insts.now c.loop-place.place c.index-insts-place.result _ (omega arith) c.index-insts-place.is c.next_site.ensures
          (sym none ∙ c.in_ok-fault.ensures.first) c.loop-place.invariant.first;
      sites = insts_sum c.loop-place.site c.next_site.result c.args.insts.now c.loop-place.place c.index-insts-place.result _ (omega arith) c.index-insts-place.is c.next_site.ensures c.loop-place.invariant.sites;
      tables = none_then c.in_ok-fault.field-0 (g.C.Clause.AreOf c.args.clause.now c.args.func.now c.fault.new.tables) none c.in_ok-fault.ensures.tables;
    }
