use Rattle.std.proofs.Common.{◌≡◌, ◌+◌, None, arith, sym, ◌∙◌}
use Rattle.ms_ir.specs.Instructions.{one_unmarked, over_blocks}
use Rattle.ms_check_tables.proofs.Items.{none_left, none_then}
use Rattle.ms_check_tables.proofs.Walks.{funcs_stopped, funcs_passed, funcs_sum}
use Rattle.ms_check_tables.proofs.walk.first_in_funcs.Goals as goal

pub returns-in-Some : goal.returns-in-Some
returns-in-Some g c =
    funcs_stopped (g.C.Clause.look c.args.clause.now) (g.C.Clause.head c.args.clause.now) c.loop-func.site c.args.funcs.now c.loop-func.func-index c.func-item.result c.in-Some.fault _ (omega arith) c.func-item.is
    (sym c.in-Some.is ∙ c.in_ok-fault.ensures.first) c.loop-func.invariant.first

pub loop-func-preserved : goal.loop-func-preserved
loop-func-preserved g c =
    let none : c.in_ok-fault.field-0 ≡ None = none_left c.in_ok-fault.field-0 c.in_default.not-Some in
    let after : c.first_in_func.new.site ≡ c.loop-func.site + over_blocks one_unmarked c.func-item.result.blocks =
    none_then c.in_ok-fault.field-0 (c.first_in_func.new.site ≡ c.loop-func.site + over_blocks one_unmarked c.func-item.result.blocks) none c.in_ok-fault.ensures.site in
    record {
      first = funcs_passed (g.C.Clause.look c.args.clause.now) (g.C.Clause.head c.args.clause.now) c.loop-func.site c.first_in_func.new.site c.args.funcs.now c.loop-func.func-index c.func-item.result _ (omega arith) c.func-item.is
          after (sym none ∙ c.in_ok-fault.ensures.first) c.loop-func.invariant.first;
      sites = funcs_sum c.loop-func.site c.first_in_func.new.site c.args.funcs.now c.loop-func.func-index c.func-item.result _ (omega arith) c.func-item.is after c.loop-func.invariant.sites;
    }
